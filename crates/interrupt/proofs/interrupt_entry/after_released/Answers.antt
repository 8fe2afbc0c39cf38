use Rattle.interrupt.specs.Settle as settle
use Rattle.interrupt.specs.StopsLaws.{pauses-in, goes_in}
use Rattle.interrupt.specs.Laws.{after, settle-asks, settle-ends}
use Rattle.interrupt.specs.Continuations.{after_release, after_settle}
use Rattle.script_ops.specs.Concrete.{concrete}
use Rattle.script.specs.Script.{run}
use mathlib.Core.Path.{◌∙◌, subst}
use Rattle.interrupt.proofs.interrupt_entry.after_released.Goals as goal

pub returns-in-Asks : goal.returns-in-Asks
unfolding after_release
returns-in-Asks c =
    pauses-in c.stand_settle.ensures (subst settle.Linked c.in-Asks.is c.begin-n.ensures.1)
    (λ b. settle-asks c.args.setup (λ y u. run concrete (after_settle y) u) _ b c.args.x _ _ _ c.in-Asks.is
    ∙ after c.args.setup (λ y u. run concrete (after_settle y) u) _ _ (c.begin-n.ensures.0 b))

pub returns-in-Ends : goal.returns-in-Ends
unfolding after_release
returns-in-Ends c =
    goes_in c.after_settle.ensures
    (λ b. settle-ends c.args.setup (λ y u. run concrete (after_settle y) u) _ b c.args.x _ _ c.in-Ends.is
    ∙ after c.args.setup (λ y u. run concrete (after_settle y) u) _ _ (c.begin-n.ensures.0 b))
