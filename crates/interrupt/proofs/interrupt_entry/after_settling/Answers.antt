use Rattle.interrupt.specs.StopsLaws.{goes_in}
use Rattle.interrupt.specs.Laws.{after}
use Rattle.interrupt.specs.Continuations.{after_settle}
use Rattle.script_ops.specs.Concrete.{concrete}
use Rattle.script.specs.Script.{run}
use Rattle.interrupt.proofs.interrupt_entry.after_settling.Goals as goal

pub resume-n-requires : goal.resume-n-requires
resume-n-requires c = c.requires

pub then_settle-requires : goal.then_settle-requires
then_settle-requires c = c.resume-n.ensures.1

pub returns : goal.returns
returns c =
    goes_in c.then_settle.ensures
    (λ b. after c.args.setup (λ y u. run concrete (after_settle y) u) _ _ (c.resume-n.ensures.0 b))
