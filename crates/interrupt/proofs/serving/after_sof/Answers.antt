use Rattle.interrupt.specs.StopsLaws.{goes_on_lem}
use Rattle.interrupt.specs.Laws.{after, when-no, when-yes}
use Rattle.interrupt.specs.Continuations.{after_late, after_sof}
use Rattle.isochronous.specs.Late.{late_all}
use Rattle.script_ops.specs.Concrete.{concrete}
use Rattle.script.specs.Script.{run}
use mathlib.Core.Path.{◌∙◌}
use Rattle.interrupt.proofs.serving.after_sof.Goals as goal

pub then_late-requires : goal.then_late-requires
then_late-requires c = c.begin-n.ensures.1.1

pub returns-then-e : goal.returns-then-e
unfolding after_sof
returns-then-e c =
    goes_on_lem c.then_late.ensures
    (after c.args.e.setup (λ _ u. run concrete (after_late c.args.e.x c.args.e.iso c.args.e.frame) u) _ _
    (c.begin-n.ensures.0 _)
    ∙ when-yes c.args.e.setup (late_all c.args.e.frame) (λ _ u. run concrete
    (after_late c.args.e.x c.args.e.iso c.args.e.frame) u) _ _ c.if-e.true)

pub returns : goal.returns
unfolding after_sof
returns c =
    goes_on_lem c.after_late.ensures
    (when-no c.args.e.setup (late_all c.args.e.frame) (λ _ u. run concrete (after_late c.args.e.x c.args.e.iso c.args.e.frame)
    u) _ _
    c.if-e.false)
