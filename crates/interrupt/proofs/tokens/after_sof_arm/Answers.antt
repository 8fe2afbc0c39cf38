use Rattle.interrupt.specs.StopsLaws.{goes_on_lem}
use Rattle.interrupt.specs.Laws.{after}
use Rattle.interrupt.specs.Continuations.{after_dispatch}
use Rattle.script_ops.specs.Concrete.{concrete}
use Rattle.script.specs.Script.{run}
use Rattle.interrupt.proofs.tokens.after_sof_arm.Goals as goal

pub on_sof_resume-n-requires : goal.on_sof_resume-n-requires
on_sof_resume-n-requires c = c.requires

pub then_sof_arm-requires : goal.then_sof_arm-requires
then_sof_arm-requires c = c.on_sof_resume-n.ensures.1.1

pub returns : goal.returns
returns c =
    goes_on_lem c.then_sof_arm.ensures
    (after c.args.e.setup (λ _ u. run concrete (after_dispatch c.args.e.x c.args.e.iso) u) _ _
    (c.on_sof_resume-n.ensures.0 _))
