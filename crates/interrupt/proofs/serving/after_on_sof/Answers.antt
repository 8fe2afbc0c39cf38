use Rattle.interrupt.specs.StopsLaws.{goes_on_lem}
use Rattle.interrupt.specs.Laws.{after}
use Rattle.interrupt.specs.Continuations.{after_sof}
use Rattle.script_ops.specs.Concrete.{concrete}
use Rattle.script.specs.Script.{run}
use Rattle.interrupt.proofs.serving.after_on_sof.Goals as goal

pub on_sof_resume-n-requires : goal.on_sof_resume-n-requires
on_sof_resume-n-requires c = c.requires

pub then_sof-requires : goal.then_sof-requires
then_sof-requires c = c.on_sof_resume-n.ensures.1.1

pub returns : goal.returns
returns c =
    goes_on_lem c.then_sof.ensures
    (after c.args.e.setup (λ _ u. run concrete (after_sof c.args.e.x c.args.e.iso c.args.e.frame) u) _ _
    (c.on_sof_resume-n.ensures.0 _))
