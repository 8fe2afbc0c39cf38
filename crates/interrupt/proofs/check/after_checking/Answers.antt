use Rattle.interrupt.specs.StopsLaws.{goes_on_lem}
use Rattle.interrupt.specs.Laws.{after}
use Rattle.interrupt.specs.Continuations.{after_check}
use Rattle.script_ops.specs.Concrete.{concrete}
use Rattle.script.specs.Script.{run}
use Rattle.interrupt.proofs.check.after_checking.Goals as goal

pub iso_out_check_resume-n-requires : goal.iso_out_check_resume-n-requires
iso_out_check_resume-n-requires c = c.requires

pub checked-requires : goal.checked-requires
checked-requires c = c.iso_out_check_resume-n.ensures.1.1

pub returns : goal.returns
returns c =
    goes_on_lem c.checked.ensures
    (after c.args.e.setup (λ _ u. run concrete (after_check c.args.e.x) u) _ _ c.iso_out_check_resume-n.ensures.0)
