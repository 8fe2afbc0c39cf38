use Rattle.interrupt.specs.StopsLaws.{goes_in}
use Rattle.interrupt.specs.Laws.{after}
use Rattle.interrupt.specs.Continuations.{after_nak}
use Rattle.script_ops.specs.Concrete.{concrete}
use Rattle.script.specs.Script.{run}
use Rattle.interrupt.proofs.interrupt_entry.after_naking.Goals as goal

pub nak_non_iso_resume-n-requires : goal.nak_non_iso_resume-n-requires
nak_non_iso_resume-n-requires c = c.requires

pub then_nak-requires : goal.then_nak-requires
then_nak-requires c = c.nak_non_iso_resume-n.ensures.1

pub returns : goal.returns
returns c =
    goes_in c.then_nak.ensures
    (λ b. after c.args.setup (λ _ u. run concrete (after_nak c.args.x) u) _ _ (c.nak_non_iso_resume-n.ensures.0 _ b))
