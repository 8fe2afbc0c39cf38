use Rattle.machine.proofs.PointsStandsLaws.{at-point, follows}
use Rattle.machine.specs.Loads.{loaded_at}
use Rattle.machine.specs.AdvanceLaws.{advance}
use Rattle.isochronous.specs.Laws.{paced-on}
use mathlib.Core.Path.{refl, ap, ◌∙◌}
use Rattle.machine.proofs.advance_resumes.resume_loaded.Goals as goal

pub returns : goal.returns
returns c =
    let here = at-point advance 2 c.requires
    (ap loaded_at c.completion_at-x.ensures) in
    λ v b. follows advance here refl (c.iso_in_advance_resume.ensures.steps_to b) c.iso_in_advance_resume.ensures.stored
    (paced-on _ _ _ _ ∙ simp c.wake.ensures.s_after)
