use Rattle.machine.proofs.StandsLaws.{parts2}
use Rattle.machine.proofs.PointsStandsLaws.{at-point, goes_to}
use Rattle.machine.specs.ControlLaws.{control}
use Rattle.control.specs.declared.Point.TheVariants as point
use mathlib.Core.Path.{refl}
use Rattle.machine.proofs.control_resumes.resume_closing.Goals as goal

pub returns : goal.returns
returns c =
    let here = at-point control 7 c.requires (parts2 point.Closing c.len_word-n.ensures c.on_at-first.ensures) in
    λ v b. goes_to control here refl c.stand_loaded.ensures refl (simp c.set_armed.ensures.s_after)
