use Rattle.machine.proofs.PointsStandsLaws.{at-point, goes_to}
use Rattle.machine.specs.ControlLaws.{control}
use Rattle.control.specs.declared.Point.TheVariants as point
use mathlib.Core.Path.{refl, ap, sym, ◌∙◌}
use Rattle.machine.proofs.control_resumes.resume_loaded.Goals as goal

pub returns-then-first : goal.returns-then-first
returns-then-first c =
    let here = at-point control 8 c.requires (ap point.Loaded (sym c.if-first.true ∙ c.on_at-first.ensures)) in
    λ v b. goes_to control here refl c.stand_wrote.ensures refl (simp c.word_of-w.ensures)

pub returns : goal.returns
returns c =
    λ v b. goes_to control (at-point control 8 c.requires
    (ap point.Loaded (sym c.if-first.false ∙ c.on_at-first.ensures))) refl c.stand_ack_in.ensures refl refl
