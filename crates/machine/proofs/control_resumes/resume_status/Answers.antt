use Rattle.machine.proofs.PointsStandsLaws.{at-point, goes_to, stays_at}
use Rattle.machine.specs.ControlLaws.{control}
use mathlib.Core.Path.{refl, sym, ◌∙◌}
use Rattle.machine.proofs.control_resumes.resume_status.Goals as goal

pub byte-requires : goal.byte-requires
byte-requires c = sym c.fits.ensures ∙ c.if-fits.true

pub returns-then-fits : goal.returns-then-fits
returns-then-fits c =
    λ b. goes_to control (at-point control 3 c.requires refl)
    (sym c.fits.ensures ∙ c.if-fits.true)
    c.stand_wrote.ensures refl (simp (c.status-w.ensures, c.byte.ensures))

pub returns : goal.returns
returns c =
    λ b. stays_at control (at-point control 3 c.requires refl) (sym c.fits.ensures ∙ c.if-fits.false)
