use Rattle.machine.proofs.PointsStandsLaws.{at-point, comes-to, stays_at}
use Rattle.machine.specs.DriverLaws.{driver}
use mathlib.Core.Path.{sym, ◌∙◌, refl}
use Rattle.machine.proofs.driver_resumes.resume_frame_no.Goals as goal

pub half-requires : goal.half-requires
half-requires c = sym c.fits.ensures ∙ c.if-fits.true

pub returns-then-fits : goal.returns-then-fits
returns-then-fits c =
    let here = at-point driver 14 c.requires refl in
    λ b. comes-to driver here (sym c.fits.ensures ∙ c.if-fits.true)
    c.stop.ensures (simp (c.microframe_index-i.ensures, c.half.ensures))

pub returns : goal.returns
returns c =
    λ b. stays_at driver (at-point driver 14 c.requires refl) (sym c.fits.ensures ∙ c.if-fits.false)
