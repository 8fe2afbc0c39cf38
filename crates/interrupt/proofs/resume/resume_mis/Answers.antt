use Rattle.interrupt.specs.Resumes.{goes_on_lem, refuses-16}
use Rattle.interrupt.specs.Sites.{at-site}
use Rattle.interrupt.specs.declared.Point.TheVariants as point
use Rattle.interrupt.specs.Points.{fits_at}
use Rattle.interrupt.specs.TransferLaws.{wider}
use native.Mathlib.Omega.{arith}
use mathlib.Core.Path.{◌∙◌, sym, refl, ap}
use Rattle.interrupt.proofs.resume.resume_mis.Goals as goal

pub after_mis-requires : goal.after_mis-requires
after_mis-requires c = wider _ 2 (omega arith) (sym c.fits.ensures ∙ c.if-fits.true)

pub returns-then-fits : goal.returns-then-fits
unfolding fits_at
returns-then-fits c =
    let fitted = sym c.fits.ensures ∙ c.if-fits.true in
    let here = at-site 6 c.requires (ap point.Mis c.setup_at-setup.ensures) in
    λ b. goes_on_lem here fitted (c.after_mis.ensures.0 b) c.after_mis.ensures.1

pub returns : goal.returns
unfolding fits_at
returns c = λ b. refuses-16 (at-site 6 c.requires refl) (sym c.fits.ensures ∙ c.if-fits.false)
