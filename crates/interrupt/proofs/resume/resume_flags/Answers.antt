use Rattle.interrupt.specs.Resumes.{goes_on_lem, refuses-16}
use Rattle.interrupt.specs.Sites.{at-site}
use Rattle.interrupt.specs.Points.{fits_at}
use Rattle.interrupt.specs.TransferLaws.{wider}
use native.Mathlib.Omega.{arith}
use mathlib.Core.Path.{◌∙◌, sym, refl}
use Rattle.interrupt.proofs.resume.resume_flags.Goals as goal

pub after_flags-requires : goal.after_flags-requires
after_flags-requires c = wider _ 6 (omega arith) (sym c.fits.ensures ∙ c.if-fits.true)

pub returns-then-fits : goal.returns-then-fits
unfolding fits_at
returns-then-fits c =
    let fitted = sym c.fits.ensures ∙ c.if-fits.true in
    λ b. goes_on_lem (at-site 1 c.requires refl) fitted (c.after_flags.ensures.0 b) c.after_flags.ensures.1

pub returns : goal.returns
unfolding fits_at
returns c = λ b. refuses-16 (at-site 1 c.requires refl) (sym c.fits.ensures ∙ c.if-fits.false)
