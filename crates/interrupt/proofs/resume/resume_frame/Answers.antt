use Rattle.interrupt.specs.Resumes.{goes_on_lem, refuses-16}
use Rattle.interrupt.specs.Points.{fits_at}
use mathlib.Core.Path.{◌∙◌, sym}
use Rattle.interrupt.proofs.resume.resume_frame.Goals as goal

pub after_frame-requires : goal.after_frame-requires
after_frame-requires c = sym c.fits.ensures ∙ c.if-fits.true

pub returns-then-fits : goal.returns-then-fits
unfolding fits_at
returns-then-fits c =
    let fitted = sym c.fits.ensures ∙ c.if-fits.true in
    λ b. goes_on_lem c.requires fitted (c.after_frame.ensures.0 b) c.after_frame.ensures.1

pub returns : goal.returns
unfolding fits_at
returns c = λ b. refuses-16 c.requires (sym c.fits.ensures ∙ c.if-fits.false)
