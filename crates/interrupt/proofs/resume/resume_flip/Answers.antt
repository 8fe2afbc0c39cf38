use Rattle.interrupt.specs.Resumes.{goes_on_lem, refuses-16}
use Rattle.interrupt.specs.Sites.{at-site, of_entry}
use Rattle.answer.specs.Answering.{parts2}
use Rattle.interrupt.specs.declared.Point.TheVariants as point
use Rattle.interrupt.specs.Points.{fits_at}
use mathlib.Core.Path.{◌∙◌, sym, refl}
use Rattle.interrupt.proofs.resume.resume_flip.Goals as goal

pub after_flip-requires : goal.after_flip-requires
after_flip-requires c = sym c.fits.ensures ∙ c.if-fits.true

pub returns-then-fits : goal.returns-then-fits
unfolding fits_at
returns-then-fits c =
    let fitted = sym c.fits.ensures ∙ c.if-fits.true in
    let here = at-site 16 c.requires (parts2 (λ d. of_entry (point.Flip d)) c.dir_at-d.ensures
    c.entry_at-e.ensures) in
    λ b. goes_on_lem here fitted (c.after_flip.ensures.0 b) c.after_flip.ensures.1

pub returns : goal.returns
unfolding fits_at
returns c = λ b. refuses-16 (at-site 16 c.requires refl) (sym c.fits.ensures ∙ c.if-fits.false)
