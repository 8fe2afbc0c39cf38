use Rattle.interrupt.specs.Resumes.{goes_on_lem, refuses-16}
use Rattle.interrupt.specs.Sites.{at-site}
use Rattle.answer.specs.Answering.{parts3}
use Rattle.interrupt.specs.declared.Point.TheVariants as point
use Rattle.interrupt.specs.Points.{fits_at}
use mathlib.Core.Path.{◌∙◌, sym, refl}
use Rattle.interrupt.proofs.resume.resume_len.Goals as goal

pub after_len-requires : goal.after_len-requires
after_len-requires c = sym c.fits.ensures ∙ c.if-fits.true

pub returns-then-fits : goal.returns-then-fits
unfolding fits_at
returns-then-fits c =
    let fitted = sym c.fits.ensures ∙ c.if-fits.true in
    let here = at-site 8 c.requires (parts3 point.Len c.setup_at-setup.ensures
    c.busy_at-busy.ensures c.st_byte-st.ensures) in
    λ b. goes_on_lem here fitted (c.after_len.ensures.0 b) c.after_len.ensures.1

pub returns : goal.returns
unfolding fits_at
returns c = λ b. refuses-16 (at-site 8 c.requires refl) (sym c.fits.ensures ∙ c.if-fits.false)
