use Rattle.interrupt.specs.Resumes.{goes_on_lem, refuses-16}
use Rattle.interrupt.specs.Sites.{at-site}
use Rattle.answer.specs.Answering.{parts2}
use Rattle.interrupt.specs.declared.Point.TheVariants as point
use Rattle.interrupt.specs.Points.{fits_at}
use Rattle.interrupt.specs.TransferLaws.{wider}
use native.Mathlib.Omega.{arith}
use mathlib.Core.Path.{◌∙◌, sym, refl}
use Rattle.interrupt.proofs.resume.resume_st.Goals as goal

pub after_st-requires : goal.after_st-requires
after_st-requires c = wider _ 7 (omega arith) (sym c.fits.ensures ∙ c.if-fits.true)

pub returns-then-fits : goal.returns-then-fits
unfolding fits_at
returns-then-fits c =
    let fitted = sym c.fits.ensures ∙ c.if-fits.true in
    let here = at-site 7 c.requires (parts2 point.St c.setup_at-setup.ensures c.busy_at-busy.ensures) in
    λ b. goes_on_lem here fitted (c.after_st.ensures.0 b) c.after_st.ensures.1

pub returns : goal.returns
unfolding fits_at
returns c = λ b. refuses-16 (at-site 7 c.requires refl) (sym c.fits.ensures ∙ c.if-fits.false)
