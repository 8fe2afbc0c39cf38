use Rattle.interrupt.specs.Resumes.{goes_on_lem, refuses-16}
use Rattle.interrupt.specs.Sites.{at-site}
use Rattle.answer.specs.Answering.{parts3}
use Rattle.interrupt.specs.declared.Point.TheVariants as point
use Rattle.interrupt.specs.Points.{fits_at}
use mathlib.Core.Path.{◌∙◌, sym, refl}
use Rattle.interrupt.proofs.resume.resume_settle.Goals as goal

pub after_settling-requires : goal.after_settling-requires
after_settling-requires c = sym c.fits_at.ensures ∙ c.if-fits_at.true

pub returns-then-fits_at : goal.returns-then-fits_at
unfolding fits_at
returns-then-fits_at c =
    let fitted = sym c.fits_at.ensures ∙ c.if-fits_at.true in
    let here = at-site 11 c.requires (parts3 point.Settle c.setup_at-setup.ensures c.transfer_at-x.ensures
    c.settle_at-q.ensures) in
    λ b. goes_on_lem here fitted (c.after_settling.ensures.0 b) c.after_settling.ensures.1

pub returns : goal.returns
unfolding fits_at
returns c =
    λ b. refuses-16 (at-site 11 c.requires (parts3 point.Settle refl refl c.settle_at-q.ensures))
    (sym c.fits_at.ensures ∙ c.if-fits_at.false)
