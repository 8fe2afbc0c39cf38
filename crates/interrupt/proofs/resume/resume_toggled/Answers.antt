use Rattle.interrupt.specs.Resumes.{goes_on_lem, refuses-16}
use Rattle.interrupt.specs.Sites.{at-site, of_inner}
use Rattle.answer.specs.Answering.{parts3, parts5}
use Rattle.interrupt.specs.declared.Point.TheVariants as point
use Rattle.interrupt.specs.Points.{fits_at}
use mathlib.Core.Path.{◌∙◌, sym, refl}
use Rattle.interrupt.proofs.resume.resume_toggled.Goals as goal

pub after_toggled-requires : goal.after_toggled-requires
after_toggled-requires c = sym c.fits_at.ensures ∙ c.if-fits_at.true

pub returns-then-fits_at : goal.returns-then-fits_at
unfolding fits_at
returns-then-fits_at c =
    let fitted = sym c.fits_at.ensures ∙ c.if-fits_at.true in
    let here = at-site 18 c.requires (parts3 (λ d. of_inner (point.Toggled d)) c.dir_at-d.ensures
    c.entry_at-e.ensures c.toggled_at-q.ensures) in
    goes_on_lem here fitted c.after_toggled.ensures.0 c.after_toggled.ensures.1

pub returns : goal.returns
unfolding fits_at
returns c =
    refuses-16 (at-site 18 c.requires (parts5 point.Toggled refl refl refl refl c.toggled_at-q.ensures))
    (sym c.fits_at.ensures ∙ c.if-fits_at.false)
