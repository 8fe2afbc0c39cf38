use Rattle.interrupt.specs.Resumes.{goes_on_lem, refuses-16}
use Rattle.interrupt.specs.Sites.{at-site, of_inner}
use Rattle.answer.specs.Answering.{parts2, parts4}
use Rattle.interrupt.specs.declared.Point.TheVariants as point
use Rattle.interrupt.specs.Points.{fits_at}
use mathlib.Core.Path.{◌∙◌, sym, refl}
use Rattle.interrupt.proofs.rest.resume_check.Goals as goal

pub after_checking-requires : goal.after_checking-requires
after_checking-requires c = sym c.fits_at.ensures ∙ c.if-fits_at.true

pub returns-then-fits_at : goal.returns-then-fits_at
unfolding fits_at
returns-then-fits_at c =
    let fitted = sym c.fits_at.ensures ∙ c.if-fits_at.true in
    let here = at-site 20 c.requires (parts2 (of_inner point.Check) c.entry_at-e.ensures c.check_at-q.ensures) in
    goes_on_lem here fitted c.after_checking.ensures.0 c.after_checking.ensures.1

pub returns : goal.returns
unfolding fits_at
returns c =
    refuses-16 (at-site 20 c.requires (parts4 point.Check refl refl refl c.check_at-q.ensures))
    (sym c.fits_at.ensures ∙ c.if-fits_at.false)
