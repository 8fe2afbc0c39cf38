use Rattle.interrupt.specs.Resumes.{goes_on_lem, refuses-16}
use Rattle.interrupt.specs.Sites.{at-site, of_framed}
use Rattle.answer.specs.Answering.{parts2, parts5}
use Rattle.interrupt.specs.declared.Point.TheVariants as point
use Rattle.interrupt.specs.Points.{fits_at}
use mathlib.Core.Path.{◌∙◌, sym, refl}
use Rattle.interrupt.proofs.resume.resume_sof.Goals as goal

pub after_on_sof-requires : goal.after_on_sof-requires
after_on_sof-requires c = sym c.fits_at.ensures ∙ c.if-fits_at.true

pub returns-then-fits_at : goal.returns-then-fits_at
unfolding fits_at
returns-then-fits_at c =
    let fitted = sym c.fits_at.ensures ∙ c.if-fits_at.true in
    let here = at-site 13 c.requires (parts2 (of_framed point.Sof) c.entry_at-e.ensures c.sof_at-q.ensures) in
    goes_on_lem here fitted c.after_on_sof.ensures.0 c.after_on_sof.ensures.1

pub returns : goal.returns
unfolding fits_at
returns c =
    refuses-16 (at-site 13 c.requires (parts5 point.Sof refl refl refl refl c.sof_at-q.ensures))
    (sym c.fits_at.ensures ∙ c.if-fits_at.false)
