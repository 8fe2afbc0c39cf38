use Rattle.interrupt.specs.Resumes.{goes_on_lem, refuses-16}
use Rattle.interrupt.specs.Sites.{at-site, of_framed}
use Rattle.answer.specs.Answering.{parts2, parts5}
use Rattle.interrupt.specs.declared.Point.TheVariants as point
use Rattle.interrupt.specs.Points.{fits_at}
use mathlib.Core.Path.{◌∙◌, sym, refl}
use Rattle.interrupt.proofs.resume.resume_sof_arm.Goals as goal

pub after_sof_arm-requires : goal.after_sof_arm-requires
after_sof_arm-requires c = sym c.fits_at.ensures ∙ c.if-fits_at.true

pub returns-then-fits_at : goal.returns-then-fits_at
unfolding fits_at
returns-then-fits_at c =
    let fitted = sym c.fits_at.ensures ∙ c.if-fits_at.true in
    let here = at-site 15 c.requires (parts2 (of_framed point.SofArm) c.entry_at-e.ensures c.sof_at-q.ensures) in
    goes_on_lem here fitted c.after_sof_arm.ensures.0 c.after_sof_arm.ensures.1

pub returns : goal.returns
unfolding fits_at
returns c =
    refuses-16 (at-site 15 c.requires (parts5 point.SofArm refl refl refl refl c.sof_at-q.ensures))
    (sym c.fits_at.ensures ∙ c.if-fits_at.false)
