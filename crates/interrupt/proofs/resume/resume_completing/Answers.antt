use Rattle.interrupt.specs.Resumes.{goes_on_lem}
use Rattle.interrupt.specs.Sites.{at-site, of_inner}
use Rattle.answer.specs.Answering.{parts2}
use Rattle.interrupt.specs.declared.Point.TheVariants as point
use Rattle.interrupt.specs.Points.{fits_at}
use mathlib.Core.Path.{refl}
use Rattle.interrupt.proofs.resume.resume_completing.Goals as goal

pub returns : goal.returns
unfolding fits_at
returns c =
    let here = at-site 19 c.requires (parts2 (of_inner point.Completing) c.entry_at-e.ensures
    c.complete_at-q.ensures) in
    λ v. goes_on_lem here refl (c.after_completing.ensures.0 v) c.after_completing.ensures.1
