use Rattle.interrupt.specs.Resumes.{goes_on_lem}
use Rattle.interrupt.specs.Sites.{at-site, of_framed}
use Rattle.answer.specs.Answering.{parts2}
use Rattle.interrupt.specs.declared.Point.TheVariants as point
use Rattle.interrupt.specs.Points.{fits_at}
use mathlib.Core.Path.{refl}
use Rattle.interrupt.proofs.resume.resume_late.Goals as goal

pub returns : goal.returns
unfolding fits_at
returns c =
    let here = at-site 14 c.requires (parts2 (of_framed point.Late) c.entry_at-e.ensures c.late_at-q.ensures) in
    λ v. goes_on_lem here refl (c.after_completions.ensures.0 v) c.after_completions.ensures.1
