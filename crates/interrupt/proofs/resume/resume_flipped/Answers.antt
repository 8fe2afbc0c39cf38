use Rattle.interrupt.specs.Resumes.{goes_on_lem}
use Rattle.interrupt.specs.Sites.{at-site, of_entry}
use Rattle.answer.specs.Answering.{parts2}
use Rattle.interrupt.specs.declared.Point.TheVariants as point
use Rattle.interrupt.specs.Points.{fits_at}
use mathlib.Core.Path.{refl}
use Rattle.interrupt.proofs.resume.resume_flipped.Goals as goal

pub returns : goal.returns
unfolding fits_at
returns c =
    let here = at-site 17 c.requires (parts2 (λ d. of_entry (point.Flipped d)) c.dir_at-d.ensures
    c.entry_at-e.ensures) in
    λ v. goes_on_lem here refl (c.after_flipped.ensures.0 v) c.after_flipped.ensures.1
