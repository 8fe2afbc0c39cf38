use Rattle.interrupt.specs.Resumes.{goes_on_lem}
use Rattle.interrupt.specs.Sites.{at-site}
use Rattle.answer.specs.Answering.{parts2}
use Rattle.interrupt.specs.declared.Point.TheVariants as point
use Rattle.interrupt.specs.Points.{fits_at}
use mathlib.Core.Path.{refl}
use Rattle.interrupt.proofs.rest.resume_moved_wrote.Goals as goal

pub returns : goal.returns
unfolding fits_at
returns c =
    let here = at-site 22 c.requires (parts2 point.MovedWrote c.dir_at-d.ensures c.setup_at-setup.ensures) in
    λ v b. goes_on_lem here refl (c.after_moved_wrote.ensures.0 v b) c.after_moved_wrote.ensures.1
