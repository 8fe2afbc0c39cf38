use Rattle.interrupt.specs.Resumes.{goes_on_lem}
use Rattle.interrupt.specs.Sites.{at-site}
use Rattle.answer.specs.Answering.{parts2}
use Rattle.interrupt.specs.declared.Point.TheVariants as point
use Rattle.interrupt.specs.Points.{fits_at}
use mathlib.Core.Path.{refl}
use Rattle.interrupt.proofs.resume.resume_released.Goals as goal

pub returns : goal.returns
unfolding fits_at
returns c =
    let here = at-site 10 c.requires (parts2 point.Released c.setup_at-setup.ensures c.transfer_at-x.ensures) in
    λ v b. goes_on_lem here refl (c.after_released.ensures.0 b) c.after_released.ensures.1
