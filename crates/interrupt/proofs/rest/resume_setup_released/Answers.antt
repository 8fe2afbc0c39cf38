use Rattle.interrupt.specs.Resumes.{goes_on_lem}
use Rattle.interrupt.specs.Sites.{at-site}
use Rattle.interrupt.specs.Points.{fits_at}
use mathlib.Core.Path.{refl}
use Rattle.interrupt.proofs.rest.resume_setup_released.Goals as goal

pub returns : goal.returns
unfolding fits_at
returns c =
    λ v b. goes_on_lem (at-site 25 c.requires refl) refl (c.after_setup_released.ensures.0 v b)
    c.after_setup_released.ensures.1
