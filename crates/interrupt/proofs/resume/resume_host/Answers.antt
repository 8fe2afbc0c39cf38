use Rattle.interrupt.specs.Resumes.{goes_on_lem}
use Rattle.interrupt.specs.Sites.{at-site}
use Rattle.interrupt.specs.declared.Point.TheVariants as point
use Rattle.interrupt.specs.Points.{fits_at}
use mathlib.Core.Path.{refl, ap}
use Rattle.interrupt.proofs.resume.resume_host.Goals as goal

pub returns : goal.returns
unfolding fits_at
returns c =
    let here = at-site 5 c.requires (ap point.Host c.st_byte-f.ensures) in
    λ v b. goes_on_lem here refl (c.after_host.ensures.0 b) c.after_host.ensures.1
