use Rattle.interrupt.specs.Resumes.{goes_on_lem, refuses-16}
use Rattle.interrupt.specs.Sites.{at-site}
use Rattle.answer.specs.Answering.{parts2}
use Rattle.interrupt.specs.declared.Point.TheVariants as point
use Rattle.interrupt.specs.Points.{fits_at}
use mathlib.Core.Path.{◌∙◌, sym, refl}
use Rattle.interrupt.proofs.rest.resume_moved_read.Goals as goal

pub after_moved_read-requires : goal.after_moved_read-requires
after_moved_read-requires c = sym c.fits.ensures ∙ c.if-fits.true

pub returns-then-fits : goal.returns-then-fits
unfolding fits_at
returns-then-fits c =
    let fitted = sym c.fits.ensures ∙ c.if-fits.true in
    let here = at-site 21 c.requires (parts2 point.MovedRead c.dir_at-d.ensures c.setup_at-setup.ensures) in
    λ b. goes_on_lem here fitted (c.after_moved_read.ensures.0 b) c.after_moved_read.ensures.1

pub returns : goal.returns
unfolding fits_at
returns c = λ b. refuses-16 (at-site 21 c.requires refl) (sym c.fits.ensures ∙ c.if-fits.false)
