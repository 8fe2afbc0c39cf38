use Rattle.interrupt.specs.Resumes.{goes_on_lem, refuses-16}
use Rattle.interrupt.specs.Sites.{at-site, of_entry}
use Rattle.interrupt.specs.declared.Point.TheVariants as point
use Rattle.interrupt.specs.Points.{fits_at}
use mathlib.Core.Path.{◌∙◌, ap, sym, refl}
use Rattle.interrupt.proofs.resume.resume_frame_no.Goals as goal

pub after_frame_no-requires : goal.after_frame_no-requires
after_frame_no-requires c = sym c.fits.ensures ∙ c.if-fits.true

pub returns-then-fits : goal.returns-then-fits
unfolding fits_at
returns-then-fits c =
    let fitted = sym c.fits.ensures ∙ c.if-fits.true in
    let here = at-site 12 c.requires (ap (of_entry point.FrameNo) c.entry_at-e.ensures) in
    goes_on_lem here fitted c.after_frame_no.ensures.0 c.after_frame_no.ensures.1

pub returns : goal.returns
unfolding fits_at
returns c = refuses-16 (at-site 12 c.requires refl) (sym c.fits.ensures ∙ c.if-fits.false)
