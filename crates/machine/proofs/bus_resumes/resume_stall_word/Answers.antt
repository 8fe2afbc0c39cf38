use Rattle.machine.proofs.StandsLaws.{parts2}
use Rattle.machine.proofs.PointsStandsLaws.{at-point, goes_to, stays_at}
use Rattle.machine.specs.BusLaws.{bus}
use Rattle.bus.specs.declared.Point.TheVariants as point
use mathlib.Core.Path.{sym, ◌∙◌, refl}
use Rattle.machine.proofs.bus_resumes.resume_stall_word.Goals as goal

pub after_stall_word-q-requires : goal.after_stall_word-q-requires
after_stall_word-q-requires c = sym c.fits.ensures ∙ c.if-fits.true

pub returns-then-fits : goal.returns-then-fits
returns-then-fits c =
    let fitted = sym c.fits.ensures ∙ c.if-fits.true in
    let here = at-point bus 4 c.requires
    (parts2 point.StallWord c.dir_at-d.ensures c.ep_byte-e.ensures) in
    λ b. goes_to bus here fitted c.stand_woken.ensures c.after_stall_word-q.ensures.awaited (c.after_stall_word-q.ensures.b_value _ b)

pub returns : goal.returns
returns c =
    λ b. stays_at bus (at-point bus 4 c.requires refl) (sym c.fits.ensures ∙ c.if-fits.false)
