use Rattle.machine.proofs.PointsStandsLaws.{goes_to, stays_at}
use Rattle.machine.specs.BusLaws.{bus}
use mathlib.Core.Path.{sym, ◌∙◌}
use Rattle.machine.proofs.bus_resumes.resume_enable.Goals as goal

pub returns-then-fits : goal.returns-then-fits
returns-then-fits c =
    λ b. goes_to bus c.requires (sym c.fits.ensures ∙ c.if-fits.true) c.stand_event.ensures c.after_enable-q.ensures.awaited
    (c.after_enable-q.ensures.b_value _ b)

pub returns : goal.returns
returns c = λ b. stays_at bus c.requires (sym c.fits.ensures ∙ c.if-fits.false)
