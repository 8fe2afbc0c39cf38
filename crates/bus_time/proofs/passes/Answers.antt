use Rattle.bus_time.specs.Time.{passes}
use Rattle.bus_time.proofs.passes.Goals as goal

pub returns : goal.returns
unfolding passes
returns c = simp (← c.wide.ensures.value, ← c.in_use.ensures.value)
