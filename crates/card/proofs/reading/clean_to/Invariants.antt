use Rattle.std.proofs.Common.{◌≡◌, ◌≤◌, ◌-◌, max}
use Rattle.card.specs.Reading.{clean_to}
use Rattle.card.specs.Streams.{view}
use Rattle.card.proofs.reading.clean_to.Given as goal

abbrev pub invariant-loop-k : goal.invariant-loop-k
invariant-loop-k l = (l.k ≤ max l.from l.end)
    × (clean_to (view l.stream) l.k (l.end - l.k) ≡ clean_to (view l.stream) l.from (l.end - l.from))
