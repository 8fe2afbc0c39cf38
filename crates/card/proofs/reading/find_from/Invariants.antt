use Rattle.std.proofs.Common.{◌≡◌, ℕ, ◌+◌, ◌-◌, ◌≤◌}
use Rattle.card.specs.Reading.{total, find}
use Rattle.card.specs.Streams.{view}
use Rattle.card.specs.Seen.{Seen}
use Rattle.card.proofs.reading.find_from.Given as goal

abbrev pub invariant-loop-e : goal.invariant-loop-e
invariant-loop-e l = ((f : ℕ) × (total (view l.stream) ≤ l.at + f) × (find (view l.stream) f l.at ≡ find (view l.stream) (total (view l.stream)) l.d))
    × Seen (view l.stream) l.at l.from

abbrev pub decreases-loop-e : goal.decreases-loop-e
decreases-loop-e l = total (view l.stream) - l.at
