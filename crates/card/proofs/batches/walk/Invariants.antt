use Rattle.std.proofs.Common.{◌-◌, ◌≤◌}
use Rattle.card.specs.Streams.{view}
use Rattle.card.specs.Inside.{Standing}
use Rattle.card.proofs.batches.walk.Given as goal

abbrev pub invariant-loop-bytes : goal.invariant-loop-bytes
invariant-loop-bytes l = (l.bytes ≤ l.most) × (l.count ≤ l.bytes)
    × Standing (view l.stream) l.d l.count l.bytes

abbrev pub decreases-loop-bytes : goal.decreases-loop-bytes
decreases-loop-bytes l = l.most - l.bytes
