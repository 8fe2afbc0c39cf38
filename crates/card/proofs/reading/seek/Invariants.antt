use Rattle.std.proofs.Common.{◌≡◌, ◌-◌, ◌/◌, length}
use Rattle.card.specs.Reading.{seek, seek_from}
use Rattle.card.specs.Streams.{view}
use Rattle.card.proofs.reading.seek.Given as goal

abbrev pub invariant-loop-k : goal.invariant-loop-k
invariant-loop-k l = seek (view l.stream) l.k (length l.stream / 512 - l.k) ≡ seek_from (view l.stream) l.from
