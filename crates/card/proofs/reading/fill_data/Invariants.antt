use Rattle.std.proofs.Common.{◌-◌, length}
use Rattle.card.specs.PasteLaws.{Pasted}
use Rattle.card.specs.Reading.{bytes_from}
use Rattle.card.specs.Streams.{view}
use Rattle.card.proofs.reading.fill_data.Given as goal

abbrev pub invariant-loop-i : goal.invariant-loop-i
invariant-loop-i l = Pasted l.initial.room (bytes_from (view l.stream) l.d (length l.initial.room)) 0
    (length l.initial.room) l.room l.i

abbrev pub decreases-loop-i : goal.decreases-loop-i
decreases-loop-i l = length l.initial.room - l.i
