use Rattle.std.proofs.Common.{◌-◌, length}
use Rattle.card.specs.Streams.{view}
use Rattle.card.specs.Batches.{some}
use Rattle.card.proofs.Taking.{Taking}
use Rattle.card.proofs.batches.take.Given as goal

abbrev pub invariant-loop-found : goal.invariant-loop-found
invariant-loop-found l = Taking (view l.stream) (some l.stream l.place
    (length l.initial.room)) l.initial.room l.room l.count l.used l.d l.first

abbrev pub decreases-loop-found : goal.decreases-loop-found
decreases-loop-found l = length l.initial.room - l.used
