use Rattle.std.proofs.Common.{length, drop}
use Rattle.card.specs.PasteLaws.{Pasted}
use Rattle.card.proofs.reading.fill_run.Given as goal

abbrev pub invariant-loop-i : goal.invariant-loop-i
invariant-loop-i l = Pasted l.initial.room (drop l.from l.stream) 0 (length l.initial.room) l.room l.i
