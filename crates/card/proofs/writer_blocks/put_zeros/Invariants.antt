use Rattle.std.proofs.Common.{replicate}
use Rattle.card.specs.PasteLaws.{Pasted}
use Rattle.card.proofs.writer_blocks.put_zeros.Given as goal

abbrev pub invariant-loop-i : goal.invariant-loop-i
invariant-loop-i l = Pasted l.initial.block (replicate l.n 0) l.at l.n l.block l.i
