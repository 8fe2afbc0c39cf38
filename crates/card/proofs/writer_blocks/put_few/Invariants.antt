use Rattle.std.proofs.Common.{drop}
use Rattle.card.specs.Packet.{packet_bytes, packet_of}
use Rattle.card.specs.PasteLaws.{Pasted}
use Rattle.card.proofs.writer_blocks.put_few.Given as goal

abbrev pub invariant-loop-i : goal.invariant-loop-i
invariant-loop-i l = Pasted l.initial.block (drop l.from (packet_bytes (packet_of l.endpoint l.bytes)))
    l.at l.n l.block l.i
