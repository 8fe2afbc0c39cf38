use Rattle.std.proofs.Common.{sym, ◌∙◌, arith, length-drop, get_or-drop}
use Rattle.card.specs.Packet.{packet_bytes, packet_of}
use Rattle.card.specs.PasteLaws.{one-pasted}
use Rattle.card.proofs.writer_blocks.put_few.Goals as goal

pub loop-i-preserved : goal.loop-i-preserved
loop-i-preserved c =
    let l = packet_bytes (packet_of c.args.endpoint c.args.bytes.now) in
    let long = length-drop c.args.from l in
    one-pasted _ _ c.args.at c.args.n c.loop-i.block c.loop-i.i _ c.loop-i.invariant (get_or-drop c.args.from l c.loop-i.i 0
    ∙ sym c.packet_byte.ensures)
    (omega arith) (omega arith) (omega arith)
