use Rattle.card.specs.Packet.{packet_of}
use Rattle.recorder.specs.Ring.{ring_of}
use Rattle.recorder.specs.RingLaws.{record-padded, record-plain}
use Rattle.recorder.proofs.blocks.put_record.Goals as goal

pub returns-then-next-gt488 : goal.returns-then-next-gt488
returns-then-next-gt488 c =
    let p = packet_of c.args.endpoint c.args.bytes.now in
    record-padded p (ring_of c.args.w c.args.room.now) _ _ c.put_packet-next.ensures
    c.if-next-gt488.true c.put_padding.ensures

pub returns : goal.returns
returns c =
    let p = packet_of c.args.endpoint c.args.bytes.now in
    record-plain p (ring_of c.args.w c.args.room.now) _ c.put_packet-next.ensures c.if-next-gt488.false
