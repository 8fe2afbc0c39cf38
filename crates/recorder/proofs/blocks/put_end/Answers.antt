use mathlib.Core.Path.{ap, ◌∙◌}
use mathlib.Core.List.{List}
use Prim.Native.Nat.{ℕ}
use Rattle.card.specs.Packet.{packet_of}
use Rattle.recorder.specs.Ring.{ring_of, end_room}
use Rattle.recorder.specs.RingLaws.{end_is}
use Rattle.recorder.proofs.blocks.put_end.Goals as goal

pub returns : goal.returns
returns c =
    let g = ring_of c.args.w c.args.room.now in
    let ends = end_is (packet_of 15 c.end_bytes-bytes.result) g _ _ _ c.put_piece-put.ensures.next_value
    c.put_piece-put.ensures.room_after c.fill_block.ensures in
    ends ∙ ap (λ (l : List ℕ). end_room (packet_of 15 l) g) c.end_bytes-bytes.ensures
