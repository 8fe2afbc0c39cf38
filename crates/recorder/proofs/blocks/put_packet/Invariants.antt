use Rattle.std.proofs.Common.{◌≡◌, length, ◌-◌}
use Rattle.card.specs.Packet.{packet_of}
use Rattle.recorder.specs.Ring.{ring_of, packet_ring}
use Rattle.recorder.proofs.blocks.put_packet.Given as goal

abbrev pub invariant-loop-turn : goal.invariant-loop-turn
invariant-loop-turn l = (length l.room ≡ 2048)
    × (packet_ring (4 - l._turn) (packet_of l.endpoint l.bytes) (ring_of l.at l.room)
    ≡ packet_ring 4 (packet_of l.endpoint l.bytes) (ring_of l.initial.at l.initial.room))
