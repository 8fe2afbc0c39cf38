use mathlib.Core.Path.{ap, ◌∙◌}
use mathlib.Core.List.{List}
use Prim.Native.Nat.{ℕ}
use Rattle.card.specs.Packet.{packet_of}
use Rattle.recorder.specs.Ring.{ring_of, packet_ring}
use Rattle.recorder.specs.RingLaws.{zeros-part}
use lib.ListN.{replicate}
use Rattle.recorder.proofs.blocks.put_padding.Goals as goal

pub returns : goal.returns
returns c =
    let g = ring_of c.args.w c.args.room.now in
    c.put_packet.ensures
    ∙ ap (λ (l : List ℕ). packet_ring 4 (packet_of 15 l) g) (zeros-part c.padding_of-e.result 501 c.padding_of-e.ensures.1
    ∙ ap (λ (x : ℕ). replicate x 0) c.padding_of-e.ensures.0)
