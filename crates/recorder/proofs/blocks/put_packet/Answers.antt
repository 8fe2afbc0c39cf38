use Rattle.std.proofs.Common.{rules, ◌≡◌, ◌+◌, ◌-◌, sym, ap, ◌∙◌, refl, arith}
use Rattle.card.specs.Packet.{packet_of}
use Rattle.recorder.specs.Ring.{ring_of, packet_ring}
use Rattle.recorder.specs.RingLaws.{ring-piece, ring-whole, ring-part, ring-none}
use Rattle.recorder.proofs.blocks.put_packet.Goals as goal

pub loop-turn-init : goal.loop-turn-init
loop-turn-init c = (search rules, refl)

pub returns-then-put : goal.returns-then-put
returns-then-put c =
    let p = packet_of c.args.endpoint c.args.bytes.now in
    let g = ring_of c.loop-turn.at c.loop-turn.room in
    let now = ring-piece p g _ _ c.put_piece-put.ensures.next_value c.put_piece-put.ensures.room_after in
    now ∙ ring-whole (4 - c.loop-turn._turn) p g (omega arith) (sym c.put_piece-put.ensures.whole_value ∙ c.if-put.true)
    ∙ c.loop-turn.invariant.1

pub loop-turn-preserved : goal.loop-turn-preserved
loop-turn-preserved c =
    let p = packet_of c.args.endpoint c.args.bytes.now in
    let g = ring_of c.loop-turn.at c.loop-turn.room in
    let now = ring-piece p g _ _ c.put_piece-put.ensures.next_value c.put_piece-put.ensures.room_after in
    let fewer : 4 - (c.loop-turn._turn + 1) ≡ 4 - c.loop-turn._turn - 1 = omega arith in (
      search rules,
      ap (packet_ring _ p) now ∙ rw fewer (ring-part (4 - c.loop-turn._turn) p g (omega arith)
          (sym c.put_piece-put.ensures.whole_value
          ∙ c.if-put.false)) ∙ c.loop-turn.invariant.1,
    )

pub returns : goal.returns
returns c =
    let p = packet_of c.args.endpoint c.args.bytes.now in
    ring-none (4 - c.loop-turn._turn) p (ring_of c.loop-turn.at c.loop-turn.room) (omega arith)
    ∙ c.loop-turn.invariant.1
