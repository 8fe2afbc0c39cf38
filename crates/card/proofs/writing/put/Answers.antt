use Rattle.std.proofs.Common.{sym, ◌∙◌}
use Rattle.card.specs.Packet.{packet_of}
use Rattle.card.specs.Pieces.{piece-in, block-full, block-part}
use Rattle.card.proofs.writing.put.Goals as goal

pub returns-then-is_full : goal.returns-then-is_full
returns-then-is_full c =
    let p = packet_of c.args.endpoint c.args.bytes.now in
    block-full c.args.w p c.args.block.now _ _ _ (sym c.is_full.ensures ∙ c.if-is_full.true)
    (piece-in c.args.w p c.args.block.now _ _ _ _ c.used_of-used.ensures c.done_of-done.ensures c.piece_of-piece.ensures
    c.put_piece.ensures) c.first_of-first.ensures c.close.ensures

pub returns-else-is_full : goal.returns-else-is_full
returns-else-is_full c =
    let p = packet_of c.args.endpoint c.args.bytes.now in
    block-part c.args.w p c.args.block.now _ (sym c.is_full.ensures ∙ c.if-is_full.false)
    (piece-in c.args.w p c.args.block.now _ _ _ _ c.used_of-used.ensures c.done_of-done.ensures c.piece_of-piece.ensures
    c.put_piece.ensures)
