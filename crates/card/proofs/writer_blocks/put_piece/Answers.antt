use Rattle.std.proofs.Common.{◌+◌, ◌-◌, arith}
use Rattle.card.proofs.WriterLaws.{data-behind}
use Rattle.card.proofs.writer_blocks.put_piece.Goals as goal

pub returns : goal.returns
returns c =
    let a = c.args.from + c.header_part-few.result - 3 in
    let e = a + (c.args.n - c.header_part-few.result) in
    data-behind c.args.endpoint c.args.bytes.now c.args.block.now _ _ c.args.at c.args.from c.header_part-few.result (e - a) c.args.n a
    (omega arith) (omega arith) (omega (arith, c.header_part-few.ensures.0)) (omega (arith, c.header_part-few.ensures.2 (omega arith)))
    c.put_part.ensures
    c.copy_in.ensures
