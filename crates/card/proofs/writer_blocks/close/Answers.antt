use Rattle.card.proofs.WriterLaws.{closed-by}
use Rattle.card.proofs.writer_blocks.close.Goals as goal

pub returns : goal.returns
returns c =
    closed-by c.args.block.now _ _ c.args.number c.args.first c.put_head.ensures c.put_check.ensures
