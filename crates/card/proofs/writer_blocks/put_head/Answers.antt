use Rattle.std.proofs.Common.{arith}
use Rattle.card.proofs.WriterLaws.{head-stores}
use Rattle.card.proofs.writer_blocks.put_head.Goals as goal

pub returns : goal.returns
returns c = head-stores c.args.block.now c.args.number c.args.first (omega arith)
