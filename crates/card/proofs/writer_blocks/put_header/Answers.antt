use Rattle.std.proofs.Common.{arith}
use Rattle.card.proofs.WriterLaws.{header-stores}
use Rattle.card.proofs.writer_blocks.put_header.Goals as goal

pub returns : goal.returns
returns c =
    header-stores c.args.endpoint c.args.bytes.now c.args.block.now c.args.at (omega arith)
