use Rattle.card.proofs.WriterLaws.{check-stores}
use Rattle.card.proofs.writer_blocks.put_check.Goals as goal

pub returns : goal.returns
returns c =
    check-stores c.args.block.now c.data_crc-crc.result c.requires c.data_crc-crc.ensures
