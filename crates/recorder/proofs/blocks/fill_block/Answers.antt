use Rattle.recorder.specs.RingLaws.{fill_is}
use Rattle.recorder.proofs.blocks.fill_block.Goals as goal

pub returns : goal.returns
returns c =
    fill_is c.args.w c.args.number c.args.room.now _ c.finish.ensures.block_after
