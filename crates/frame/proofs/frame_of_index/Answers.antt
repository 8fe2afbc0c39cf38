use Rattle.frame.proofs.Packed.{frame-packed}
use Rattle.frame.proofs.frame_of_index.Goals as goal

pub returns : goal.returns
returns c = frame-packed c.args.i.0
