use Rattle.std.proofs.Common.{arith}
use Rattle.frame.proofs.Packed.{index-packed}
use Rattle.frame.proofs.microframe_index.Goals as goal

pub returns : goal.returns
returns c = index-packed c.args.frame.0 (omega arith)
