use lib.Bits.{and_mask}
use Rattle.regs.specs.Status.{endpoint}
use Rattle.regs.proofs.status.endpoint.Goals as goal

pub returns : goal.returns
unfolding endpoint
returns c = and_mask c.args.status 4
