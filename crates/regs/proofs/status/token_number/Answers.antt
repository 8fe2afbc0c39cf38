use Rattle.bits.specs.Field.{reads as reads-field}
use Rattle.regs.proofs.status.token_number.Goals as goal

pub returns : goal.returns
returns c = reads-field c.args.status 4 2
