use Rattle.std.proofs.Common.{◌%◌}
use Rattle.bits.specs.BitLaws.{tests}
use Rattle.bits.proofs.is_set.Goals as goal

pub returns : goal.returns
returns c = tests c.args.word (c.args.bit % 32)
