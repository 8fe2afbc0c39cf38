use Rattle.bits.specs.WalkLaws.{rest-code}
use Rattle.std.proofs.Common.{rules}
use Rattle.bits.proofs.rest_of.Goals as goal

pub returns : goal.returns
returns c =
    rest-code c.args.mask c.wrapping_sub_u16.result c.ranges.mask.fits (search rules)
    c.wrapping_sub_u16.ensures.value
