use Rattle.frame.proofs.Round.{rounds}
use Rattle.frame.proofs.distance.Goals as goal

pub returns : goal.returns
returns c =
    rounds c.args.from.0 c.args.to.0 c.wrapping_sub_u16.result c.wrapping_sub_u16.ensures.value
