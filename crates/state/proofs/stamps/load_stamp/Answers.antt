use Rattle.std.proofs.Common.{◌∙◌}
use Rattle.state.proofs.Views.{stamp-at}
use Rattle.state.proofs.stamps.load_stamp.Goals as goal

pub returns : goal.returns
returns c =
    c.get16.ensures ∙ stamp-at c.args.s.now c.args.e c.args.i c.stamp_key-k.result c.stamp_key-k.ensures.0
    c.stamp_key-k.ensures.1
