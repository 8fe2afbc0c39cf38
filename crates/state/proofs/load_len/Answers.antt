use Rattle.std.proofs.Common.{◌∙◌}
use Rattle.state.proofs.Views.{len-at}
use Rattle.state.proofs.load_len.Goals as goal

pub returns : goal.returns
returns c =
    c.get16.ensures ∙ len-at c.args.s.now c.args.dir c.args.e c.args.i c.len_key-k.result
    c.len_key-k.ensures.0 c.len_key-k.ensures.1
