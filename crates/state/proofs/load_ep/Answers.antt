use Rattle.state.proofs.Views.{ep-at}
use Rattle.state.proofs.load_ep.Goals as goal

pub returns : goal.returns
returns c =
    ep-at c.args.s.now c.args.dir c.args.e c.key_of-k.result c.read_ep.result c.key_of-k.ensures.0
    c.key_of-k.ensures.1 c.read_ep.ensures
