use Rattle.state.proofs.Views.{request-at}
use Rattle.state.proofs.load_request.Goals as goal

pub returns : goal.returns
returns c =
    request-at c.args.s.now c.args.dir
    c.args.e c.key_of-k.result c.read_request.result c.key_of-k.ensures.0 c.key_of-k.ensures.1 c.read_request.ensures
