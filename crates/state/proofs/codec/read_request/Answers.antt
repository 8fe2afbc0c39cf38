use Rattle.state.proofs.codec.read_request.Goals as goal

pub returns : goal.returns
returns c = (c.get32.ensures, (c.get32-2.ensures, tt))
