use Rattle.std.proofs.Common.{◌∙◌}
use Rattle.state.proofs.Views.{paced-at}
use Rattle.state.proofs.load_paced.Goals as goal

pub returns : goal.returns
returns c = c.get16.ensures ∙ paced-at c.args.s.now c.args.e
