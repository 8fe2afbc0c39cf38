use Rattle.std.proofs.Common.{◌∙◌}
use Rattle.state.proofs.Views.{code_at}
use Rattle.state.proofs.wakes.woken_at.Goals as goal

pub returns : goal.returns
returns c = c.get8.ensures ∙ code_at c.args.s.now c.args.i
