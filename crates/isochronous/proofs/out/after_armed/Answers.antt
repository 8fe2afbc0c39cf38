use mathlib.Core.Path.{ap, ◌∙◌}
use Rattle.state.specs.Driver.{Driver}
use Rattle.script_ops.specs.Concrete.{go}
use Rattle.isochronous.specs.Points.{walk}
use Rattle.isochronous.proofs.out.after_armed.Goals as goal

pub returns : goal.returns
returns c v = (
  c.walk_on.ensures.0 ∙ ap (λ (d : Driver). go (walk c.args.x c.args.iso c.args.m) d c.args.buf.now) c.wake.ensures.s_after,
  (c.walk_on.ensures.1.0 ∙ c.wake.ensures.s_unchanged, c.walk_on.ensures.1.1),
)
