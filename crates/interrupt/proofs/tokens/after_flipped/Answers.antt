use Rattle.interrupt.specs.StandsLaws.{then-on}
use Rattle.interrupt.specs.Laws.{after}
use Rattle.interrupt.specs.Continuations.{after_dispatch}
use Rattle.script_ops.specs.Concrete.{concrete}
use Rattle.script.specs.Script.{run}
use Rattle.interrupt.proofs.tokens.after_flipped.Goals as goal

pub returns : goal.returns
returns c = (
  λ v. then-on c.after_dispatch.ensures.0
      (after c.args.e.setup (λ _ u. run concrete (after_dispatch c.args.e.x c.args.e.iso) u) _ _
      (c.flip_done.ensures.by_index _)),
  c.after_dispatch.ensures.1,
)
