use Rattle.interrupt.specs.StandsLaws.{then-on}
use Rattle.interrupt.specs.Laws.{after}
use Rattle.interrupt.specs.Continuations.{after_dispatch}
use Rattle.script_ops.specs.Concrete.{concrete}
use Rattle.script.specs.Script.{run}
use Rattle.interrupt.proofs.tokens.after_completing.Goals as goal

pub then_complete-requires : goal.then_complete-requires
then_complete-requires c = c.iso_in_complete_resume-n.ensures.1.1

pub returns : goal.returns
returns c = (
  λ v. then-on c.then_complete.ensures.0
      (after c.args.e.setup (λ _ u. run concrete (after_dispatch c.args.e.x c.args.e.iso) u) _ _
      (c.iso_in_complete_resume-n.ensures.0 _)),
  c.then_complete.ensures.1,
)
