use Rattle.interrupt.specs.StandsLaws.{then-on}
use Rattle.interrupt.specs.Laws.{after}
use Rattle.interrupt.specs.Continuations.{after_late}
use Rattle.script_ops.specs.Concrete.{concrete}
use Rattle.script.specs.Script.{run}
use Rattle.interrupt.proofs.serving.after_completions.Goals as goal

pub then_late-requires : goal.then_late-requires
then_late-requires c = c.resume-n.ensures.1.1

pub returns : goal.returns
returns c = (
  λ v. then-on c.then_late.ensures.0
      (after c.args.e.setup (λ _ u. run concrete (after_late c.args.e.x c.args.e.iso c.args.e.frame) u) _ _
      (c.resume-n.ensures.0 _)),
  c.then_late.ensures.1,
)
