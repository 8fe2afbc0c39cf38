use Rattle.interrupt.specs.StopsLaws.{goes_on_lem}
use Rattle.interrupt.specs.Laws.{when-no, when-yes}
use Rattle.interrupt.specs.Continuations.{after_dispatch, after_late}
use Rattle.script_ops.specs.Concrete.{concrete}
use Rattle.regs.specs.Status.{token}
use Rattle.script.specs.Script.{run}
use mathlib.Core.Bool.{not, true}
use mathlib.Core.Path.{ap}
use Rattle.script.specs.Handler as script
use Rattle.interrupt.proofs.serving.after_late.Goals as goal

pub returns-then-e : goal.returns-then-e
unfolding after_late
returns-then-e c =
    goes_on_lem c.after_dispatch.ensures
    (when-no c.args.e.setup (script.dispatch {i = true} (token c.args.e.x.st) c.args.e.x c.args.e.iso c.args.e.frame)
    (λ _ u. run concrete (after_dispatch c.args.e.x c.args.e.iso) u) _ _ (ap not c.if-e.true))

pub returns : goal.returns
unfolding after_late
returns c =
    goes_on_lem c.dispatch.ensures
    (when-yes c.args.e.setup (script.dispatch {i = true} (token c.args.e.x.st) c.args.e.x c.args.e.iso c.args.e.frame)
    (λ _ u. run concrete (after_dispatch c.args.e.x c.args.e.iso) u) _ _ (ap not c.if-e.false))
