use Rattle.interrupt.specs.StopsLaws.{goes_on_lem}
use Rattle.interrupt.specs.Laws.{after, passed-at, when-no, when-yes}
use Rattle.interrupt.specs.Continuations.{after_dispatch, passed, after_arm}
use Rattle.script_ops.specs.Concrete.{concrete}
use Rattle.regs.specs.Status.{endpoint}
use Rattle.script.specs.Script.{run}
use mathlib.Core.Path.{◌∙◌}
use Rattle.interrupt.proofs.tokens.after_passing.Goals as goal

pub returns-then-b : goal.returns-then-b
returns-then-b c =
    goes_on_lem c.after_dispatch.ensures
    (after c.args.e.setup (λ _ u. run concrete (after_dispatch c.args.e.x c.args.e.iso) u) _ _ (c.passed.ensures.by_index _)
    ∙ (passed-at (after_arm c.args.e) c.args.d _ _ _ _ c.endpoint.ensures
    ∙ when-yes c.args.e.setup (passed c.args.d (endpoint c.args.e.x.st) c.args.e.x.len)
    (λ _ u. run concrete (after_dispatch c.args.e.x c.args.e.iso) u) _ _
    c.if-b.true))

pub returns : goal.returns
returns c =
    goes_on_lem c.after_dispatch-2.ensures
    (when-no c.args.e.setup (passed c.args.d (endpoint c.args.e.x.st) c.args.e.x.len)
    (λ _ u. run concrete (after_dispatch c.args.e.x c.args.e.iso) u) _ _
    c.if-b.false)
