use Rattle.interrupt.specs.Toggled as toggled
use Rattle.interrupt.specs.StopsLaws.{pauses-at, goes_on_lem}
use Prim.Native.Nat.{ℕ}
use mathlib.Core.Bool.{true}
use Rattle.script.specs.Handler as script
use Rattle.state.specs.State.{view}
use Rattle.interrupt.specs.Laws.{toggled-asks, toggled-ends, toggled-as}
use Rattle.interrupt.specs.Continuations.{after_dispatch, after_toggled}
use Rattle.script_ops.specs.Concrete.{concrete}
use Rattle.regs.specs.Status.{endpoint}
use Rattle.script.specs.Script.{run}
use mathlib.Core.Path.{◌∙◌, subst}
use Rattle.interrupt.proofs.tokens.toggled_arm.Goals as goal

pub returns-in-Asks : goal.returns-in-Asks
returns-in-Asks c =
    pauses-at c.stand_toggled.ensures (subst toggled.Linked c.in-Asks.is c.begin-n.ensures.1)
    (toggled-asks c.args.e.setup (λ _ u. run concrete (after_dispatch c.args.e.x c.args.e.iso) u)
    (λ z u. run concrete (after_toggled c.args.d c.args.e.x z) u) _ _ c.args.d
    (endpoint c.args.e.x.st) _ _ _ c.in-Asks.is
    ∙ toggled-as c.args.e.setup (λ _ u. run concrete (after_dispatch c.args.e.x c.args.e.iso) u)
    (λ z u. run concrete (after_toggled c.args.d c.args.e.x z) u) c.args.d _ _
    c.begin-n.result _ _ c.endpoint.ensures
    (λ (z : ℕ). run concrete (script.toggled {i = true} c.args.d z) (view c.args.s.now, c.args.buf.now))
    (c.begin-n.ensures.0 _ _))

pub returns-in-Ends : goal.returns-in-Ends
returns-in-Ends c =
    goes_on_lem c.after_passing.ensures
    (toggled-ends c.args.e.setup (λ _ u. run concrete (after_dispatch c.args.e.x c.args.e.iso) u)
    (λ z u. run concrete (after_toggled c.args.d c.args.e.x z) u) _ _ c.args.d
    (endpoint c.args.e.x.st) _ _ c.in-Ends.is
    ∙ toggled-as c.args.e.setup (λ _ u. run concrete (after_dispatch c.args.e.x c.args.e.iso) u)
    (λ z u. run concrete (after_toggled c.args.d c.args.e.x z) u) c.args.d _ _
    c.begin-n.result _ _ c.endpoint.ensures
    (λ (z : ℕ). run concrete (script.toggled {i = true} c.args.d z) (view c.args.s.now, c.args.buf.now))
    (c.begin-n.ensures.0 _ _))
