use Rattle.interrupt.specs.StopsLaws.{goes_on_lem}
use Prim.Native.Nat.{ℕ}
use Rattle.interrupt.specs.Toggled as toggled
use Rattle.interrupt.specs.Laws.{toggled-as}
use Rattle.interrupt.specs.Continuations.{after_dispatch, after_toggled}
use Rattle.script_ops.specs.Concrete.{concrete}
use Rattle.script.specs.Script.{run}
use Rattle.state.specs.State.{view}
use Rattle.interrupt.proofs.tokens.after_toggled.Goals as goal

pub resume-n-requires : goal.resume-n-requires
resume-n-requires c = c.requires

pub then_toggled-requires : goal.then_toggled-requires
then_toggled-requires c = c.resume-n.ensures.1.1

pub returns : goal.returns
returns c =
    goes_on_lem c.then_toggled.ensures
    (toggled-as c.args.e.setup (λ _ u. run concrete (after_dispatch c.args.e.x c.args.e.iso) u)
    (λ z u. run concrete (after_toggled c.args.d c.args.e.x z) u) c.args.d _ _
    c.resume-n.result _ _ c.endpoint.ensures
    (λ (z : ℕ). toggled.denote c.args.d z c.args.p c.args.v (view c.args.s.now, c.args.buf.now)) (c.resume-n.ensures.0 _))
