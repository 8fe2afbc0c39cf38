use Rattle.machine.proofs.RowsLaws.{back, interrupt-call}
use Rattle.machine.specs.Suspended.{decode, finish, halts_as}
use Prim.Native.Nat.{ℕ}
use mathlib.Core.Bool.{true}
use Rattle.script.specs.Tree.{Out, bind_out}
use Rattle.script.specs.Script.{run}
use Rattle.script_ops.specs.Rings.{St}
use Rattle.script_ops.specs.Concrete.{concrete}
use Rattle.state.specs.State.{view, saved}
use Rattle.machine.proofs.StandsLaws.{handed_out_lem, stored-by}
use Rattle.machine.specs.Interrupt.{begun-interrupt}
use mathlib.Core.List.{[]}
use mathlib.Core.Path.{◌∙◌, ap, refl}
use borrow.Author.Tests.{eq-eqb, ne_eqb}
use Rattle.calls.proofs.begins.begin_interrupt.Goals as goal

pub returns-then-n-eq0 : goal.returns-then-n-eq0
returns-then-n-eq0 c =
    record {
      by_index = λ a b. back
          (interrupt-call
          (decode (saved c.args.s.now))
          (view c.args.s.now) a b)
          (handed_out_lem c.suspend_interrupt.ensures _ c.suspend_interrupt.ensures.answered [] b ∙ begun-interrupt _ _ b c.on_interrupt.ensures.linked
          ∙ ap (λ (o : Out St ℕ). halts_as true (bind_out o (λ k t. run concrete (finish k) t)))
          (c.on_interrupt.ensures.b_value _ b)
          ∙ simp (
            c.clear_wakes.ensures.s_after,
            ← c.stop-n.ensures,
            eq-eqb _ _ c.if-n-eq0.true,
          ));
      saved_by_answer = stored-by c.suspend_interrupt.ensures _ c.suspend_interrupt.ensures.answered _;
    }

pub returns : goal.returns
returns c =
    record {
      by_index = λ a b. back (interrupt-call (decode (saved c.args.s.now)) (view c.args.s.now) a b)
          (simp (← c.stop-n.ensures, ne_eqb _ _ c.if-n-eq0.false));
      saved_by_answer = refl;
    }
