use mathlib.Core.Path.{◌≡◌, refl, sym, ap, ◌∙◌}
use mathlib.Core.List.{List}
use Prim.Native.Nat.{ℕ, ◌+◌}
use native.Mathlib.Omega.{arith}
use native.Mathlib.Numerals.{add-one}
use Rattle.state.specs.Driver.{Driver, with_wakes}
use Rattle.state.specs.State.{view}
use Rattle.state.specs.Wakes.{codes_from, woken, all_woken}
use Rattle.state.specs.WakesLaws.{all-woken-append, codes-next}
use Rattle.script_ops.proofs.records.wake_sixteen.Goals as goal

pub loop-k-init : goal.loop-k-init
loop-k-init c = (omega arith, (refl, refl))

pub loop-k-preserved : goal.loop-k-preserved
loop-k-preserved c =
    let w = view c.args.s.now in (
      omega arith,
      (
        c.wake.ensures.s_after ∙ ap (λ (d : Driver). with_wakes d (woken (c.args.a + c.loop-k.k) d.wakes)) c.loop-k.invariant.1.0
            ∙ ap (with_wakes w) (sym (all-woken-append (codes_from c.args.a c.loop-k.k) _ w.wakes)
            ∙ ap (λ (l : List ℕ). all_woken l w.wakes) (sym (codes-next c.args.a c.loop-k.k))
            ∙ ap (λ (n : ℕ). all_woken (codes_from c.args.a n) w.wakes) (sym (add-one c.loop-k.k))),
        c.wake.ensures.s_unchanged ∙ c.loop-k.invariant.1.1,
      ),
    )

pub returns : goal.returns
returns c =
    let e : c.loop-k.k ≡ 16 = omega arith in
    record {
      s_after = rw e at c.loop-k.invariant.1.0;
      s_unchanged = c.loop-k.invariant.1.1;
    }
