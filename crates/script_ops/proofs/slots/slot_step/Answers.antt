use mathlib.Core.Path.{◌≡◌, refl, sym, ap, ◌∙◌}
use mathlib.Core.Bool.{Bool, true, cond}
use mathlib.Core.List.{List}
use Prim.Native.Nat.{ℕ}
use lib.Dec.{eqb}
use Rattle.regs.specs.declared.Dir.TheVariants.{Out}
use Rattle.state.specs.declared.EpState.{EpState}
use Rattle.state.specs.Driver.{Driver, ep_on}
use Rattle.state.specs.State.{view}
use Rattle.script.specs.Statics.{is_on}
use Rattle.script_ops.specs.Rings.{St, renewed_on, arm_by, slot_step}
use Rattle.script_ops.proofs.slots.slot_step.Goals as goal

-- the code's steps, each by its result
stages : (e k : ℕ) (d : Driver) (b : List ℕ) {d' : Driver} {r q : EpState} {on : Bool}
    → r ≡ ep_on d Out e → on ≡ is_on r.iso → on ≡ true → d' ≡ cond (eqb k 15) (renewed_on d e) d → q ≡ ep_on d' Out e
    → arm_by e q k (d', b) ≡ slot_step e k (d, b)
unfolding slot_step
stages e k d b h₁ h₂ h₃ h₄ h₅ =
    let h : is_on (ep_on d Out e).iso ≡ true = rw h₁ at (sym h₂ ∙ h₃) in
    simp (h₅, h, h₄)

pub returns-then-is_on : goal.returns-then-is_on
returns-then-is_on c =
    let h = stages c.args.e c.args.k (view c.args.s.now) c.args.buf.now c.load_ep-r.ensures c.is_on.ensures
    c.if-is_on.true c.renew_first.ensures.s_after c.load_ep-q.ensures in
    record {
      value = c.arm.ensures.value ∙ ap (λ (x : ℕ × St). x.0) h;
      s_after = c.arm.ensures.s_after ∙ ap (λ (x : ℕ × St). x.1.0) h;
      buf_after = c.arm.ensures.buf_after ∙ ap (λ (x : ℕ × St). x.1.1) h;
      s_unchanged = c.arm.ensures.s_unchanged
          ∙ c.renew_first.ensures.s_unchanged;
    }

pub returns : goal.returns
unfolding slot_step
returns c =
    record {
      value = simp (c.if-is_on.false, ← c.is_on.ensures, ← c.load_ep-r.ensures);
      s_after = simp (c.if-is_on.false, ← c.is_on.ensures, ← c.load_ep-r.ensures);
      buf_after = simp (c.if-is_on.false, ← c.is_on.ensures, ← c.load_ep-r.ensures);
      s_unchanged = refl;
    }
