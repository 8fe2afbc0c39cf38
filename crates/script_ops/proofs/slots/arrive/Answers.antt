use mathlib.Core.Path.{◌≡◌, refl, sym, ap, ◌∙◌}
use mathlib.Core.Bool.{Bool, true, false}
use mathlib.Core.List.{List}
use Prim.Native.Nat.{ℕ, ◌%◌}
use Rattle.bits.specs.Bit.{bit_is_set}
use Rattle.regs.specs.declared.Dir.TheVariants.{Out}
use Rattle.state.specs.declared.EpState.{EpState}
use Rattle.state.specs.declared.Globals.{Globals}
use Rattle.state.specs.Driver.{Driver, ep_on}
use Rattle.state.specs.State.{view}
use Rattle.ring.specs.Out.{capped_at}
use Rattle.script.specs.Statics.{iso_outs}
use Rattle.script_ops.specs.Rings.{St, arrived_at, arrive_on}
use Rattle.script_ops.proofs.slots.arrive.Goals as goal

-- the code's steps, each by its result
module _ (e n : ℕ) (d : Driver) (b : List ℕ) {g : Globals} {r : EpState} {on : Bool}
    (h₁ : g ≡ d.globals) (h₂ : r ≡ ep_on d Out e) (h₃ : on ≡ bit_is_set (iso_outs g) (e % 16)) where
  receives : bit_is_set (iso_outs d.globals) (e % 16) ≡ on
  receives = ap (λ (x : Globals). bit_is_set (iso_outs x) (e % 16)) (sym h₁) ∙ sym h₃

  admits : {len : ℕ} → on ≡ true → len ≡ capped_at r n → arrived_at e len (d, b) ≡ arrive_on e n (d, b)
  unfolding arrive_on
  admits h k = simp (k, h₂, receives ∙ h)

  passes : on ≡ false → (r.armed_slot, (d, b)) ≡ arrive_on e n (d, b)
  unfolding arrive_on
  passes h = simp (h₂, receives ∙ h)

pub arrived-requires : goal.arrived-requires
arrived-requires c =
    record {
      r_value = c.load_ep-r.ensures;
      entered_value = ap (λ (g : Globals). g.entered) c.load_globals-g.ensures;
    }

pub returns-then-receives : goal.returns-then-receives
returns-then-receives c =
    let h = admits c.args.e c.args.n (view c.args.s.now) c.args.buf.now c.load_globals-g.ensures c.load_ep-r.ensures
    c.receives.ensures c.if-receives.true c.capped-len.ensures in
    record {
      value = c.arrived.ensures.value ∙ ap (λ (x : ℕ × St). x.0) h;
      s_after = c.arrived.ensures.s_after ∙ ap (λ (x : ℕ × St). x.1.0) h;
      buf_after = c.arrived.ensures.buf_after ∙ ap (λ (x : ℕ × St). x.1.1) h;
      s_unchanged = c.arrived.ensures.s_unchanged;
    }

pub returns : goal.returns
returns c =
    let h = passes c.args.e c.args.n (view c.args.s.now) c.args.buf.now c.load_globals-g.ensures
    c.load_ep-r.ensures c.receives.ensures c.if-receives.false in
    record {
      value = ap (λ (x : ℕ × St). x.0) h;
      s_after = ap (λ (x : ℕ × St). x.1.0) h;
      buf_after = ap (λ (x : ℕ × St). x.1.1) h;
      s_unchanged = refl;
    }
