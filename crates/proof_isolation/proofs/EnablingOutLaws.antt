-- An OUT endpoint that is not isochronous enabled or disabled
use Rattle.std.specs.Prelude.{Bool, cond, ◌≢◌, ◌≡◌, eqb}
use Rattle.std.proofs.Math.Bool.{true, false}
use Rattle.std.proofs.Common.{true≢false, sym, ◌∙◌, ne_eqb}
use Rattle.std.proofs.Math.Path.{refl, ap, subst}
use Prim.Native.Nat.{ℕ, ◌%◌}
use Rattle.bits.specs.Bit.{bit_is_set}
use Rattle.regs.specs.declared.Reg.TheVariants.{EpType, EpConfig, EpRxCtrl}
use Rattle.regs.specs.declared.Dir.TheVariants.{Out}
use Rattle.regs.specs.Enables as enables
use Rattle.state.specs.declared.EpState.{EpState}
use Rattle.state.specs.declared.Globals.{Globals}
use Rattle.state.specs.Kept.{with_ep_config}
use Rattle.state.specs.Driver.{Driver, key, ep_on, with_on, with_globals}
use Rattle.ring.specs.Out.{armed_at}
use Rattle.ring.specs.Waiting.{SamePlace}
use Rattle.script.specs.Script.{reset_ring, set_enabled_lem, place}
use Rattle.script.specs.Statics.{is_on, iso_outs}
use Rattle.script.specs.Bus as bus
use Rattle.script.specs.Simulates.{quiet}
use Rattle.script_ops.specs.Records.{iso_out, configured, enabled_on}
use Rattle.script_ops.specs.Rings.{St, emptied, emptied_on, place_on}
use Rattle.script_ops.specs.Concrete.{act_on, hand_on}
use Rattle.proof_book.specs.LensLaws.{key-ep}
use Rattle.proof_book.specs.FrameLaws.{same_place}
use Rattle.proof_isolation.specs.EqualExcept.{EqualExcept, Lawful, Channel, LowEquiv}
use Rattle.proof_isolation.specs.Apart.{Pair}
use Rattle.proof_isolation.specs.PairsLaws.{Any, p-then, p_test, p_write, p-act, p-hand}
use Rattle.proof_isolation.specs.ButsLaws.{but-globals, but-on, but-cond, like-made, lawful-act, lawful-hand}
use Rattle.proof_isolation.proofs.ValuesLaws.{p-assign, p-modify-ep, p-wake, p-globals, p-plain-any}
use Rattle.proof_isolation.proofs.InRingsLaws.{on-seat, cond-seat}

module _ (c : Channel) (e : ℕ) (plain : c.iso Out e ≡ false) where
  -- it is not the channel
  other : {s : St} → Lawful c.iso quiet s → key Out e ≢ key Out c.number
  other {s} l p = true≢false
      (sym c.receives ∙ sym (l.has.flags Out c.number)
      ∙ ap (λ (r : EpState). is_on r.iso) (sym (key-ep s.0 Out Out e c.number p)) ∙ l.has.flags Out e ∙ plain)

  other-number : eqb e c.number ≡ false
  other-number = ne_eqb e c.number (λ z. true≢false (sym c.receives ∙ ap (λ a. c.iso Out a) (sym z) ∙ plain))

  resets : (s t : St) → LowEquiv c quiet s t → LowEquiv c quiet (act_on (reset_ring Out e) s)
      (act_on (reset_ring Out e) t)
  unfolding emptied_on iso_out with_on
  resets s t l =
      let n = other l.left in
      let h = l.but.eps Out e n in
      like-made l
      (lawful-act c (reset_ring Out e) refl l.left)
      (lawful-act c (reset_ring Out e) refl l.right)
      (but-cond _ _ (ap (λ (r : EpState). is_on r.iso) h) l.but
      (but-on l.but l.left.rest.sized l.right.rest.sized Out e _ _ (λ _. ap emptied h)
      (λ p. absurd (n p))))
      (cond-seat c.number (ep_on s.0 Out c.number) (is_on (ep_on s.0 Out e).iso) _ _
      (same_place (ep_on s.0 Out c.number)) (on-seat c.number s.0 Out e _ n)) l.bytes

  config-seat : (d : Driver) (g : Globals) → SamePlace (ep_on d Out c.number) (ep_on (with_globals d g) Out c.number)
  unfolding ep_on
  config-seat d g = same_place (ep_on d Out c.number)

  configures : (onn : Bool) (s t : St) → LowEquiv c quiet s t
      → LowEquiv c quiet (act_on (set_enabled_lem Out e onn) s) (act_on (set_enabled_lem Out e onn) t)
  unfolding enabled_on iso_out configured
  configures onn s t l =
      let h = l.but.eps Out e (other l.left) in
      like-made l
      (lawful-act c (set_enabled_lem Out e onn) refl l.left)
      (lawful-act c (set_enabled_lem Out e onn) refl l.right)
      (but-cond _ _ (ap (λ (r : EpState). is_on r.iso) h) l.but
      (but-globals l.but _ _ (ap (λ (g : Globals). with_ep_config (enables.with_on g.ep_config Out e onn) g)
      l.but.globals)))
      (cond-seat c.number (ep_on s.0 Out c.number) (is_on (ep_on s.0 Out e).iso) _ _
      (same_place (ep_on s.0 Out c.number)) (config-seat s.0 _)) l.bytes

  record Placed (s t : St) (x y : ℕ × Driver) : Type 0 where
    address : x.0 ≡ y.0
    but : EqualExcept c.number x.1 y.1
    seat : SamePlace (ep_on s.0 Out c.number) (ep_on x.1 Out c.number)

  placed_by : (u : Bool) (s t : St) → LowEquiv c quiet s t
      → Placed s t (cond {A = ℕ × Driver} u ((ep_on s.0 Out e).armed_slot, s.0) (
        (ep_on s.0 Out e).base,
        with_on s.0 Out e (armed_at (ep_on s.0 Out e) (ep_on s.0 Out e).base),
      ))
      (cond {A = ℕ × Driver} u ((ep_on t.0 Out e).armed_slot, t.0) (
        (ep_on t.0 Out e).base,
        with_on t.0 Out e (armed_at (ep_on t.0 Out e) (ep_on t.0 Out e).base),
      ))
  unfolding with_on
  placed_by true s t l = record {
    address = ap (λ (r : EpState). r.armed_slot) (l.but.eps Out e (other l.left));
    but = l.but;
    seat = same_place (ep_on s.0 Out c.number);
  }
  placed_by false s t l =
      let n = other l.left in
      let h = l.but.eps Out e n in
      record {
        address = ap (λ (r : EpState). r.base) h;
        but = but-on l.but l.left.rest.sized l.right.rest.sized Out e _ _
            (λ _. ap (λ (r : EpState). armed_at r r.base) h) (λ p. absurd (n p));
        seat = on-seat c.number s.0 Out e _ n;
      }

  placed : (s t : St) → LowEquiv c quiet s t → Placed s t (place_on Out e s.0) (place_on Out e t.0)
  unfolding place_on
  placed s t l = subst (λ u. Placed s t (place_on Out e s.0)
      (cond {A = ℕ × Driver} u ((ep_on t.0 Out e).armed_slot, t.0) (
        (ep_on t.0 Out e).base,
        with_on t.0 Out e (armed_at (ep_on t.0 Out e) (ep_on t.0 Out e).base),
      )))
      (ap (λ (g : Globals). bit_is_set (iso_outs g) (e % 16)) l.but.globals)
      (placed_by (bit_is_set (iso_outs s.0.globals) (e % 16)) s t l)

  places : (s t : St) → LowEquiv c quiet s t → ((hand_on (place Out e) s).0 ≡ (hand_on (place Out e) t).0)
      × LowEquiv c quiet (hand_on (place Out e) s).1 (hand_on (place Out e) t).1
  places s t l = let b = placed s t l in (
    b.address,
    like-made l (lawful-hand c (place Out e) l.left) (lawful-hand c (place Out e) l.right) b.but b.seat
        l.bytes,
  )

  module _ {st : ℕ} {i : Bool} where
    p_kept : (onn : Bool) → Pair c st {i = i} Any (bus.kept Out e false onn) (bus.kept Out e false onn)
    p_kept onn = p-then (p-globals c (λ g _. p-then (p-assign c _) (p_write EpType 0 _)))
        (p-then (p-act (set_enabled_lem Out e onn) (configures onn)) (p-globals c (λ g _. p_write EpConfig 0 _)))

    p_enabled_out : (onn : Bool) → Pair c st {i = i} Any (bus.set_enabled_out e onn) (bus.set_enabled_out e onn)
    p_enabled_out onn = p-then (p-act (reset_ring Out e) resets)
        (p-then (p-modify-ep c Out e _ (λ _. refl))
        (p-then (p-hand (place Out e) (λ _. other-number) places) (p-then (p_write EpRxCtrl e _) (p_kept onn))))

  pub p_set_enabled : {st : ℕ} (onn : Bool) → Pair c st Any (bus.set_enabled Out e onn) (bus.set_enabled Out e onn)
  p_set_enabled onn = p-plain-any c Out e
      (λ s r _ _ f. p-then (p_test _ (λ h. absurd (true≢false (sym h ∙ f ∙ plain))) (λ _. p_enabled_out onn))
      (p-wake c Out e))
