-- An IN endpoint enabled or disabled
use Rattle.std.specs.Prelude.{Bool, ◌≡◌, ℕ}
use Rattle.std.proofs.Math.Path.{refl, ap}
use Rattle.regs.specs.declared.Reg.TheVariants.{EpType, EpConfig, EpTLen, EpTxCtrl}
use Rattle.regs.specs.declared.Dir.TheVariants.{Out, In}
use Rattle.regs.specs.Enables as enables
use Rattle.state.specs.declared.EpState.{EpState}
use Rattle.state.specs.declared.Globals.{Globals}
use Rattle.state.specs.Kept.{with_ep_config}
use Rattle.state.specs.Driver.{ep_on, with_on}
use Rattle.script.specs.Script.{reset_ring, set_enabled_lem, place}
use Rattle.script.specs.Statics.{is_on, modify_ep_type}
use Rattle.script.specs.Bus as bus
use Rattle.script.specs.Simulates.{quiet}
use Rattle.script_ops.specs.Records.{iso_out, configured, enabled_on}
use Rattle.script_ops.specs.Rings.{St, emptied, emptied_on, place_on}
use Rattle.script_ops.specs.Concrete.{act_on, hand_on}
use Rattle.proof_book.specs.FrameLaws.{same_place}
use Rattle.proof_isolation.specs.EqualExcept.{Channel, LowEquiv}
use Rattle.proof_isolation.specs.Apart.{Pair}
use Rattle.proof_isolation.specs.PairsLaws.{Any, p-then, p_write, p-act, p-hand}
use Rattle.proof_isolation.specs.ButsLaws.{but-globals, but-on, like-made, lawful-act, lawful-hand}
use Rattle.proof_isolation.proofs.ValuesLaws.{p-assign, p-modify-ep, p-wake, in-other, p-globals, p-plain-in}
use Rattle.proof_isolation.proofs.InRingsLaws.{on-seat}
use Rattle.proof_isolation.proofs.KeptLaws.{p-put-paced}

module _ (c : Channel) (e : ℕ) where
  resets : (s t : St) → LowEquiv c quiet s t → LowEquiv c quiet (act_on (reset_ring In e) s) (act_on (reset_ring In e) t)
  unfolding emptied_on iso_out with_on
  resets s t l =
      let n = in-other c.number e in
      like-made l (lawful-act c (reset_ring In e) refl l.left) (lawful-act c (reset_ring In e) refl l.right)
      (but-on l.but l.left.rest.sized l.right.rest.sized In e _ _ (λ _. ap emptied (l.but.eps In e n))
      (λ p. absurd (n p)))
      (on-seat c.number s.0 In e _ n) l.bytes

  configures : (onn : Bool) (s t : St) → LowEquiv c quiet s t
      → LowEquiv c quiet (act_on (set_enabled_lem In e onn) s) (act_on (set_enabled_lem In e onn) t)
  unfolding enabled_on iso_out configured ep_on
  configures onn s t l = like-made l (lawful-act c (set_enabled_lem In e onn) refl l.left)
      (lawful-act c (set_enabled_lem In e onn) refl l.right)
      (but-globals l.but _ _ (ap (λ (g : Globals). with_ep_config (enables.with_on g.ep_config In e onn) g)
      l.but.globals))
      (same_place (ep_on s.0 Out c.number)) l.bytes

  places : (s t : St) → LowEquiv c quiet s t → ((hand_on (place In e) s).0 ≡ (hand_on (place In e) t).0)
      × LowEquiv c quiet (hand_on (place In e) s).1 (hand_on (place In e) t).1
  unfolding place_on
  places s t l = (
    ap (λ (r : EpState). r.base) (l.but.eps In e (in-other c.number e)),
    like-made l (lawful-hand c (place In e) l.left) (lawful-hand c (place In e) l.right) l.but
        (same_place (ep_on s.0 Out c.number)) l.bytes,
  )

  module _ {st : ℕ} {i : Bool} where
    p-ep-type : (f : ℕ → ℕ) → Pair c st {i = i} Any (modify_ep_type f) (modify_ep_type f)
    p-ep-type f = p-globals c (λ g _. p-then (p-assign c _) (p_write EpType 0 _))

    p_kept : (iso onn : Bool) → Pair c st {i = i} Any (bus.kept In e iso onn) (bus.kept In e iso onn)
    p_kept iso onn = p-then (p-ep-type _) (p-then (p-act (set_enabled_lem In e onn) (configures onn))
        (p-globals c (λ g _. p_write EpConfig 0 _)))

    p-enabled-in : (iso onn : Bool) → Pair c st {i = i} Any (bus.set_enabled_in e iso onn) (bus.set_enabled_in e iso onn)
    p-enabled-in iso onn = p-then (p-act (reset_ring In e) resets)
        (p-then (p-modify-ep c In e _ (λ _. refl)) (p-then (p-put-paced c e _)
        (p-then (p-hand (place In e) (λ _. refl) places)
        (p-then (p_write EpTLen e 0) (p-then (p_write EpTxCtrl e _) (p_kept iso onn))))))

  pub p_set_enabled : {st : ℕ} (onn : Bool) → Pair c st Any (bus.set_enabled In e onn) (bus.set_enabled In e onn)
  p_set_enabled onn = p-plain-in c e (λ s _. p-then (p-enabled-in (is_on s.iso) onn) (p-wake c In e))
