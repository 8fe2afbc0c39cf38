-- An isochronous OUT endpoint enabled or disabled, the channel too: the row resets its record and arms each of its
-- slots, whose addresses are the same in both runs
use Rattle.std.specs.Prelude.{Bool, true, false, cond, ◌≢◌, ◌≡◌, eqb}
use Rattle.std.proofs.Common.{true≢false, ◌∙◌}
use Rattle.std.proofs.Math.Path.{refl, ap, subst, sym}
use Prim.Native.Nat.{ℕ, zero, suc, ◌%◌}
use Rattle.std.proofs.Math.Decide.{ℕ_discrete}
use Rattle.bits.specs.TablesLaws.{tab-ext}
use Rattle.regs.specs.declared.Dir.TheVariants.{Out}
use Rattle.regs.specs.Enables as enables
use Rattle.state.specs.declared.EpState.{EpState}
use Rattle.state.specs.declared.Globals.{Globals}
use Rattle.state.specs.Ep.{reset_of}
use Rattle.state.specs.Fresh.{clear_stamps}
use Rattle.state.specs.Kept.{with_ep_config, with_ep_type}
use Rattle.state.specs.Driver.{Driver, key, ep_on, with_on, stamp_on, request_on}
use Rattle.state.specs.Laws.{Sized}
use Rattle.ring.specs.Marks.{armed}
use Rattle.ring.specs.Only.{Only}
use Rattle.ring.specs.Slot.{slot_addr}
use Rattle.ring.specs.Out.{armed_at}
use Rattle.ring.specs.Waiting.{SamePlace}
use Rattle.ring.specs.Laws.{place-addr, place-trans}
use Rattle.ring.proofs.OutLaws.{armed-alike}
use Rattle.script.specs.Cells.{EpCore}
use Rattle.script.specs.Script.{switch}
use Rattle.script.specs.Statics.{is_on}
use Rattle.script.specs.Bus as bus
use Rattle.script.specs.Simulates.{Phase, quiet, mid}
use Rattle.script.specs.Machine.{Buf}
use Rattle.script_ops.specs.Rings.{St, renewed_on, arm_at, slot_step, type_step, config_step}
use Rattle.script_ops.specs.Stamps.{cleared-stamp}
use Rattle.proof_book.specs.Coupling.{end_of, slot_stamps}
use Rattle.proof_book.specs.LensLaws.{key-other, stamps-mod, stamps-clear-other}
use Rattle.proof_book.specs.FrameLaws.{Changed, same_place, changed-on, changed-clear, changed-trans}
use Rattle.proof_book.proofs.ResetsLaws.{reset-place}
use Rattle.proof_isolation.specs.EqualExcept.{Stays, EqualExcept, Channel, LowEquiv}
use Rattle.proof_isolation.specs.Apart.{Pair}
use Rattle.proof_isolation.specs.PairsLaws.{Any, Steps, p-then, p_test, p-row}
use Rattle.proof_isolation.specs.ButsLaws.{stays-any, but-parts, but-globals, but-on, changed-seat, like-made}
use Rattle.proof_isolation.specs.ButsLaws.{lawful-first}
use Rattle.proof_isolation.specs.ButsLaws.{lawful-next, row-over}
use Rattle.proof_isolation.specs.BytesLaws.{armed-like, only-like}
use Rattle.proof_isolation.proofs.ValuesLaws.{p-wake, p-plain-any}
use Rattle.proof_isolation.proofs.PollingLaws.{reset-stays}

-- ---- the record reset, its stamps cleared

module _ {x : ℕ} {d d' : Driver} (z : Sized d) (z' : Sized d') (h : EqualExcept x d d') (e : ℕ) where
  clear-stamps : (f : ℕ) → key Out f ≢ key Out x → slot_stamps (clear_stamps d e) f ≡ slot_stamps (clear_stamps d' e) f
  clear-stamps f n = elim (ℕ_discrete (f % 16) (e % 16)) [
    | yes p ↦ stamps-mod (clear_stamps d e) f e p
        ∙ tab-ext (λ j. stamp_on (clear_stamps d' e) e j) (λ j. stamp_on (clear_stamps d e) e j) 16
        (λ j l. cleared-stamp d e z j ∙ sym (cleared-stamp d' e z' j))
        ∙ sym (stamps-mod (clear_stamps d' e) f e p)
    | no p ↦ stamps-clear-other d e f (key-other Out f e p) ∙ h.stamps f n
        ∙ sym (stamps-clear-other d' e f (key-other Out f e p))
  ]

  clear-but : EqualExcept x (clear_stamps d e) (clear_stamps d' e)
  unfolding clear_stamps request_on
  clear-but = but-parts h h.globals h.control h.paced h.wakes h.requests clear-stamps

  renewed-but : EqualExcept x (renewed_on d e) (renewed_on d' e)
  unfolding renewed_on
  renewed-but = but-on clear-but (changed-clear z e).sized
      (changed-clear z' e).sized Out e _ _ (λ n. ap reset_of (h.eps Out e n)) (λ _. reset-stays (stays-any h Out e))

renewed-changed : {d : Driver} → Sized d → (e : ℕ) → Changed Out e d (renewed_on d e)
unfolding renewed_on clear_stamps ep_on
renewed-changed {d} z e = changed-trans z Out e (changed-clear z e)
    (changed-on (changed-clear z e).sized Out e (reset_of (ep_on d Out e)) (reset-place (ep_on d Out e)) refl)

-- ---- a slot armed

armed-stays : {r r' : EpState} (a a' : ℕ) → Stays r r' → Stays (armed_at r a) (armed_at r' a')
unfolding armed_at
armed-stays a a' h = record {
  place = record {
    base = h.place.base;
    stride = h.place.stride;
    slots
        = h.place.slots;
  };
  plain = h.plain;
}

armed-changed : {d : Driver} → Sized d → (e a : ℕ) → Changed Out e d (with_on d Out e (armed_at (ep_on d Out e) a))
unfolding armed_at
armed-changed {d} z e a = changed-on z Out e (armed_at (ep_on d Out e) a) (armed-alike (ep_on d Out e) a).place refl

module _ (c : Channel) (e : ℕ) where
  -- the number that a step hands out, and what it leaves
  record Armed (d : Driver) (lo hi : ℕ) (x y : ℕ × St) : Type 0 where
    address : x.0 ≡ y.0
    but : EqualExcept c.number x.1.0 y.1.0
    seat : SamePlace (ep_on d Out c.number) (ep_on x.1.0 Out c.number)
    bytes : Only lo hi x.1.1 y.1.1

  module _ {d d' : Driver} (z : Sized d) (z' : Sized d') (h : EqualExcept c.number d d') {lo hi : ℕ} {b b' : Buf}
      (o : Only lo hi b b') (k : ℕ) where
    arms : Armed d lo hi (arm_at e k (d, b)) (arm_at e k (d', b'))
    unfolding with_on
    arms =
        let r = ep_on d Out e in
        let r' = ep_on d' Out e in
        let i = stays-any h Out e in
        let a : slot_addr r' k ≡ slot_addr r k = place-addr i.place k in
        let m : r'.max_len ≡ r.max_len = ap (λ (p : EpCore). p.max_len) i.plain in
        record {
          address = sym a;
          but = but-on h z z' Out e _ _ (λ n. ap (λ (r : EpState). armed_at r (slot_addr r k)) (h.eps Out e n))
              (λ _. armed-stays (slot_addr r k) (slot_addr r' k) i);
          seat = changed-seat c.number (armed-changed z e (slot_addr r k));
          bytes = subst (λ n. Only lo hi (armed b (slot_addr r k) r.max_len) (armed b' n r'.max_len)) (sym a)
              (subst (λ n. Only lo hi (armed b (slot_addr r k) r.max_len) (armed b' (slot_addr r k) n))
              (sym m) (only-like o (λ j g. armed-like b b' (slot_addr r k) r.max_len j g)));
        }

  -- from the reset record on
  module _ {d d' : Driver} (z : Sized d) (z' : Sized d') (h : EqualExcept c.number d d') {lo hi : ℕ} {b b' : Buf}
      (o : Only lo hi b b') (k : ℕ) where
    arms_by_lem : (u : Bool) → Armed d lo hi (arm_at e k (cond u (renewed_on d e) d, b))
        (arm_at e k (cond u (renewed_on d' e) d', b'))
    arms_by_lem true =
        let y = renewed-changed z e in
        let y' = renewed-changed z' e in
        let q = arms y.sized y'.sized (renewed-but z z' h e) o k in
        record {
          address = q.address;
          but = q.but;
          seat = place-trans (changed-seat c.number y) q.seat;
          bytes = q.bytes;
        }
    arms_by_lem false = arms z z' h o k

  module _ (iso : c.iso Out e ≡ true) (onn : Bool) where
    slot_armed : {φ : Phase} (k : ℕ) (s t : St) → LowEquiv c φ s t
        → Armed s.0 (ep_on s.0 Out c.number).base (end_of (ep_on s.0 Out c.number)) (slot_step e k s)
        (slot_step e k t)
    unfolding slot_step
    slot_armed k s t l = rw (l.left.has.flags Out e ∙ iso, l.right.has.flags Out e ∙ iso)
        (arms_by_lem l.left.rest.sized l.right.rest.sized l.but l.bytes k (eqb k 15))

    first : (s t : St) → LowEquiv c quiet s t → Steps c (switch e onn) 18 s t
    first s t l =
        let q = slot_armed 15 s t l in (
          q.address,
          like-made l (lawful-first c (switch e onn) l.left) (lawful-first c (switch e onn) l.right)
              q.but q.seat q.bytes,
        )

    -- ---- the kind and the enable bit

    word_same : {φ : Phase} (s t : St) → LowEquiv c φ s t → (f : Globals → ℕ)
        → cond (is_on (ep_on s.0 Out e).iso) (enables.with_on (f s.0.globals) Out e onn) (f s.0.globals)
        ≡ cond (is_on (ep_on t.0 Out e).iso) (enables.with_on (f t.0.globals) Out e onn) (f t.0.globals)
    word_same s t l f =
        let p : (ep_on s.0 Out e).iso ≡ (ep_on t.0 Out e).iso
        = sym (ap (λ (p : EpCore). p.iso) (stays-any l.but Out e).plain) in
        λ i. cond (is_on (p i)) (enables.with_on (f (l.but.globals i)) Out e onn) (f (l.but.globals i))

    next : (n : ℕ) (s t : St) → LowEquiv c (mid (switch e onn) (suc n)) s t → Steps c (switch e onn) n s t
    unfolding config_step type_step ep_on
    next zero s t l =
        let v = word_same s t l (λ g. g.ep_config) in (
          v,
          like-made l (lawful-next c (switch e onn) 0 l.left) (lawful-next c (switch e onn) 0 l.right)
              (but-globals l.but _ _ (λ i. with_ep_config (v i) (l.but.globals i)))
              (same_place (ep_on s.0 Out c.number)) l.bytes,
        )
    next (suc zero) s t l =
        let v = word_same s t l (λ g. g.ep_type) in (
          v,
          like-made l (lawful-next c (switch e onn) 1 l.left) (lawful-next c (switch e onn) 1 l.right)
              (but-globals l.but _ _ (λ i. with_ep_type (v i) (l.but.globals i)))
              (same_place (ep_on s.0 Out c.number)) l.bytes,
        )
    next (suc (suc zero)) s t l = (
      refl,
      like-made l (lawful-next c (switch e onn) 2 l.left)
          (lawful-next c (switch e onn) 2 l.right) l.but (same_place (ep_on s.0 Out c.number)) l.bytes,
    )
    next (suc (suc (suc k))) s t l =
        let q = slot_armed k s t l in (
          q.address,
          like-made l (lawful-next c (switch e onn) (suc (suc (suc k))) l.left)
              (lawful-next c (switch e onn) (suc (suc (suc k))) l.right) q.but q.seat q.bytes,
        )

    pub p_set_enabled : {st : ℕ} → Pair c st Any (bus.set_enabled Out e onn) (bus.set_enabled Out e onn)
    p_set_enabled = p-plain-any c Out e
        (λ s r _ _ f. p-then (p_test _ (λ _. p-row (switch e onn) next (row-over c (switch e onn)) first)
        (λ h. absurd (true≢false (sym (f ∙ iso) ∙ h)))) (p-wake c Out e))
