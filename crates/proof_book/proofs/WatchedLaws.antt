-- Request Eight over every list of calls: nothing but its own arming and the chip changes an armed slot, so a packet
-- stored alone since its slot was armed is found with its length and its bytes. Driver and watched book agree (`Agree`)
-- by a relation that says so of the slot
use Rattle.std.specs.Prelude.{Bool, true, false, cond, List, ◌⊎◌, ◌≡◌, refl, ℕ, ◌+◌, ◌%◌, ◌≤◌, ◌<◌, eqb, length, get_or, drop}
use Rattle.std.proofs.Common.{true≢false, inl, inr, ⊎_elim, ap, subst, sym, ◌∙◌, arith, eqb-true, length-take, length-drop, get_or-drop, get_or-take, ext_get_or}
use Rattle.regs.specs.declared.Dir.TheVariants.{Out, In}
use Rattle.state.specs.declared.EpState.{EpState}
use Rattle.state.specs.Driver.{Driver, ep_on}
use Rattle.ring.specs.Marks.{mark_byte, reach, armed, marked_len}
use Rattle.ring.specs.Copies.{bytes_at}
use Rattle.ring.specs.Finds.{LastDiffers}
use Rattle.ring.proofs.MarksSlots.{only-armed, armed-empties, len_is}
use Rattle.script.specs.Cells.{EpCore, Cell, Val, globals-cell, control-cell, allocator-cell, ep-cell, request-cell}
use Rattle.script.specs.Cells.{paced_cell}
use Rattle.script.specs.Script.{Act, complete, reset_ring, set_enabled_lem, fill, fill0, open_oldest, close_oldest}
use Rattle.script.specs.Script.{take_oldest, enqueue, allocate, allocate0, no_wakes, waken}
use Rattle.script.specs.Simulates.{Phase}
use Rattle.script.specs.Statics.{is_on}
use Rattle.script.specs.Machine.{Buf}
use Rattle.proof_book.specs.Pages.{OutPage, Pages, at, with_out}
use Rattle.proof_book.specs.Book.{some, waits_on, open_out, read_out, room_b}
use Rattle.proof_book.specs.Book.{iso_out, put_b, act_b, iso_of}
use Rattle.proof_book.specs.Coupling.{Coupling}
use Rattle.proof_book.specs.LensLaws.{ep-mod}
use Rattle.proof_book.specs.HeldLaws.{Words}
use Rattle.proof_book.proofs.SwitchesLaws.{slot-words}
use Rattle.proof_book.proofs.UntouchedLaws.{Untouched}
use Rattle.proof_book.specs.Watched.{Watch, watch_act, slot_at, most, Alone, Whole}

module _ (e : ℕ) (packet : List ℕ) where
  -- each byte of the slot up to the maximum is the mark's, or the packet's at its place
  abbrev pub Clean : Pages → Buf → Type 0
  Clean t b = (k : ℕ) → k < most e t → (get_or b (slot_at e t + k) 0 ≡ mark_byte k) ⊎ ((k < length packet) × (get_or b (slot_at e t + k) 0 ≡ get_or packet k 0))

  -- the chip's stores leave it so
  pub clean-stored : (t : Pages) (b b' : Buf) → Clean t b → Alone e packet t b b' → Clean t b'
  clean-stored t b b' c a k h = ⊎_elim (λ p. ⊎_elim (λ q. inl (p ∙ q)) (λ q. inr (q.0, p ∙ q.1)) (c k h)) (λ p. inr p) (a k h)

  -- the slot's place and maximum stay
  pub record Stays (t u : Pages) : Type 0 where
    pub slot : slot_at e u ≡ slot_at e t
    pub size : most e u ≡ most e t

  module _ {φ : Phase} {b : Buf} {d : Driver} {t : Pages} (R : Coupling φ b d t) where
    slot_mod : (f : ℕ) → e % 16 ≡ f % 16 → (t.outs f).slot ≡ slot_at e t
    slot_mod f h = sym (R.outs f).slot ∙ ap (λ (r : EpState). r.armed_slot) (sym (ep-mod d Out e f h))
        ∙ (R.outs e).slot

    most_mod : (f : ℕ) → e % 16 ≡ f % 16 → (t.kept.plain Out f).max_len ≡ most e t
    most_mod f h = ap (λ (p : EpCore). p.max_len) (sym (R.same.plain Out f))
        ∙ ap (λ (r : EpState). r.max_len) (sym (ep-mod d Out e f h))
        ∙ ap (λ (p : EpCore). p.max_len) (R.same.plain Out e)

    -- a page that keeps its slot
    out_stays : (f : ℕ) (p : OutPage) → p.slot ≡ (t.outs f).slot → (at f p t.outs e).slot ≡ slot_at e t
    out_stays f p h = by (eqb (e % 16) (f % 16)) refl
      where
        by : (z : Bool) → eqb (e % 16) (f % 16) ≡ z → (cond z p (t.outs e)).slot ≡ slot_at e t
        by true g = h ∙ slot_mod f (eqb-true (e % 16) (f % 16) g)
        by false g = refl

    plain_stays : (f : ℕ) (p : EpCore) → p.max_len ≡ (t.kept.plain Out f).max_len
        → (at f p (t.kept.plain Out) e).max_len ≡ most e t
    plain_stays f p h = by (eqb (e % 16) (f % 16)) refl
      where
        by : (z : Bool) → eqb (e % 16) (f % 16) ≡ z → (cond z p (t.kept.plain Out e)).max_len ≡ most e t
        by true g = h ∙ most_mod f (eqb-true (e % 16) (f % 16) g)
        by false g = refl

    -- where the slot's bytes are untouched
    pub clean_moved : (u : Pages) (b' : Buf) → Stays t u → Untouched R e b' → Clean t b → Clean u b'
    clean_moved u b' s n c k h =
        let l : k < most e t = omega (arith, s.size) in
        let w : slot_at e u + k ≡ slot_at e t + k = omega (arith, s.slot) in
        let m : k < (ep_on d Out e).stride = omega (arith, (R.outs e).held.least, ap (λ (p : EpCore). p.max_len) (R.same.plain Out e)) in
        let y : get_or b' (slot_at e t + k) 0 ≡ get_or b (slot_at e t + k) 0 = n (slot_at e t + k) (omega arith) (omega arith) in
        subst (λ x. (get_or b' x 0 ≡ mark_byte k) ⊎ ((k < length packet) × (get_or b' x 0 ≡ get_or packet k 0))) (sym w)
        (⊎_elim (λ q. inl (y ∙ q)) (λ q. inr (q.0, y ∙ q.1)) (c k l))

    pub put_stays : (c : Cell) (v : Val c) → Stays t (put_b c v (t, b)).0
    put_stays globals-cell v = record { slot = refl; size = refl }
    put_stays control-cell v = record { slot = refl; size = refl }
    put_stays allocator-cell v = record { slot = refl; size = refl }
    put_stays (ep-cell Out f) v = record { slot = refl; size = plain_stays f _ refl }
    put_stays (ep-cell In f) v = record { slot = refl; size = refl }
    put_stays (request-cell dir f) v = record { slot = refl; size = refl }
    put_stays (paced_cell f) v = record { slot = refl; size = refl }

    either : (z : Bool) (u : Pages) → Stays t u → Stays t (cond z u t)
    either true u s = s
    either false u s = record { slot = refl; size = refl }

    opens : (z : Bool) (f : ℕ) → Stays t (cond z (with_out t f (open_out (t.outs f))) t)
    opens z f = either z _ (record { slot = out_stays f _ refl; size = refl })

    reads : (z : Bool) (f : ℕ) → Stays t (cond z (with_out t f (read_out (t.outs f))) t)
    reads z f = either z _ (record { slot = out_stays f _ refl; size = refl })

    enables : (z : Bool) (u : Pages) → slot_at e u ≡ slot_at e t → most e u ≡ most e t → Stays t (cond z t u)
    enables true u p q = record { slot = refl; size = refl }
    enables false u p q = record { slot = p; size = q }

    queues : (z : Bool) (u c : Pages × Buf) → Stays t u.0 → Stays t c.0 → Stays t (cond z u c).0
    queues true u c s w = s
    queues false u c s w = w

    pub act_stays : (q : Act) (w : Watch) → (watch_act q w).armed ≡ true → Stays t (act_b q (t, b)).0
    act_stays (complete f) w h = record { slot = refl; size = refl }
    act_stays (reset_ring Out f) w h = enables (iso_of t Out f) _ (out_stays f _ refl) refl
    act_stays (reset_ring In f) w h = record { slot = refl; size = refl }
    act_stays (set_enabled_lem dir f on) w h = enables (iso_out t dir f) _ refl refl
    act_stays (fill f bytes) w h = record { slot = refl; size = refl }
    act_stays (fill0 bytes) w h = record { slot = refl; size = refl }
    act_stays (open_oldest f) w h = opens (some (waits_on t Out f)) f
    act_stays (close_oldest f) w h = reads (t.outs f).opened f
    act_stays (take_oldest f) w h = reads (some (waits_on t Out f)) f
    act_stays (enqueue f bytes) w h = queues (room_b t f (length bytes)) _ _ (record { slot = refl; size = refl })
        (record { slot = refl; size = refl })
    act_stays (allocate dir kind address maximum interval) w h = absurd (true≢false (sym h))
    act_stays (allocate0 maximum) w h = absurd (true≢false (sym h))
    act_stays no_wakes w h = record { slot = refl; size = refl }
    act_stays (waken codes) w h = record { slot = refl; size = refl }

    -- a slot that was armed in this step
    pub clean_armed : (f : ℕ) → e % 16 ≡ f % 16 → is_on (ep_on d Out f).iso ≡ true → (a : Buf)
        → b ≡ armed a (ep_on d Out f).armed_slot (ep_on d Out f).max_len → Clean t b
    clean_armed f h i a s k l =
        let r = ep_on d Out f in
        let x : slot_at e t ≡ r.armed_slot = sym (slot_mod f h) ∙ sym (R.outs f).slot in
        let m : most e t ≡ r.max_len = sym (most_mod f h)
        ∙ ap (λ (p : EpCore). p.max_len) (sym (R.same.plain Out f)) in
        let w : Words r.stride = slot-words R f i in
        let n : length b ≡ length a = ap length s ∙ (only-armed a r.armed_slot r.max_len).long in
        let z : r.armed_slot + reach r.max_len ≤ length a =
        omega (
          arith,
          w.0,
          w.1,
          (R.outs f).held.least,
          (R.outs f).slot,
          (R.outs f).upto,
          (R.outs
              f).held.placed.inside,
          n,
        ) in
        inl (ap (λ y. get_or b (y + k) 0) x ∙ ap (λ (c : Buf). get_or c (r.armed_slot + k) 0) s
        ∙ sym (get_or-drop r.armed_slot (armed a r.armed_slot r.max_len) k 0)
        ∙ armed-empties a r.armed_slot r.max_len z k (omega (arith, m)))

  -- ---- what it says

  pub true_length : {φ : Phase} {b : Buf} {d : Driver} {t : Pages} → Coupling φ b d t → Clean t b → length packet
      ≤ (ep_on d Out e).max_len
      → Whole e packet t b → LastDiffers (length packet) packet
      → (marked_len b (ep_on d Out e).armed_slot (ep_on d Out e).max_len ≡ length packet)
      × (bytes_at b (ep_on d Out e).armed_slot (length packet) ≡ packet)
  true_length {b = b} {d = d} {t = t} R c small whole last =
      let r = ep_on d Out e in
      let x : slot_at e t ≡ r.armed_slot = sym (R.outs e).slot in
      let m : most e t ≡ r.max_len = ap (λ (p : EpCore). p.max_len) (sym (R.same.plain Out e)) in
      let fits : r.armed_slot + r.max_len ≤ length b =
      omega (arith, (R.outs e).held.least, (R.outs e).slot, (R.outs e).upto, (R.outs e).held.placed.inside) in
      let byte : (k : ℕ) → k < length packet → get_or (drop r.armed_slot b) k 0 ≡ get_or packet k 0 =
      λ k h. get_or-drop r.armed_slot b k 0 ∙ ap (λ y. get_or b (y + k) 0) (sym x) ∙ whole k h in (
        len_is b r.armed_slot (length packet) r.max_len fits small (λ k h g. last k h (sym (byte k (omega (arith, h))) ∙ g))
            (λ k l h. get_or-drop r.armed_slot b k 0 ∙ ap (λ y. get_or b (y + k) 0) (sym x)
            ∙ ⊎_elim (λ q. q) (λ q. absurd (omega (arith, q.0))) (c k (omega (arith, m)))),
        ext_get_or 0 (bytes_at b r.armed_slot (length packet)) packet
            (omega (arith, length-take (length packet) (drop r.armed_slot b), length-drop r.armed_slot b))
            (λ k l. let h : k < length packet = omega (arith, length-take (length packet) (drop r.armed_slot b)) in
            get_or-take (length packet) (drop r.armed_slot b) k 0 h ∙ byte k h),
      )
