-- No operation of a script changes a byte of the slot of OUT e's last receive address but those that hand out its next
-- one: what stands there is what its arming left and the chip stored since
use Rattle.std.specs.Prelude.{Bool, cond, ◌≢◌, List, ◌≡◌, ltb, eqb, length}
use Rattle.std.proofs.Math.Bool.{true, false}
use Rattle.std.proofs.Common.{inl, inr, ⊎_elim, sym, ◌∙◌, arith, ltb-false}
use Rattle.std.proofs.Math.Path.{refl, subst}
use Prim.Native.Nat.{ℕ, zero, suc, ◌+◌, ◌*◌, ◌%◌, ◌≤◌}
use Rattle.regs.specs.declared.Dir.{Dir}
use Rattle.regs.specs.declared.Dir.TheVariants.{Out, In}
use Rattle.state.specs.declared.EpState.{EpState}
use Rattle.state.specs.Driver.{Driver, ep_on}
use Rattle.state.specs.Laws.{key_apart}
use Rattle.ring.specs.Slot.{slot_of, slot_addr}
use Rattle.ring.specs.Out.{capped_at}
use Rattle.ring.specs.Slots.{slot-from, slot-upto}
use Rattle.ring.specs.Marks.{armed}
use Rattle.ring.specs.Copies.{copied}
use Rattle.ring.proofs.MarksSlots.{armed-slot, only-copied}
use Rattle.ring.specs.Stored.{StoredAlone}
use Rattle.ring.specs.Only as marks
use Rattle.ring.specs.OnlyLaws as marks-laws
use Rattle.script.specs.Cells.{Cell, Val, globals-cell, control-cell, allocator-cell, ep-cell, request-cell, paced_cell}
use Rattle.script.specs.Script.{Act, complete, reset_ring, set_enabled_lem, fill, fill0, open_oldest, close_oldest}
use Rattle.script.specs.Script.{take_oldest, enqueue, allocate, allocate0, no_wakes, waken, DmaStep, arrive, send, place}
use Rattle.script.specs.Script.{place0, Burst, switch, bus_reset_lem}
use Rattle.script.specs.Simulates.{Phase, quiet}
use Rattle.script.specs.Statics.{is_on}
use Rattle.script.specs.Machine.{Buf}
use Rattle.script_ops.specs.Rings.{St, room_on, queued_on, enqueue_on, filled_on, filled_ep0, arrived_at, arrive_on, renewed_on, arm_at, slot_step}
use Rattle.script_ops.specs.RingLaws.{room_fits}
use Rattle.script_ops.specs.Concrete.{concrete}
use Rattle.proof_book.specs.Pages.{Pages}
use Rattle.proof_book.specs.Coupling.{end_of, Apart, Coupling}
use Rattle.proof_book.specs.LensLaws.{key-other}
use Rattle.proof_book.specs.HeldLaws.{Words, receives}
use Rattle.proof_book.proofs.ArrivesLaws.{admits, admitted-changed, admitted-fits, arrived-words}
use Rattle.proof_book.proofs.SwitchesLaws.{fresh-ep, slot-words}

module _ {φ : Phase} {b : Buf} {d : Driver} {t : Pages} (R : Coupling φ b d t) (e : ℕ) where
  -- the bytes of that slot are as they were
  abbrev pub Untouched : Buf → Type 0
  Untouched b' = marks.Same (t.outs e).slot ((t.outs e).slot + (ep_on d Out e).stride) b b'

  -- a change in a region apart from the endpoint's leaves them
  apart-leaves : {b' : Buf} (lo hi : ℕ) → marks.Only lo hi b b' → Apart lo hi (ep_on d Out e).base (end_of (ep_on d Out e)) → Untouched b'
  apart-leaves lo hi o a =
      marks-laws.only-apart (t.outs e).slot ((t.outs e).slot + (ep_on d Out e).stride) o
      (⊎_elim (λ (h : hi ≤ (ep_on d Out e).base). inr (omega (arith, (R.outs e).from)))
      (λ (h : end_of (ep_on d Out e) ≤ lo). inl (omega (arith, (R.outs e).upto))) a)

  -- and so one in another endpoint's slot
  slot-leaves : {b' : Buf} (dir : Dir) (f at n : ℕ) → marks.Only at (at + n) b b' → (ep_on d dir f).base ≤ at → at + n ≤ end_of (ep_on d dir f)
      → Apart (ep_on d dir f).base (end_of (ep_on d dir f)) (ep_on d Out e).base (end_of (ep_on d Out e)) → Untouched b'
  slot-leaves dir f at n o l h a =
      apart-leaves (ep_on d dir f).base (end_of (ep_on d dir f))
      (marks-laws.only_wider (ep_on d dir f).base (end_of (ep_on d dir f)) l h o) a

  -- ---- puts and acts

  pub put-leaves : (c : Cell) (v : Val c) → Untouched (concrete.put c v (d, b)).1
  put-leaves globals-cell v = λ k l h. refl
  put-leaves control-cell v = λ k l h. refl
  put-leaves allocator-cell v = λ k l h. refl
  put-leaves (ep-cell dir f) v = λ k l h. refl
  put-leaves (request-cell dir f) v = λ k l h. refl
  put-leaves (paced_cell f) v = λ k l h. refl

  in_apart : (f : ℕ) → Apart (ep_on d In f).base (end_of (ep_on d In f)) (ep_on d Out e).base (end_of (ep_on d Out e))
  in_apart f = R.apart In Out f e (λ z. key_apart e f (sym z))

  enqueued : (f : ℕ) (bytes : List ℕ) (u : Bool) → room_on d f (length bytes) ≡ u
      → Untouched (cond {A = St} u (queued_on d f (length bytes), copied b (slot_addr (ep_on d In f) (ep_on d In f).head) bytes) (d, b)).1
  unfolding room_on
  enqueued f bytes true h =
      let g = (R.ins f).held.placed in
      let a = slot_addr (ep_on d In f) (ep_on d In f).head in
      slot-leaves In f a (length bytes) (only-copied b a bytes) (slot-from g (ep_on d In f).head)
      (omega (arith, slot-upto g (ep_on d In f).head, room_fits (ep_on d In f) (length bytes) h)) (in_apart f)
  enqueued f bytes false h = λ k l g. refl

  filled : (f : ℕ) (bytes : List ℕ) (i m : Bool) → ltb (ep_on d In f).max_len (length bytes) ≡ m
      → Untouched (cond i b (cond m b (copied b (ep_on d In f).base bytes)))
  filled f bytes true m h = λ k l g. refl
  filled f bytes false true h = λ k l g. refl
  filled f bytes false false h =
      let g = (R.ins f).held.placed in
      slot-leaves In f (ep_on d In f).base (length bytes) (only-copied b (ep_on d In f).base bytes) (omega arith)
      (omega (
        arith,
        slot-from g 0,
        slot-upto g 0,
        (R.ins f).held.least,
        ltb-false (ep_on d In f).max_len
            (length bytes) h,
      )) (in_apart f)

  filled0 : (bytes : List ℕ) (m : Bool) → ltb d.globals.ep0_max (length bytes) ≡ m
      → Untouched (cond m b (copied b d.globals.ep0_buf bytes))
  filled0 bytes true h = λ k l g. refl
  filled0 bytes false h =
      let a = d.globals.ep0_buf in
      apart-leaves a (a + length bytes) (only-copied b a bytes)
      (⊎_elim (λ z. inl (omega (arith, R.ep0_least, ltb-false d.globals.ep0_max (length bytes) h))) (λ z. inr z)
      (R.ep0_apart Out e))

  pub act-leaves : (q : Act) → Untouched (concrete.act q (d, b)).1
  unfolding enqueue_on filled_on filled_ep0
  act-leaves (complete f) = λ k l h. refl
  act-leaves (reset_ring dir f) = λ k l h. refl
  act-leaves (set_enabled_lem dir f on) = λ k l h. refl
  act-leaves (fill f bytes) = filled f bytes (is_on (ep_on d In f).iso) (ltb (ep_on d In f).max_len (length bytes))
      refl
  act-leaves (fill0 bytes) = filled0 bytes (ltb d.globals.ep0_max (length bytes)) refl
  act-leaves (open_oldest f) = λ k l h. refl
  act-leaves (close_oldest f) = λ k l h. refl
  act-leaves (take_oldest f) = λ k l h. refl
  act-leaves (enqueue f bytes) = enqueued f bytes (room_on d f (length bytes)) refl
  act-leaves (allocate dir kind address maximum interval) = λ k l h. refl
  act-leaves (allocate0 maximum) = λ k l h. refl
  act-leaves no_wakes = λ k l h. refl
  act-leaves (waken codes) = λ k l h. refl

  -- ---- rows that are not its own

  out-apart : (f : ℕ) → f % 16 ≢ e % 16 → Apart (ep_on d Out f).base (end_of (ep_on d Out f)) (ep_on d Out e).base
      (end_of (ep_on d Out e))
  out-apart f n = R.apart Out Out f e (key-other Out f e n)

  abbrev Armed : ℕ → ℕ → EpState → Type 0
  Armed f k r = Untouched (armed b (slot_addr r k) r.max_len)

  slot_armed : (f k : ℕ) → f % 16 ≢ e % 16 → is_on (ep_on d Out f).iso ≡ true → Armed f k (ep_on d Out f)
  slot_armed f k n i =
      let r = ep_on d Out f in
      let g = (R.outs f).held.placed in
      let w : Words r.stride = slot-words R f i in
      slot-leaves Out f (slot_addr r k) r.stride (armed-slot b (slot_addr r k) r.max_len r.stride w.0 w.1
      (R.outs f).held.least)
      (slot-from g k) (slot-upto g k) (out-apart f n)

  slot-by : (f k : ℕ) → f % 16 ≢ e % 16 → (i last : Bool) → is_on (ep_on d Out f).iso ≡ i
      → Untouched (cond i (arm_at f k (cond last (renewed_on d f) d, b)) ((ep_on d Out f).armed_slot, (d, b))).1.1
  unfolding slot_addr slot_of
  slot-by f k n true true h = subst (Armed f k) (sym (fresh-ep R f)) (slot_armed f k n h)
  slot-by f k n true false h = slot_armed f k n h
  slot-by f k n false last h = λ j l g. refl

  pub row-leaves : (g : Burst) (n : ℕ) → ((f : ℕ) (onn : Bool) → g ≡ switch f onn → f % 16 ≢ e % 16) → Untouched (concrete.row g n (d, b)).1.1
  unfolding slot_step
  row-leaves (switch f onn) zero m = λ k l h. refl
  row-leaves (switch f onn) (suc zero) m = λ k l h. refl
  row-leaves (switch f onn) (suc (suc zero)) m = λ k l h. refl
  row-leaves (switch f onn) (suc (suc (suc k))) m = slot-by f k (m f onn refl) (is_on (ep_on d Out f).iso) (eqb k 15)
      refl
  row-leaves bus_reset_lem zero m = λ k l h. refl
  row-leaves bus_reset_lem (suc zero) m = λ k l h. refl
  row-leaves bus_reset_lem (suc (suc zero)) m = λ k l h. refl
  row-leaves bus_reset_lem (suc (suc (suc k))) m = λ j l h. refl

-- ---- hands that are not its own

module _ {b : Buf} {d : Driver} {t : Pages} (R : Coupling quiet b d t) (e : ℕ) where
  arrive-by : (f n : ℕ) → f % 16 ≢ e % 16 → (u : Bool) → receives d f ≡ u
      → Untouched R e (cond u (arrived_at f (capped_at (ep_on d Out f) n) (d, b))
      ((ep_on d Out f).armed_slot, (d, b))).1.1
  arrive-by f n m true u =
      let r = ep_on (admits d f n) Out f in
      let c = admitted-changed d R.sized f (capped_at (ep_on d Out f) n) in
      let g = (admitted-fits R f n u).held.placed in
      slot-leaves R e Out f (slot_addr r r.head) r.stride (arrived-words R f n u)
      (omega (arith, c.place.base, slot-from g r.head))
      (let z : end_of r ≡ end_of (ep_on d Out f) = end_same c.place.base c.place.stride c.place.slots in omega
      (arith, z, slot-upto g r.head))
      (out-apart R e f m)
    where
      end_same : {x y z x' y' z' : ℕ} → x' ≡ x → y' ≡ y → z' ≡ z → x' + z' * y' ≡ x + z * y
      end_same p q s = λ i. p i + s i * q i
  arrive-by f n m false u = λ k l h. refl

  pub hand-leaves : (q : DmaStep) → ((f n : ℕ) → q ≡ arrive f n → f % 16 ≢ e % 16)
      → Untouched R e (concrete.hand q (d, b)).1.1
  unfolding arrive_on
  hand-leaves (arrive f n) m = arrive-by f n (m f n refl) (receives d f) refl
  hand-leaves (send f) m = λ k l h. refl
  hand-leaves (place dir f) m = λ k l h. refl
  hand-leaves place0 m = λ k l h. refl

-- a packet stored alone since its slot was armed still is, where that slot's bytes are untouched
pub alone-kept : (b : List ℕ) (at maximum size : ℕ) (packet c c' : List ℕ) → maximum ≤ size
    → StoredAlone b at maximum packet c
    → length c' ≡ length c → marks.Same at (at + size) c c' → StoredAlone b at maximum packet c'
alone-kept b at maximum size packet c c' h s l m = record {
  long = l ∙ s.long;
  slot = λ k p q. m k p (omega arith) ∙ s.slot k p q;
}
