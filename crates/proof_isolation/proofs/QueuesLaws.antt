-- A queue of another, and stores of the chip outside of the channel's slots: they and what an interrupt's scripts read,
-- assign and do for the channel may come in either order
use Rattle.std.specs.Prelude.{Bool, ◌&&◌, List, [], ◌∷◌, ◌≢◌, ◌≡◌, ℕ, ◌+◌, ◌*◌, ◌/◌, ◌%◌, ◌≤◌, ◌<◌, ltb, length, get_or, set}
use Rattle.std.proofs.Math.Bool.{true, false, not, cond}
use Rattle.std.proofs.Common.{true≢false, inl, inr, ⊎_elim, ◌∙◌, arith, length-set, get_or-set_other}
use Rattle.std.proofs.Math.Path.{refl, ap, sym}
use Rattle.std.proofs.Math.Decide.{ℕ_discrete}
use borrow.Author.Tests.{ltb-false}
use Rattle.std.proofs.lemmas.List.{set_comm}
use Rattle.bits.specs.Bit.{bit_is_set}
use Rattle.regs.specs.declared.Dir.{Dir}
use Rattle.regs.specs.declared.Dir.TheVariants.{Out, In}
use Rattle.state.specs.declared.EpState.{EpState}
use Rattle.state.specs.Wakes.{Wakes}
use Rattle.state.specs.Driver.{Driver, key, with_eps, ep_on, with_on, with_len_on, request_on, paced_on, with_wakes}
use Rattle.state.specs.Driver.{with_request_on, with_paced_on}
use Rattle.state.specs.Laws.{Sized, ep_on-same, ep_on-other, with_on-twice, key_apart}
use Rattle.ring.specs.Copies.{copied}
use Rattle.ring.specs.Marks.{armed, is_marked, marked_len}
use Rattle.ring.proofs.MarksSlots.{marked-same, len-same, only-copied}
use Rattle.ring.specs.Only.{Only, Same}
use Rattle.ring.specs.OnlyLaws.{only-apart, only_wider}
use Rattle.ring.specs.Slot.{slot_of, slot_addr, count_of, joined_of}
use Rattle.ring.specs.Slots.{slot-from, slot-upto}
use Rattle.ring.specs.In.{has_room_in}
use Rattle.ring.specs.Out.{capped_at}
use Rattle.script.specs.Cells.{Cell, Val, EpCore, globals-cell, control-cell, allocator-cell, ep-cell, request-cell}
use Rattle.script.specs.Cells.{paced_cell}
use Rattle.script.specs.Script.{changed, marked, arrive}
use Rattle.script.specs.Statics.{is_on, iso_outs}
use Rattle.script.specs.Simulates.{quiet}
use Rattle.script.specs.Machine.{Buf}
use Rattle.script_ops.specs.Records.{plain_of, merged}
use Rattle.script_ops.specs.Rings.{St, changed_on, marked_on, room_in, room_on, queued_on, enqueue_on, admitted_on}
use Rattle.script_ops.specs.Concrete.{get_on, put_on, is_of, look_of, hand_on}
use Rattle.proof_book.specs.Coupling.{end_of}
use Rattle.proof_book.specs.LensLaws.{key-ep, ep-len}
use Rattle.proof_book.specs.HeldLaws.{receives, iso-used, receives-used, good-words}
use Rattle.proof_book.proofs.ArrivesLaws.{admitted-fits}
use Rattle.proof_book.specs.FrameLaws.{changed-len}
use Rattle.proof_isolation.specs.EqualExcept.{Lawful, Channel}
use Rattle.proof_isolation.specs.BytesLaws.{At, set-like, copied-like}
use Rattle.proof_isolation.specs.Stores.{patched, Lands}
use Rattle.proof_isolation.specs.OutRingsLaws.{given}
use Rattle.proof_isolation.proofs.OwnStepsLaws.{own_arrives}
use Rattle.proof_isolation.proofs.ValuesLaws.{in-other}
use Rattle.proof_isolation.specs.ElsewhereLaws.{Beyond, armed-beyond, joined_by, spared-none, spared-joined}
use Rattle.proof_isolation.specs.ElsewhereLaws.{arrive-spared}

-- ---- the bytes of an OUT endpoint's slots stay, so its armed slot is seen the same

module _ (c : Channel) (s : St) (l : Lawful c.iso quiet s) (a : ℕ) (i : c.iso Out a ≡ true) (t : St)
    (long : length t.1 ≡ length s.1) (record_same : ep_on t.0 Out a ≡ ep_on s.0 Out a)
    (bytes : (k : ℕ) → (ep_on s.0 Out a).base ≤ k → k < end_of (ep_on s.0 Out a) → get_or t.1 k 0
    ≡ get_or s.1 k 0) where
  slot_same : (n : ℕ) → n ≤ (ep_on s.0 Out a).stride
      → Same (ep_on s.0 Out a).armed_slot ((ep_on s.0 Out a).armed_slot + n) s.1 t.1
  slot_same n h k p q = let f = l.rest.outs a in bytes k (omega (arith, f.slot, f.from))
      (omega (arith, f.slot, f.upto))

  four : 4 ≤ (ep_on s.0 Out a).stride
  four =
      let u = iso-used l.rest a (l.has.flags Out a ∙ i) in
      let w = good-words s.0.allocator.size l.rest.good in omega (arith, u.stride, w.0)

  pub sees-changed : is_of (changed a) t ≡ is_of (changed a) s
  unfolding changed_on
  sees-changed =
      ap (λ (r : EpState). not (is_marked t.1 r.armed_slot)) record_same
      ∙ ap not (marked-same s.1 t.1 (ep_on s.0 Out a).armed_slot long (slot_same 4 four))

  pub sees-marked : look_of (marked a) t ≡ look_of (marked a) s
  unfolding marked_on
  sees-marked =
      let r = ep_on s.0 Out a in
      ap (λ (r : EpState). marked_len t.1 r.armed_slot r.max_len) record_same
      ∙ len-same s.1 t.1 r.armed_slot long r.max_len
      (slot_same r.max_len (l.rest.outs a).held.least)

-- ---- an arrival on the channel, where bytes outside of its slots change

module _ (c : Channel) (s : St) (l : Lawful c.iso quiet s) {g : Buf → Buf}
    (z : Beyond (ep_on s.0 Out c.number).base (end_of (ep_on s.0 Out c.number)) g) (m : ℕ) where
  arms-beyond : bit_is_set (iso_outs s.0.globals) (c.number % 16) ≡ true →
      let r = ep_on (admitted_on s.0 c.number (capped_at (ep_on s.0 Out c.number) m)) Out c.number in
      armed (g s.1) (slot_addr r r.head) r.max_len ≡ g (armed s.1 (slot_addr r r.head) r.max_len)
  arms-beyond u =
      let d = s.0 in
      let x = c.number in
      let r0 = ep_on d Out x in
      let r = ep_on (admitted_on d x (capped_at r0 m)) Out x in
      let p = (given l.rest.sized x m).place in
      let f = (admitted-fits l.rest x m u).held in
      let e : r.stride ≡ d.allocator.size = p.stride ∙ (receives-used l.rest x u).stride in
      let w = good-words d.allocator.size l.rest.good in
      let n : r.slots * r.stride ≡ r0.slots * r0.stride = (λ i. p.slots i * p.stride i) in
      armed-beyond z s.1 (slot_addr r r.head) r.max_len r.stride (omega (arith, e, w.0))
      (ap (λ x. x / 4 * 4) e ∙ w.1 ∙ sym e) f.least
      (omega (arith, slot-from f.placed r.head, p.base))
      (omega (arith, slot-upto f.placed r.head, p.base, n))

-- ---- stores

pub patch-long : (p : List (ℕ × ℕ)) (b : Buf) → length (patched p b) ≡ length b
patch-long [] b = refl
patch-long (q ∷ p) b = patch-long p (set b q.0 q.1) ∙ length-set b q.0 q.1

pub patch-like : (p : List (ℕ × ℕ)) (b e : Buf) (k : ℕ) → At k b e → At k (patched p b) (patched p e)
patch-like [] b e k h = h
patch-like (q ∷ p) b e k h = patch-like p (set b q.0 q.1) (set e q.0 q.1) k (set-like b e q.0 q.1 k h)

module _ (c : Channel) where
  module _ (d : Driver) where
    patch-inside : (p : List (ℕ × ℕ)) → Lands c d p → (b : Buf) (k : ℕ) → (ep_on d Out c.number).base ≤ k
        → k < end_of (ep_on d Out c.number) → get_or (patched p b) k 0 ≡ get_or b k 0
    patch-inside [] h b k lo hi = refl
    patch-inside (q ∷ p) h b k lo hi =
        patch-inside p h.2 (set b q.0 q.1) k lo hi
        ∙ get_or-set_other b q.0 k q.1 0 (λ e. ⊎_elim (λ z. absurd (omega (arith, e)))
        (λ z. absurd (omega (arith, e))) h.0)

    pub patch-beyond : (p : List (ℕ × ℕ)) → Lands c d p
        → Beyond (ep_on d Out c.number).base (end_of (ep_on d Out c.number)) (patched p)
    patch-beyond p h = record { long = patch-long p; inside = patch-inside p h; like = patch-like p }

  module _ (p : List (ℕ × ℕ)) (s : St) (l : Lawful c.iso quiet s) (h : Lands c s.0 p) where
    abbrev t : St
    t = (s.0, patched p s.1)

    pub changed-stored : is_of (changed c.number) t ≡ is_of (changed c.number) s
    changed-stored = sees-changed c s l c.number c.receives t (patch-long p s.1) refl
        (patch-inside s.0 p h s.1)

    pub marked-stored : look_of (marked c.number) t ≡ look_of (marked c.number) s
    marked-stored = sees-marked c s l c.number c.receives t (patch-long p s.1) refl
        (patch-inside s.0 p h s.1)

    pub arrive-stored : (m : ℕ) → let w = hand_on (arrive c.number m) s in
        hand_on (arrive c.number m) t ≡ (w.0, (w.1.0, patched p w.1.1))
    arrive-stored m = arrive-spared (spared-none c.number) (patched p) s.0 s.1 m
        (arms-beyond c s l (patch-beyond s.0 p h) m)

-- ---- a queue

module _ (e : ℕ) (bs : List ℕ) where
  -- by IN e's record
  abbrev queue_by : EpState → Driver → Driver
  queue_by r d = joined_by e (slot_of r r.head) (length bs) (joined_of r) d

  abbrev copy_by : EpState → Buf → Buf
  copy_by r b = copied b (slot_addr r r.head) bs

  abbrev enqueued_by : EpState → St → St
  enqueued_by r s = cond (room_in r (length bs)) (queue_by r s.0, copy_by r s.1) s

  queue-is : (s : St) → enqueue_on e bs s ≡ enqueued_by (ep_on s.0 In e) s
  unfolding enqueue_on queued_on room_on
  queue-is s = refl

  module _ (d : Driver) (z : Sized d) where
    abbrev r : EpState
    r = ep_on d In e

    queue-sized : Sized (with_len_on d In e (slot_of r r.head) (length bs))
    queue-sized = (changed-len z In e (slot_of r r.head) (length bs)).sized

    queue-ep : ep_on (queue_by r d) In e ≡ joined_of r
    queue-ep = ep_on-same (with_len_on d In e (slot_of r r.head) (length bs)) In e (joined_of r) queue-sized

    pub queue-other : (dir : Dir) (a : ℕ) → key dir a ≢ key In e → ep_on (queue_by r d) dir a ≡ ep_on d dir a
    queue-other dir a n = ep_on-other (with_len_on d In e (slot_of r r.head) (length bs)) In e (joined_of r) dir a n
        ∙ ep-len d In e (slot_of r r.head) (length bs) dir a

    queue-plain : (dir : Dir) (a : ℕ) → plain_of (ep_on (queue_by r d) dir a) ≡ plain_of (ep_on d dir a)
    unfolding joined_of
    queue-plain dir a = elim (ℕ_discrete (key dir a) (key In e)) [
      | yes p ↦ ap plain_of (key-ep (queue_by r d) dir In a e p ∙ queue-ep) ∙ ap plain_of (sym (key-ep d dir In a e p))
      | no p ↦ ap plain_of (queue-other dir a p)
    ]

    -- a record assigned before it and after it
    assigned : (dir : Dir) (a : ℕ) (v : EpCore) → let d' = with_on d dir a (merged (ep_on d dir a) v) in
        with_on (queue_by r d) dir a (merged (ep_on (queue_by r d) dir a) v) ≡ queue_by (ep_on d' In e) d'
    unfolding joined_of slot_of with_on with_len_on
    assigned dir a v = elim (ℕ_discrete (key dir a) (key In e)) [
      | yes p ↦
          let m = with_len_on d In e (slot_of r r.head) (length bs) in
          (λ i. with_eps (queue_by r d) (set (queue_by r d).eps (p i) (merged (ep_on (queue_by r d) dir a) v)))
          ∙ ap (λ (q : EpState). with_on (queue_by r d) In e (merged q v)) (key-ep (queue_by r d) dir In a e p ∙ queue-ep)
          ∙ with_on-twice m In e (joined_of r) (merged (joined_of r) v)
          ∙ sym (with_on-twice m In e (merged r v) (joined_of (merged r v)))
          ∙ ap (λ (q : EpState). queue_by q (with_on d In e (merged r v))) (sym (ep_on-same d In e (merged r v) z))
          ∙ ap (λ (x : Driver). queue_by (ep_on x In e) x)
          (sym ((λ i. with_eps d (set d.eps (p i) (merged (ep_on d dir a) v)))
          ∙ (λ i. with_on d In e (merged (key-ep d dir In a e p i) v))))
      | no p ↦
          let m = with_len_on d In e (slot_of r r.head) (length bs) in
          ap (λ (q : EpState). with_on (queue_by r d) dir a (merged q v)) (queue-other dir a p)
          ∙ ap (with_eps m) (set_comm d.eps (key In e) (key dir a) (joined_of r) (merged (ep_on d dir a) v)
          (λ q. p (sym q)))
          ∙ ap (λ (q : EpState). queue_by q (with_on d dir a (merged (ep_on d dir a) v)))
          (sym (ep_on-other d dir a (merged (ep_on d dir a) v) In e (λ q. p (sym q))))
    ]

  module _ (s : St) (z : Sized s.0) where
    pub get-queue : (q : Cell) → get_on q (enqueue_on e bs s) ≡ get_on q s
    unfolding with_on with_len_on request_on paced_on
    get-queue q = ap (get_on q) (queue-is s) ∙ by q (room_in (ep_on s.0 In e) (length bs))
      where
        by : (q : Cell) (u : Bool) → let r = ep_on s.0 In e in
            get_on q (cond {A = St} u (queue_by r s.0, copy_by r s.1) s) ≡ get_on q s
        by globals-cell true = refl
        by control-cell true = refl
        by allocator-cell true = refl
        by (ep-cell dir a) true = queue-plain s.0 z dir a
        by (request-cell dir a) true = refl
        by (paced_cell a) true = refl
        by q false = refl

    -- what an assignment leaves of IN e's record
    left-of : {X : Type 0} (f : EpState → X) → ((r : EpState) (v : EpCore) → f (merged r v) ≡ f r)
        → (dir : Dir) (a : ℕ) (v : EpCore)
        → f (ep_on (with_on s.0 dir a (merged (ep_on s.0 dir a) v)) In e) ≡ f (ep_on s.0 In e)
    left-of f h dir a v = elim (ℕ_discrete (key In e) (key dir a)) [
      | yes p ↦ ap f (key-ep (with_on s.0 dir a (merged (ep_on s.0 dir a) v)) In dir e a p
          ∙ ep_on-same s.0 dir a _ z)
          ∙ h (ep_on s.0 dir a) v ∙ ap f (sym (key-ep s.0 In dir e a p))
      | no p ↦ ap f (ep_on-other s.0 dir a _ In e p)
    ]

    room-left : (dir : Dir) (a : ℕ) (v : EpCore)
        → room_in (ep_on (with_on s.0 dir a (merged (ep_on s.0 dir a) v)) In e) (length bs)
        ≡ room_in (ep_on s.0 In e) (length bs)
    unfolding room_in has_room_in count_of
    room-left dir a v = left-of (λ r. room_in r (length bs)) (λ r v. refl) dir a v

    head-left : (dir : Dir) (a : ℕ) (v : EpCore) → let r = ep_on (with_on s.0 dir a (merged (ep_on s.0 dir a) v)) In
        e in
        slot_addr r r.head ≡ slot_addr (ep_on s.0 In e) (ep_on s.0 In e).head
    unfolding slot_addr slot_of
    head-left dir a v = left-of (λ r. slot_addr r r.head) (λ r v. refl) dir a v

    pub put-queue : (q : Cell) (v : Val q) → put_on q v (enqueue_on e bs s) ≡ enqueue_on e bs (put_on q v s)
    unfolding with_on with_len_on with_request_on with_paced_on ep_on
    put-queue q v = ap (put_on q v) (queue-is s) ∙ at q v (room_in (ep_on s.0 In e) (length bs)) refl
        ∙ sym (queue-is (put_on q v s))
      where
        at : (q : Cell) (v : Val q) (u : Bool) → room_in (ep_on s.0 In e) (length bs) ≡ u → let r = ep_on s.0 In e in
            put_on q v (cond {A = St} u (queue_by r s.0, copy_by r s.1) s)
            ≡ enqueued_by (ep_on (put_on q v s).0 In e) (put_on q v s)
        at globals-cell v true h = rw h refl
        at control-cell v true h = rw h refl
        at allocator-cell v true h = rw h refl
        at (ep-cell dir a) v true h =
            let d = (put_on (ep-cell dir a) v s).0 in
            (λ i. (assigned s.0 z dir a v i, copied s.1 (sym (head-left dir a v) i) bs))
            ∙ ap (λ u. cond {A = St} u (queue_by (ep_on d In e) d, copy_by (ep_on d In e) s.1) (d, s.1))
            (sym (room-left dir a v ∙ h))
        at (request-cell dir a) v true h = rw h refl
        at (paced_cell a) v true h = rw h refl
        at globals-cell v false h = rw h refl
        at control-cell v false h = rw h refl
        at allocator-cell v false h = rw h refl
        at (ep-cell dir a) v false h =
            let d = (put_on (ep-cell dir a) v s).0 in
            ap (λ u. cond {A = St} u (queue_by (ep_on d In e) d, copy_by (ep_on d In e) s.1) (d, s.1))
            (sym (room-left dir a v ∙ h))
        at (request-cell dir a) v false h = rw h refl
        at (paced_cell a) v false h = rw h refl

    pub wakes-queue : (w : Wakes) → (with_wakes (enqueue_on e bs s).0 w, (enqueue_on e bs s).1)
        ≡ enqueue_on e bs (with_wakes s.0 w, s.1)
    unfolding with_on with_len_on ep_on
    wakes-queue w = ap (λ (t : St). (with_wakes t.0 w, t.1)) (queue-is s)
        ∙ by (room_in (ep_on s.0 In e) (length bs)) refl
        ∙ sym (queue-is (with_wakes s.0 w, s.1))
      where
        by : (u : Bool) → room_in (ep_on s.0 In e) (length bs) ≡ u → let r = ep_on s.0 In e in
            let t = cond {A = St} u (queue_by r s.0, copy_by r s.1) s in
            (with_wakes t.0 w, t.1) ≡ enqueued_by r (with_wakes s.0 w, s.1)
        by true h = rw h refl
        by false h = rw h refl

    pub queue-wakes : (enqueue_on e bs s).0.wakes ≡ s.0.wakes
    unfolding with_on with_len_on
    queue-wakes = ap (λ (t : St). t.0.wakes) (queue-is s) ∙ by (room_in (ep_on s.0 In e) (length bs))
      where
        by : (u : Bool) → let r = ep_on s.0 In e in (cond {A = St} u (queue_by r s.0, copy_by r s.1) s).0.wakes
            ≡ s.0.wakes
        by true = refl
        by false = refl

and_parts : (a b c : Bool) → (a && (b && not c)) ≡ true → c ≡ false
and_parts true true false h = refl
and_parts true true true h = absurd (true≢false (sym h))
and_parts true false c h = absurd (true≢false (sym h))
and_parts false b c h = absurd (true≢false (sym h))

-- ---- a queue and the channel

module _ (c : Channel) (e : ℕ) (bs : List ℕ) (s : St) (l : Lawful c.iso quiet s) where
  abbrev rin : EpState
  rin = ep_on s.0 In e

  small : room_in rin (length bs) ≡ true → length bs ≤ rin.stride
  unfolding room_in
  small h = ltb-false rin.stride (length bs) (and_parts (is_on rin.iso) (has_room_in rin)
      (ltb rin.stride (length bs)) h)

  copy-only : room_in rin (length bs) ≡ true → (b : Buf) → Only rin.base (end_of rin) b (copy_by e bs rin b)
  copy-only h b =
      let p = (l.rest.ins e).held.placed in
      only_wider rin.base (end_of rin) (slot-from p rin.head) (omega (arith, slot-upto p rin.head, small h))
      (only-copied b (slot_addr rin rin.head) bs)

  -- outside of every OUT endpoint's slots
  copy-out : room_in rin (length bs) ≡ true → (a : ℕ) (b : Buf) (k : ℕ) → (ep_on s.0 Out a).base ≤ k
      → k < end_of (ep_on s.0 Out a) → get_or (copy_by e bs rin b) k 0 ≡ get_or b k 0
  copy-out h a b k lo hi = only-apart (ep_on s.0 Out a).base (end_of (ep_on s.0 Out a)) (copy-only h b)
      (⊎_elim (λ z. inl z) (λ z. inr z) (l.rest.apart Out In a e (key_apart a e))) k lo hi

  copy-beyond : room_in rin (length bs) ≡ true
      → Beyond (ep_on s.0 Out c.number).base (end_of (ep_on s.0 Out c.number)) (copy_by e bs rin)
  copy-beyond h = record {
    long = λ b. (only-copied b (slot_addr rin rin.head) bs).long;
    inside = copy-out h c.number;
    like = λ b b' k p. copied-like b b' (slot_addr rin rin.head) bs k p;
  }

  pub changed-queue : (a : ℕ) → c.iso Out a ≡ true → is_of (changed a) (enqueue_on e bs s) ≡ is_of (changed a) s
  changed-queue a i = ap (is_of (changed a)) (queue-is e bs s) ∙ by (room_in rin (length bs)) refl
    where
      by : (u : Bool) → room_in rin (length bs) ≡ u
          → is_of (changed a) (cond {A = St} u (queue_by e bs rin s.0, copy_by e bs rin s.1) s) ≡ is_of (changed a) s
      by true h = sees-changed c s l a i (queue_by e bs rin s.0, copy_by e bs rin s.1)
          (only-copied s.1 (slot_addr rin rin.head) bs).long
          (queue-other e bs s.0 l.rest.sized Out a (key_apart a e)) (copy-out h a s.1)
      by false h = refl

  pub marked-queue : (a : ℕ) → c.iso Out a ≡ true → look_of (marked a) (enqueue_on e bs s) ≡ look_of (marked a) s
  marked-queue a i = ap (look_of (marked a)) (queue-is e bs s) ∙ by (room_in rin (length bs)) refl
    where
      by : (u : Bool) → room_in rin (length bs) ≡ u
          → look_of (marked a) (cond {A = St} u (queue_by e bs rin s.0, copy_by e bs rin s.1) s)
          ≡ look_of (marked a) s
      by true h = sees-marked c s l a i (queue_by e bs rin s.0, copy_by e bs rin s.1)
          (only-copied s.1 (slot_addr rin rin.head) bs).long
          (queue-other e bs s.0 l.rest.sized Out a (key_apart a e)) (copy-out h a s.1)
      by false h = refl

  pub arrive-queue : (m : ℕ) → let w = hand_on (arrive c.number m) s in
      hand_on (arrive c.number m) (enqueue_on e bs s) ≡ (w.0, enqueue_on e bs w.1)
  arrive-queue m =
      ap (hand_on (arrive c.number m)) (queue-is e bs s) ∙ by (room_in rin (length bs)) refl
      ∙ ap (λ (r : EpState). (w.0, enqueued_by e bs r w.1)) stays
      ∙ ap (λ (t : St). (w.0, t)) (sym (queue-is e bs w.1))
    where
      w : ℕ × St
      w = hand_on (arrive c.number m) s

      stays : rin ≡ ep_on w.1.0 In e
      stays = (own_arrives c m s l).but.eps In e (in-other c.number e)

      by : (u : Bool) → room_in rin (length bs) ≡ u
          → hand_on (arrive c.number m) (cond {A = St} u (queue_by e bs rin s.0, copy_by e bs rin s.1) s)
          ≡ (w.0, enqueued_by e bs rin w.1)
      by true h =
          arrive-spared (spared-joined c.number e (slot_of rin rin.head) (length bs) (joined_of rin))
          (copy_by e bs rin) s.0 s.1 m
          (arms-beyond c s l (copy-beyond h) m)
          ∙ ap (λ u. (w.0, cond {A = St} u (queue_by e bs rin w.1.0, copy_by e bs rin w.1.1) w.1)) (sym h)
      by false h = ap (λ u. (w.0, cond {A = St} u (queue_by e bs rin w.1.0, copy_by e bs rin w.1.1) w.1))
          (sym h)
