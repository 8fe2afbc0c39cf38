-- IN rings: what is asked of them, and each of their operations
use Rattle.std.specs.Prelude.{Bool, cond, ◌&&◌, ◌≢◌, ◌≡◌, ℕ, ◌+◌, ◌*◌, ◌%◌, ◌≤◌, ◌<◌, eqb, ltb, length, set}
use Rattle.std.proofs.Math.Bool.{true, false, not}
use Rattle.std.proofs.Common.{true≢false, ap₂, ◌∙◌, arith, ltb-true}
use mathlib.Core.List.{List, [], ◌∷◌, ◌++◌, tail, append_assoc, append-nil}
use Rattle.std.proofs.Math.Path.{refl, ap, subst, sym}
use Rattle.bits.specs.Bit.{bit_is_set}
use Rattle.regs.specs.declared.Access.TheVariants.{Transmit}
use Rattle.regs.specs.declared.Dir.{Dir}
use Rattle.regs.specs.declared.Dir.TheVariants.{In}
use Rattle.state.specs.declared.EpState.{EpState}
use Rattle.state.specs.declared.Allocator.{Allocator}
use Rattle.state.specs.Driver.{Driver, ep_on, with_on, with_len_on}
use Rattle.state.specs.Laws.{ep_on-same}
use Rattle.alloc.specs.Alloc.{allocated_ins, slots_of}
use Rattle.ring.specs.Slot.{after, slot_of, slot_addr, count_of, has_waiting, joined_of, passed_of}
use Rattle.ring.specs.In.{has_room_in, completed_of, loaded_of, unloaded_of}
use Rattle.ring.specs.Waiting.{waiting, Same, Only, Placed, SamePlace, Alike}
use Rattle.ring.specs.Window.{window-is, only-apart}
use Rattle.ring.specs.Slots.{slot_is, slot-in, slot-lies, slot-upto, slots_apart}
use Rattle.ring.specs.Laws.{place-placed, place-trans, place-addr, head-away, alike-count, alike-waits, alike-in}
use Rattle.ring.specs.Laws.{waiting-length, waiting-head, slot-region, join-place, join-count, join-waits, join-ring}
use Rattle.ring.specs.Laws.{reset-waits, reset_ring, first_part}
use Rattle.ring.specs.InLaws as ring_in_lem
use Rattle.ring.specs.Copies.{copied}
use Rattle.ring.specs.OnlyLaws as marks-laws
use Rattle.ring.proofs.MarksSlots.{only-copied, copied-bytes}
use Rattle.script.specs.Cells.{EpCore}
use Rattle.script.specs.Script as script
use Rattle.script.specs.Statics.{is_on, flag}
use Rattle.script.specs.Simulates.{quiet}
use Rattle.script.specs.Machine.{Buf}
use Rattle.script_ops.specs.Records.{plain_of, iso_out}
use Rattle.script_ops.specs.Rings.{St, waiting_on, room_on, room_in, complete_on, emptied, emptied_on, queued_on, enqueue_on, send_on, send_addr, place_on}
use Rattle.script_ops.specs.RingLaws.{room_fits}
use Rattle.proof_book.specs.Pages.{InPage, Pages, with_in}
use Rattle.proof_book.specs.Book.{Bk, front, room_b, empty_in, passed_in, sent_in, source_told, placed_in, queued_in, feed_b}
use Rattle.proof_book.specs.Coupling.{Used, Shape, lens_of, Held, Stands, InFits, Coupling, Holds, Good}
use Rattle.proof_book.specs.LensLaws.{lens-on, lens-set, ep-len}
use Rattle.proof_book.specs.FrameLaws.{changed-not, changed-on, changed-len, changed-trans, in-same, in_twice}
use Rattle.proof_book.specs.FrameLaws.{kept_same, in_moved, in-changed, only-bytes, alike-tail, none-stands}
use Rattle.proof_book.specs.FrameLaws.{sending-count, in-again}
use Rattle.proof_book.specs.EmptyPagesLaws.{empty-in}
use Rattle.proof_book.specs.LiesLaws as in_Buffer
use Rattle.proof_book.specs.HeldLaws.{left, right, IsAgrees, LookAgrees, ActAgrees, HandAgrees, held-some, held-length, held_next, waits-count}

-- ---- what is asked

pub is-waiting-in : (e : ℕ) → IsAgrees (script.waiting In e)
unfolding waiting_on
is-waiting-in e b d t R = held-some (R.ins e).held

pub look-next-in : (e : ℕ) → LookAgrees (script.next_len_lem In e)
look-next-in e b d t R = held_next d In e (R.ins e).held

-- an isochronous endpoint is allocated
iso-used : (u : Bool) (a : Allocator) (dir : Dir) (r : EpState) → Shape u a dir r → is_on r.iso ≡ true → Used a dir r
unfolding is_on
iso-used true a dir r s h = s
iso-used false a dir r s h = absurd (true≢false (sym h ∙ ap (λ (n : ℕ). not (eqb n 0)) s.iso))

module _ {b : Buf} {d : Driver} {t : Pages} (R : Coupling quiet b d t) (e : ℕ) where
  iso-same : (ep_on d In e).iso ≡ (t.kept.plain In e).iso
  iso-same = ap (λ (p : EpCore). p.iso) (R.same.plain In e)

  size_same : d.allocator.size ≡ t.kept.allocator.size
  size_same = ap (λ (a : Allocator). a.size) R.same.allocator

  module _ (i : is_on (ep_on d In e).iso ≡ true) where
    used : Used d.allocator In (ep_on d In e)
    used = iso-used (bit_is_set (allocated_ins d.allocator In) (e % 16)) d.allocator In (ep_on d In e) (R.shape In e) i

    two : (ep_on d In e).slots ≡ 2
    unfolding slots_of
    two = used.slots ∙ ap (λ u. slots_of u In) i

  room_by : (n : ℕ) (u : Bool) → is_on (ep_on d In e).iso ≡ u
      → (u && (has_room_in (ep_on d In e) && not (ltb (ep_on d In e).stride n)))
      ≡ (u && (ltb (length (t.ins e).waiting) 2 && not (ltb t.kept.allocator.size n)))
  unfolding has_room_in
  room_by n false i = refl
  room_by n true i = rw (held-length (R.ins e).held, two i, (used i).stride, size_same) refl

  room-same : (n : ℕ) → room_on d e n ≡ room_b t e n
  unfolding room_on room_in
  room-same n =
      room_by n (is_on (ep_on d In e).iso) refl
      ∙ ap (λ i. is_on i && (ltb (length (t.ins e).waiting) 2 && not (ltb t.kept.allocator.size n))) iso-same

pub is-room : (e n : ℕ) → IsAgrees (script.room e n)
is-room e n b d t R = room-same R e n

-- ---- a record that stands where it stood, with the same ring

module _ {r r' : EpState} (k : Alike r r') (m : r'.max_len ≡ r.max_len) where
  alike-held : {b : Buf} {ls : List ℕ} {w : List (List ℕ)} → Held r.slots b r ls w → Held r'.slots b r' ls w
  alike-held {b} {ls} h = record {
    placed = place-placed k.place h.placed;
    ring = alike-in k h.ring;
    least = rw (m, k.place.stride) h.least;
    waits = alike-waits k b ls h.ring.tail8 ∙ h.waits;
  }

module _ {b : Buf} {d : Driver} {t : Pages} (R : Coupling quiet b d t) (e : ℕ) where
  -- IN e's record changed, and its page; no byte
  record-changed : (r : EpState) (p : InPage) → SamePlace (ep_on d In e) r → plain_of r ≡ plain_of (ep_on d In e)
      → InFits b r (lens_of d In e) p
      → Coupling quiet b (with_on d In e r) (with_in t e p)
  record-changed r p k q f =
      let c = changed-on R.sized In e r k (ap (λ (x : EpCore). x.iso) q) in
      in-changed R {k = t.kept} e p c (kept_same c (ap plain_of (ep_on-same d In e r R.sized) ∙ q) R.same) refl (λ i h. refl)
      (in_moved (ep_on-same d In e r R.sized) (lens-on d In e r In e) f)

  -- its page alone
  page-changed : (p : InPage) → InFits b (ep_on d In e) (lens_of d In e) p → Coupling quiet b d (with_in t e p)
  page-changed p f = in-changed R {k = t.kept} e p (changed-not R.sized In e) R.same refl (λ i h. refl) f

-- ---- a completion

completed-plain : (r : EpState) → plain_of (unloaded_of (completed_of r)) ≡ plain_of r
unfolding completed_of unloaded_of passed_of
completed-plain r = by (eqb r.loaded 0)
  where
    by : (u : Bool) → plain_of (cond u r (passed_of r)) ≡ plain_of r
    by true = refl
    by false = refl

completed-head : (r : EpState) → (unloaded_of (completed_of r)).head ≡ r.head
unfolding completed_of unloaded_of passed_of
completed-head r = by (eqb r.loaded 0)
  where
    by : (u : Bool) → (cond u r (passed_of r)).head ≡ r.head
    by true = refl
    by false = refl

completed-place : (r : EpState) → SamePlace r (unloaded_of (completed_of r))
completed-place r = place-trans (ring_in_lem.completed-place r) (ring_in_lem.unloaded-alike (completed_of r)).place

passed_by : (s : Bool) (l : ℕ) (w : List (List ℕ)) → l ≡ flag s → cond (eqb l 0) w (tail w) ≡ cond s (tail w) w
passed_by true l w h = rw h refl
passed_by false l w h = rw h refl

passed_none : (s : Bool) (w : List (List ℕ)) → length w ≡ 0 → length (cond s (tail w) w) ≡ 0
passed_none true [] h = refl
passed_none true (p ∷ ps) h = absurd (omega arith)
passed_none false w h = h

read-ledger : (r w : List (List ℕ)) → (r ++ front w) ++ tail w ≡ r ++ w
read-ledger r [] = append_assoc r [] []
read-ledger r (q ∷ qs) = append_assoc r (q ∷ []) qs

passed-ledger : (s : Bool) (r w : List (List ℕ)) → (r ++ cond s (front w) []) ++ cond s (tail w) w ≡ r ++ w
passed-ledger true r w = read-ledger r w
passed-ledger false r w = append_assoc r [] w

sent_front : (s : Bool) (r w : List (List ℕ)) → (r ++ cond s (front w) []) ++ cond s [] (front w) ≡ r ++ front w
sent_front true r w = append-nil (r ++ front w)
sent_front false r w = append_assoc r [] (front w)

queued-front : (s : Bool) (w : List (List ℕ)) (bytes : List ℕ) → (s ≡ true → 0 < length w) → cond s (front w) []
    ≡ cond s (front (w ++ (bytes ∷ []))) []
queued-front true [] bytes h = absurd (omega (arith, h refl))
queued-front true (q ∷ qs) bytes h = refl
queued-front false w bytes h = refl

sending-some : {b : Buf} {r : EpState} {ls : List ℕ} {p : InPage} → InFits b r ls p → p.sending ≡ true → 0 < length p.waiting
sending-some {r = r} {p = p} f s = omega (arith, held-length f.held, sending-count f s)

complete-fits : {b : Buf} {r : EpState} {ls : List ℕ} {p : InPage} → InFits b r ls p → InFits b (unloaded_of (completed_of r)) ls (passed_in p)
unfolding unloaded_of
complete-fits {b} {r} {ls} {p} f =
    let g = f.held.placed in
    let a = f.held.ring in
    let k = ring_in_lem.unloaded-alike (completed_of r) in
    let a' = ring_in_lem.complete-ring g a f.sends in
    let w : waiting b (unloaded_of (completed_of r)) ls ≡ cond p.sending (tail p.waiting) p.waiting =
    alike-waits k b ls a'.tail8
    ∙ ring_in_lem.complete-waits g a f.sends b
    ∙ passed_by p.sending r.loaded (waiting b r ls) f.loaded
    ∙ ap (λ x. cond p.sending (tail x) x) f.held.waits in
    record {
      held = record {
        placed = place-placed (completed-place r) g;
        ring = alike-in k a';
        least = rw (ap (λ (x : EpCore). x.max_len) (completed-plain r), (completed-place r).stride) f.held.least;
        waits = w;
      };
      ringless = λ h.
          sym (waiting-length b (unloaded_of (completed_of r)) ls)
          ∙ ap (λ x. length x) w
          ∙ passed_none p.sending p.waiting
          (sym (held-length f.held) ∙ f.ringless (ap is_on (sym (ap (λ (x : EpCore). x.iso) (completed-plain r)))
          ∙ h));
      loaded = refl;
      sends = ring_in_lem.unloaded-sends (completed_of r);
      turn = ap (λ (n : ℕ). n % 2) (completed-head r) ∙ f.turn;
      ledger = passed-ledger p.sending p.passed p.waiting ∙ f.ledger;
      reached = f.reached ∙ sym (append-nil (p.passed ++ cond p.sending (front p.waiting) []));
      stands = none-stands refl;
    }

pub act-complete : (e : ℕ) → ActAgrees (script.complete e)
unfolding complete_on
act-complete e b d t R = (
  refl,
  record-changed R e (unloaded_of (completed_of (ep_on d In e)))
      (passed_in (t.ins e)) (completed-place (ep_on d In e)) (completed-plain (ep_on d In e)) (complete-fits (R.ins e)),
)

-- ---- a reset

empty-fits : {b : Buf} {r : EpState} {ls : List ℕ} {p : InPage} → InFits b r ls p → InFits b (emptied r) ls empty_in
unfolding emptied
empty-fits {b} {r} {ls} f = empty-in refl refl refl (record {
  placed = place-placed (record { base = refl; stride = refl; slots = refl }) f.held.placed;
  ring = reset_ring (emptied r) refl refl r.slots ls f.held.ring.whole f.held.ring.capped;
  least = f.held.least;
  waits = reset-waits (emptied r) refl refl b ls;
})

pub act-reset-in : (e : ℕ) → ActAgrees (script.reset_ring In e)
unfolding emptied_on iso_out emptied
act-reset-in e b d t R = (
  refl,
  record-changed R e (emptied (ep_on d In e)) empty_in (record { base = refl; stride = refl; slots = refl }) refl (empty-fits (R.ins e)),
)

-- ---- a packet queued

module _ {b : Buf} {r : EpState} {ls : List ℕ} {p : InPage}
    (f : InFits b r ls p) (few : count_of r < r.slots) (bytes : List ℕ) (small : length bytes ≤ r.stride) where
  abbrev queued : Buf
  queued = copied b (slot_addr r r.head) bytes

  queued-in : slot_addr r r.head + length bytes ≤ length b
  queued-in = omega (arith, slot-upto f.held.placed r.head, f.held.placed.inside)

  queued-only : Only (slot_addr r r.head) (slot_addr r r.head + r.stride) b queued
  queued-only = only-bytes (marks-laws.only_wider _ _ (omega arith) (omega arith)
      (only-copied b (slot_addr r r.head) bytes))

  queued-waits : waiting queued (joined_of r) (set ls (slot_of r r.head) (length bytes)) ≡ p.waiting ++ (bytes ∷ [])
  queued-waits =
      join-waits f.held.placed f.held.ring (length bytes) few queued
      ∙ ap₂ (λ x y. x ++ (y ∷ []))
      (waiting-head f.held.placed f.held.ring b queued few queued-only ∙ f.held.waits)
      (window-is queued (slot_addr r r.head) (length bytes)
      (omega (arith, queued-in, (only-copied b (slot_addr r r.head) bytes).long))
      ∙ copied-bytes b (slot_addr r r.head) bytes queued-in)

  -- the head's slot is not the one being sent, the tail's
  queued-away : 0 < count_of r → slot_of r r.tail ≢ slot_of r r.head
  queued-away w q =
      let z : after r.tail 0 ≡ r.tail = omega (arith, f.held.ring.tail8) in
      head-away f.held.placed f.held.ring few 0 w (ap (slot_of r) z ∙ q)

  queued-spares : 0 < count_of r → Same (slot_addr r r.tail) (slot_addr r r.tail + r.stride) b queued
  queued-spares w = only-apart _ _ _ _ b queued queued-only
      (slots_apart f.held.placed r.tail r.head (queued-away w))

  queued-fits : is_on r.iso ≡ true → InFits queued (joined_of r) (set ls (slot_of r r.head) (length bytes))
      (queued_in p bytes)
  unfolding joined_of
  queued-fits i = record {
    held = record {
      placed = subst (λ n. Placed n (joined_of r)) (sym (only-copied b (slot_addr r r.head) bytes).long)
          (place-placed (join-place r) f.held.placed);
      ring = join-ring f.held.placed f.held.ring (length bytes) few small few;
      least = f.held.least;
      waits = queued-waits;
    };
    ringless = λ h. absurd (true≢false (sym i ∙ h));
    loaded = f.loaded;
    sends = λ h. omega (arith, join-count f.held.placed f.held.ring few);
    turn = omega (arith, f.turn);
    ledger = sym (append_assoc p.passed p.waiting (bytes ∷ []))
        ∙ ap (λ (l : List (List ℕ)). l ++ (bytes ∷ [])) f.ledger;
    reached = f.reached ∙ ap (λ (l : List (List ℕ)). p.passed ++ l)
        (queued-front p.sending p.waiting bytes (λ s. sending-some f s));
    stands = record {
      slot = λ s. f.stands.slot s ∙ sym (place-addr (join-place r) r.tail);
      bytes = λ s k l u. queued-spares (sending-count f s) k (omega (arith, f.stands.slot s))
          (omega (arith, f.stands.slot s)) ∙ f.stands.bytes s k l u;
    };
  }

-- room: an isochronous endpoint, a free slot, bytes that fit it
record Room (r : EpState) (n : ℕ) : Type 0 where
  iso : is_on r.iso ≡ true
  few : count_of r < r.slots
  small : n ≤ r.stride

room-is : (r : EpState) (n : ℕ) → room_in r n ≡ true → Room r n
unfolding room_in has_room_in
room-is r n h = record { iso = left _ _ h; few = ltb-true _ _ (left _ _ (right (is_on r.iso) _ h)); small = room_fits r n h }

joined-plain : (r : EpState) → plain_of (joined_of r) ≡ plain_of r
unfolding joined_of
joined-plain r = refl

module _ {b : Buf} {d : Driver} {t : Pages} (R : Coupling quiet b d t) (e : ℕ) (bytes : List ℕ) where
  abbrev head_at : ℕ
  head_at = slot_addr (ep_on d In e) (ep_on d In e).head

  module _ (z : Room (ep_on d In e) (length bytes)) where
    -- the head's slot is the one whose turn it is
    head_at_lem : head_at ≡ (t.kept.plain In e).base + (t.ins e).turn * t.kept.allocator.size
    head_at_lem =
        slot-lies (R.ins e).held.placed (ep_on d In e).head
        ∙ ap₂ ◌+◌ (ap (λ (p : EpCore). p.base) (R.same.plain In e))
        (ap₂ ◌*◌ (slot_is (R.ins e).held.placed (ep_on d In e).head
        ∙ ap (λ (n : ℕ). (ep_on d In e).head % n) (two R e z.iso) ∙ (R.ins e).turn)
        ((used R e z.iso).stride ∙ size_same R e))

    head_slot : slot_of (ep_on d In e) (ep_on d In e).head < 16
    head_slot = omega (arith, slot-in (R.ins e).held.placed (ep_on d In e).head, two R e z.iso)

    queued-rest : Coupling quiet (copied b head_at bytes) (queued_on d e (length bytes))
        (with_in t e (queued_in (t.ins e) bytes))
    unfolding queued_on
    queued-rest =
        let i = slot_of (ep_on d In e) (ep_on d In e).head in
        let l = changed-len R.sized In e i (length bytes) in
        let m = with_len_on d In e i (length bytes) in
        let q = ep-len d In e i (length bytes) In e in
        let c = changed-trans R.sized In e l
        (changed-on l.sized In e (joined_of (ep_on d In e))
        (subst (λ r. SamePlace r (joined_of (ep_on d In e))) (sym q) (join-place (ep_on d In e)))
        (ap (λ (p : EpCore). p.iso) (joined-plain (ep_on d In e)) ∙ ap (λ (r : EpState). r.iso) (sym q))) in
        let s = ep_on-same m In e (joined_of (ep_on d In e)) l.sized in
        in-changed R {k = t.kept} e (queued_in (t.ins e) bytes) c
        (kept_same c (ap plain_of s ∙ joined-plain (ep_on d In e)) R.same)
        (only-copied b head_at bytes).long
        (slot-region (R.ins e).held.placed (R.ins e).held.ring
        (ep_on d In e).head b (copied b head_at bytes) (queued-only (R.ins e) z.few bytes z.small))
        (in_moved s (lens-on m In e (joined_of (ep_on d In e)) In e
        ∙ lens-set d In e R.sized i (length bytes) head_slot)
        (queued-fits (R.ins e) z.few bytes z.small z.iso))

  abbrev Queued : Bool → Type 0
  Queued u =
      let x = cond {A = St} u (queued_on d e (length bytes), copied b head_at bytes) (d, b) in
      let y = cond {A = Bk} u (
        with_in t e (queued_in (t.ins e) bytes),
        copied b ((t.kept.plain In e).base + (t.ins e).turn * t.kept.allocator.size) bytes,
      ) (t, b) in
      (x.1 ≡ y.1) × Coupling quiet x.1 x.0 y.0

  enqueue-by : (u : Bool) → room_on d e (length bytes) ≡ u → Queued u
  unfolding room_on
  enqueue-by true h =
      let z = room-is (ep_on d In e) (length bytes) h in
      (ap (λ (n : ℕ). copied b n bytes) (head_at_lem z), queued-rest z)
  enqueue-by false h = (refl, R)

pub act-enqueue : (e : ℕ) (bytes : List ℕ) → ActAgrees (script.enqueue e bytes)
unfolding enqueue_on
act-enqueue e bytes b d t R = rw (← room-same R e (length bytes))
    (enqueue-by R e bytes (room_on d e (length bytes)) refl)

-- ---- a load

-- the one being sent keeps its slot, where it was being sent already; else its slot is shown as it stands
shown_by_lem : {b : Buf} {r : EpState} {p : InPage} → Stands b r p → (s : Bool)
    → p.sending ≡ s → Same (slot_addr r r.tail) (slot_addr r r.tail + r.stride) (cond s p.shown b) b
shown_by_lem {b} {r} {p} f true h = λ k l u. f.bytes h k (omega (arith, f.slot h)) (omega (arith, f.slot h))
shown_by_lem f false h = λ k l u. refl

load_fits : {b : Buf} {r : EpState} {ls : List ℕ} {p : InPage} → InFits b r ls p → 0 < count_of r
    → InFits b (loaded_of r) ls (source_told (sent_in p b) (slot_addr r r.tail))
unfolding loaded_of
load_fits {b} {r} {ls} {p} f w = record {
  held = alike-held (ring_in_lem.loaded-alike r) refl f.held;
  ringless = λ h. alike-count (ring_in_lem.loaded-alike r) ∙ f.ringless h;
  loaded = refl;
  sends = ring_in_lem.loaded-sends r w;
  turn = f.turn;
  ledger = f.ledger;
  reached = ap (λ (l : List (List ℕ)). l ++ cond p.sending [] (front p.waiting)) f.reached ∙ sent_front p.sending p.passed p.waiting;
  stands = record { slot = λ _. sym (alike-tail (ring_in_lem.loaded-alike r)); bytes = λ _. shown_by_lem f.stands p.sending refl };
}

loaded-plain : (r : EpState) → plain_of (loaded_of r) ≡ plain_of r
unfolding loaded_of
loaded-plain r = refl

-- an address that sends nothing
place-fits : {b : Buf} {r : EpState} {ls : List ℕ} {p : InPage} → InFits b r ls p → InFits b r ls (placed_in p)
place-fits f = in-again f false f.held (record { slot = f.stands.slot; bytes = f.stands.bytes })

-- the address told after the page changed
told_in : (t : Pages) (e x : ℕ) (q : InPage) → feed_b (Transmit e x) (with_in t e q) ≡ with_in t e (source_told q x)
told_in t e x q = ap (λ z. with_in (with_in t e q) e (source_told z x)) (in-same t e q) ∙ in_twice t e (source_told q x) q

pub hand-place-in : (e : ℕ) → HandAgrees (script.place In e)
unfolding place_on
hand-place-in e b d t R =
    let x = (ep_on d In e).base in
    subst (λ u. Coupling quiet b d u × Good (Transmit e x) b u) (sym (told_in t e x (placed_in (t.ins e)))) (
      page-changed R e (placed_in (t.ins e)) (place-fits (R.ins e)),
      (
        subst (λ p. Holds p b x) (sym (in-same t e (placed_in (t.ins e))))
            (λ bytes rest h q. absurd (true≢false (sym h))),
        in_Buffer.base-lies R In e,
      ),
    )

module _ {b : Buf} {d : Driver} {t : Pages} (R : Coupling quiet b d t) (e : ℕ) where
  abbrev Loaded : Bool → Type 0
  Loaded u =
      let x = slot_addr (ep_on d In e) (ep_on d In e).tail in
      let t' = feed_b (Transmit e x) (with_in t e (cond u (sent_in (t.ins e) b) (placed_in (t.ins e)))) in
      Coupling quiet b (cond u (with_on d In e (loaded_of (ep_on d In e))) d) t' × Good (Transmit e x) b t'

  send_by : (u : Bool) → has_waiting (ep_on d In e) ≡ u → Loaded u
  send_by true h =
      let x = slot_addr (ep_on d In e) (ep_on d In e).tail in
      let p = sent_in (t.ins e) b in
      subst (λ u. Coupling quiet b (with_on d In e (loaded_of (ep_on d In e))) u × Good (Transmit e x) b u)
      (sym (told_in t e x p)) (
        record-changed R e (loaded_of (ep_on d In e)) (source_told p x) (ring_in_lem.loaded-alike (ep_on d In e)).place
            (loaded-plain (ep_on d In e)) (load_fits (R.ins e) (waits-count (ep_on d In e) h)),
        (
          subst (λ q. Holds q b x) (sym (in-same t e (source_told p x)))
              (λ bytes rest l q. first_part (R.ins e).held.placed (R.ins e).held.ring b bytes rest
              ((R.ins e).held.waits ∙ q) (omega arith)),
          in_Buffer.slot-lies R In e (ep_on d In e).tail,
        ),
      )
  send_by false h =
      let x = slot_addr (ep_on d In e) (ep_on d In e).tail in
      subst (λ u. Coupling quiet b d u × Good (Transmit e x) b u) (sym (told_in t e x (placed_in (t.ins e)))) (
        page-changed R e (placed_in (t.ins e)) (place-fits (R.ins e)),
        (
          subst (λ q. Holds q b x) (sym (in-same t e (placed_in (t.ins e))))
              (λ bytes rest l q. absurd (true≢false (sym l))),
          in_Buffer.slot-lies R In e (ep_on d In e).tail,
        ),
      )

-- "the slot whose address a load hands out holds the bytes of the first then waiting"
pub hand-send : (e : ℕ) → HandAgrees (script.send e)
unfolding send_on send_addr
hand-send e b d t R = rw (← held-some (R.ins e).held) (send_by R e (has_waiting (ep_on d In e)) refl)
