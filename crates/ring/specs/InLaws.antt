-- What each operation of an IN ring does to the packets that wait. Assumes nothing.
use Rattle.std.specs.Prelude.{◌≡◌, ℕ, ◌+◌, ◌*◌, ◌<◌, ◌≤◌, Bool, true, false, cond, ◌≢◌, List, [], ◌∷◌, ◌++◌, length, ◌==◌, nat_lt, slice_index, slice_set}
use Rattle.std.proofs.Math.Path.{refl, ap, sym}
use Rattle.std.proofs.Common.{◌∙◌, arith, get_or-set_other}
use mathlib.Core.List.{tail}
use borrow.Author.Tests.{ltb-true, ltb-false, lt-ltb, le-ltb}
use Rattle.std.proofs.lemmas.List.Edits.{sets}
use Rattle.state.specs.declared.EpState.{EpState}
use Rattle.ring.specs.declared.Next.TheVariants.{At, Nothing}
use Rattle.ring.specs.Slot.{after, slot_of, slot_addr, count_of, has_waiting, joined_of, passed_of}
use Rattle.ring.specs.In.{has_room_in, completed_of, next_load, loaded_of, unloaded_of}
use Rattle.ring.specs.Waiting.{waiting, Away, Same, Only, Sends, Placed, InRing, SamePlace, Alike}
use Rattle.ring.specs.Window.{window-sets, only-sets, only_wider, only-apart}
use Rattle.ring.specs.Slots.{slot-upto, slots_apart}
use Rattle.ring.specs.Laws.{waiting-length, alike-count, head-away, waiting-head, slot-region, join-count}
use Rattle.ring.specs.Laws.{join-waits, join-ring, pass-place, pass-waits, pass-ring, first_count}

pub loaded-alike : (s : EpState) → Alike s (loaded_of s)
unfolding loaded_of
loaded-alike s = record { place = record { base = refl; stride = refl; slots = refl }; head = refl; tail = refl }

pub unloaded-alike : (s : EpState) → Alike s (unloaded_of s)
unfolding unloaded_of
unloaded-alike s = record { place = record { base = refl; stride = refl; slots = refl }; head = refl; tail = refl }

completed-by : (s : EpState) (t : Bool) → SamePlace s (cond t s (passed_of s))
completed-by s true = record { base = refl; stride = refl; slots = refl }
completed-by s false = pass-place s

pub completed-place : (s : EpState) → SamePlace s (completed_of s)
unfolding completed_of
completed-place s = completed-by s (s.loaded == 0)

-- ---- a packet that is loaded waits

pub loaded-sends : (s : EpState) → 0 < count_of s → Sends (loaded_of s)
loaded-sends s h e = omega (arith, alike-count (loaded-alike s))

pub unloaded-sends : (s : EpState) → Sends (unloaded_of s)
unfolding unloaded_of
unloaded-sends s e = absurd (let z : ◌≡◌ {A = ℕ} 0 1 = cc in omega arith)

module _ {n : ℕ} {s : EpState} {ls : List ℕ} (g : Placed n s) (a : InRing s ls) where
  -- ---- a queue

  -- refused exactly where all slots are filled
  pub room_in_lem : (b : List ℕ) → has_room_in s ≡ nat_lt (length (waiting b s ls)) s.slots
  unfolding has_room_in
  room_in_lem b = rw (waiting-length b s ls) refl

  pub refused_full : (b : List ℕ) → has_room_in s ≡ false → length (waiting b s ls) ≡ s.slots
  unfolding has_room_in
  refused_full b e = omega (arith, waiting-length b s ls, ltb-false (count_of s) s.slots e, a.few)

  module _ (room : has_room_in s ≡ true) where
    room-count : count_of s < s.slots
    unfolding has_room_in
    room-count = ltb-true _ _ room

    -- the slot written is none of those that wait
    pub queue-away : Away s (slot_of s s.head)
    queue-away = head-away g a room-count

    -- nor the one being sent, the tail's
    pub queue-sent : 0 < count_of s → slot_of s s.tail ≢ slot_of s s.head
    queue-sent h e =
        let f : after s.tail 0 ≡ s.tail = omega (arith, a.tail8) in
        queue-away 0 h (ap (slot_of s) f ∙ e)

    -- whose recorded length stays
    pub queue-length : 0 < count_of s → (len : ℕ)
        → slice_index (slice_set ls (slot_of s s.head) len) (slot_of s s.tail) ≡ slice_index ls (slot_of s s.tail)
    queue-length h len = get_or-set_other ls (slot_of s s.head) (slot_of s s.tail) len 0 (queue-sent h)

    pub queue-sends : Sends (joined_of s)
    queue-sends e = omega (arith, join-count g a room-count)

    module _ (packet : List ℕ) (small : length packet ≤ s.stride) where
      -- bytes of the head's slot change, and no other
      pub queue-only : (b : List ℕ)
          → Only (slot_addr s s.head) (slot_addr s s.head + s.stride) b (sets b (slot_addr s s.head) packet)
      queue-only b = only_wider _ _ _ _ b (sets b (slot_addr s s.head) packet) (omega arith) (omega arith)
          (only-sets packet b (slot_addr s s.head))

      pub queue-region : (b : List ℕ) → Only s.base (s.base + s.slots * s.stride) b
          (sets b (slot_addr s s.head) packet)
      queue-region b = slot-region g a s.head b (sets b (slot_addr s s.head) packet) (queue-only b)

      -- no byte of the slot being sent
      pub queue-keeps-sent : 0 < count_of s → (b : List ℕ)
          → Same (slot_addr s s.tail) (slot_addr s s.tail + s.stride) b (sets b (slot_addr s s.head) packet)
      queue-keeps-sent h b = only-apart _ _ _ _ b (sets b (slot_addr s s.head) packet) (queue-only b)
          (slots_apart g s.tail s.head (queue-sent h))

      -- the bytes wait, last
      pub queue-waits : (b : List ℕ) → n ≤ length b
          → waiting (sets b (slot_addr s s.head) packet) (joined_of s) (slice_set ls (slot_of s s.head) (length packet))
          ≡ waiting b s ls ++ (packet ∷ [])
      queue-waits b h =
          join-waits g a (length packet) room-count (sets b (slot_addr s s.head) packet)
          ∙ rw (
            waiting-head g a b (sets b (slot_addr s s.head) packet) room-count (queue-only b),
            window-sets packet b (slot_addr s s.head) (omega (arith, slot-upto g s.head, g.inside)),
          ) refl

      pub queue-ring : InRing (joined_of s) (slice_set ls (slot_of s s.head) (length packet))
      unfolding joined_of
      queue-ring = join-ring g a (length packet) room-count small room-count

  -- ---- a completion: what was loaded waits no more

  complete-by : (t : Bool) → (t ≡ false → 0 < count_of s) → (b : List ℕ)
      → waiting b (cond t s (passed_of s)) ls ≡ cond t (waiting b s ls) (tail (waiting b s ls))
  complete-by true h b = refl
  complete-by false h b = pass-waits g a (h refl) b

  complete-ring-by : (t : Bool) → (t ≡ false → 0 < count_of s) → InRing (cond t s (passed_of s)) ls
  unfolding passed_of
  complete-ring-by true h = a
  complete-ring-by false h = pass-ring g a (h refl)

  module _ (sends : Sends s) where
    pub complete-waits : (b : List ℕ) → waiting b (completed_of s) ls
        ≡ cond (s.loaded == 0) (waiting b s ls) (tail (waiting b s ls))
    unfolding completed_of
    complete-waits b = complete-by (s.loaded == 0) sends b

    pub complete-ring : InRing (completed_of s) ls
    unfolding completed_of
    complete-ring = complete-ring-by (s.loaded == 0) sends

  -- ---- a load: the tail's slot where one waits, and it holds the first

  pub next-first : (b p : List ℕ) (ps : List (List ℕ)) → waiting b s ls ≡ p ∷ ps → next_load s
      ≡ At (slot_addr s s.tail)
  unfolding next_load has_waiting
  next-first b p ps e = simp (lt-ltb 0 (count_of s) (first_count g a b p ps e))

  pub next-none : (b : List ℕ) → waiting b s ls ≡ [] → next_load s ≡ Nothing
  unfolding next_load has_waiting
  next-none b e =
      let h : count_of s ≤ 0 = omega (arith, sym (waiting-length b s ls) ∙ ap length e) in
      simp (le-ltb 0 (count_of s) h)
