-- What each operation of an OUT ring does to the packets that wait. Assumes nothing.
use Rattle.std.specs.Prelude.{◌≡◌, ℕ, ◌+◌, ◌-◌, ◌%◌, ◌^◌, ◌<◌, ◌≤◌, min, Bool, true, false, cond, List, [], ◌∷◌, ◌++◌, length, nat_lt, slice_set}
use Rattle.std.proofs.Math.Path.{refl}
use Rattle.std.proofs.Common.{◌∙◌, arith}
use mathlib.Core.List.{tail}
use borrow.Author.Tests.{ltb-true, ltb-false, le-ltb}
use Rattle.state.specs.declared.EpState.{EpState}
use Rattle.ring.specs.Slot.{slot_of, slot_addr, count_of, joined_of, passed_of}
use Rattle.ring.specs.Out.{has_room_out, capped_at, overrun_of, arrived_of, arrived_lens, armed_at, opened_of, closed_of}
use Rattle.ring.specs.Waiting.{window, waiting, join, Away, Only, Shows, Placed, OutRing, SamePlace, Alike}
use Rattle.ring.specs.Slots.{slots-some}
use Rattle.ring.specs.Laws.{waiting-length, alike-count, alike-waits, alike-out, alike-away, head-away}
use Rattle.ring.specs.Laws.{waiting-head, join-place, join-count, join-waits, join-ring, pass-waits, pass-ring}
use Rattle.ring.specs.Laws.{pass-away}

-- ---- what touches neither place, head nor tail

pub turned-alike : (s : EpState) → Alike s (overrun_of s)
unfolding overrun_of
turned-alike s = record { place = record { base = refl; stride = refl; slots = refl }; head = refl; tail = refl }

pub armed-alike : (s : EpState) (x : ℕ) → Alike s (armed_at s x)
unfolding armed_at
armed-alike s x = record { place = record { base = refl; stride = refl; slots = refl }; head = refl; tail = refl }

pub opened-alike : (s : EpState) → Alike s (opened_of s)
unfolding opened_of
opened-alike s = record { place = record { base = refl; stride = refl; slots = refl }; head = refl; tail = refl }

pub closed-alike : (s : EpState) → Alike (passed_of s) (closed_of s)
unfolding closed_of
closed-alike s = record { place = record { base = refl; stride = refl; slots = refl }; head = refl; tail = refl }

pub closed-place : (s : EpState) → SamePlace s (closed_of s)
unfolding closed_of passed_of
closed-place s = record { base = refl; stride = refl; slots = refl }

arrived-by : (s : EpState) (t : Bool) → SamePlace s (cond t (joined_of s) (overrun_of s))
arrived-by s true = join-place s
arrived-by s false = (turned-alike s).place

pub arrived-place : (s : EpState) → SamePlace s (arrived_of s)
unfolding arrived_of
arrived-place s = arrived-by s (has_room_out s)

-- ---- a packet that is open waits

pub opened-shows : (s : EpState) → 0 < count_of s → Shows (opened_of s)
opened-shows s h e = omega (arith, alike-count (opened-alike s))

pub closed-shows : (s : EpState) → Shows (closed_of s)
unfolding closed_of
closed-shows s e = absurd (let z : ◌≡◌ {A = ℕ} 0 1 = cc in omega arith)

-- ---- the length of an arrival

pub capped_is : (s : EpState) (len : ℕ) → capped_at s len ≡ min len s.max_len
unfolding capped_at
capped_is s len = go (nat_lt len s.max_len) refl
  where
    go : (t : Bool) → nat_lt len s.max_len ≡ t → cond t len s.max_len ≡ min len s.max_len
    go true e = omega (arith, ltb-true len s.max_len e)
    go false e = omega (arith, ltb-false len s.max_len e)

-- ---- counting those turned away, modulo 2^32
pub turned-counts : (s : EpState) (lost : ℕ) → s.overruns ≡ lost % 2 ^ 32 → (overrun_of s).overruns ≡ (lost + 1) % 2 ^ 32
unfolding overrun_of
turned-counts s lost e = omega (arith, e)

module _ {n : ℕ} {s : EpState} {ls : List ℕ} (g : Placed n s) (a : OutRing s ls) where
  -- ---- the armed slot is never one of those that wait

  few : count_of s < s.slots
  few = omega (arith, a.few, slots-some g)

  pub armed-away : Away s (slot_of s s.head)
  armed-away = head-away g a few

  -- so the chip's stores and marks in it leave them
  pub waiting-armed : (b b' : List ℕ) → Only (slot_addr s s.head) (slot_addr s s.head + s.stride) b b'
      → waiting b' s ls ≡ waiting b s ls
  waiting-armed b b' o = waiting-head g a b b' few o

  -- ---- an arrival

  -- turned away exactly where slots - 1 wait
  pub room_out : (b : List ℕ) → has_room_out s ≡ nat_lt (length (waiting b s ls)) (s.slots - 1)
  unfolding has_room_out
  room_out b = rw (waiting-length b s ls) refl

  pub turned-full : (b : List ℕ) → has_room_out s ≡ false → length (waiting b s ls) ≡ s.slots - 1
  unfolding has_room_out
  turned-full b e = omega (arith, waiting-length b s ls, ltb-false (count_of s) (s.slots - 1) e, a.few)

  pub full-turned : (b : List ℕ) → length (waiting b s ls) ≡ s.slots - 1 → has_room_out s ≡ false
  full-turned b e = room_out b ∙ le-ltb (length (waiting b s ls)) (s.slots - 1) (omega arith)

  module _ (room : has_room_out s ≡ true) where
    room-count : count_of s < s.slots - 1
    unfolding has_room_out
    room-count = ltb-true _ _ room

    pub admit-waits : (len : ℕ) (b : List ℕ)
        → waiting b (joined_of s) (slice_set ls (slot_of s s.head) len) ≡ waiting b s ls
        ++ (window b (slot_addr s s.head) len ∷ [])
    admit-waits len b = join-waits g a len few b

    pub admit-ring : (len : ℕ) → len ≤ s.stride → OutRing (joined_of s) (slice_set ls (slot_of s s.head) len)
    unfolding joined_of
    admit-ring len small = join-ring g a len few small room-count

  -- an arrival joins, last, or is turned away
  arrive-by : (len : ℕ) (t : Bool) → has_room_out s ≡ t → (b : List ℕ)
      → waiting b (cond t (joined_of s) (overrun_of s)) (cond t (slice_set ls (slot_of s s.head) len) ls)
      ≡ cond t (waiting b s ls ++ (window b (slot_addr s s.head) len ∷ [])) (waiting b s ls)
  arrive-by len true e b = admit-waits e len b
  arrive-by len false e b = alike-waits (turned-alike s) b ls a.tail8

  pub arrive-waits : (len : ℕ) (b : List ℕ)
      → waiting b (arrived_of s) (arrived_lens s ls len)
      ≡ join (s.slots - 1) (waiting b s ls) (window b (slot_addr s s.head) len)
  unfolding arrived_of arrived_lens
  arrive-waits len b = rw (← room_out b) (arrive-by len (has_room_out s) refl b)

  ring-by : (len : ℕ) (t : Bool) → has_room_out s ≡ t → len ≤ s.stride
      → OutRing (cond t (joined_of s) (overrun_of s)) (cond t (slice_set ls (slot_of s s.head) len) ls)
  ring-by len true e h = admit-ring e len h
  ring-by len false e h = alike-out (turned-alike s) a

  pub arrive-ring : (len : ℕ) → len ≤ s.stride → OutRing (arrived_of s) (arrived_lens s ls len)
  unfolding arrived_of arrived_lens
  arrive-ring len h = ring-by len (has_room_out s) refl h

  shows-by : (t : Bool) → has_room_out s ≡ t → Shows s → Shows (cond t (joined_of s) (overrun_of s))
  unfolding overrun_of
  shows-by true e h f = omega (arith, join-count g a few)
  shows-by false e h f = omega (arith, h f, alike-count (turned-alike s))

  pub arrive-shows : Shows s → Shows (arrived_of s)
  unfolding arrived_of
  arrive-shows h = shows-by (has_room_out s) refl h

  -- ---- a close, a read's poll

  module _ (some : 0 < count_of s) where
    pub close-waits : (b : List ℕ) → waiting b (closed_of s) ls ≡ tail (waiting b s ls)
    unfolding passed_of
    close-waits b = alike-waits (closed-alike s) b ls (omega arith) ∙ pass-waits g a some b

    pub close-ring : OutRing (closed_of s) ls
    unfolding passed_of
    close-ring = alike-out (closed-alike s) (pass-ring g a some)

    pub close-away : (x : ℕ) → Away s x → Away (closed_of s) x
    close-away x h = alike-away (closed-alike s) x (pass-away g a some x h)
