-- What a ring holds, and what one more and one less do to it. Assumes nothing.
use Rattle.std.specs.Prelude.{◌≡◌, ℕ, zero, suc, ◌+◌, ◌-◌, ◌*◌, ◌<◌, ◌≤◌, ◌⊎◌, List, [], ◌∷◌, ◌++◌, length, take, drop, replicate, nat_lt, slice_index, slice_index_or, slice_set}
use Rattle.std.proofs.Math.Path.{refl, ap, ap₂, sym}
use Rattle.std.proofs.Common.{◌∙◌, length-set, get_or-set_other, get_or-set_same}
use mathlib.Core.List.{tail}
use native.Mathlib.Omega.{arith}
use Rattle.std.proofs.Math.Decide.{ℕ_discrete, dec_lt}
use Rattle.std.proofs.lemmas.List.{length-replicate, get_or-replicate}
use Rattle.std.proofs.Math.ListN.{get_or-eq_default}
use Rattle.std.proofs.Math.Seq.{set_out}
use Rattle.state.specs.declared.EpState.{EpState}
use Rattle.ring.specs.Slot.{after, slot_of, slot_addr, count_of, has_waiting, joined_of, passed_of}
use Rattle.ring.specs.Waiting.{window, packet, packets, waiting, Away, Same, Only, Placed, Ring, OutRing, InRing}
use Rattle.ring.specs.Waiting.{SamePlace, Alike}
use Rattle.ring.specs.Window.{window-length, window_same, window-is, only-apart, only_wider}
use Rattle.ring.specs.Slots.{slots-half, slot-in, slot-wraps, slot-other, slot-lies, slot-from, slot-upto}
use Rattle.ring.specs.Slots.{places-apart}

-- ---- packets from a counter on

packets_same : (b b' : List ℕ) (s s' : EpState) (ls ls' : List ℕ) (i n : ℕ) → i < 256
    → ((j : ℕ) → j < n → packet b' s' ls' (after i j) ≡ packet b s ls (after i j))
    → packets b' s' ls' i n ≡ packets b s ls i n
unfolding packets
packets_same b b' s s' ls ls' i zero l h = refl
packets_same b b' s s' ls ls' i (suc n) l h =
    let e : after i 0 ≡ i = omega arith in
    ap₂ ◌∷◌ (rw e at (h 0 (omega arith)))
    (packets_same b b' s s' ls ls' (after i 1) n (omega arith) (λ j m.
    let f : after (after i 1) j ≡ after i (suc j) = omega arith in rw f (h (suc j) (omega arith))))

packets-more : (b : List ℕ) (s : EpState) (ls : List ℕ) (i n : ℕ) → i < 256
    → packets b s ls i (suc n) ≡ packets b s ls i n ++ (packet b s ls (after i n) ∷ [])
unfolding packets
packets-more b s ls i zero l = let e : after i 0 ≡ i = omega arith in rw e refl
packets-more b s ls i (suc n) l =
    let f : after (after i 1) n ≡ after i (suc n) = omega arith in
    ap (◌∷◌ (packet b s ls i)) (rw (← f) (packets-more b s ls (after i 1) n (omega arith)))

packets-length : (b : List ℕ) (s : EpState) (ls : List ℕ) (i n : ℕ) → length (packets b s ls i n) ≡ n
unfolding packets
packets-length b s ls i zero = refl
packets-length b s ls i (suc n) = ap suc (packets-length b s ls (after i 1) n)

-- as many wait as head and tail are apart
pub waiting-length : (b : List ℕ) (s : EpState) (ls : List ℕ) → length (waiting b s ls) ≡ count_of s
unfolding waiting
waiting-length b s ls = packets-length b s ls s.tail (count_of s)

pub waiting-some : (b : List ℕ) (s : EpState) (ls : List ℕ) → has_waiting s ≡ nat_lt 0 (length (waiting b s ls))
unfolding has_waiting
waiting-some b s ls = rw (waiting-length b s ls) refl

pub waiting_none : (b : List ℕ) (s : EpState) (ls : List ℕ) → count_of s ≡ 0 → waiting b s ls ≡ []
unfolding waiting packets
waiting_none b s ls e = ap (packets b s ls s.tail) e

pub ring-most : {m m' : ℕ} {s : EpState} {ls : List ℕ} → m ≤ m' → Ring m s ls → Ring m' s ls
ring-most h a = record {
  whole = a.whole;
  capped = a.capped;
  head8 = a.head8;
  tail8 = a.tail8;
  few
      = omega (arith, a.few);
}

set-capped : (ls : List ℕ) (i len most : ℕ) → ((k : ℕ) → slice_index ls k ≤ most) → len ≤ most
    → (k : ℕ) → slice_index (slice_set ls i len) k ≤ most
set-capped ls i len most c h k = elim (ℕ_discrete k i) [
  | yes e ↦ (elim (dec_lt i (length ls)) [
    | yes l ↦ rw (e, get_or-set_same ls i len 0 l) h
    | no l ↦ rw (set_out ls i len (omega arith)) (c k)
  ])
  | no d ↦ rw (get_or-set_other ls i k len 0 d) (c k)
]

-- a length recorded anew
pub ring-length : {most : ℕ} {s : EpState} {ls : List ℕ} → Ring most s ls → (i len : ℕ) → len ≤ s.stride
    → Ring most s (slice_set ls i len)
ring-length {most} {s} {ls} a i len h = record {
  whole = rw (length-set ls i len) a.whole;
  capped = set-capped ls i len s.stride a.capped h;
  head8 = a.head8;
  tail8 = a.tail8;
  few = a.few;
}

-- ---- two records of one ring hold the same

pub place-placed : {n : ℕ} {s t : EpState} → SamePlace s t → Placed n s → Placed n t
place-placed k g = record {
  part = g.part;
  divides = rw k.slots g.divides;
  byte = rw k.slots g.byte;
  inside = rw (k.slots, k.base, k.stride) g.inside;
  low = g.low;
}

pub place-trans : {s t u : EpState} → SamePlace s t → SamePlace t u → SamePlace s u
place-trans k l = record { base = l.base ∙ k.base; stride = l.stride ∙ k.stride; slots = l.slots ∙ k.slots }

module _ {s t : EpState} (k : SamePlace s t) where
  pub place-slot : (i : ℕ) → slot_of t i ≡ slot_of s i
  unfolding slot_of
  place-slot i = rw k.slots refl

  pub place-addr : (i : ℕ) → slot_addr t i ≡ slot_addr s i
  unfolding slot_addr
  place-addr i = rw (place-slot i, k.base, k.stride) refl

module _ {s t : EpState} (k : Alike s t) where
  pub alike-count : count_of t ≡ count_of s
  unfolding count_of
  alike-count = rw (k.head, k.tail) refl

  pub alike-waits : (b ls : List ℕ) → s.tail < 256 → waiting b t ls ≡ waiting b s ls
  unfolding waiting packet
  alike-waits b ls h = ap₂ (packets b t ls) k.tail alike-count
      ∙ packets_same b b s t ls ls s.tail (count_of s) h (λ j l.
      rw (place-slot k.place (after s.tail j), place-addr k.place (after s.tail j)) refl)

  pub alike-ring : {most : ℕ} {ls : List ℕ} → Ring most s ls → Ring most t ls
  alike-ring a = record {
    whole = rw k.place.slots a.whole;
    capped = λ i. rw k.place.stride (a.capped i);
    head8 = rw k.head a.head8;
    tail8 = rw k.tail a.tail8;
    few = rw alike-count a.few;
  }

  pub alike-out : {ls : List ℕ} → OutRing s ls → OutRing t ls
  alike-out a = ring-most (omega (arith, k.place.slots)) (alike-ring a)

  pub alike-in : {ls : List ℕ} → InRing s ls → InRing t ls
  alike-in a = ring-most (omega (arith, k.place.slots)) (alike-ring a)

  pub alike-away : (x : ℕ) → Away s x → Away t x
  alike-away x h j l e = h j (omega (arith, alike-count))
      (ap (λ (y : ℕ). slot_of s (after y j)) (sym k.tail) ∙ sym (place-slot k.place (after t.tail j)) ∙ e)

-- ---- a reset, enabling: none wait

-- lengths that are all the same are capped by it
pub replicate-capped : (n m i : ℕ) → slice_index (replicate n m) i ≤ m
replicate-capped n m i = elim (dec_lt i n) [
  | yes h ↦ rw (get_or-replicate n i m 0 h) (omega arith)
  | no h ↦ rw (get_or-eq_default (replicate n m) 0 {n = i} (omega (arith, length-replicate n m))) (omega arith)
]

module _ (t : EpState) (h : t.head ≡ 0) (l : t.tail ≡ 0) where
  pub reset-count : count_of t ≡ 0
  unfolding count_of
  reset-count = rw (h, l) refl

  pub reset-waits : (b ls : List ℕ) → waiting b t ls ≡ []
  reset-waits b ls = waiting_none b t ls reset-count

  pub reset_ring : (most : ℕ) (ls : List ℕ) → t.slots ≤ length ls → ((i : ℕ) → slice_index ls i ≤ t.stride)
      → Ring most t ls
  reset_ring most ls w c = record {
    whole = w;
    capped = c;
    head8 = omega arith;
    tail8 = omega arith;
    few
        = omega (arith, reset-count);
  }

  pub reset-away : (x : ℕ) → Away t x
  reset-away x j m = absurd (omega (arith, reset-count))

pub join-place : (s : EpState) → SamePlace s (joined_of s)
unfolding joined_of
join-place s = record { base = refl; stride = refl; slots = refl }

pub pass-place : (s : EpState) → SamePlace s (passed_of s)
unfolding passed_of
pass-place s = record { base = refl; stride = refl; slots = refl }

-- ---- bytes shown

module _ {s : EpState} (b : List ℕ) (g : Placed (length b) s) where
  -- what a slot shows is a part of the buffer
  pub slot-shows : (i len : ℕ) → len ≤ s.stride → window b (slot_addr s i) len ≡ take len (drop (slot_addr s i) b)
  slot-shows i len h = window-is b (slot_addr s i) len (omega (arith, slot-upto g i, g.inside))

module _ {n most : ℕ} {s : EpState} {ls : List ℕ} (g : Placed n s) (a : Ring most s ls) where
  -- ---- bytes that may change

  -- a change in a slot is one in the ring's region
  pub slot-region : (i : ℕ) (b b' : List ℕ) → Only (slot_addr s i) (slot_addr s i + s.stride) b b'
      → Only s.base (s.base + s.slots * s.stride) b b'
  slot-region i b b' o = only_wider _ _ _ _ b b' (slot-from g i) (slot-upto g i) o

  -- the packets' slots stay, so they stay
  pub waiting_kept : (b b' : List ℕ)
      → ((j : ℕ) → j < count_of s → Same (slot_addr s (after s.tail j)) (slot_addr s (after s.tail j) + s.stride) b
      b')
      → waiting b' s ls ≡ waiting b s ls
  unfolding waiting packet
  waiting_kept b b' h = packets_same b b' s s ls ls s.tail (count_of s) a.tail8 (λ j l.
      window_same b b' _ _ (λ x p t. h j l x (omega arith) (omega (arith, a.capped (slot_of s (after s.tail j))))))

  -- a change outside the ring's region
  pub waiting-outside : (b b' : List ℕ) → Same s.base (s.base + s.slots * s.stride) b b' → waiting b' s ls
      ≡ waiting b s ls
  waiting-outside b b' h = waiting_kept b b' (λ j l x p t.
      h x (omega (arith, slot-from g (after s.tail j))) (omega (arith, slot-upto g (after s.tail j))))

  -- a change in another region
  pub waiting-foreign : (lo hi : ℕ) (b b' : List ℕ) → Only lo hi b b' → (s.base + s.slots * s.stride ≤ lo)
      ⊎ (hi ≤ s.base)
      → waiting b' s ls ≡ waiting b s ls
  waiting-foreign lo hi b b' o d = waiting-outside b b' (only-apart lo hi _ _ b b' o d)

  -- a change inside a slot that is none of those that wait
  pub waiting-away : (x : ℕ) (b b' : List ℕ) → Away s x
      → Only (s.base + x * s.stride) (s.base + x * s.stride + s.stride) b b'
      → waiting b' s ls ≡ waiting b s ls
  waiting-away x b b' h o = waiting_kept b b' (λ j l.
      rw (slot-lies g (after s.tail j)) (only-apart _ _ _ _ b b' o
      (places-apart g (slot_of s (after s.tail j)) x (h j l))))

  -- ---- the head's slot

  -- the head is as far from the tail as packets wait
  pub head-after : after s.tail (count_of s) ≡ s.head
  unfolding count_of
  head-after = omega (arith, a.head8, a.tail8)

  -- while not all slots are filled the head's is none of those that wait
  pub head-away : count_of s < s.slots → Away s (slot_of s s.head)
  head-away h j l e =
      let m : s.tail + j + (count_of s - j) ≡ s.tail + count_of s = omega arith in
      slot-other g (s.tail + j) (count_of s - j) (omega arith) (omega arith)
      (ap (slot_of s) m ∙ sym (slot-wraps g (s.tail + count_of s)) ∙ ap (slot_of s) head-after ∙ sym e
      ∙ slot-wraps g (s.tail + j))

  -- so a change in it leaves them
  pub waiting-head : (b b' : List ℕ) → count_of s < s.slots
      → Only (slot_addr s s.head) (slot_addr s s.head + s.stride) b b'
      → waiting b' s ls ≡ waiting b s ls
  waiting-head b b' h o = waiting-away (slot_of s s.head) b b' (head-away h) (rw (slot-lies g s.head) at o)

  -- ---- one more

  pub join-count : count_of s < s.slots → count_of (joined_of s) ≡ suc (count_of s)
  unfolding count_of joined_of
  join-count h = omega (arith, a.head8, a.tail8, slots-half g)

  head_in : slot_of s s.head < length ls
  head_in = omega (arith, a.whole, slot-in g s.head)

  module _ (len : ℕ) (room : count_of s < s.slots) where
    join-old : (b : List ℕ) (j : ℕ) → j < count_of s
        → packet b (joined_of s) (slice_set ls (slot_of s s.head) len) (after s.tail j)
        ≡ packet b s ls (after s.tail j)
    unfolding packet slot_addr slot_of joined_of
    join-old b j l = ap (window b (slot_addr s (after s.tail j)))
        (get_or-set_other ls (slot_of s s.head) (slot_of s (after s.tail j)) len 0 (head-away room j l))

    join-new : (b : List ℕ)
        → packet b (joined_of s) (slice_set ls (slot_of s s.head) len) (after s.tail (count_of s))
        ≡ window b (slot_addr s s.head) len
    unfolding packet slot_addr slot_of joined_of
    join-new b = ap (packet b (joined_of s) (slice_set ls (slot_of s s.head) len)) head-after
        ∙ ap (window b (slot_addr s s.head)) (get_or-set_same ls (slot_of s s.head) len 0 head_in)

    -- the packet in the head's slot waits, last
    pub join-waits : (b : List ℕ)
        → waiting b (joined_of s) (slice_set ls (slot_of s s.head) len) ≡ waiting b s ls
        ++ (window b (slot_addr s s.head) len ∷ [])
    unfolding waiting joined_of
    join-waits b = rw (join-count room)
        (packets-more b (joined_of s) (slice_set ls (slot_of s s.head) len) s.tail (count_of s) a.tail8
        ∙ ap₂ ◌++◌ (packets_same b b s (joined_of s) ls (slice_set ls (slot_of s s.head) len) s.tail (count_of s)
        a.tail8 (join-old b))
        (ap (λ (p : List ℕ). p ∷ []) (join-new b)))

    pub join-ring : len ≤ s.stride → count_of s < most → Ring most (joined_of s) (slice_set ls (slot_of s s.head) len)
    unfolding joined_of
    join-ring small few = record {
      whole = rw (length-set ls (slot_of s s.head) len) a.whole;
      capped = set-capped ls (slot_of s s.head) len s.stride a.capped small;
      head8 = omega arith;
      tail8 = a.tail8;
      few = omega (arith, join-count room);
    }

  -- ---- one less

  module _ (some : 0 < count_of s) where
    pub pass-count : suc (count_of (passed_of s)) ≡ count_of s
    unfolding count_of passed_of
    pass-count = omega (arith, a.head8, a.tail8)

    -- the first waits in the tail's slot, the others are what is left
    pub waiting-split : (b : List ℕ) → waiting b s ls ≡ packet b s ls s.tail ∷ waiting b (passed_of s) ls
    unfolding waiting packets packet passed_of slot_addr slot_of
    waiting-split b = ap (packets b s ls s.tail) (sym pass-count)
        ∙ ap (◌∷◌ (packet b s ls s.tail))
        (packets_same b b (passed_of s) s ls ls (after s.tail 1) (count_of (passed_of s)) (omega arith) (λ j l. refl))

    -- the first waits no more
    pub pass-waits : (b : List ℕ) → waiting b (passed_of s) ls ≡ tail (waiting b s ls)
    pass-waits b = rw (waiting-split b) refl

    pub first-is : (b p : List ℕ) (ps : List (List ℕ)) → waiting b s ls ≡ p ∷ ps → packet b s ls s.tail ≡ p
    first-is b p ps e = cc (waiting-split b)

    pub pass-ring : Ring most (passed_of s) ls
    unfolding passed_of
    pass-ring = record {
      whole = a.whole;
      capped = a.capped;
      head8 = a.head8;
      tail8 = omega arith;
      few = omega (arith, a.few, pass-count);
    }

    pub pass-away : (x : ℕ) → Away s x → Away (passed_of s) x
    unfolding passed_of slot_of
    pass-away x h j l e =
        let f : after (after s.tail 1) j ≡ after s.tail (suc j) = omega arith in
        h (suc j) (omega (arith, pass-count)) (ap (slot_of s) (sym f) ∙ e)

  -- ---- the first of those that wait lies in the tail's slot
  module _ (b p : List ℕ) (ps : List (List ℕ)) (e : waiting b s ls ≡ p ∷ ps) where
    pub first_count : 0 < count_of s
    first_count = omega (arith, sym (waiting-length b s ls) ∙ ap length e)

    pub first-length : slice_index_or ls (slot_of s s.tail) 0 ≡ length p
    unfolding packet
    first-length = sym (window-length b (slot_addr s s.tail) _) ∙ ap length (first-is first_count b p ps e)

    pub first-shows : window b (slot_addr s s.tail) (length p) ≡ p
    unfolding packet
    first-shows = rw first-length at (first-is first_count b p ps e)

    -- as a part of the buffer
    pub first_part : n ≤ length b → take (length p) (drop (slot_addr s s.tail) b) ≡ p
    first_part h =
        sym (window-is b (slot_addr s s.tail) (length p)
        (omega (arith, slot-upto g s.tail, g.inside, a.capped (slot_of s s.tail), first-length)))
        ∙ first-shows
