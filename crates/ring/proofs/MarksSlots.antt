-- The laws of marks and copies over the lent buffer, for every buffer size, offset and maximum.
use Rattle.std.specs.Prelude.{◌≡◌, ℕ, ◌+◌, ◌-◌, ◌*◌, ◌/◌, ◌<◌, ◌≤◌, true, false, List, ◌++◌, length, take, drop, slice_index}
use Rattle.std.proofs.Common.{sym, ◌∙◌, arith, lt-ltb, le-ltb, length-append, length-drop, length-take, drop_at, ext_get_or, get_or-append-add, get_or-drop, get_or-take, length-take-le, take_at}
use Rattle.std.proofs.Math.Decide.{dec_lt}
use Rattle.std.proofs.Math.ListN.{get_or-append}
use Rattle.std.proofs.Math.Seq.{take-append_seam}
use Rattle.ring.specs.Marks.{agrees, arm, reach, is_marked, armed, marked_len}
use Rattle.ring.specs.Copies.{over, bytes_at, copied, copied_out}
use Rattle.ring.specs.Only.{Same, Only}
use Rattle.ring.specs.OnlyLaws.{only-refl, only_wider, only_part}
use Rattle.ring.specs.Words.{same-mark, one-differs}
use Rattle.ring.specs.Arms.{MarkedEmpty, only-arm, arm-word, arm-empties}
use Rattle.ring.specs.Finds.{LastDiffers, MarkedAfter}
use Rattle.ring.specs.FindsLaws.{found-is, found-same}

back : (b p : List ℕ) (at : ℕ) → at ≤ length b → drop at (take at b ++ p) ≡ p
back b p at h = drop_at (take at b) p at (length-take-le at b h)

-- ---- arming

-- bytes outside of what arming marks of its slot stay, and so does the length
pub only-armed : (b : List ℕ) (at maximum : ℕ) → Only at (at + reach maximum) b (armed b at maximum)
unfolding armed
only-armed b at maximum = elim (dec_lt (length b) (at + reach maximum)) [
  | yes g ↦ rw (lt-ltb (length b) (at + reach maximum) g) (only-refl _ _ b)
  | no g ↦ rw (le-ltb (length b) (at + reach maximum) (omega arith))
      (only_part b (arm maximum (drop at b)) at (reach maximum) (omega arith) (only-arm (drop at b) maximum))
]

-- a slot of whole words, that holds the maximum, holds what arming changes
pub armed-slot : (b : List ℕ) (at maximum size : ℕ) → 4 ≤ size → size / 4 * 4 ≡ size → maximum ≤ size
    → Only at (at + size) b (armed b at maximum)
armed-slot b at maximum size z w d = only_wider at (at + size) (omega arith) (omega arith) (only-armed b at maximum)

module _ (b : List ℕ) (at maximum : ℕ) (fits : at + reach maximum ≤ length b) where
  part-fits : reach maximum ≤ length (drop at b)
  part-fits = simp length-drop (omega arith)

  pub armed-part : drop at (armed b at maximum) ≡ arm maximum (drop at b)
  unfolding armed
  armed-part = rw (le-ltb (length b) (at + reach maximum) fits) (back b (arm maximum (drop at b)) at (omega arith))

  -- no packet has arrived in an armed slot
  pub armed-marked : is_marked (armed b at maximum) at ≡ true
  unfolding is_marked
  armed-marked =
      rw (le-ltb (length (armed b at maximum)) (at + 4) (omega (arith, (only-armed b at maximum).long)), armed-part)
      (arm-word (drop at b) maximum 0 part-fits (omega arith))

  pub armed-empties : MarkedEmpty maximum (drop at (armed b at maximum))
  armed-empties = rw armed-part (arm-empties (drop at b) maximum part-fits)

-- ---- the length by the marks

-- a slot with n bytes, of which the last differs from the mark's there, and marks after them
pub len_is : (b : List ℕ) (at n maximum : ℕ) → at + maximum ≤ length b → n ≤ maximum
    → LastDiffers n (drop at b) → MarkedAfter n maximum (drop at b) → marked_len b at maximum ≡ n
unfolding marked_len
len_is b at n maximum fits small t m = rw (le-ltb (length b) (at + maximum) fits)
    (found-is (drop at b) n maximum small t m)

-- a slot with a byte of its first word that differs from the mark's there: a packet has arrived
pub arrival : (b : List ℕ) (at k : ℕ) → at + 4 ≤ length b → k < 4 → agrees (drop at b) 0 k ≡ false → is_marked b at
    ≡ false
unfolding is_marked
arrival b at k fits l o = rw (le-ltb (length b) (at + 4) fits) (one-differs (drop at b) 0 k l o)

-- ---- both answers follow from the slot's bytes alone

module _ (b c : List ℕ) (at : ℕ) (long : length c ≡ length b) where
  part_same : (n : ℕ) → Same at (at + n) b c → Same 0 n (drop at b) (drop at c)
  part_same n s k l h = get_or-drop at c k 0 ∙ s (at + k) (omega arith) (omega arith) ∙ sym (get_or-drop at b k 0)

  pub marked-same : Same at (at + 4) b c → is_marked c at ≡ is_marked b at
  unfolding is_marked
  marked-same s = rw (long, same-mark (drop at b) (drop at c) 0 (part_same 4 s))

  pub len-same : (maximum : ℕ) → Same at (at + maximum) b c → marked_len c at maximum ≡ marked_len b at maximum
  unfolding marked_len
  len-same maximum s = rw (long, found-same (drop at b) (drop at c) maximum (part_same maximum s))

  pub bytes_same : (n : ℕ) → Same at (at + n) b c → bytes_at c at n ≡ bytes_at b at n
  bytes_same n s =
      ext_get_or 0 (bytes_at c at n) (bytes_at b at n)
      (simp (length-take, length-drop, long))
      (λ k l. let h : k < n = omega (arith, length-take n (drop at c)) in
      get_or-take n (drop at c) k 0 h ∙ part_same n s k (omega arith) h ∙ sym (get_or-take n (drop at b) k 0 h))

-- ---- copies

pub over-low : (s p : List ℕ) (k : ℕ) → k < length s → slice_index (over s p) k ≡ slice_index s k
over-low s p k h = get_or-append s (drop (length s) p) 0 k h

pub over-high : (s p : List ℕ) (k : ℕ) → length s ≤ k → slice_index (over s p) k ≡ slice_index p k
over-high s p k h =
    let e : length s + (k - length s) ≡ k = omega arith in
    rw e at (get_or-append-add s (drop (length s) p) (k - length s) 0 ∙ get_or-drop (length s) p (k - length s) 0)

only-over : (s p : List ℕ) → length s ≤ length p → Only 0 (length s) p (over s p)
only-over s p h = record {
  long = simp (length-append, length-drop) (omega arith);
  below = λ k l. absurd (omega arith);
  above = λ k l. over-high s p k l;
}

-- bytes outside of the packet's stay, and so does the length
pub only-copied : (b : List ℕ) (at : ℕ) (s : List ℕ) → Only at (at + length s) b (copied b at s)
unfolding copied
only-copied b at s = elim (dec_lt (length b) (at + length s)) [
  | yes g ↦ rw (lt-ltb (length b) (at + length s) g) (only-refl _ _ b)
  | no g ↦ rw (le-ltb (length b) (at + length s) (omega arith))
      (only_part b (over s (drop at b)) at (length s) (omega arith)
      (only-over s (drop at b) (simp length-drop (omega arith))))
]

pub copied-part : (b : List ℕ) (at : ℕ) (s : List ℕ) → at + length s ≤ length b → drop at (copied b at s)
    ≡ over s (drop at b)
unfolding copied
copied-part b at s h = rw (le-ltb (length b) (at + length s) h) (back b (over s (drop at b)) at (omega arith))

pub copied-bytes : (b : List ℕ) (at : ℕ) (s : List ℕ) → at + length s ≤ length b → bytes_at (copied b at s) at (length s)
    ≡ s
copied-bytes b at s h = rw (copied-part b at s h) (take-append_seam s (drop (length s) (drop at b)))

pub out-bytes : (b : List ℕ) (at : ℕ) (out : List ℕ) (n : ℕ) → at + n ≤ length b → n ≤ length out
    → take n (copied_out b at out n) ≡ bytes_at b at n
unfolding copied_out
out-bytes b at out n h g =
    let l : n ≤ length (drop at b) = simp length-drop (omega arith) in
    rw (le-ltb (length b) (at + n) h, le-ltb (length out) n g)
    (take_at (take n (drop at b)) (drop (length (take n (drop at b))) out) n (length-take-le n (drop at b) l))
