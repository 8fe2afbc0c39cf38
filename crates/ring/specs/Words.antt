-- The mark test reads the four bytes of its word.
use Rattle.std.specs.Prelude.{◌≡◌, ℕ, zero, suc, ◌+◌, ◌*◌, ◌/◌, ◌%◌, ◌<◌, Bool, true, false, ◌&&◌, List, slice_index, refl}
use Rattle.std.proofs.Math.Bool.{and-false}
use Rattle.std.proofs.Common.{arith, div-add-mod', eqb-true}
use Rattle.ring.specs.Marks.{mark, mark_byte, agrees, is_mark}
use Rattle.ring.specs.Only.{Same}

pub all-agree : (p : List ℕ) (i : ℕ) → ((k : ℕ) → k < 4 → agrees p i k ≡ true) → is_mark p i ≡ true
unfolding is_mark
all-agree p i h = rw (h 0 (omega arith), h 1 (omega arith), h 2 (omega arith), h 3 (omega arith))

pub same-mark : (p q : List ℕ) (i : ℕ) → Same (i * 4) (i * 4 + 4) p q → is_mark q i ≡ is_mark p i
unfolding is_mark
same-mark p q i h =
    rw (
      h (i * 4 + 0) (omega arith) (omega arith),
      h (i * 4 + 1) (omega arith) (omega arith),
      h (i * 4 + 2) (omega arith) (omega arith),
      h (i * 4 + 3) (omega arith) (omega arith),
    )

pub one-differs : (p : List ℕ) (i k : ℕ) → k < 4 → agrees p i k ≡ false → is_mark p i ≡ false
unfolding is_mark
one-differs p i zero h o = rw o
one-differs p i (suc zero) h o = rw (o, and-false (agrees p i 0))
one-differs p i (suc (suc zero)) h o = rw (o, and-false (agrees p i 0 && agrees p i 1))
one-differs p i (suc (suc (suc zero))) h o = rw (o, and-false (agrees p i 0 && agrees p i 1 && agrees p i 2))
one-differs p i (suc (suc (suc (suc k)))) h o = absurd (omega arith)

pub agree-all : (p : List ℕ) (i k : ℕ) → k < 4 → is_mark p i ≡ true → agrees p i k ≡ true
agree-all p i k h m = go (agrees p i k) (one-differs p i k h)
  where
    go : (t : Bool) → (t ≡ false → is_mark p i ≡ false) → t ≡ true
    go true f = refl
    go false f = let e = f refl in absurd (let z : ◌≡◌ {A = ℕ} 0 1 = cc in omega arith)

-- each byte of a word that is the mark is the mark's at its place
pub mark-byte : (p : List ℕ) (k : ℕ) → is_mark p (k / 4) ≡ true → slice_index p k ≡ mark_byte k
mark-byte p k m =
    rw (div-add-mod' k 4) at
    (eqb-true (slice_index p (k / 4 * 4 + k % 4)) (slice_index mark (k % 4)) (agree-all p (k / 4) (k % 4) (omega arith) m))
