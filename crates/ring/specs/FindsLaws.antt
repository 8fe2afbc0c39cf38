-- Laws on the definitions of Finds.antt
use Rattle.std.specs.Prelude.{◌≡◌, ℕ, zero, suc, ◌≤◌, Bool, true, false, cond, List, slice_index, refl}
use Rattle.std.proofs.Common.{arith, eq-eqb, ne_eqb}
use Rattle.std.proofs.Math.Decide.{dec_lt}
use Rattle.ring.specs.Marks.{mark_byte, found}
use Rattle.ring.specs.Only.{Same}
use Rattle.ring.specs.Finds.{LastDiffers, MarkedAfter}

pub found-is : (p : List ℕ) (n maximum : ℕ) → n ≤ maximum → LastDiffers n p → MarkedAfter n maximum p → found maximum p
    ≡ n
unfolding found
found-is p n zero small last after = omega arith
found-is p n (suc k) small last after = elim (dec_lt k n) [
  | no g ↦ rw (eq-eqb (slice_index p k) (mark_byte k) (after k (omega arith) (omega arith)))
      (found-is p n k (omega arith) last (λ j l h. after j l (omega arith)))
  | yes g ↦ (let e : n ≡ suc k = omega arith in rw (ne_eqb (slice_index p k) (mark_byte k) (last k e)) (omega arith))
]

-- it is never above the maximum
either : (t : Bool) (n k : ℕ) → n ≤ k → cond t n (suc k) ≤ suc k
either true n k h = omega arith
either false n k h = omega arith

-- it follows from the bytes before the maximum alone
pub found-same : (p q : List ℕ) (maximum : ℕ) → Same 0 maximum p q → found maximum q ≡ found maximum p
unfolding found
found-same p q zero s = refl
found-same p q (suc k) s = rw (s k (omega arith) (omega arith), found-same p q k (λ j l h. s j l (omega arith)))
