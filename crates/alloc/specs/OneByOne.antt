-- The Rust takes an endpoint's buffers one at a time (usb/mod.rs, alloc_endpoint, called n times): that is the test and
-- the sum of
-- `buffered_of`. Assumes nothing.
use Rattle.std.specs.Prelude.{◌≡◌, refl, Bool, true, false, ℕ, zero, suc, ◌+◌, ◌≤◌, leb, ltb}
use Rattle.std.proofs.Common.{◌∙◌, add-zero, arith, le-ltb, lt-ltb, leb-true, leb-false}
use Rattle.alloc.specs.Alloc.{if}

-- whether n buffers were there one after the other, and ep_next afterwards
unfoldable pub one_by_one : ℕ → ℕ → ℕ → Bool × ℕ
one_by_one count zero next = (true, next)
one_by_one count (suc n) next = if (leb count next) (false, next) (one_by_one count n (suc next))

pub one_by_one_lem : (count n next : ℕ) → next ≤ count
    → one_by_one count n next ≡ if (ltb count (next + n)) (false, count) (true, next + n)
unfolding one_by_one
one_by_one_lem count zero next h = rw (add-zero next, le-ltb count next h)
one_by_one_lem count (suc n) next h = go (leb count next) refl (λ k. one_by_one_lem count n (suc next) k)
  where
    go : (t : Bool) → leb count next ≡ t
        → (suc next ≤ count → one_by_one count n (suc next)
        ≡ if (ltb count (suc next + n)) (false, count) (true, suc next + n))
        → if t (false, next) (one_by_one count n (suc next))
        ≡ if (ltb count (next + suc n)) (false, count) (true, next + suc n)
    go true q ih =
        let e = leb-true count next q in
        let p : next ≡ count = omega arith in
        rw (lt-ltb count (next + suc n) (omega arith), p)
    go false q ih =
        let l = leb-false count next q in
        let p : suc next + n ≡ next + suc n = omega arith in
        ih (omega arith) ∙ rw p
