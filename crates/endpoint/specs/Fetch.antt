-- Bytes of a slot that are there, and their copy
use Rattle.std.specs.Prelude.{◌≡◌, List, [], ◌++◌, ℕ, ◌+◌, ◌-◌, ◌≤◌, ◌<◌, min, length, take, drop}
use Rattle.std.proofs.Common.{sym, ◌∙◌, arith, lt-ltb, le-ltb, length-take, length-drop, drop_of_length-le, take_all}
use Rattle.std.proofs.Math.Decide.{dec_lt}
use Rattle.ring.specs.Copies.{over, bytes_at, copied_out}

pub fetched-length : (b : List ℕ) (at n : ℕ) → min n (length b - at) ≡ length (bytes_at b at n)
fetched-length b at n = sym (length-take n (drop at b) ∙ simp length-drop)

-- all that are there
pub take-there : (n : ℕ) (xs : List ℕ) → take (min n (length xs)) xs ≡ take n xs
take-there n xs = elim (dec_lt (length xs) n) [
  | yes g ↦ rw (take_all n xs (omega arith), take_all (min n (length xs)) xs (omega arith))
  | no g ↦ cong-take (omega arith)
] where
  cong-take : min n (length xs) ≡ n → take (min n (length xs)) xs ≡ take n xs
  cong-take e = rw e

pub fetched : (b out : List ℕ) (at n k : ℕ) → k ≡ min n (length b - at) → n ≤ length out → copied_out b at out k
    ≡ over (bytes_at b at n) out
unfolding copied_out
fetched b out at n k e h = elim (dec_lt (length b) at) [
  | yes g ↦ rw (
    lt-ltb (length b) (at + k) (omega arith),
    drop_of_length-le b {i = at} (omega arith),
    take_all {A = ℕ} n
        [] (omega arith),
  )
  | no g ↦ rw (le-ltb (length b) (at + k) (omega arith), le-ltb (length out) k (omega arith), there g)
] where
  there : (length b < at → ⊥) → take k (drop at b) ≡ take n (drop at b)
  there g = rw (e, ← length-drop at b, take-there n (drop at b))
