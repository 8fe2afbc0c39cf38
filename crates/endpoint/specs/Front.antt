-- What a poll's answer brings: its length is the answer's, and its bytes are the slice's
use Rattle.std.specs.Prelude.{◌≡◌, refl, List, [], ◌∷◌, ◌++◌, ℕ, zero, suc, ◌<◌, length, take, drop, get_or}
use Rattle.std.proofs.Common.{ap, sym, subst, ◌∙◌, arith}
use Rattle.ring.specs.Copies.{over}
use Rattle.script.specs.Answers.{Answer, Refused, End, NotYet, Done, Shown}
use Rattle.script_ops.specs.Answers.{front}

front-append : (xs ys : List ℕ) → front (length xs) (xs ++ ys) ≡ xs
front-append [] ys = refl
front-append (x ∷ xs) ys = ap (λ (zs : List ℕ). x ∷ zs) (front-append xs ys)

-- what was written over the slice's front
pub front-over : (xs ys : List ℕ) → front (length xs) (over xs ys) ≡ xs
front-over xs ys = front-append xs (drop (length xs) ys)

pub front_length : (n : ℕ) (out : List ℕ) → length (front n out) ≡ n
front_length zero out = refl
front_length (suc n) [] = ap suc (front_length n [])
front_length (suc n) (x ∷ out) = ap suc (front_length n out)

bytes_of : Answer → List ℕ
bytes_of (Done bytes) = bytes
bytes_of (Refused n) = []
bytes_of (End n w) = []
bytes_of NotYet = []
bytes_of (Shown bytes stamp) = []

-- Done n that is the script's Done: n is the number of its bytes
pub done-length : (n : ℕ) (out bytes : List ℕ) → Done (front n out) ≡ Done bytes → n ≡ length bytes
unfolding bytes_of
done-length n out bytes e = sym (front_length n out) ∙ ap (λ (a : Answer). length (bytes_of a)) e

-- and bytes that are bytes lie in the slice
front-there : (n : ℕ) (out : List ℕ) → ((i : ℕ) → get_or (front n out) i 0 < 256) → take n out ≡ front n out
front-there zero out h = refl
front-there (suc n) [] h = none (h 0) where
  none : 256 < 256 → take {A = ℕ} (suc n) [] ≡ front (suc n) []
  none k = absurd (omega arith)
front-there (suc n) (x ∷ out) h = ap (λ (zs : List ℕ). x ∷ zs) (front-there n out (λ i. h (suc i)))

pub done-there : (n : ℕ) (out bytes : List ℕ) → Done (front n out) ≡ Done bytes → ((i : ℕ) → get_or bytes i 0 < 256)
    → take n out ≡ bytes
unfolding bytes_of
done-there n out bytes e h = let k : front n out ≡ bytes
    = ap bytes_of e in front-there n out (λ i. subst (λ (zs : List ℕ). get_or zs i 0 < 256) (sym k) (h i)) ∙ k
