-- Numbers as bytes and back. Assumes nothing.
use Rattle.std.specs.Prelude.{◌≡◌, ℕ, zero, suc, ◌/◌, List, [], ◌∷◌, length, refl}
use Rattle.std.proofs.Common.{ap, ◌∙◌, arith, take_at, drop_at}
use Rattle.bits.specs.Bytes.{number, digits, numbers, bytes, Each}

-- as many numbers as widths, and no width is 0
abbrev pub Fit : List ℕ → List ℕ → Type 0
Fit [] [] = Unit {0}
Fit [] (v ∷ vs) = ⊥
Fit (zero ∷ ws) vs = ⊥
Fit (suc w ∷ ws) [] = ⊥
Fit (suc w ∷ ws) (v ∷ vs) = Fit ws vs

length_digits : (w v : ℕ) → length (digits w v) ≡ w
length_digits zero v = refl
length_digits (suc zero) v = refl
length_digits (suc (suc w)) v = ap suc (length_digits (suc w) (v / 256))

pub number_digits : (w v : ℕ) → number (digits (suc w) v) ≡ v
number_digits zero v = omega arith
number_digits (suc w) v = let h = number_digits w (v / 256) in omega arith

pub numbers-bytes : (ws vs : List ℕ) → Fit ws vs → numbers ws (bytes ws vs) ≡ vs
numbers-bytes [] [] h = refl
numbers-bytes [] (v ∷ vs) h = absurd h
numbers-bytes (zero ∷ ws) vs h = absurd h
numbers-bytes (suc w ∷ ws) [] h = absurd h
numbers-bytes (suc w ∷ ws) (v ∷ vs) h =
    let ds = digits (suc w) v in
    let l = length_digits (suc w) v in
    λ t. (ap number (take_at ds (bytes ws vs) (suc w) l) ∙ number_digits w v) t
    ∷ (ap (numbers ws) (drop_at ds (bytes ws vs) (suc w) l) ∙ numbers-bytes ws vs h) t

pub each-eq : (ms ns : List ℕ) → Each ms ns → ms ≡ ns
each-eq [] [] h = refl
each-eq [] (n ∷ ns) h = absurd h
each-eq (m ∷ ms) [] h = absurd h
each-eq (m ∷ ms) (n ∷ ns) h = λ t. h.0 t ∷ each-eq ms ns h.1 t
