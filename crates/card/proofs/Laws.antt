-- What the loops over bits and bytes keep.
use Rattle.std.proofs.Common.{◌≡◌, ℕ, suc, ◌+◌, ◌-◌, ◌/◌, ◌^◌, ◌<◌, ◌≤◌, List, length, get_or, drop, sym, ap, ◌∙◌, add-one, arith, drop_of_length-le, drop-cons}
use lib.Bits.{bit_xor}
use Rattle.card.specs.Register.{turned, turns, over}
use Rattle.card.specs.Bytewise.{word_of}
use Rattle.card.specs.BytewiseLaws.{shifted, word-step}
use Rattle.card.specs.Fold.{folded, odd, remainder_of}
use Rattle.card.specs.FoldLaws.{word-folds}

pub turns_more : (i r x : ℕ) → i < 8 → turns (8 - i) r x ≡ turns (8 - (i + 1)) (turned r x) (x / 2)
unfolding turns
turns_more i r x h = let e : 8 - i ≡ suc (8 - (i + 1)) = omega arith in rw e

pub turns-none : (i r x : ℕ) → 8 ≤ i → turns (8 - i) r x ≡ r
unfolding turns
turns-none i r x h = let e : 8 - i ≡ 0 = omega arith in rw e

pub over-more : (xs : List ℕ) (i r : ℕ) → i < length xs → over r (drop i xs)
    ≡ over (turns 8 r (get_or xs i 0)) (drop (i + 1) xs)
unfolding over
over-more xs i r h = rw (add-one i, drop-cons xs i 0)

pub over_none : (xs : List ℕ) (i r : ℕ) → length xs ≤ i → over r (drop i xs) ≡ r
unfolding over
over_none xs i r h = rw (drop_of_length-le xs h)

-- four bytes
pub over-four : (xs : List ℕ) (i r : ℕ) → i + 3 < length xs
    → over r (drop i xs)
    ≡ over
    (turns 8 (turns 8 (turns 8 (turns 8 r (get_or xs i 0)) (get_or xs (i + 1) 0)) (get_or xs (i + 2) 0)) (get_or xs (i + 3) 0))
    (drop (i + 4) xs)
over-four xs i r h =
    let one = turns 8 r (get_or xs i 0) in
    let two = turns 8 one (get_or xs (i + 1) 0) in
    let three = turns 8 two (get_or xs (i + 2) 0) in
    let a : i + 1 + 1 ≡ i + 2 = omega arith in
    let b : i + 2 + 1 ≡ i + 3 = omega arith in
    let c : i + 3 + 1 ≡ i + 4 = omega arith in
    over-more xs i r (omega arith)
    ∙ (rw a at (over-more xs (i + 1) one (omega arith)))
    ∙ (rw b at (over-more xs (i + 2) two (omega arith)))
    ∙ (rw c at (over-more xs (i + 3) three (omega arith)))

-- four bytes as the word w
pub word_more : (xs : List ℕ) (i sum words w : ℕ) → i + 3 < length xs
    → w ≡ word_of (get_or xs i 0) (get_or xs (i + 1) 0) (get_or xs (i + 2) 0) (get_or xs (i + 3) 0)
    → (get_or xs i 0 < 256) × (get_or xs (i + 1) 0 < 256) × (get_or xs (i + 2) 0 < 256) × (get_or xs (i + 3) 0 < 256)
    → sum < 2 ^ 17 → odd sum ≡ 0 → w < 2 ^ 32
    → over (remainder_of (folded (bit_xor sum w)) (bit_xor words w)) (drop (i + 4) xs)
    ≡ over (remainder_of sum words) (drop i xs)
word_more xs i sum words w h e b s even l =
    let r = remainder_of sum words in
    let folds = word-folds sum words w s even l in
    let steps = word-step r (get_or xs i 0) (get_or xs (i + 1) 0) (get_or xs (i + 2) 0) (get_or xs (i + 3) 0) b.0 b.1
    b.2 b.3 in
    sym
    (over-four xs i r h
    ∙ ap (λ (y : ℕ). over y (drop (i + 4) xs)) (steps ∙ ap (λ (y : ℕ). shifted 32 (bit_xor r y)) (sym e) ∙ folds))
