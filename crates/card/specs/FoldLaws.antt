-- Laws: the remainder without a table.
use Rattle.std.specs.Prelude.{◌≡◌, ℕ, zero, suc, ◌+◌, ◌-◌, ◌*◌, ◌/◌, ◌%◌, ◌^◌, ◌<◌, ◌≤◌, Bool, true, false, T, ◌==◌, bit_xor, refl}
use Rattle.std.proofs.Common.{sym, ap, ap₂, ◌∙◌, add-zero, zero-mul, one-mul, pow-suc, arith, pow_pos, eqb→eq}
use Rattle.std.proofs.Math.Decide.{dec_lt}
use Rattle.std.proofs.lemmas.Nat.{xor_comm, xor_block, xor_shr, xor_mod, xor_lt}
use Rattle.std.specs.Int.Bits.{xor_self, xor_zero_r, xor_shifted}
use Rattle.card.specs.Register.{turned, turns}
use Rattle.card.specs.Xor.{xor_assoc, xor-swap}
use Rattle.card.specs.BytewiseLaws.{shifted, shifted_sum}
use Rattle.card.specs.Fold.{folded, settled, odd, remainder_of}

-- ---- sums go on apart

record Additive (f : ℕ → ℕ) : Type 0 where
  apart : (a b : ℕ) → f (bit_xor a b) ≡ bit_xor (f a) (f b)

then : {f g : ℕ → ℕ} → Additive f → Additive g → Additive (λ x. g (f x))
then {f} {g} hf hg = record { apart = λ a b. ap g (hf.apart a b) ∙ hg.apart (f a) (f b) }

both : {f g : ℕ → ℕ} → Additive f → Additive g → Additive (λ x. bit_xor (f x) (g x))
both {f} {g} hf hg = record {
  apart = λ a b. ap₂ bit_xor (hf.apart a b) (hg.apart a b)
      ∙ xor-swap (f a) (f b) (g a) (g b);
}

same : Additive (λ x. x)
same = record { apart = λ a b. refl }

left : (k : ℕ) → Additive (λ x. x * 2 ^ k)
left k = record {
  apart = λ a b.
      sym
      (rw (add-zero (a * 2 ^ k), add-zero (b * 2 ^ k), add-zero (bit_xor a b * 2 ^ k)) at
      (xor_block k a b 0 0 (pow_pos k) (pow_pos k)));
}

right : (k : ℕ) → Additive (λ x. x / 2 ^ k)
right k = record { apart = λ a b. xor_shr a b k }

mask : (k : ℕ) → Additive (λ x. x % 2 ^ k)
mask k = record { apart = λ a b. xor_mod a b k }

bit-times : (c x y : ℕ) → x < 2 → y < 2 → bit_xor x y * c ≡ bit_xor (x * c) (y * c)
bit-times c zero y h k = let e : 0 * c ≡ 0 = zero-mul c in rw e
bit-times c (suc zero) zero h k = let e : 0 * c ≡ 0 = zero-mul c in rw e (sym (xor_zero_r (1 * c)))
bit-times c (suc zero) (suc zero) h k = zero-mul c ∙ sym (xor_self (1 * c))
bit-times c (suc zero) (suc (suc y)) h k = absurd (omega arith)
bit-times c (suc (suc x)) y h k = absurd (omega arith)

-- the lowest bit as one number or another
times : (c : ℕ) → Additive (λ x. x % 2 * c)
times c = record {
  apart = λ a b. ap (λ (x : ℕ). x * c) (xor_mod a b 1) ∙ bit-times c (a % 2) (b % 2) (omega arith) (omega arith);
}

-- ---- two such functions are the same if they are at each bit

of_none : {f : ℕ → ℕ} → Additive f → f 0 ≡ 0
of_none {f} hf = hf.apart 0 0 ∙ xor_self (f 0)

abbrev and : Bool → Bool → Bool
and true b = b
and false b = false

and_left : (a b : Bool) → T (and a b) → T a
and_left true b t = tt
and_left false b t = t

and_right : (a b : Bool) → T (and a b) → T b
and_right true b t = t
and_right false b t = absurd t

abbrev at_bits : (ℕ → ℕ) → (ℕ → ℕ) → ℕ → Bool
at_bits f g zero = true
at_bits f g (suc n) = and (f (2 ^ n) == g (2 ^ n)) (at_bits f g n)

-- a number of n + 1 bits, its highest set, is that bit and a number of n bits
top : (n x : ℕ) → 2 ^ n ≤ x → x < 2 ^ suc n → (bit_xor (2 ^ n) (x - 2 ^ n) ≡ x) × (x - 2 ^ n < 2 ^ n)
top n x l h =
    let e = pow-suc 2 n in
    let less : x - 2 ^ n < 2 ^ n = omega arith in
    let one : 1 * 2 ^ n ≡ 2 ^ n = one-mul (2 ^ n) in
    let sum : bit_xor (2 ^ n) (x - 2 ^ n) ≡ 2 ^ n + (x - 2 ^ n) = rw one at (xor_shifted 1 n (x - 2 ^ n) less) in
    (sum ∙ omega arith, less)

agree : {f g : ℕ → ℕ} → Additive f → Additive g → (n : ℕ) → T (at_bits f g n) → (x : ℕ) → x < 2 ^ n → f x ≡ g x
agree {f} {g} hf hg zero t x h = let e : x ≡ 0 = omega arith in rw e (of_none hf ∙ sym (of_none hg))
agree {f} {g} hf hg (suc n) t x h = elim (dec_lt x (2 ^ n)) [
  | yes l ↦ agree hf hg n rest x l
  | no l ↦ (
      let parts = top n x (omega arith) h in
      ap f (sym parts.0)
      ∙ hf.apart (2 ^ n) (x - 2 ^ n)
      ∙ ap₂ bit_xor (eqb→eq (f (2 ^ n)) (g (2 ^ n)) (and_left (f (2 ^ n) == g (2 ^ n)) (at_bits f g n) t))
      (agree hf hg n rest (x - 2 ^ n) parts.1)
      ∙ sym (ap g (sym parts.0) ∙ hg.apart (2 ^ n) (x - 2 ^ n)))
]
  where
    rest : T (at_bits f g n)
    rest = and_right (f (2 ^ n) == g (2 ^ n)) (at_bits f g n) t

-- ---- the three functions

spread : {f : ℕ → ℕ} → (k : ℕ) → Additive f → Additive (λ x. bit_xor (f x) (f x * 2 ^ k))
spread k hf = both hf (then hf (left k))

low-spread : Additive (λ x. bit_xor (x % 2 ^ 4) (x % 2 ^ 4 * 2) % 2 ^ 5)
low-spread = then (spread 1 (mask 4)) (mask 5)

folded-sum : Additive folded
unfolding folded
folded-sum =
    both
    (both (spread 1 (right 18)) (spread 2 (then (right 4) (mask 14))))
    (then (then (spread 2 low-spread) (mask 7)) (left 10))

settled-sum : Additive settled
unfolding settled
settled-sum = both (mask 16) (then (right 16) (times 0x4003))

onto-sum : {f : ℕ → ℕ} → (k : ℕ) → Additive f → Additive (λ x. bit_xor (f x) (f x / 2 ^ k))
onto-sum k hf = both hf (then hf (right k))

odd-sum : Additive odd
unfolding odd
odd-sum = then (onto-sum 1 (onto-sum 2 (onto-sum 4 (onto-sum 8 (onto-sum 16 same))))) (mask 1)

pub odd-lt : (x : ℕ) → odd x < 2
unfolding odd
odd-lt x = omega arith

weight-sum : Additive (λ x. odd x * 0xC001)
weight-sum = record {
  apart = λ a b. ap (λ (x : ℕ). x * 0xC001) (odd-sum.apart a b)
      ∙ bit-times 0xC001 (odd a) (odd b) (odd-lt a) (odd-lt b);
}

shifted-additive : (n : ℕ) → Additive (shifted n)
shifted-additive n = record { apart = shifted_sum n }

-- ---- a word of 32 bits

fold-test : T (at_bits (shifted 32) (λ x. bit_xor (settled (folded x)) (odd x * 0xC001)) 32)
unfolding shifted turns turned folded settled odd
fold-test = tt

fold_word : (x : ℕ) → x < 2 ^ 32 → shifted 32 x ≡ bit_xor (settled (folded x)) (odd x * 0xC001)
fold_word = agree (shifted-additive 32) (both (then folded-sum settled-sum) weight-sum) 32 fold-test

none-sum : Additive (λ x. 0)
none-sum = record { apart = λ a b. refl }

even-test : T (at_bits (λ x. odd (folded x)) (λ x. 0) 32)
unfolding folded odd
even-test = tt

pub fold-even : (x : ℕ) → x < 2 ^ 32 → odd (folded x) ≡ 0
fold-even = agree (then folded-sum odd-sum) none-sum 32 even-test

settled-test : T (at_bits (λ x. shifted 32 (settled x)) (shifted 32) 17)
unfolding shifted turns turned settled
settled-test = tt

settled-shifts : (z : ℕ) → z < 2 ^ 17 → shifted 32 (settled z) ≡ shifted 32 z
settled-shifts = agree (then settled-sum (shifted-additive 32)) (shifted-additive 32) 17 settled-test

weight-stays : (b : ℕ) → b < 2 → shifted 32 (b * 0xC001) ≡ b * 0xC001
unfolding shifted turns turned
weight-stays zero h = refl
weight-stays (suc zero) h = refl
weight-stays (suc (suc b)) h = absurd (omega arith)

pub fold-lt : (x : ℕ) → x < 2 ^ 32 → folded x < 2 ^ 17
unfolding folded
fold-lt x h =
    let high = x / 2 ^ 18 in
    let middle = x / 2 ^ 4 % 2 ^ 14 in
    let high_lt : bit_xor high (high * 2) < 2 ^ 17 = xor_lt 17 high (high * 2) (omega arith) (omega arith) in
    let middle-lt : bit_xor middle (middle * 2 ^ 2) < 2 ^ 17
    = xor_lt 17 middle (middle * 2 ^ 2) (omega arith) (omega arith) in
    let upper_lt = xor_lt 17 (bit_xor high (high * 2)) (bit_xor middle (middle * 2 ^ 2)) high_lt middle-lt in
    let pair = bit_xor (x % 2 ^ 4) (x % 2 ^ 4 * 2) % 2 ^ 5 in
    let low = bit_xor pair (pair * 2 ^ 2) % 2 ^ 7 * 2 ^ 10 in
    xor_lt 17 (bit_xor (bit_xor high (high * 2)) (bit_xor middle (middle * 2 ^ 2))) low upper_lt (omega arith)

-- the next word w: the sum goes on without its parity, which is even, and the words' own is kept apart
pub word-folds : (z words w : ℕ) → z < 2 ^ 17 → odd z ≡ 0 → w < 2 ^ 32
    → shifted 32 (bit_xor (remainder_of z words) w) ≡ remainder_of (folded (bit_xor z w)) (bit_xor words w)
unfolding remainder_of
word-folds z words w hz even hw =
    let x = bit_xor z w in
    let weight = odd words * 0xC001 in
    let x_lt : x < 2 ^ 32 = xor_lt 32 z w (omega arith) hw in
    let parity : odd x ≡ odd w = odd-sum.apart z w ∙ rw even in
    let apart : shifted 32 (bit_xor (bit_xor (settled z) weight) w) ≡ bit_xor (bit_xor (shifted 32 z) weight) (shifted 32 w)
    =
    shifted_sum 32 (bit_xor (settled z) weight) w
    ∙ ap (λ (y : ℕ). bit_xor y (shifted 32 w))
    (shifted_sum 32 (settled z) weight ∙ ap₂ bit_xor (settled-shifts z hz) (weight-stays (odd words) (odd-lt words))) in
    let moved : bit_xor (bit_xor (shifted 32 z) weight) (shifted 32 w) ≡ bit_xor (shifted 32 x) weight =
    xor_assoc (shifted 32 z) weight (shifted 32 w)
    ∙ ap (λ (y : ℕ). bit_xor (shifted 32 z) y) (xor_comm weight (shifted 32 w))
    ∙ sym (xor_assoc (shifted 32 z) (shifted 32 w) weight)
    ∙ ap (λ (y : ℕ). bit_xor y weight) (sym (shifted_sum 32 z w)) in
    let weights : bit_xor (odd x * 0xC001) weight ≡ odd (bit_xor words w) * 0xC001 =
    ap (λ (y : ℕ). bit_xor (y * 0xC001) weight) parity
    ∙ xor_comm (odd w * 0xC001) weight
    ∙ sym (weight-sum.apart words w) in
    apart
    ∙ moved
    ∙ ap (λ (y : ℕ). bit_xor y weight) (fold_word x x_lt)
    ∙ xor_assoc (settled (folded x)) (odd x * 0xC001) weight
    ∙ ap (λ (y : ℕ). bit_xor (settled (folded x)) y) weights

pub remainder-lt : (z words : ℕ) → remainder_of z words < 65536
unfolding remainder_of settled
remainder-lt z words =
    let bound = odd-lt words in
    xor_lt 16 (bit_xor (z % 2 ^ 16) (z / 2 ^ 16 % 2 * 0x4003)) (odd words * 0xC001)
    (xor_lt 16 (z % 2 ^ 16) (z / 2 ^ 16 % 2 * 0x4003) (omega arith) (omega arith))
    (omega arith)
