-- Laws on the definitions of Bytewise.antt
use Rattle.std.specs.Prelude.{◌≡◌, ℕ, zero, suc, ◌+◌, ◌*◌, ◌/◌, ◌%◌, ◌^◌, ◌<◌, Bool, true, false, cond, ◌==◌, bit_xor, refl}
use Rattle.std.proofs.Common.{sym, ap, ap₂, ◌∙◌, pow-suc, mul_comm, arith}
use Rattle.std.proofs.Math.Nat.{div-div-eq-div-mul}
use Rattle.std.specs.Int.Bits.{differ, xor_zero_r, block_half, block_odd}
use Rattle.std.proofs.lemmas.Nat.{xor_comm}
use Rattle.card.specs.Register.{turned, turns}
use Rattle.card.specs.Xor.{xor-half, xor-odd, xor_assoc, xor-swap}
use Rattle.card.specs.Bytewise.{word_of}

-- what n data bits of 0 make of the remainder
unfoldable pub shifted : ℕ → ℕ → ℕ
shifted n r = turns n r 0

-- ---- one bit

abbrev feedback : Bool → ℕ
feedback true = 0
feedback false = 0xA001

turned_as : (r x : ℕ) → turned r x ≡ bit_xor (r / 2) (feedback (r % 2 == x % 2))
unfolding turned
turned_as r x = go (r % 2 == x % 2)
  where
    go : (b : Bool) → cond b (r / 2) (bit_xor (r / 2) 0xA001) ≡ bit_xor (r / 2) (feedback b)
    go true = sym (xor_zero_r (r / 2))
    go false = refl

-- what holds of the four pairs of bits
of-bits : (P : ℕ → ℕ → Type 0) → P 0 0 → P 0 1 → P 1 0 → P 1 1 → (x y : ℕ) → x < 2 → y < 2 → P x y
of-bits P a b c d zero zero h k = a
of-bits P a b c d zero (suc zero) h k = b
of-bits P a b c d zero (suc (suc y)) h k = absurd (omega arith)
of-bits P a b c d (suc zero) zero h k = c
of-bits P a b c d (suc zero) (suc zero) h k = d
of-bits P a b c d (suc zero) (suc (suc y)) h k = absurd (omega arith)
of-bits P a b c d (suc (suc x)) y h k = absurd (omega arith)

-- of two bits: equal, or their exclusive or is 1
feedback-data : (x y : ℕ) → x < 2 → y < 2 → feedback (x == y) ≡ feedback (differ x y == 0)
feedback-data = of-bits (λ x y. feedback (x == y) ≡ feedback (differ x y == 0)) refl refl refl refl

feedback-sum : (x y : ℕ) → x < 2 → y < 2 → feedback (differ x y == 0)
    ≡ bit_xor (feedback (x == 0)) (feedback (y == 0))
feedback-sum = of-bits (λ x y. feedback (differ x y == 0) ≡ bit_xor (feedback (x == 0)) (feedback (y == 0))) refl
    refl refl refl

-- a data bit may as well be added to the remainder first
turned-data : (r x : ℕ) → bit_xor (turned r x) (x / 2) ≡ turned (bit_xor r x) 0
turned-data r x =
    ap (λ (y : ℕ). bit_xor y (x / 2)) (turned_as r x)
    ∙ xor_assoc (r / 2) (feedback (r % 2 == x % 2)) (x / 2)
    ∙ ap (λ (y : ℕ). bit_xor (r / 2) y) (xor_comm (feedback (r % 2 == x % 2)) (x / 2))
    ∙ sym (xor_assoc (r / 2) (x / 2) (feedback (r % 2 == x % 2)))
    ∙ ap₂ bit_xor (sym (xor-half r x)) same
    ∙ sym (turned_as (bit_xor r x) 0)
  where
    same : feedback (r % 2 == x % 2) ≡ feedback (bit_xor r x % 2 == 0)
    same = rw (xor-odd r x) (feedback-data (r % 2) (x % 2) (omega arith) (omega arith))

-- sums go on apart
turned-sum : (a b : ℕ) → turned (bit_xor a b) 0 ≡ bit_xor (turned a 0) (turned b 0)
turned-sum a b =
    turned_as (bit_xor a b) 0
    ∙ ap₂ bit_xor (xor-half a b)
    (rw (xor-odd a b) (feedback-sum (a % 2) (b % 2) (omega arith) (omega arith)))
    ∙ xor-swap (a / 2) (b / 2) (feedback (a % 2 == 0)) (feedback (b % 2 == 0))
    ∙ sym (ap₂ bit_xor (turned_as a 0) (turned_as b 0))

-- ---- n bits

turns-data : (n r x : ℕ) → bit_xor (turns n r x) (x / 2 ^ n) ≡ turns n (bit_xor r x) 0
unfolding turns
turns-data zero r x = let e : x / 1 ≡ x = omega arith in rw e
turns-data (suc n) r x =
    let e : x / 2 ^ suc n ≡ x / 2 / 2 ^ n = rw (pow-suc 2 n, mul_comm (2 ^ n) 2)
    (sym (div-div-eq-div-mul x 2 (2 ^ n))) in
    rw e (turns-data n (turned r x) (x / 2) ∙ rw (turned-data r x))

pub shifted_sum : (n a b : ℕ) → shifted n (bit_xor a b) ≡ bit_xor (shifted n a) (shifted n b)
unfolding shifted turns
shifted_sum zero a b = refl
shifted_sum (suc n) a b = rw (turned-sum a b) (shifted_sum n (turned a 0) (turned b 0))

-- bits above the first m are not looked at
turns-low : (m r h a : ℕ) → turns m r (h * 2 ^ m + a) ≡ turns m r a
unfolding turns turned
turns-low zero r h a = refl
turns-low (suc m) r h a = rw (block_odd h m a, block_half h m a) (turns-low m (turned r a) h (a / 2))

turns_more : (m n r x : ℕ) → turns (m + n) r x ≡ turns n (turns m r x) (x / 2 ^ m)
unfolding turns
turns_more zero n r x =
    let e : 0 + n ≡ n = omega arith in
    let f : x / 1 ≡ x = omega arith in
    rw (e, f)
turns_more (suc m) n r x =
    let e : suc m + n ≡ suc (m + n) = omega arith in
    let f : x / 2 ^ suc m ≡ x / 2 / 2 ^ m = rw (pow-suc 2 m, mul_comm (2 ^ m) 2)
    (sym (div-div-eq-div-mul x 2 (2 ^ m))) in
    rw (e, f) (turns_more m n (turned r x) (x / 2))

-- a byte, then the n bits above it
byte-first : (n r h a : ℕ) → a < 256 → turns (8 + n) r (h * 2 ^ 8 + a) ≡ turns n (turns 8 r a) h
byte-first n r h a l =
    let e : (h * 2 ^ 8 + a) / 2 ^ 8 ≡ h = omega arith in
    turns_more 8 n r (h * 2 ^ 8 + a) ∙ ap₂ (λ (y z : ℕ). turns n y z) (turns-low 8 r h a) e

-- four bytes are added to the remainder as one word
pub word-step : (r a b c d : ℕ) → a < 256 → b < 256 → c < 256 → d < 256
    → turns 8 (turns 8 (turns 8 (turns 8 r a) b) c) d ≡ shifted 32 (bit_xor r (word_of a b c d))
unfolding shifted
word-step r a b c d ha hb hc hd =
    let three : word_of a b c d ≡ ((d * 2 ^ 8 + c) * 2 ^ 8 + b) * 2 ^ 8 + a = omega arith in
    let none : word_of a b c d / 2 ^ 32 ≡ 0 = omega arith in
    let all : bit_xor (turns 32 r (word_of a b c d)) 0 ≡ turns 32 (bit_xor r (word_of a b c d)) 0 =
    rw none at (turns-data 32 r (word_of a b c d)) in
    sym
    (sym all
    ∙ xor_zero_r (turns 32 r (word_of a b c d))
    ∙ ap (λ (x : ℕ). turns 32 r x) three
    ∙ byte-first 24 r ((d * 2 ^ 8 + c) * 2 ^ 8 + b) a ha
    ∙ byte-first 16 (turns 8 r a) (d * 2 ^ 8 + c) b hb
    ∙ byte-first 8 (turns 8 (turns 8 r a) b) d c hc)
