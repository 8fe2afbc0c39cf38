-- Laws on the definitions of Register.antt
use Rattle.std.specs.Prelude.{◌≡◌, ℕ, zero, suc, ◌+◌, ◌-◌, ◌*◌, ◌/◌, ◌%◌, ◌^◌, ◌<◌, Bool, true, false, cond, not, List, [], ◌∷◌, ◌++◌, map, length, ◌==◌, ◌≢◌, bit_xor, nat_eq, refl}
use Rattle.std.proofs.Common.{ap, ◌∙◌, pow-suc, arith, eq-eqb, ne_eqb, eqb-true, length-append}
use Rattle.std.proofs.lemmas.Bool.{eqb-false}
use Rattle.std.specs.Int.Bits.{differ, xor_step}
use Rattle.card.specs.Crc.{xor, digit, bits_of, bits_of_bytes, number_of, generator, ones, added, stepped, remainder}
use Rattle.card.specs.Crc.{crc_bits, data_crc}
use Rattle.card.specs.Register.{turned, turns, over}

-- ---- numbers of lists of bits

digit_lt : (b : Bool) → digit b < 2
digit_lt true = omega arith
digit_lt false = omega arith

number-snoc : (l : List Bool) → number_of (l ++ (false ∷ [])) ≡ number_of l
unfolding number_of
number-snoc [] = refl
number-snoc (b ∷ l) = rw (number-snoc l)

differ-digits : (a b : Bool) → differ (digit a) (digit b) ≡ digit (xor a b)
differ-digits true true = refl
differ-digits true false = refl
differ-digits false true = refl
differ-digits false false = refl

number-added : (l m : List Bool) → length l ≡ length m → number_of (added l m) ≡ bit_xor (number_of l) (number_of m)
unfolding number_of added
number-added [] [] h = refl
number-added [] (b ∷ m) h = absurd (omega arith)
number-added (a ∷ l) [] h = absurd (omega arith)
number-added (a ∷ l) (b ∷ m) h =
    let ih = number-added l m (omega arith) in
    let x : (digit a + number_of l * 2) / 2 ≡ number_of l = omega (arith, digit_lt a) in
    let y : (digit b + number_of m * 2) / 2 ≡ number_of m = omega (arith, digit_lt b) in
    let u : (digit a + number_of l * 2) % 2 ≡ digit a = omega (arith, digit_lt a) in
    let w : (digit b + number_of m * 2) % 2 ≡ digit b = omega (arith, digit_lt b) in
    let s = xor_step (digit a + number_of l * 2) (digit b + number_of m * 2) in
    let t : bit_xor (digit a + number_of l * 2) (digit b + number_of m * 2) ≡ bit_xor (number_of l) (number_of m) * 2
    + digit (xor a b) =
    rw (x, y, u, w, differ-digits a b) at s in
    omega arith

number-not : (l : List Bool) → number_of (map not l) + number_of l + 1 ≡ 2 ^ length l
unfolding number_of
number-not [] = refl
number-not (b ∷ l) = go b (number-not l) (pow-suc 2 (length l))
  where
    go : (b : Bool) → number_of (map not l) + number_of l + 1 ≡ 2 ^ length l → 2 ^ suc (length l) ≡ 2 ^ length l * 2
        → digit (not b) + number_of (map not l) * 2 + (digit b + number_of l * 2) + 1 ≡ 2 ^ suc (length l)
    go true ih e = omega arith
    go false ih e = omega arith

-- ---- one bit

length-added : (l m : List Bool) → length (added l m) ≡ length l
unfolding added
length-added [] m = refl
length-added (a ∷ l) [] = refl
length-added (a ∷ l) (b ∷ m) = ap suc (length-added l m)

length-stepped : (l : List Bool) (b : Bool) → length (stepped l b) ≡ length l
unfolding stepped
length-stepped [] b = refl
length-stepped (high ∷ low) b = go (xor high b)
  where
    shift : length (low ++ (false ∷ [])) ≡ suc (length low)
    shift = omega (arith, length-append low (false ∷ []))

    go : (t : Bool) → length (cond t (added (low ++ (false ∷ [])) generator) (low ++ (false ∷ []))) ≡ suc (length low)
    go true = length-added (low ++ (false ∷ [])) generator ∙ shift
    go false = shift

same_test : (h b : Bool) (x : ℕ) → (x % 2 == 1) ≡ b → (digit h == x % 2) ≡ not (xor h b)
same_test true true x e = eq-eqb 1 (x % 2) (omega (arith, eqb-true (x % 2) 1 e))
same_test true false x e = ne_eqb 1 (x % 2) (λ f. eqb-false (x % 2) 1 e (omega arith))
same_test false true x e = ne_eqb 0 (x % 2) (λ f. omega (arith, eqb-true (x % 2) 1 e))
same_test false false x e = eq-eqb 0 (x % 2) (zero_left (x % 2) (omega arith) (eqb-false (x % 2) 1 e))
  where
    zero_left : (y : ℕ) → y < 2 → (y ≢ 1) → 0 ≡ y
    zero_left y l n = omega arith

number-stepped : (l : List Bool) (b : Bool) (x : ℕ) → length l ≡ 16 → (x % 2 == 1) ≡ b → number_of (stepped l b)
    ≡ turned (number_of l) x
unfolding stepped turned number_of generator
number-stepped [] b x h e = absurd (omega arith)
number-stepped (high ∷ low) b x h e =
    let u : (digit high + number_of low * 2) % 2 ≡ digit high = omega (arith, digit_lt high) in
    let w : (digit high + number_of low * 2) / 2 ≡ number_of low = omega (arith, digit_lt high) in
    rw (u, w, same_test high b x e) (go (xor high b))
  where
    go : (t : Bool) → number_of (cond t (added (low ++ (false ∷ [])) generator) (low ++ (false ∷ [])))
        ≡ cond (not t) (number_of low) (bit_xor (number_of low) 0xA001)
    go true = number-added (low ++ (false ∷ [])) generator (omega (arith, length-append low (false ∷ [])))
        ∙ rw (number-snoc low)
    go false = number-snoc low

-- ---- bits, bytes

length-remainder : (bs l : List Bool) → length (remainder l bs) ≡ length l
unfolding remainder
length-remainder [] l = refl
length-remainder (b ∷ bs) l = length-remainder bs (stepped l b) ∙ length-stepped l b

remainder-append : (l xs ys : List Bool) → remainder l (xs ++ ys) ≡ remainder (remainder l xs) ys
unfolding remainder
remainder-append l [] ys = refl
remainder-append l (x ∷ xs) ys = remainder-append (stepped l x) xs ys

number-bits : (n x : ℕ) (l : List Bool) → length l ≡ 16 → number_of (remainder l (bits_of n x)) ≡ turns n (number_of l) x
unfolding remainder bits_of turns
number-bits zero x l h = refl
number-bits (suc n) x l h =
    let b = nat_eq (x % 2) 1 in
    number-bits n (x / 2) (stepped l b) (length-stepped l b ∙ h) ∙ rw (number-stepped l b x h refl)

number-bytes : (xs : List ℕ) (l : List Bool) → length l ≡ 16 → number_of (remainder l (bits_of_bytes xs))
    ≡ over (number_of l) xs
unfolding remainder bits_of_bytes over
number-bytes [] l h = refl
number-bytes (x ∷ xs) l h =
    ap number_of (remainder-append l (bits_of 8 x) (bits_of_bytes xs))
    ∙ number-bytes xs (remainder l (bits_of 8 x)) (length-remainder (bits_of 8 x) l ∙ h)
    ∙ ap (λ (r : ℕ). over r xs) (number-bits 8 x l h)

pub register-crc : (xs : List ℕ) → 65535 - over 65535 xs ≡ data_crc xs
unfolding data_crc crc_bits ones number_of
register-crc xs =
    let r = remainder ones (bits_of_bytes xs) in
    let len : length r ≡ 16 = length-remainder (bits_of_bytes xs) ones in
    let e : number_of r ≡ over 65535 xs = number-bytes xs ones refl in
    let n : number_of (map not r) + number_of r + 1 ≡ 2 ^ 16 = rw len at (number-not r) in
    omega arith
