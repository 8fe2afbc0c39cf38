-- What was stored is read back, and what lies elsewhere is as it was. Assumes nothing.
use Rattle.std.specs.Prelude.{◌≡◌, ℕ, zero, suc, ◌+◌, ◌<◌, ◌≤◌, ◌≢◌, ◌⊎◌, List, [], ◌∷◌, length, set, slice_index, slice_set, refl}
use Rattle.std.proofs.Common.{ap, ◌∙◌, ⊎_elim, arith, length-set, get_or-set_same, get_or-set_other}
use Rattle.bits.specs.Bytes.{gets_from, gets, puts_from, puts}

-- ys has xs's bytes from p up to q
abbrev pub Same : List ℕ → List ℕ → ℕ → ℕ → Type 0
Same xs ys p q = (i : ℕ) → p ≤ i → i < q → slice_index ys i ≡ slice_index xs i

-- an index that no store meets
puts_from-apart : (xs : List ℕ) (o k i : ℕ) (vs : List ℕ) (j : ℕ)
    → ((m : ℕ) → i ≤ m → m < i + length vs → j ≢ o + (k + m)) → slice_index (puts_from xs o k i vs) j ≡ slice_index xs j
puts_from-apart xs o k i [] j h = refl
puts_from-apart xs o k i (v ∷ vs) j h =
    puts_from-apart (slice_set xs (o + (k + i)) v) o k (i + 1) vs j (λ m a b. h m (omega arith) (omega arith))
    ∙ get_or-set_other xs (o + (k + i)) j v 0 (h i (omega arith) (omega arith))

pub puts-same : (xs : List ℕ) (o : ℕ) (vs : List ℕ) (p q : ℕ) → (q ≤ o) ⊎ (o + length vs ≤ p)
    → Same xs (puts xs o 0 vs) p q
puts-same xs o vs p q h i a b = puts_from-apart xs o 0 0 vs i
    (λ m c d e. ⊎_elim (λ (l : q ≤ o). omega arith) (λ (l : o + length vs ≤ p). omega arith) h)

gets_from-ext : (xs ys : List ℕ) (o k i n : ℕ) → ((m : ℕ) → i ≤ m → m < i + n → slice_index ys (o + (k + m))
    ≡ slice_index xs (o + (k + m)))
    → gets_from ys o k i n ≡ gets_from xs o k i n
gets_from-ext xs ys o k i zero h = refl
gets_from-ext xs ys o k i (suc n) h =
    λ t. h i (omega arith) (omega arith) t ∷ gets_from-ext xs ys o k (i + 1) n (λ m a b. h m (omega arith) (omega arith))
    t

pub gets-same : (xs ys : List ℕ) (o n : ℕ) → Same xs ys o (o + n) → gets ys o 0 n ≡ gets xs o 0 n
gets-same xs ys o n h = gets_from-ext xs ys o 0 0 n (λ m a b. h (o + (0 + m)) (omega arith) (omega arith))

gets_from-puts : (xs : List ℕ) (o k i : ℕ) (vs : List ℕ) → o + k + i + length vs ≤ length xs
    → gets_from (puts_from xs o k i vs) o k i (length vs) ≡ vs
gets_from-puts xs o k i [] h = refl
gets_from-puts xs o k i (v ∷ vs) h =
    let ys = set xs (o + (k + i)) v in
    λ t. (puts_from-apart ys o k (i + 1) vs (o + (k + i)) (λ m a b e. omega arith)
    ∙ get_or-set_same xs (o + (k + i)) v 0 (omega arith)) t
    ∷ gets_from-puts ys o k (i + 1) vs (omega (arith, length-set xs (o + (k + i)) v)) t

-- what was stored is read back
pub gets-puts : (xs : List ℕ) (o : ℕ) (vs : List ℕ) → o + length vs ≤ length xs → gets (puts xs o 0 vs) o 0 (length vs)
    ≡ vs
gets-puts xs o vs h = gets_from-puts xs o 0 0 vs (omega arith)

-- bytes of a run
get_d-gets_from : (xs : List ℕ) (o k i n j : ℕ) → j < n → slice_index (gets_from xs o k i n) j ≡ slice_index xs (o + (k + (i + j)))
get_d-gets_from xs o k i zero j l = absurd (omega arith)
get_d-gets_from xs o k i (suc n) zero l = let e : o + (k + i) ≡ o + (k + (i + 0))
    = omega arith in ap (λ (m : ℕ). slice_index xs m) e
get_d-gets_from xs o k i (suc n) (suc j) l =
    let e : o + (k + (i + 1 + j)) ≡ o + (k + (i + suc j)) = omega arith in
    get_d-gets_from xs o k (i + 1) n j (omega arith) ∙ ap (λ (m : ℕ). slice_index xs m) e

pub get_d-gets : (xs : List ℕ) (o n j : ℕ) → j < n → slice_index (gets xs o 0 n) j ≡ slice_index xs (o + j)
get_d-gets xs o n j l = let e : o + (0 + (0 + j)) ≡ o + j = omega arith in get_d-gets_from xs o 0 0 n j l
    ∙ ap (λ (m : ℕ). slice_index xs m) e
