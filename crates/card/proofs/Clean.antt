-- Laws on blocks that are good.
use Rattle.std.specs.Prelude.{◌≡◌, ℕ, zero, suc, ◌+◌, ◌-◌, ◌<◌, ◌≤◌, Bool, true, false, cond, refl}
use Rattle.std.proofs.Common.{sym, ◌∙◌, arith}
use Rattle.std.proofs.Math.Bool.{and-false}
use Rattle.std.proofs.lemmas.Bool.{false≢true}
use Rattle.std.proofs.Math.Decide.{ℕ_discrete, dec_lt}
use Rattle.card.specs.Reading.{View, clean_to}
use Rattle.card.specs.Kept.{all_good}

pub clean-low : (v : View) (n k : ℕ) → k ≤ clean_to v k n
unfolding clean_to
clean-low v zero k = omega arith
clean-low v (suc n) k = go (clean-low v n (k + 1)) (v.good k)
  where
    go : k + 1 ≤ clean_to v (k + 1) n → (b : Bool) → k ≤ cond b (clean_to v (k + 1) n) k
    go i true = omega arith
    go i false = omega arith

pub clean-bad : (v : View) (n k : ℕ) → clean_to v k n < k + n → v.good (clean_to v k n) ≡ false
unfolding clean_to
clean-bad v zero k h = absurd (omega arith)
clean-bad v (suc n) k h = go (clean-bad v n (k + 1)) (v.good k) refl h
  where
    go : (clean_to v (k + 1) n < k + 1 + n → v.good (clean_to v (k + 1) n) ≡ false)
        → (b : Bool) → v.good k ≡ b → cond b (clean_to v (k + 1) n) k < k + suc n
        → v.good (cond b (clean_to v (k + 1) n) k) ≡ false
    go i true e l = i (omega arith)
    go i false e l = e

pub clean-good : (v : View) (n k j : ℕ) → k ≤ j → j < clean_to v k n → v.good j ≡ true
unfolding clean_to
clean-good v zero k j l h = absurd (omega arith)
clean-good v (suc n) k j l h = go (clean-good v n (k + 1) j) (v.good k) refl h
  where
    go : (k + 1 ≤ j → j < clean_to v (k + 1) n → v.good j ≡ true)
        → (b : Bool) → v.good k ≡ b → j < cond b (clean_to v (k + 1) n) k → v.good j ≡ true
    go i true e m = elim (ℕ_discrete j k) [
      | yes f ↦ rw f e
      | no f ↦ i (omega arith) m
    ]
    go i false e m = absurd (omega arith)

-- the blocks behind some that are good
pub clean-join : (v : View) (a b k : ℕ) → k + a ≤ clean_to v k a → clean_to v k (a + b) ≡ clean_to v (k + a) b
unfolding clean_to
clean-join v zero b k h =
    let e : 0 + b ≡ b = omega arith in
    let f : k + 0 ≡ k = omega arith in
    rw (e, f)
clean-join v (suc a) b k h = go (v.good k) refl h (clean-join v a b (k + 1))
  where
    go : (g : Bool) → v.good k ≡ g → k + suc a ≤ cond g (clean_to v (k + 1) a) k
        → (k + 1 + a ≤ clean_to v (k + 1) a → clean_to v (k + 1) (a + b) ≡ clean_to v (k + 1 + a) b)
        → clean_to v k (suc a + b) ≡ clean_to v (k + suc a) b
    go true e l i =
        let x : suc a + b ≡ suc (a + b) = omega arith in
        let y : k + suc a ≡ k + 1 + a = omega arith in
        rw (x, y, e) (i (omega arith))
    go false e l i = absurd (omega arith)

-- of blocks that are all good, the last ones
pub clean-part : (v : View) (a b e : ℕ) → a ≤ b → b ≤ e → e ≤ clean_to v a (e - a) → e ≤ clean_to v b (e - b)
clean-part v a b e l h c = elim (dec_lt (clean_to v b (e - b)) e) [
  | yes bad ↦ (let x = clean_to v b (e - b) in
      let no = clean-bad v (e - b) b (omega arith) in
      let yes = clean-good v (e - a) a x (omega (arith, clean-low v (e - b) b)) (omega arith) in
      absurd (false≢true (sym no ∙ yes)))
  | no good ↦ omega arith
]

pub all-false : (v : View) (n k j : ℕ) → k ≤ j → j < k + n → v.good j ≡ false → all_good v k n ≡ false
unfolding all_good
all-false v zero k j l h e = absurd (omega arith)
all-false v (suc n) k j l h e = elim (ℕ_discrete j k) [
  | yes f ↦ (let g : v.good k ≡ false = rw f at e in rw g)
  | no f ↦ rw (all-false v n (k + 1) j (omega arith) (omega arith) e) (and-false (v.good k))
]

pub all_true : (v : View) (n k : ℕ) → ((j : ℕ) → k ≤ j → j < k + n → v.good j ≡ true) → all_good v k n ≡ true
unfolding all_good
all_true v zero k h = refl
all_true v (suc n) k h = rw (
  h k (omega arith) (omega arith),
  all_true v n (k + 1)
      (λ j l m. h j (omega arith) (omega arith)),
)
