-- The number that an allocation finds: 1 to 15 and free; without an address, the lowest such, and none only where none
-- is. Assumes nothing.
use Rattle.std.specs.Prelude.{◌≡◌, Bool, ◌⊎◌, ltb}
use Rattle.std.proofs.Math.Path.{refl, subst}
use Rattle.std.proofs.Math.Bool.{true, false}
use Rattle.std.proofs.Common.{inl, inr, eq-zero-or-pos, eq-or-lt_of_le}
use Rattle.std.proofs.Math.Logic.{⊎_elim}
use Prim.Native.Nat.{ℕ, zero, suc, ◌+◌, ◌/◌, ◌%◌, ◌≤◌, ◌<◌}
use native.Mathlib.Omega.{arith}
use Rattle.std.proofs.Math.Dec.{eqb, leb}
use borrow.Author.Tests.{eqb-false, leb-false, le-ltb}
use Rattle.state.specs.declared.Allocator.{Allocator}
use Rattle.regs.specs.declared.Dir.{Dir}
use Rattle.alloc.specs.declared.Found.{Found}
use Rattle.alloc.specs.declared.Found.TheVariants.{Number, Nothing}
use Rattle.alloc.specs.Alloc.{if, is_free, dir_bit, asked_of, lowest_of, number_of}

-- a fact of either answer of a test, under the test's outcome
pub either : {A : Type 0} (P : A → Type 0) (b : Bool) (x y : A) → (b ≡ true → P x) → (b ≡ false → P y) → P (if b x y)
either P true x y p q = p refl
either P false x y p q = q refl

-- ---- what is found may be given

abbrev pub Good : Allocator → Bool → Dir → Found → Type 0
Good a iso dir (Number e) = (1 ≤ e) × (e ≤ 15) × (is_free a iso dir e ≡ true)
Good a iso dir Nothing = Unit {0}

module _ (a : Allocator) (iso : Bool) (dir : Dir) where
  asked-good : (address : ℕ) → Good a iso dir (asked_of a iso address dir)
  unfolding asked_of
  asked-good address =
      go (eqb (address / 128) (dir_bit dir)) (eqb (address % 128) 0) (leb 16 (address % 128))
      (is_free a iso dir (address % 128)) refl refl refl
    where
      go : (d z l f : Bool) → eqb (address % 128) 0 ≡ z → leb 16 (address % 128) ≡ l → is_free a iso dir (address % 128)
          ≡ f
          → Good a iso dir (if d (if z Nothing (if l Nothing (if f (Number (address % 128)) Nothing))) Nothing)
      go false z l f p q r = tt
      go true true l f p q r = tt
      go true false true f p q r = tt
      go true false false false p q r = tt
      go true false false true p q r =
          let h = leb-false 16 (address % 128) q in (
            ⊎_elim (λ e. absurd (eqb-false (address % 128) 0 p e)) (λ n. n) (eq-zero-or-pos (address % 128)),
            omega
                arith,
            r,
          )

  lowest-good : (left e : ℕ) → 1 ≤ e → left + e ≤ 16 → Good a iso dir (lowest_of a iso dir left e)
  unfolding lowest_of
  lowest-good zero e p h = tt
  lowest-good (suc left) e p h =
      either (Good a iso dir) (is_free a iso dir e) _ _ (λ f. (p, omega arith, f))
      (λ _. lowest-good left (suc e) (omega arith) (omega arith))

  pub found-good : (address : ℕ) → Good a iso dir (number_of a iso address dir)
  unfolding number_of
  found-good address =
      either (Good a iso dir) (ltb address 256) _ _ (λ _. asked-good address)
      (λ _. lowest-good 15 1 (omega arith) (omega arith))

  -- a number found is 1 to 15 and free
  pub number-good : (address e : ℕ) → number_of a iso address dir ≡ Number e → (1 ≤ e) × (e ≤ 15)
      × (is_free a iso dir e ≡ true)
  number-good address e q = subst (Good a iso dir) q (found-good address)

-- ---- and is the lowest

-- the number found, or the end of the search
abbrev pub reached : ℕ → Found → ℕ
reached to (Number e) = e
reached to Nothing = to

-- of the numbers from `from` on, below `to`, those before the one found are not free
abbrev pub Lowest : Allocator → Bool → Dir → ℕ → ℕ → Found → Type 0
Lowest a iso dir from to f = (j : ℕ) → from ≤ j → j < reached to f → is_free a iso dir j ≡ false

module _ (a : Allocator) (iso : Bool) (dir : Dir) where
  earlier : (to e : ℕ) → is_free a iso dir e ≡ false → (f : Found) → Lowest a iso dir (suc e) to f
      → Lowest a iso dir e to f
  earlier to e n f h = λ j p q. at j (eq-or-lt_of_le p) (λ r. h j r q)
    where
      at : (j : ℕ) → (e ≡ j) ⊎ (e < j) → (suc e ≤ j → is_free a iso dir j ≡ false) → is_free a iso dir j ≡ false
      at j (inl r) g = subst (λ (x : ℕ). is_free a iso dir x ≡ false) r n
      at j (inr r) g = g r

  pub lowest-lowest : (left e : ℕ) → Lowest a iso dir e (left + e) (lowest_of a iso dir left e)
  unfolding lowest_of
  lowest-lowest zero e = λ j p q. absurd (omega arith)
  lowest-lowest (suc left) e =
      either (Lowest a iso dir e (suc left + e)) (is_free a iso dir e) _ _ (λ f j p q. absurd (omega arith))
      (λ n. earlier (suc left + e) e n (lowest_of a iso dir left (suc e)) (shifted (lowest-lowest left (suc e))))
    where
      shifted : Lowest a iso dir (suc e) (left + suc e) (lowest_of a iso dir left (suc e))
          → Lowest a iso dir (suc e) (suc left + e) (lowest_of a iso dir left (suc e))
      shifted h = subst (λ (t : ℕ). Lowest a iso dir (suc e) t (lowest_of a iso dir left (suc e))) (omega arith) h

  -- without an address the lowest free of 1 to 15 is found, and none only where none of them is free
  pub number-lowest : (address : ℕ) → 256 ≤ address → Lowest a iso dir 1 16 (number_of a iso address dir)
  unfolding number_of
  number-lowest address h = rw (le-ltb address 256 h) (lowest-lowest 15 1)
