-- A token is the one of its number. Assumes nothing.
use mathlib.Core.Path.{◌≡◌, refl, sym}
use mathlib.Core.Bool.{Bool, true, false}
use Prim.Native.Nat.{ℕ}
use native.Mathlib.Omega.{arith}
use lib.Dec.{eqb}
use borrow.Author.Tests.{eqb-true, ne_eqb}
use Rattle.regs.specs.declared.Token.TheVariants.{Out, Sof, In, Setup}
use Rattle.regs.specs.Status.{or_token, token_numbered, out_token, sof_token, in_token}

-- a number is one number only
apart : (n a b : ℕ) → (a ≡ b → ⊥) → eqb n a ≡ true → eqb n b ≡ false
apart n a b d h = ne_eqb n b (λ e. d (omega (arith, eqb-true n a h)))

pub out-numbered : (n : ℕ) → out_token (token_numbered n) ≡ eqb n 0
unfolding token_numbered
out-numbered n = by (eqb n 0) (eqb n 1) (eqb n 2)
  where
    by : (a b c : Bool) → out_token (or_token a Out (or_token b Sof (or_token c In Setup))) ≡ a
    by true b c = refl
    by false true c = refl
    by false false true = refl
    by false false false = refl

pub sof-numbered : (n : ℕ) → sof_token (token_numbered n) ≡ eqb n 1
unfolding token_numbered
sof-numbered n = by (eqb n 0) (eqb n 1) (eqb n 2) (apart n 0 1 (λ e. omega arith))
  where
    by : (a b c : Bool) → (a ≡ true → b ≡ false) → sof_token (or_token a Out (or_token b Sof (or_token c In Setup))) ≡ b
    by true b c h = sym (h refl)
    by false true c h = refl
    by false false true h = refl
    by false false false h = refl

pub in-numbered : (n : ℕ) → in_token (token_numbered n) ≡ eqb n 2
unfolding token_numbered
in-numbered n = by (eqb n 0) (eqb n 1) (eqb n 2) (apart n 0 2 (λ e. omega arith)) (apart n 1 2 (λ e. omega arith))
  where
    by : (a b c : Bool) → (a ≡ true → c ≡ false) → (b ≡ true → c ≡ false)
        → in_token (or_token a Out (or_token b Sof (or_token c In Setup))) ≡ c
    by true b c h k = sym (h refl)
    by false true c h k = sym (k refl)
    by false false true h k = refl
    by false false false h k = refl
