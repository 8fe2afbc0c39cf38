-- A value fits a width exactly when nothing of it is left above. Assumes nothing.
use mathlib.Core.Path.{◌≡◌, refl, sym}
use mathlib.Core.Bool.{Bool, true, false}
use Prim.Native.Nat.{ℕ, ◌/◌, ◌^◌, ◌≤◌, ◌<◌}
use native.Mathlib.Nat.{div-eq_of_lt, mod-lt, lt_of_lt_of_le}
use native.Mathlib.Omega.{arith}
use borrow.Author.Tests.{lt-ltb, ltb-true, ltb-false, eq-eqb, ne_eqb}
use lib.Dec.{eqb, ltb}
use lib.Pow.{pow_pos, pow_mono, split}
use Rattle.regs.specs.Registers.{fits_in}

-- `v >> w == 0`
pub none_above : (v w : ℕ) → eqb (v / 2 ^ w) 0 ≡ fits_in v w
unfolding fits_in
none_above v w = go (ltb v (2 ^ w)) refl
  where
    above : v / 2 ^ w ≡ 0 → 2 ^ w ≤ v → ⊥
    above z g = let s = rw z at (split v w) in let m = mod-lt v (pow_pos w) in omega arith

    go : (t : Bool) → ltb v (2 ^ w) ≡ t → eqb (v / 2 ^ w) 0 ≡ t
    go true e = eq-eqb (v / 2 ^ w) 0 (div-eq_of_lt (ltb-true v (2 ^ w) e))
    go false e = ne_eqb (v / 2 ^ w) 0 (λ z. above z (ltb-false v (2 ^ w) e))

-- a u32 fits 32 bits and more
pub all_fit : (v w : ℕ) → v < 2 ^ 32 → 32 ≤ w → true ≡ fits_in v w
unfolding fits_in
all_fit v w l h = sym (lt-ltb v (2 ^ w) (lt_of_lt_of_le l (pow_mono {i = 32} {j = w} h)))
