-- Lists of endpoints: what holds of each, and of each in a mask
use Rattle.std.specs.Prelude.{true, List, [], ◌∷◌, ◌≡◌, refl, ℕ, ◌<◌}
use Rattle.std.proofs.Common.{inl, inr}
use Rattle.bits.specs.Bit.{bit_is_set}
use Rattle.bits.specs.Walk.{set_bits}
use Rattle.bits.specs.WalkLaws.{In, walked-set}

abbrev pub Each : (ℕ → Type 0) → List ℕ → Type 0
Each P [] = Unit {0}
Each P (e ∷ es) = P e × Each P es

each_in : {P : ℕ → Type 0} (es : List ℕ) → ((e : ℕ) → In e es → P e) → Each P es
each_in [] f = tt
each_in (e ∷ es) f = (f e (inl refl), each_in es (λ x m. f x (inr m)))

pub each_set : {P : ℕ → Type 0} (m : ℕ) → ((e : ℕ) → e < 16 → bit_is_set m e ≡ true → P e) → Each P (set_bits m)
each_set m f = each_in (set_bits m) (λ e i. let s = walked-set m e i in f e s.0 s.1)
