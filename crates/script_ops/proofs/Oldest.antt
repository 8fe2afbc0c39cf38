-- What is told of an endpoint's oldest packet where one waits, its length or its stamp, and 0 where none does. Assumes
-- nothing.
use mathlib.Core.Bool.{Bool, true, false, cond}
use mathlib.Core.Path.{◌≡◌, sym, ap, ◌∙◌}
use Prim.Native.Nat.{ℕ}
use Rattle.state.specs.declared.EpState.{EpState}
use Rattle.ring.specs.Slot.{slot_of, has_waiting}

module _ (q r : EpState) (told : ℕ → ℕ) (loaded : r ≡ q) (w : Bool) (tested : w ≡ has_waiting r) where
  abbrev oldest : EpState → ℕ
  oldest s = told (slot_of s s.tail)

  waits : (b : Bool) → w ≡ b → cond (has_waiting q) (oldest q) 0 ≡ cond b (oldest q) 0
  waits b t = ap (λ (x : Bool). cond x (oldest q) 0) (ap has_waiting (sym loaded) ∙ sym tested ∙ t)

  pub one-waits : (i n : ℕ) → w ≡ true → i ≡ slot_of r r.tail → n ≡ told i → n ≡ cond (has_waiting q) (oldest q) 0
  one-waits i n t e f = f ∙ ap told e ∙ ap oldest loaded ∙ sym (waits true t)

  pub none_waits : w ≡ false → 0 ≡ cond (has_waiting q) (oldest q) 0
  none_waits t = sym (waits false t)
