-- A question is answered (y) where the number is an endpoint's (u), and else with z
use Rattle.std.specs.Prelude.{Bool, true, false, cond, ◌≡◌}

module _ {A : Type 0} {t u : Bool} (y z : A) (e : t ≡ u) where
  pub asked : {x : A} → t ≡ true → x ≡ y → x ≡ cond u y z
  asked h k = rw (← e, h) k

  pub unasked : t ≡ false → z ≡ cond u y z
  unasked h = rw (← e, h)
