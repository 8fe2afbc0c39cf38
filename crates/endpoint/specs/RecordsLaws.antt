-- Laws on the definitions of Records.antt
use Rattle.std.specs.Prelude.{◌≡◌, Bool}

-- a test of what was loaded is a test of the driver
pub on-driver : {A : Type 0} {x y : A} (f : A → Bool) {r t : Bool} → x ≡ y → r ≡ f x → r ≡ t → f y ≡ t
on-driver f e h k = rw (← e, ← h) k
