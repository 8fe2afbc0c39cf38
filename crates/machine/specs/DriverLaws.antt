-- A continue at a point of the driver's own. Assumes nothing.
use Rattle.std.specs.Prelude.{◌≡◌, refl, ℕ}
use Rattle.std.proofs.Common.{ne_eqb}
use Rattle.state.specs.declared.Saved.{Saved}
use Rattle.script_ops.specs.Numbers.{DRIVER}
use Rattle.script.specs.Statics.{is_on}
use Rattle.script.specs.Script.{run}
use Rattle.script_ops.specs.Concrete.{concrete}
use Rattle.driver.specs.declared.Point.TheVariants as point
use Rattle.driver.specs.Points.{denote, awaits_at}
use Rattle.driver.specs.Codec as codec
use Rattle.driver.specs.Codec.{by_number}
use Rattle.machine.specs.declared.Suspended.TheVariants as under
use Rattle.machine.specs.Suspended.{decode}
use Rattle.machine.specs.Stands.{NoneOf}
use Rattle.machine.specs.Family.{Family}

-- any other number
pub first : (c : Saved) (k : ℕ) → NoneOf 16 k → point.Clear (is_on c.flag) ≡ by_number k c
first c k ((((((((((((((((z, a), b), d), e), f), g), h), i), j), l), m), n), o), p), q), r) =
    simp (
      ne_eqb k 1 a,
      ne_eqb k 2 b,
      ne_eqb k 3 d,
      ne_eqb k 4 e,
      ne_eqb k 5 f,
      ne_eqb k 6 g,
      ne_eqb k 7 h,
      ne_eqb k 8
          i,
      ne_eqb k 9 j,
    )
    (simp (ne_eqb k 10 l, ne_eqb k 11 m, ne_eqb k 12 n, ne_eqb k 13 o, ne_eqb k 14 p, ne_eqb k 15 q, ne_eqb k 16 r))

pub driver : Family under.Driver awaits_at (λ p v t. run concrete (denote p v) t) DRIVER by_number
unfolding decode codec.decode
driver = record { under_way_lem = λ p. refl; read = λ c t. simp t }
