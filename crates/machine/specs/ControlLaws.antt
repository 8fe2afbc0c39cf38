-- A continue at a point of the control pipe's. Assumes nothing.
use Rattle.std.specs.Prelude.{◌≡◌, refl, ℕ}
use Rattle.std.proofs.Common.{ne_eqb}
use Rattle.state.specs.declared.Saved.{Saved}
use Rattle.script_ops.specs.Numbers.{CONTROL}
use Rattle.script.specs.Script.{run}
use Rattle.script_ops.specs.Concrete.{concrete}
use Rattle.control.specs.declared.Point.TheVariants as point
use Rattle.control.specs.Points.{denote, awaits_at}
use Rattle.control.specs.Codec as codec
use Rattle.control.specs.Codec.{by_number}
use Rattle.machine.specs.declared.Suspended.TheVariants as under
use Rattle.machine.specs.Suspended.{decode}
use Rattle.machine.specs.Stands.{NoneOf}
use Rattle.machine.specs.Family.{Family}

-- any other number
pub first : (c : Saved) (k : ℕ) → NoneOf 8 k → point.Wrote ≡ by_number k c
first c k ((((((((z, a), b), d), e), f), g), h), i) =
    simp (
      ne_eqb k 1 a,
      ne_eqb k 2 b,
      ne_eqb k 3 d,
      ne_eqb k 4 e,
      ne_eqb k 5 f,
      ne_eqb k 6 g,
      ne_eqb k 7 h,
      ne_eqb k 8
          i,
    )

pub control : Family under.Control awaits_at (λ p v t. run concrete (denote p v) t) CONTROL by_number
unfolding decode codec.decode
control = record { under_way_lem = λ p. refl; read = λ c t. simp t }
