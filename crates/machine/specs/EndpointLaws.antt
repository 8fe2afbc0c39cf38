-- A continue at a point of a read's or write's. Assumes nothing.
use Rattle.std.specs.Prelude.{◌≡◌, refl, ℕ}
use Rattle.std.proofs.Common.{ne_eqb}
use Rattle.state.specs.declared.Saved.{Saved}
use Rattle.script_ops.specs.Numbers.{ENDPOINT}
use Rattle.script.specs.Script.{run}
use Rattle.script_ops.specs.Concrete.{concrete}
use Rattle.endpoint.specs.declared.Point.TheVariants as point
use Rattle.endpoint.specs.Points.{denote, awaits_at}
use Rattle.endpoint.specs.Codec as codec
use Rattle.endpoint.specs.Codec.{by_number}
use Rattle.machine.specs.declared.Suspended.TheVariants as under
use Rattle.machine.specs.Suspended.{decode}
use Rattle.machine.specs.Stands.{NoneOf}
use Rattle.machine.specs.Family.{Family}

-- any other number
pub first : (c : Saved) (k : ℕ) → NoneOf 2 k → point.Wrote ≡ by_number k c
first c k ((z, a), b) =
    simp (ne_eqb k 1 a, ne_eqb k 2 b)

pub endpoint : Family under.Endpoint awaits_at (λ p v t. run concrete (denote p v) t) ENDPOINT by_number
unfolding decode codec.decode
endpoint = record { under_way_lem = λ p. refl; read = λ c t. simp t }
