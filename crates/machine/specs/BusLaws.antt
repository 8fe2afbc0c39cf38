-- A continue at a point of the bus's. Assumes nothing.
use Rattle.std.specs.Prelude.{◌≡◌, refl, ℕ}
use Rattle.std.proofs.Common.{ne_eqb}
use Rattle.state.specs.declared.Saved.{Saved}
use Rattle.script_ops.specs.Numbers.{BUS}
use Rattle.bus.specs.declared.Point.TheVariants as point
use Rattle.bus.specs.Points.{denote, awaits_at}
use Rattle.bus.specs.Codec as codec
use Rattle.bus.specs.Codec.{by_number}
use Rattle.machine.specs.declared.Suspended.TheVariants as under
use Rattle.machine.specs.Suspended.{decode}
use Rattle.machine.specs.Stands.{NoneOf}
use Rattle.machine.specs.Family.{Family}

-- any other number
pub first : (c : Saved) (k : ℕ) → NoneOf 23 k → point.Enable ≡ by_number k c
first c k (
  (
    (((((((((((((((((((((z, a), b), d), e), f), g), h), i), j), l), m), n), o), p), q), r), s), t), u), v), w),
    x,
  ),
  y,
) =
    simp (
      ne_eqb k 1 a,
      ne_eqb k 2 b,
      ne_eqb k 3 d,
      ne_eqb k 4 e,
      ne_eqb k 5 f,
      ne_eqb k 6 g,
      ne_eqb k 7 h,
      ne_eqb k 8
          i,
      ne_eqb k 9 j,
    )
    (simp (
      ne_eqb k 10 l,
      ne_eqb k 11 m,
      ne_eqb k 12 n,
      ne_eqb k 13 o,
      ne_eqb k 14 p,
      ne_eqb k 15 q,
      ne_eqb k 16 r,
      ne_eqb k 17 s,
      ne_eqb k 18 t,
    )
    (simp (ne_eqb k 19 u, ne_eqb k 20 v, ne_eqb k 21 w, ne_eqb k 22 x, ne_eqb k 23 y)))

pub bus : Family under.Bus awaits_at denote BUS by_number
unfolding decode codec.decode
bus = record { under_way_lem = λ p. refl; read = λ c t. simp t }
