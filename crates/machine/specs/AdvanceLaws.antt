-- A continue at a point of a paced advance's. Assumes nothing.
use Rattle.std.specs.Prelude.{◌≡◌, refl, ℕ}
use Rattle.std.proofs.Common.{ne_eqb}
use Rattle.state.specs.declared.Saved.{Saved}
use Rattle.script_ops.specs.Numbers.{ADVANCE}
use Rattle.isochronous.specs.declared.advance.Advance.TheVariants as point
use Rattle.isochronous.specs.Advance.{denote, awaits_at}
use Rattle.isochronous.specs.Codec as codec
use Rattle.isochronous.specs.Codec.{by_number}
use Rattle.machine.specs.declared.Suspended.TheVariants as under
use Rattle.machine.specs.Suspended.{decode}
use Rattle.machine.specs.Stands.{NoneOf}
use Rattle.machine.specs.Family.{Family}

-- any other number
pub first : (c : Saved) (k : ℕ) → NoneOf 2 k → point.FrameNo c.ep ≡ by_number k c
first c k ((z, a), b) = simp (ne_eqb k 1 a, ne_eqb k 2 b)

pub advance : Family under.Advance awaits_at denote ADVANCE by_number
unfolding decode codec.decode
advance = record { under_way_lem = λ p. refl; read = λ c t. simp t }
