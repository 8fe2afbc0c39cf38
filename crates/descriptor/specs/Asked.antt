-- What an allocation of a trial answers, from the allocator's own law. Assumes nothing.
use Rattle.std.specs.Prelude.{◌≡◌, refl, Bool, true, false, ℕ, ◌+◌, ◌≤◌}
use Rattle.std.proofs.Common.{arith}
use Rattle.regs.specs.declared.Dir.{Dir}
use Rattle.regs.specs.declared.Dir.TheVariants.{Out, In}
use Rattle.state.specs.declared.Allocator.{Allocator}
use Rattle.alloc.specs.declared.Answer.{Answer}
use Rattle.alloc.specs.declared.Answer.TheVariants.{Refused, Given}
use Rattle.alloc.specs.declared.Allocation.{Allocation}
use Rattle.alloc.specs.Alloc.{is_iso, slots_of}
use Rattle.alloc.specs.Outcome.{Outcome, six, seven, eight, given}
use Rattle.alloc.proofs.OutcomeLaws.{outcome}
use Rattle.descriptor.specs.declared.Endpoint.{Endpoint}
use Rattle.descriptor.specs.Trial.{direction_of, asked}

-- from the allocator a to b: refused with 6, 7 or 8, and nothing changed; or at most 16 buffers given, the next ones
abbrev pub Fair : Allocator → Allocator → Answer → Type 0
Fair a b (Refused n) = (6 ≤ n) × (n ≤ 8) × (b ≡ a)
Fair a b (Given e base slots) = (slots ≤ 16) × (b.next ≡ a.next + slots)

few-slots : (iso : Bool) (dir : Dir) → slots_of iso dir ≤ 16
unfolding slots_of
few-slots false dir = omega arith
few-slots true Out = omega arith
few-slots true In = omega arith

fair : (a : Allocator) (kind address maximum : ℕ) (dir : Dir) (z : Allocation) → Outcome a kind address maximum dir z
    → Fair a z.after z.answer
fair a kind address maximum dir z (six h) = (omega arith, omega arith, refl)
fair a kind address maximum dir z (seven h q) = (omega arith, omega arith, refl)
fair a kind address maximum dir z (eight e h q l) = (omega arith, omega arith, refl)
fair a kind address maximum dir z (given e base n b h q g)
    = (omega (arith, g.slots, few-slots (is_iso kind) dir), g.used)

pub fair-asked : (a : Allocator) (e : Endpoint) → Fair a (asked a e).after (asked a e).answer
unfolding asked
fair-asked a e =
    fair a e.kind e.address e.maximum (direction_of e.address) (asked a e)
    (outcome a e.kind e.address e.maximum (direction_of e.address))
