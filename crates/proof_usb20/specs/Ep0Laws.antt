-- Laws on the definitions of Ep0.antt: no operation on rings, slots and wake-ups changes what the driver's state says
-- of endpoint 0
use Rattle.std.specs.Prelude.{Bool, false, List, ◌≡◌, refl, ℕ, ◌*◌}
use Rattle.regs.specs.declared.Dir.{Dir}
use Rattle.regs.specs.declared.Dir.TheVariants.{Out, In}
use Rattle.state.specs.declared.EpState.{EpState}
use Rattle.state.specs.declared.Control.{Control}
use Rattle.state.specs.Driver.{Driver, ep_on, with_on}
use Rattle.script.specs.Control.{setup_bytes}
use Rattle.script.specs.Script.{Act, DmaStep}
use Rattle.script.specs.TransferKinds.{allocates}
use Rattle.script_ops.specs.Rings.{St}
use Rattle.script_ops.specs.Concrete.{concrete}
use Rattle.proof_book.specs.LeavesLaws.{Leaves, record-leaves, narrow, RingsOnly, turns, act-leaves, hand-leaves}
use Rattle.proof_usb20.specs.Ep0.{rec_of, view}

abbrev seen_of : Driver → Control × ℕ × ℕ × ℕ × ℕ × List ℕ × ℕ
seen_of d = (
  d.control,
  d.globals.setup_ready,
  d.globals.stage,
  d.globals.ep0_max,
  d.globals.ep0_buf,
  setup_bytes d.globals,
  d.allocator.count * d.allocator.size,
)

leaves-view : {d d' : Driver} → Leaves rec_of seen_of d d' → view d' ≡ view d
leaves-view p = λ i. record {
  out = p.each Out 0 i;
  inn = p.each In 0 i;
  control = (p.rest i).0;
  setup_ready = (p.rest i).1;
  setup_bytes_lem = (p.rest i).5;
  stage = (p.rest i).2;
  maximum = (p.rest i).3;
  buffer = (p.rest i).4;
  room = (p.rest i).6;
}

-- a change of one endpoint's record that keeps its flags
pub record-view : (d : Driver) (dir : Dir) (e : ℕ) (r : EpState) → rec_of r ≡ rec_of (ep_on d dir e)
    → view (with_on d dir e r) ≡ view d
unfolding with_on
record-view d dir e r h = leaves-view (record-leaves d dir e r h refl)

rings-view : (t : Bool) {d d' : Driver} → RingsOnly t d d' → view d' ≡ view d
unfolding setup_bytes
rings-view t p = leaves-view (narrow (λ r. record { ready = r.ready; armed = r.armed; len = r.len })
    (λ x. (
      x.3,
      x.0.setup_ready,
      x.0.stage,
      x.0.ep0_max,
      x.0.ep0_buf,
      setup_bytes x.0,
      x.1.count * x.1.size,
    )) p)

pub act-view : (q : Act) → allocates q ≡ false → (s : St) → view (concrete.act q s).0 ≡ view s.0
act-view q h s = rings-view (turns q) (act-leaves q h s)

pub hand-view : (q : DmaStep) (s : St) → view (concrete.hand q s).1.0 ≡ view s.0
hand-view q s = rings-view false (hand-leaves q s)
