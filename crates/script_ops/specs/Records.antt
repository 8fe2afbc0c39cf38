-- The driver's records as a script sees and assigns them
use Rattle.std.specs.Prelude.{Bool, true, false, cond, ℕ, ◌%◌, ltb}
use Rattle.bits.specs.Bit.{with_bit}
use Rattle.regs.specs.declared.Dir.{Dir}
use Rattle.regs.specs.declared.Dir.TheVariants.{Out, In}
use Rattle.regs.specs.Enables as enables
use Rattle.state.specs.declared.EpState.{EpState}
use Rattle.state.specs.declared.Globals.{Globals}
use Rattle.state.specs.Driver.{Driver, ep_on, with_on, with_globals, with_allocator}
use Rattle.state.specs.Ep.{with_transfer}
use Rattle.state.specs.Kept.{with_assigned, with_settings, with_ep_config}
use Rattle.alloc.specs.declared.Answer.{Answer}
use Rattle.alloc.specs.declared.Answer.TheVariants.{Refused, Given}
use Rattle.alloc.specs.Alloc.{allocate_of, allocate_ep0_of, allocated, is_iso}
use Rattle.script.specs.Cells.{EpCore}
use Rattle.script.specs.Statics.{is_on, with_power}

-- all but the ring
abbrev pub plain_of : EpState → EpCore
plain_of r = record {
  ready = r.ready;
  len = r.len;
  armed = r.armed;
  last_frame = r.last_frame;
  tog = r.tog;
  iso = r.iso;
  kind = r.kind;
  base = r.base;
  max_len = r.max_len;
}

-- `ready`, `len`, `armed`, `last_frame` and `tog` are assigned
abbrev pub merged : EpState → EpCore → EpState
merged r p = with_transfer r p.ready p.len p.armed p.last_frame p.tog

-- the globals that scripts assign; stage, callback, ep_config, the two sets of isochronous endpoints and EP0's buffer
-- and maximum change by their own operations alone
abbrev pub merged_globals : Globals → Globals → Globals
merged_globals g v =
    with_assigned g v.power v.setup_ready v.setup_low v.setup_high v.int_en v.ep_type
    v.iso_in_paced
    v.sof_frame v.entered

-- an isochronous OUT, whose ring is reset and whose enable bit is set in a row
unfoldable pub iso_out : Driver → Dir → ℕ → Bool
iso_out d Out e = is_on (ep_on d Out e).iso
iso_out d In e = false

-- the kept ep_config bit
unfoldable pub configured : Driver → Dir → ℕ → Bool → Driver
configured d dir e on = with_globals d (with_ep_config (enables.with_on d.globals.ep_config dir e on) d.globals)

unfoldable pub enabled_on : Driver → Dir → ℕ → Bool → Driver
enabled_on d dir e on = cond (iso_out d dir e) d (configured d dir e on)

-- ---- allocation

-- iso_out_eps and iso_in_every (mod.rs 1015-1027)
abbrev pub with_iso_sets : ℕ → ℕ → Globals → Globals
with_iso_sets outs every g = with_settings g g.stage g.ep_config outs every g.ep0_buf g.ep0_max

-- an isochronous IN is polled every microframe where its interval is 1, or 0
abbrev pub iso_added : Dir → ℕ → ℕ → Globals → Globals
iso_added Out interval e g = with_iso_sets (with_bit g.iso_out_eps (e % 16) true) g.iso_in_every g
iso_added In interval e g = cond (ltb interval 2) (with_iso_sets g.iso_out_eps
    (with_bit g.iso_in_every (e % 16) true) g) g

unfoldable pub with_sets : Dir → ℕ → ℕ → ℕ → Globals → Globals
with_sets dir kind interval e g = cond (is_iso kind) (iso_added dir interval e g) g

-- the endpoint's record
unfoldable pub record_given : Dir → ℕ → ℕ → ℕ → ℕ → ℕ → Driver → Driver
record_given dir kind maximum e base slots d = with_on d dir e
    (allocated (ep_on d dir e) kind maximum base d.allocator.size slots)

unfoldable pub sets_given : Dir → ℕ → ℕ → ℕ → Driver → Driver
sets_given dir kind interval e d = with_globals d (with_sets dir kind interval e d.globals)

unfoldable pub given_to : Dir → ℕ → ℕ → ℕ → Answer → Driver → Driver
given_to dir kind maximum interval (Refused n) d = d
given_to dir kind maximum interval (Given e base slots) d
    = sets_given dir kind interval e (record_given dir kind maximum e base slots d)

unfoldable pub allocated_on : Driver → Dir → ℕ → ℕ → ℕ → ℕ → Driver
allocated_on d dir kind address maximum interval =
    let z = allocate_of d.allocator kind address maximum dir in
    given_to dir kind maximum interval z.answer (with_allocator d z.after)

-- EP0's buffer and maximum; the stage after its start, and no power event yet. All in the begin: only an interrupt
-- reads the buffer, and none passes before EP0's start has ended
abbrev pub with_ep0 : ℕ → ℕ → Globals → Globals
with_ep0 base maximum g = with_settings (with_power 0 g) 2 g.ep_config g.iso_out_eps g.iso_in_every base
    maximum

unfoldable pub started_with : ℕ → Answer → Driver → Driver
started_with maximum (Refused n) d = d
started_with maximum (Given e base slots) d = with_globals d (with_ep0 base maximum d.globals)

unfoldable pub allocated_ep0 : Driver → ℕ → Driver
allocated_ep0 d maximum =
    let z = allocate_ep0_of d.allocator maximum in
    started_with maximum z.answer (with_allocator d z.after)
