-- The Rust's statics, as a script assigns them
use Rattle.std.specs.Prelude.{Bool, true, false, not, [], ◌∷◌, ℕ, ◌-◌, eqb}
use Rattle.std.specs.Int.Bits.{bit_and}
use Rattle.regs.specs.declared.Reg.{Reg}
use Rattle.regs.specs.declared.Reg.TheVariants.{IntEn, EpType}
use Rattle.regs.specs.declared.Dir.{Dir}
use Rattle.regs.specs.Enables.{in_enabled, out_enabled}
use Rattle.state.specs.declared.Globals.{Globals}
use Rattle.state.specs.Wakes.{wake_code, bus_code, every_endpoint}
use Rattle.state.specs.Kept.{with_assigned, with_int_en, with_ep_type}
use Rattle.script.specs.Cells.{EpCore, globals-cell, ep-cell}
use Rattle.script.specs.Script.{Script, ◌>>=◌, ◌>>◌, read, write, get, put, act, waken}
use Rattle.frame.specs.Advance.{NO_FRAME}

-- a flag in a byte
unfoldable pub is_on : ℕ → Bool
is_on n = not (eqb n 0)

abbrev pub flag : Bool → ℕ
flag true = 1
flag false = 0

-- ---- an endpoint's record

-- what a script assigns of it
abbrev pub with_transfer : (ready len armed frame tog : ℕ) → EpCore → EpCore
with_transfer ready len armed frame tog p = record {
  ready = ready;
  len = len;
  armed = armed;
  last_frame = frame;
  tog = tog;
  iso = p.iso;
  kind = p.kind;
  base = p.base;
  max_len = p.max_len;
}

abbrev pub with_ready : ℕ → EpCore → EpCore
with_ready v p = with_transfer v p.len p.armed p.last_frame p.tog p

abbrev pub with_len : ℕ → EpCore → EpCore
with_len v p = with_transfer p.ready v p.armed p.last_frame p.tog p

abbrev pub with_armed : ℕ → EpCore → EpCore
with_armed v p = with_transfer p.ready p.len v p.last_frame p.tog p

abbrev pub with_last_frame : ℕ → EpCore → EpCore
with_last_frame v p = with_transfer p.ready p.len p.armed v p.tog p

abbrev pub with_tog : ℕ → EpCore → EpCore
with_tog v p = with_transfer p.ready p.len p.armed p.last_frame v p

-- `EpState::reset` (mod.rs 165-173), but for the ring
abbrev pub renewed : EpCore → EpCore
renewed p = with_tog 0 (with_armed 0 (with_ready 0 (with_last_frame NO_FRAME p)))

-- a stage or a transaction is complete: no packet is armed or loaded, and the task may go on
abbrev pub completed : EpCore → EpCore
completed p = with_ready 1 (with_armed 0 p)

-- ---- the globals

-- the power event and the setup packet
abbrev pub with_events : (power ready low high : ℕ) → Globals → Globals
with_events power ready low high g =
    with_assigned g power ready low high g.int_en g.ep_type g.iso_in_paced g.sof_frame g.entered

-- the paced endpoints and the frames
abbrev pub with_frames : (paced frame entered : ℕ) → Globals → Globals
with_frames paced frame entered g =
    with_assigned g g.power g.setup_ready g.setup_low g.setup_high g.int_en g.ep_type paced
    frame entered

abbrev pub with_power : ℕ → Globals → Globals
with_power v g = with_events v g.setup_ready g.setup_low g.setup_high g

abbrev pub with_setup : ℕ → ℕ → ℕ → Globals → Globals
with_setup v lo hi g = with_events g.power v lo hi g

abbrev pub with_paced : ℕ → Globals → Globals
with_paced v g = with_frames v g.sof_frame g.entered g

abbrev pub with_sof_frame : ℕ → Globals → Globals
with_sof_frame v g = with_frames g.iso_in_paced v g.entered g

abbrev pub with_entered : ℕ → Globals → Globals
with_entered v g = with_frames g.iso_in_paced g.sof_frame v g

-- ---- assignments

abbrev pub modify : {i : Bool} → (Globals → Globals) → Script i Unit
modify f = do
  g ← get globals-cell
  put globals-cell (f g)

abbrev pub modify_ep : {i : Bool} → Dir → ℕ → (EpCore → EpCore) → Script i Unit
modify_ep d e f = do
  p ← get (ep-cell d e)
  put (ep-cell d e) (f p)

-- `s.waker.wake()`
abbrev pub wake : {i : Bool} → Dir → ℕ → Script i Unit
wake d e = act (waken (wake_code d e ∷ []))

-- of every endpoint (mod.rs 1218-1220)
abbrev pub wake_all : {i : Bool} → Script i Unit
wake_all = act (waken every_endpoint)

-- `BUS_WAKER.wake()`
abbrev pub wake_bus : {i : Bool} → Script i Unit
wake_bus = act (waken (bus_code ∷ []))

-- `modify` of a register: a reading, then a write
abbrev pub modify_reg : {i : Bool} → Reg → ℕ → (ℕ → ℕ) → Script i Unit
modify_reg r e f = do
  w ← read r e
  write r e (f w)

-- int_en and ep_type are kept and never read: their `modify` is a write
abbrev pub modify_int_en : {i : Bool} → (ℕ → ℕ) → Script i Unit
modify_int_en f = do
  g ← get globals-cell
  put globals-cell (with_int_en (f g.int_en) g)
  write IntEn 0 (f g.int_en)

abbrev pub modify_ep_type : {i : Bool} → (ℕ → ℕ) → Script i Unit
modify_ep_type f = do
  g ← get globals-cell
  put globals-cell (with_ep_type (f g.ep_type) g)
  write EpType 0 (f g.ep_type)

-- the iso IN endpoints the interrupt completes: polled every microframe, not paced, enabled (`iso_in_every`, mod.rs
-- 80-92)
unfoldable pub every_iso_in : Globals → ℕ
every_iso_in g = in_enabled g.ep_config (bit_and g.iso_in_every (65535 - g.iso_in_paced))

-- the enabled isochronous OUT endpoints (mod.rs 94-101, 467)
unfoldable pub iso_outs : Globals → ℕ
iso_outs g = out_enabled g.ep_config g.iso_out_eps
