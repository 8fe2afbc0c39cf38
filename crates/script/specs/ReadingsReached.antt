-- A run of the interrupt with 4,061 readings: no smaller bound holds of every state
use Rattle.std.specs.Prelude.{Bool, true, false, [], ◌∷◌, ◌≡◌, refl, ℕ, zero, suc}
use Rattle.bits.specs.Bit.{bit_is_set, with_bit}
use Rattle.bits.specs.Walk.{bits_from}
use Rattle.regs.specs.ControlWord.{toggle, is_data1}
use Rattle.regs.specs.Enables.{in_enabled, out_enabled}
use Rattle.regs.specs.Status.{endpoint, token_numbered, token, is_out, is_sof, is_in}
use Rattle.regs.specs.declared.Dir.{Dir}
use Rattle.state.specs.declared.Globals.{Globals}
use Rattle.state.specs.Fresh.{fresh_globals, fresh_allocator}
use Rattle.state.specs.Kept.{with_settings}
use Rattle.script.specs.Cells.{Cell, Val, EpCore, globals-cell, control-cell, allocator-cell, ep-cell}
use Rattle.script.specs.Cells.{request-cell, paced_cell}
use Rattle.script.specs.Script.{Ops, run}
use Rattle.frame.specs.Usb20.{frame_number, microframe, index_of, frame_of}
use Rattle.frame.specs.Advance.{is_none, previous, in_previous}
use Rattle.script.specs.Statics.{is_on, flag, with_power, with_sof_frame, every_iso_in, iso_outs}
use Rattle.script.specs.IsoIn.{sof_walk, late_walk, leaving}
use Rattle.script.specs.IsoOut.{arriving, entry, check_walk}
use Rattle.script.specs.Handler.{looks, out_naks, in_naks, repeated, same_out, waits_for_iso, waits_for_bulk, iso_for}
use Rattle.script.specs.Handler.{own_in}
use Rattle.script.specs.Endpoint.{empty_request}
use Rattle.script.specs.Control.{empty_control}
use Rattle.script.specs.Calls.{interrupt_code}
use Rattle.script.specs.Readings.{Continues, readings}

-- a state that is no more than whether the endpoints are isochronous; all else stands still. Every endpoint of the two
-- sets is in the walks and armed, every slot has changed, and the last start of frame was another
abbrev pub plain : Bool → EpCore
plain iso = record {
  ready = 0;
  len = 0;
  armed = 1;
  last_frame = 0x1800;
  tog = 0;
  iso = flag iso;
  kind = 0;
  base = 0;
  max_len = 64;
}

abbrev globals : ℕ → ℕ → Globals
globals outs ins = with_power 1 (with_sof_frame 7 (with_settings (fresh_globals 0) 2 0xFFFFFFFF outs ins 0 64))

-- by the two sets of isochronous endpoints, and by which endpoints' records say so
abbrev pub cells : ℕ → ℕ → (Dir → ℕ → Bool) → (c : Cell) → Val c
cells outs ins iso globals-cell = globals outs ins
cells outs ins iso control-cell = empty_control
cells outs ins iso allocator-cell = fresh_allocator 64 1
cells outs ins iso (ep-cell d e) = plain (iso d e)
cells outs ins iso (request-cell d e) = empty_request
cells outs ins iso (paced_cell e) = 0

abbrev pub standing : {S : Type 0} → ((c : Cell) → S → Val c) → Ops S
standing get = record {
  get = get;
  put = λ c v s. s;
  is = λ q s. true;
  look = λ q s. 0;
  fetch = λ q s. [];
  act = λ q s. s;
  hand = λ q s. (0, s);
  row = λ g n s. (0, s);
}

-- every reading 0
abbrev pub zeros : {S : Type 0} → S → ℕ → Continues S
zeros s zero = []
zeros s (suc n) = (0, s) ∷ zeros s n

-- int_fg a transfer; the SIE busy; OUT 1, not isochronous when it is answered NAK, isochronous after the release, not
-- isochronous after the wait
abbrev longest : Continues Bool
longest = (0, false) ∷ (2, false) ∷ (0, false) ∷ (1, false) ∷ (0, false) ∷ (0, false) ∷ (0, false) ∷ (0, true)
    ∷ zeros false 4200

pub interrupt-reached : readings (run (standing (λ c s. cells 0xFFFF 0xFFFF (λ d e. s) c)) interrupt_code false) longest
    ≡ 4061
unfolding readings looks sof_walk late_walk check_walk bit_is_set bits_from in_enabled out_enabled is_on every_iso_in iso_outs
    with_bit endpoint token_numbered token is_out is_sof is_in toggle is_data1 frame_number microframe index_of frame_of is_none
    previous in_previous leaving arriving entry out_naks in_naks repeated same_out waits_for_iso waits_for_bulk iso_for own_in
interrupt-reached = refl
