-- The rings' operations on the driver and the lent buffer
use Rattle.std.specs.Prelude.{Bool, not, cond, ◌&&◌, List, ℕ, zero, suc, ◌+◌, ◌*◌, ◌%◌, eqb, ltb, length, get_or}
use Rattle.bits.specs.Bit.{bit_is_set}
use Rattle.regs.specs.declared.Dir.{Dir}
use Rattle.regs.specs.declared.Dir.TheVariants.{Out, In}
use Rattle.regs.specs.Enables as enables
use Rattle.state.specs.declared.EpState.{EpState}
use Rattle.state.specs.Ep.{reset_of, with_ring}
use Rattle.state.specs.Kept.{with_ep_config, with_ep_type}
use Rattle.state.specs.Fresh.{clear_stamps, no_stamps}
use Rattle.state.specs.Driver.{Driver, ep_on, with_on, len_on, with_len_on, stamp_on, with_stamp_on, with_globals}
use Rattle.ring.specs.Slot.{slot_of, slot_addr, has_waiting, joined_of}
use Rattle.ring.specs.Out.{has_room_out, capped_at, arrived_of, armed_at, opened_of, closed_of}
use Rattle.ring.specs.In.{has_room_in, completed_of, loaded_of, unloaded_of}
use Rattle.ring.specs.Marks.{is_marked, marked_len, armed}
use Rattle.ring.specs.Copies.{copied, bytes_at}
use Rattle.script.specs.Script.{Burst, switch, bus_reset_lem}
use Rattle.script.specs.Statics.{is_on, iso_outs, with_setup}
use Rattle.script_ops.specs.Records.{iso_out}

abbrev pub St : Type 0
St = Driver × List ℕ

-- ---- looks

unfoldable pub changed_on : Driver → ℕ → List ℕ → Bool
changed_on d e b = not (is_marked b (ep_on d Out e).armed_slot)

unfoldable pub marked_on : Driver → ℕ → List ℕ → ℕ
marked_on d e b = marked_len b (ep_on d Out e).armed_slot (ep_on d Out e).max_len

unfoldable pub waiting_on : Driver → Dir → ℕ → Bool
waiting_on d dir e = has_waiting (ep_on d dir e)

-- isochronous, a free slot, and bytes that fit it
unfoldable pub room_in : EpState → ℕ → Bool
room_in r n = is_on r.iso && (has_room_in r && not (ltb r.stride n))

unfoldable pub room_on : Driver → ℕ → ℕ → Bool
room_on d e n = room_in (ep_on d In e) n

unfoldable pub opened_on : Driver → ℕ → Bool
opened_on d e = is_on (ep_on d Out e).«open»

-- the length of the oldest packet; 0 where none waits
unfoldable pub next_len : Driver → Dir → ℕ → ℕ
next_len d dir e = cond (has_waiting (ep_on d dir e)) (len_on d dir e (slot_of (ep_on d dir e) (ep_on d dir e).tail)) 0

-- the microframe with the oldest packet of OUT e; 0 where none waits
unfoldable pub next_stamp : Driver → ℕ → ℕ
next_stamp d e = cond (has_waiting (ep_on d Out e)) (stamp_on d e (slot_of (ep_on d Out e) (ep_on d Out e).tail)) 0

-- where the oldest packet lies
unfoldable pub oldest_at : Driver → ℕ → ℕ
oldest_at d e = slot_addr (ep_on d Out e) (ep_on d Out e).tail

unfoldable pub oldest_on : Driver → ℕ → List ℕ → List ℕ
oldest_on d e b = bytes_at b (oldest_at d e) (next_len d Out e)

-- a word of the buffer, lowest byte first; past its end 0
unfoldable pub word_at : List ℕ → ℕ → ℕ
word_at b at = cond (ltb (length b) (at + 4)) 0 (get_or b at 0 + get_or b (at + 1) 0 * 256 + get_or b (at + 2) 0 * 65536
    + get_or b (at + 3) 0 * 16777216)

-- ---- changes

-- the loaded packet went out
unfoldable pub complete_on : Driver → ℕ → Driver
complete_on d e = with_on d In e (unloaded_of (completed_of (ep_on d In e)))

-- `EpState::reset`, the ring's part
unfoldable pub emptied : EpState → EpState
emptied r = with_ring r 0 0 0 r.overruns r.armed_slot 0

unfoldable pub emptied_on : Driver → Dir → ℕ → Driver
emptied_on d dir e = cond (iso_out d dir e) d (with_on d dir e (emptied (ep_on d dir e)))

unfoldable pub open_on : Driver → ℕ → Driver
open_on d e = cond (has_waiting (ep_on d Out e)) (with_on d Out e (opened_of (ep_on d Out e))) d

unfoldable pub close_on : Driver → ℕ → Driver
close_on d e = cond (is_on (ep_on d Out e).«open») (with_on d Out e (closed_of (ep_on d Out e))) d

unfoldable pub take_on : Driver → ℕ → Driver
take_on d e = cond (has_waiting (ep_on d Out e)) (with_on d Out e (closed_of (ep_on d Out e))) d

-- a packet into the head's slot
unfoldable pub queued_on : Driver → ℕ → ℕ → Driver
queued_on d e n = with_on (with_len_on d In e (slot_of (ep_on d In e) (ep_on d In e).head) n) In e (joined_of (ep_on d In e))

unfoldable pub enqueue_on : ℕ → List ℕ → St → St
enqueue_on e bytes s =
    cond (room_on s.0 e (length bytes))
    (queued_on s.0 e (length bytes), copied s.1 (slot_addr (ep_on s.0 In e) (ep_on s.0 In e).head) bytes)
    s

-- bytes into a slot that is no ring's; not more than the maximum
unfoldable pub filled_on : Driver → ℕ → List ℕ → List ℕ → List ℕ
filled_on d e bytes b =
    cond (is_on (ep_on d In e).iso) b
    (cond (ltb (ep_on d In e).max_len (length bytes)) b (copied b (ep_on d In e).base bytes))

unfoldable pub filled_ep0 : Driver → List ℕ → List ℕ → List ℕ
filled_ep0 d bytes b = cond (ltb d.globals.ep0_max (length bytes)) b (copied b d.globals.ep0_buf bytes)

-- ---- addresses

-- the length of a packet in slot i and its microframe, that of the interrupt under way (request One)
abbrev pub written_on : Driver → ℕ → ℕ → ℕ → Driver
written_on d e i len = with_stamp_on (with_len_on d Out e i len) e i d.globals.entered

-- an arrival, of an enabled isochronous OUT: recorded, or the packet turned away
unfoldable pub recorded_on : Driver → ℕ → ℕ → Driver
recorded_on d e len = cond (has_room_out (ep_on d Out e)) (written_on d e (slot_of (ep_on d Out e) (ep_on d Out e).head) len) d

unfoldable pub admitted_on : Driver → ℕ → ℕ → Driver
admitted_on d e len = with_on (recorded_on d e len) Out e (arrived_of (ep_on d Out e))

-- slot i of a record armed: marked up to the endpoint's maximum, its address recorded
abbrev pub arm_by : ℕ → EpState → ℕ → St → ℕ × St
arm_by e r i s = let a = slot_addr r i in (a, (with_on s.0 Out e (armed_at r a), armed s.1 a r.max_len))

abbrev pub arm_at : ℕ → ℕ → St → ℕ × St
arm_at e i s = arm_by e (ep_on s.0 Out e) i s

-- the head's
abbrev pub arm_on : ℕ → St → ℕ × St
arm_on e s = arm_at e (ep_on s.0 Out e).head s

abbrev pub arrived_at : ℕ → ℕ → St → ℕ × St
arrived_at e len s = arm_on e (admitted_on s.0 e len, s.1)

unfoldable pub arrive_on : ℕ → ℕ → St → ℕ × St
arrive_on e n s =
    cond (bit_is_set (iso_outs s.0.globals) (e % 16)) (arrived_at e (capped_at (ep_on s.0 Out e) n) s)
    ((ep_on s.0 Out e).armed_slot, s)

-- the oldest packet is being sent
unfoldable pub send_on : Driver → ℕ → Driver
send_on d e = cond (has_waiting (ep_on d In e)) (with_on d In e (loaded_of (ep_on d In e))) d

unfoldable pub send_addr : Driver → ℕ → ℕ
send_addr d e = slot_addr (ep_on d In e) (ep_on d In e).tail

-- the endpoint's buffer: of OUT the armed slot, unless a ring is being received in
unfoldable pub place_on : Dir → ℕ → Driver → ℕ × Driver
place_on In e d = ((ep_on d In e).base, d)
place_on Out e d =
    cond (bit_is_set (iso_outs d.globals) (e % 16)) ((ep_on d Out e).armed_slot, d)
    ((ep_on d Out e).base, with_on d Out e (armed_at (ep_on d Out e) (ep_on d Out e).base))

-- ---- rows

-- `endpoint_set_enabled`, 1279: the record reset; no stamp stays
unfoldable pub renewed_on : Driver → ℕ → Driver
renewed_on d e = with_on (clear_stamps d e) Out e (reset_of (ep_on d Out e))

-- 1292-1294: slot k armed
unfoldable pub slot_step : ℕ → ℕ → St → ℕ × St
slot_step e k s =
    cond (is_on (ep_on s.0 Out e).iso)
    (arm_at e k (cond (eqb k 15) (renewed_on s.0 e) s.0, s.1))
    ((ep_on s.0 Out e).armed_slot, s)

-- a word with the bit of an isochronous OUT; of any other endpoint as it was
abbrev pub switched_on : Driver → ℕ → Bool → ℕ → ℕ
switched_on d e on w = cond (is_on (ep_on d Out e).iso) (enables.with_on w Out e on) w

unfoldable pub type_step : ℕ → Bool → Driver → ℕ × Driver
type_step e on d = let v = switched_on d e on d.globals.ep_type in (v, with_globals d (with_ep_type v d.globals))

unfoldable pub config_step : ℕ → Bool → Driver → ℕ × Driver
config_step e on d = let v = switched_on d e on d.globals.ep_config in
    (v, with_globals d (with_ep_config v d.globals))

abbrev pub switch_step : ℕ → Bool → ℕ → St → ℕ × St
switch_step e on zero s = ((config_step e on s.0).0, ((config_step e on s.0).1, s.1))
switch_step e on (suc zero) s = ((type_step e on s.0).0, ((type_step e on s.0).1, s.1))
switch_step e on (suc (suc zero)) s = (0, s)
switch_step e on (suc (suc (suc k))) s = slot_step e k s

-- the records of endpoints 0 to n - 1 reset, in both directions
unfoldable pub reset_below : ℕ → Driver → Driver
reset_below zero d = d
reset_below (suc n) d =
    let x = reset_below n d in
    let y = with_on x Out n (reset_of (ep_on x Out n)) in
    with_on y In n (reset_of (ep_on y In n))

-- 1213-1216; no stamp stays
unfoldable pub reset_all : Driver → Driver
reset_all d = let x = no_stamps (reset_below 16 d) in with_globals x
    (with_setup 0 x.globals.setup_low x.globals.setup_high x.globals)

abbrev pub reset_step : ℕ → St → ℕ × St
reset_step zero s = (0, (reset_all s.0, s.1))
reset_step (suc zero) s = (0, s)
reset_step (suc (suc zero)) s = (0, (with_globals s.0 (with_ep_type 0 s.0.globals), s.1))
reset_step (suc (suc (suc k))) s = (0, (with_globals s.0 (with_ep_config 0 s.0.globals), s.1))

abbrev pub row_on : Burst → ℕ → St → ℕ × St
row_on (switch e on) n s = switch_step e on n s
row_on bus_reset_lem n s = reset_step n s
