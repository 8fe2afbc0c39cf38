-- No operation but a begin and a wake-up changes the wake-ups
use Rattle.std.specs.Prelude.{Bool, true, false, cond, ◌≡◌, refl, ℕ, zero, suc, ◌%◌, eqb, length}
use Rattle.bits.specs.Bit.{bit_is_set}
use Rattle.regs.specs.declared.Dir.TheVariants.{Out, In}
use Rattle.state.specs.Driver.{Driver, ep_on, with_on, with_len_on, with_stamp_on, with_paced_on, with_request_on}
use Rattle.state.specs.Fresh.{clear_stamps, no_stamps}
use Rattle.alloc.specs.declared.Answer.{Answer}
use Rattle.alloc.specs.declared.Answer.TheVariants.{Refused, Given}
use Rattle.alloc.specs.Alloc.{allocate_of, allocate_ep0_of}
use Rattle.ring.specs.Slot.{slot_addr, has_waiting}
use Rattle.ring.specs.Out.{has_room_out, capped_at, armed_at}
use Rattle.ring.specs.Copies.{copied}
use Rattle.script.specs.Cells.{Cell, Val, globals-cell, control-cell, allocator-cell, ep-cell, request-cell, paced_cell}
use Rattle.script.specs.Script.{Act, complete, reset_ring, set_enabled_lem, fill, fill0, open_oldest, close_oldest}
use Rattle.script.specs.Script.{take_oldest, enqueue, allocate, allocate0, no_wakes, waken, DmaStep, arrive, send}
use Rattle.script.specs.Script.{place}
use Rattle.script.specs.Script.{place0, Burst, switch, bus_reset_lem}
use Rattle.script.specs.Spends.{Other}
use Rattle.script.specs.Statics.{is_on, iso_outs}
use Rattle.script_ops.specs.Records.{iso_out, configured, enabled_on, record_given, sets_given, given_to, allocated_on}
use Rattle.script_ops.specs.Records.{started_with, allocated_ep0}
use Rattle.script_ops.specs.Rings.{St, complete_on, emptied, emptied_on, open_on, close_on, take_on, room_on, queued_on}
use Rattle.script_ops.specs.Rings.{enqueue_on, recorded_on, admitted_on, arrived_at, arrive_on, send_on, place_on, renewed_on}
use Rattle.script_ops.specs.Rings.{arm_at, slot_step, type_step, config_step, switch_step, reset_below, reset_all, reset_step}
use Rattle.script_ops.specs.Concrete.{concrete}

abbrev pub SameWakes : Driver → Driver → Type 0
SameWakes d x = x.wakes ≡ d.wakes

either : (b : Bool) (d x y : Driver) → SameWakes d x → SameWakes d y → SameWakes d (cond b x y)
either true d x y p q = p
either false d x y p q = q

-- an assignment leaves the wake-ups, and the lent buffer
pub put-leaves : (c : Cell) (v : Val c) (s : St) → SameWakes s.0 (concrete.put c v s).0
    × ((concrete.put c v s).1 ≡ s.1)
unfolding with_on with_request_on with_paced_on
put-leaves globals-cell v s = (refl, refl)
put-leaves control-cell v s = (refl, refl)
put-leaves allocator-cell v s = (refl, refl)
put-leaves (ep-cell d e) v s = (refl, refl)
put-leaves (request-cell d e) v s = (refl, refl)
put-leaves (paced_cell e) v s = (refl, refl)

pub put-still : (c : Cell) (v : Val c) (s : St) → SameWakes s.0 (concrete.put c v s).0
put-still c v s = (put-leaves c v s).0

given-still : (dir : _) (kind maximum interval : ℕ) (a : Answer) (d : Driver)
    → SameWakes d (given_to dir kind maximum interval a d)
unfolding given_to sets_given record_given with_on
given-still dir kind maximum interval (Refused n) d = refl
given-still dir kind maximum interval (Given e base slots) d = refl

started-still : (maximum : ℕ) (a : Answer) (d : Driver) → SameWakes d (started_with maximum a d)
unfolding started_with
started-still maximum (Refused n) d = refl
started-still maximum (Given e base slots) d = refl

pub act-still : (q : Act) → Other q → (s : St) → SameWakes s.0 (concrete.act q s).0
unfolding complete_on emptied emptied_on enabled_on configured open_on close_on take_on enqueue_on queued_on allocated_on
    allocated_ep0 with_on with_len_on
act-still no_wakes h s = absurd h
act-still (waken codes) h s = absurd h
act-still (complete e) h s = refl
act-still (reset_ring d e) h s = either (iso_out s.0 d e) s.0 s.0 _ refl refl
act-still (set_enabled_lem d e on) h s = either (iso_out s.0 d e) s.0 s.0 _ refl refl
act-still (fill e bytes) h s = refl
act-still (fill0 bytes) h s = refl
act-still (open_oldest e) h s = either (has_waiting (ep_on s.0 Out e)) s.0 _ s.0 refl refl
act-still (close_oldest e) h s = either (is_on (ep_on s.0 Out e).«open») s.0 _ s.0 refl refl
act-still (take_oldest e) h s = either (has_waiting (ep_on s.0 Out e)) s.0 _ s.0 refl refl
act-still (enqueue e bytes) h s = by (room_on s.0 e (length bytes))
  where
    by : (b : Bool) → SameWakes s.0 (cond b (
      queued_on s.0 e (length bytes),
      copied s.1
          (slot_addr (ep_on s.0 In e) (ep_on s.0 In e).head) bytes,
    ) s).0
    by true = refl
    by false = refl
act-still (allocate d kind address maximum interval) h s
    = given-still d kind maximum interval (allocate_of s.0.allocator kind address maximum d).answer _
act-still (allocate0 maximum) h s = started-still maximum (allocate_ep0_of s.0.allocator maximum).answer _

recorded-still : (d : Driver) (e len : ℕ) → SameWakes d (recorded_on d e len)
unfolding recorded_on with_len_on with_stamp_on
recorded-still d e len = either (has_room_out (ep_on d Out e)) d _ d refl refl

-- a hand that looks whether OUT e is isochronous: P of the state as it was, and as its buffer is placed
pub placed_by : (P : Driver → Type 0) (s : St) (e : ℕ) → P s.0
    → P (with_on s.0 Out e (armed_at (ep_on s.0 Out e) (ep_on s.0 Out e).base))
    → P (concrete.hand (place Out e) s).1.0
unfolding place_on
placed_by P s e x y = by (bit_is_set (iso_outs s.0.globals) (e % 16))
  where
    by : (b : Bool) → P (cond {A = ℕ × Driver} b ((ep_on s.0 Out e).armed_slot, s.0) (
      (ep_on s.0 Out e).base,
      with_on s.0 Out e (armed_at (ep_on s.0 Out e) (ep_on s.0 Out e).base),
    )).1
    by true = x
    by false = y

pub hand-still : (q : DmaStep) (s : St) → SameWakes s.0 (concrete.hand q s).1.0
unfolding arrive_on admitted_on send_on place_on with_on
hand-still (arrive e n) s = by (bit_is_set (iso_outs s.0.globals) (e % 16))
  where
    by : (b : Bool) → SameWakes s.0 (cond b (arrived_at e (capped_at (ep_on s.0 Out e) n) s)
        ((ep_on s.0 Out e).armed_slot, s)).1.0
    by true = recorded-still s.0 e (capped_at (ep_on s.0 Out e) n)
    by false = refl
hand-still (send e) s = either (has_waiting (ep_on s.0 In e)) s.0 _ s.0 refl refl
hand-still (place Out e) s = placed_by (SameWakes s.0) s e refl refl
hand-still (place In e) s = refl
hand-still place0 s = refl

-- ---- rows

renewed-still : (b : Bool) (d : Driver) (e : ℕ) → SameWakes d (cond b (renewed_on d e) d)
unfolding renewed_on clear_stamps with_on
renewed-still true d e = refl
renewed-still false d e = refl

slot-still : (e k : ℕ) (s : St) → SameWakes s.0 (slot_step e k s).1.0
unfolding slot_step with_on
slot-still e k s = by (is_on (ep_on s.0 Out e).iso) (eqb k 15)
  where
    by : (b c : Bool) → SameWakes s.0 (cond b (arm_at e k (cond c (renewed_on s.0 e) s.0, s.1))
        ((ep_on s.0 Out e).armed_slot, s)).1.0
    by true c = renewed-still c s.0 e
    by false c = refl

switch-still : (e : ℕ) (on : Bool) (n : ℕ) (s : St) → SameWakes s.0 (switch_step e on n s).1.0
unfolding config_step type_step
switch-still e on zero s = refl
switch-still e on (suc zero) s = refl
switch-still e on (suc (suc zero)) s = refl
switch-still e on (suc (suc (suc k))) s = slot-still e k s

below-still : (n : ℕ) (d : Driver) → SameWakes d (reset_below n d)
unfolding reset_below with_on
below-still zero d = refl
below-still (suc n) d = below-still n d

reset-still : (n : ℕ) (s : St) → SameWakes s.0 (reset_step n s).1.0
unfolding reset_all no_stamps
reset-still zero s = below-still 16 s.0
reset-still (suc zero) s = refl
reset-still (suc (suc zero)) s = refl
reset-still (suc (suc (suc k))) s = refl

pub row-still : (g : Burst) (n : ℕ) (s : St) → SameWakes s.0 (concrete.row g n s).1.0
row-still (switch e on) n s = switch-still e on n s
row-still bus_reset_lem n s = reset-still n s
