-- The operations of scripts on the driver's own state and the lent buffer
use Rattle.std.specs.Prelude.{Bool, List, ℕ, ◌+◌, ◌*◌}
use Rattle.regs.specs.declared.Dir.TheVariants.{Out}
use Rattle.state.specs.Driver.{Driver, ep_on, with_on, paced_on, with_paced_on, request_on, with_request_on, with_globals}
use Rattle.state.specs.Driver.{with_control, with_wakes, none_gathered}
use Rattle.state.specs.Wakes.{listed, all_woken}
use Rattle.ring.specs.Copies.{bytes_at}
use Rattle.script.specs.Tree as tree
use Rattle.script.specs.Cells.{Cell, Val, globals-cell, control-cell, allocator-cell, ep-cell, request-cell, paced_cell}
use Rattle.script.specs.Script.{Script, Ops, run, Test, changed, waiting, room, opened, Look, marked, next_len_lem}
use Rattle.script.specs.Script.{next_stamp_lem, setup_word, Fetch, oldest, received, received0, gathered, Act, complete}
use Rattle.script.specs.Script.{reset_ring, set_enabled_lem, fill, fill0, open_oldest, close_oldest, take_oldest, enqueue}
use Rattle.script.specs.Script.{allocate, allocate0, no_wakes, waken, DmaStep, arrive, send, place, place0}
use Rattle.script_ops.specs.Records.{plain_of, merged, merged_globals, enabled_on, allocated_on, allocated_ep0}
use Rattle.script_ops.specs.Rings.{St, changed_on, marked_on, waiting_on, room_on, opened_on, next_len, next_stamp}
use Rattle.script_ops.specs.Rings.{oldest_on, word_at, complete_on, emptied_on, open_on, close_on, take_on, enqueue_on}
use Rattle.script_ops.specs.Rings.{filled_on, filled_ep0, arrive_on, send_on, send_addr, place_on, row_on}

abbrev pub get_on : (c : Cell) → St → Val c
get_on globals-cell s = s.0.globals
get_on control-cell s = s.0.control
get_on allocator-cell s = s.0.allocator
get_on (ep-cell d e) s = plain_of (ep_on s.0 d e)
get_on (request-cell d e) s = request_on s.0 d e
get_on (paced_cell e) s = paced_on s.0 e

-- the allocator is changed by allocation alone
abbrev pub put_on : (c : Cell) → Val c → St → St
put_on globals-cell v s = (with_globals s.0 (merged_globals s.0.globals v), s.1)
put_on control-cell v s = (with_control s.0 v, s.1)
put_on allocator-cell v s = s
put_on (ep-cell d e) v s = (with_on s.0 d e (merged (ep_on s.0 d e) v), s.1)
put_on (request-cell d e) v s = (with_request_on s.0 d e v, s.1)
put_on (paced_cell e) v s = (with_paced_on s.0 e v, s.1)

abbrev pub is_of : Test → St → Bool
is_of (changed e) s = changed_on s.0 e s.1
is_of (waiting d e) s = waiting_on s.0 d e
is_of (room e n) s = room_on s.0 e n
is_of (opened e) s = opened_on s.0 e

abbrev pub look_of : Look → St → ℕ
look_of (marked e) s = marked_on s.0 e s.1
look_of (next_len_lem d e) s = next_len s.0 d e
look_of (next_stamp_lem e) s = next_stamp s.0 e
look_of (setup_word k) s = word_at s.1 (s.0.globals.ep0_buf + k * 4)

abbrev pub fetch_of : Fetch → St → List ℕ
fetch_of (oldest e) s = oldest_on s.0 e s.1
fetch_of (received e n) s = bytes_at s.1 (ep_on s.0 Out e).base n
fetch_of (received0 n) s = bytes_at s.1 s.0.globals.ep0_buf n
fetch_of gathered s = listed s.0.wakes

abbrev pub act_on : Act → St → St
act_on (complete e) s = (complete_on s.0 e, s.1)
act_on (reset_ring d e) s = (emptied_on s.0 d e, s.1)
act_on (set_enabled_lem d e on) s = (enabled_on s.0 d e on, s.1)
act_on (fill e bytes) s = (s.0, filled_on s.0 e bytes s.1)
act_on (fill0 bytes) s = (s.0, filled_ep0 s.0 bytes s.1)
act_on (open_oldest e) s = (open_on s.0 e, s.1)
act_on (close_oldest e) s = (close_on s.0 e, s.1)
act_on (take_oldest e) s = (take_on s.0 e, s.1)
act_on (enqueue e bytes) s = enqueue_on e bytes s
act_on (allocate d kind address maximum interval) s = (allocated_on s.0 d kind address maximum interval, s.1)
act_on (allocate0 maximum) s = (allocated_ep0 s.0 maximum, s.1)
act_on no_wakes s = (none_gathered s.0, s.1)
act_on (waken codes) s = (with_wakes s.0 (all_woken codes s.0.wakes), s.1)

abbrev pub hand_on : DmaStep → St → ℕ × St
hand_on (arrive e n) s = arrive_on e n s
hand_on (send e) s = (send_addr s.0 e, (send_on s.0 e, s.1))
hand_on (place d e) s = ((place_on d e s.0).0, ((place_on d e s.0).1, s.1))
hand_on place0 s = (s.0.globals.ep0_buf, s)

abbrev pub concrete : Ops St
concrete = record {
  get = get_on;
  put = put_on;
  is = is_of;
  look = look_of;
  fetch = fetch_of;
  act = act_on;
  hand = hand_on;
  row
      = row_on;
}

-- a script's run from a driver and a buffer
abbrev pub go : {i : Bool} {A : Type 0} → Script i A → Driver → List ℕ → tree.Out St A
go p d b = run concrete p (d, b)
