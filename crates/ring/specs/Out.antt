-- An isochronous OUT endpoint's ring: iso_out_check, iso_out_arm, iso_out_take.
use Rattle.std.specs.Prelude.{ℕ, ◌+◌, ◌-◌, ◌%◌, ◌^◌, Bool, cond, List, nat_lt, slice_set}
use Rattle.state.specs.declared.EpState.{EpState}
use Rattle.ring.specs.Fields.{with_overruns, with_armed_slot, with_open}
use Rattle.ring.specs.Slot.{slot_of, count_of, joined_of, passed_of}

-- "Admitted with 14 queued; with 15 the slot is armed again": below slots - 1
unfoldable pub has_room_out : EpState → Bool
has_room_out s = nat_lt (count_of s) (s.slots - 1)

-- "an isochronous length is capped at the maximum"
unfoldable pub capped_at : EpState → ℕ → ℕ
capped_at s len = cond (nat_lt len s.max_len) len s.max_len

-- "the overrun count wraps at 32 bits"
unfoldable pub overrun_of : EpState → EpState
overrun_of s = with_overruns s ((s.overruns + 1) % 2 ^ 32)

-- an arrival in the head's slot: the record, and the recorded lengths, its own being `len`
unfoldable pub arrived_of : EpState → EpState
arrived_of s = cond (has_room_out s) (joined_of s) (overrun_of s)

unfoldable pub arrived_lens : EpState → List ℕ → ℕ → List ℕ
arrived_lens s ls len = cond (has_room_out s) (slice_set ls (slot_of s s.head) len) ls

unfoldable pub armed_at : EpState → ℕ → EpState
armed_at s addr = with_armed_slot s addr

-- an open, which shows the oldest packet
unfoldable pub opened_of : EpState → EpState
opened_of s = with_open s 1

-- a close, or a read's poll that takes the packet
unfoldable pub closed_of : EpState → EpState
closed_of s = with_open (passed_of s) 0
