-- An isochronous IN endpoint's ring: iso_in_enqueue, iso_in_complete, iso_in_load.
use Rattle.std.specs.Prelude.{Bool, cond, ◌==◌, nat_lt}
use Rattle.state.specs.declared.EpState.{EpState}
use Rattle.ring.specs.declared.Next.{Next}
use Rattle.ring.specs.declared.Next.TheVariants.{At, Nothing}
use Rattle.ring.specs.Fields.{with_loaded}
use Rattle.ring.specs.Slot.{slot_addr, count_of, has_waiting, passed_of}

-- a packet is queued into any free slot: 2 of 2
unfoldable pub has_room_in : EpState → Bool
has_room_in s = nat_lt (count_of s) s.slots

-- the packet that was loaded went out; where none was, nothing changes
unfoldable pub completed_of : EpState → EpState
completed_of s = cond (s.loaded == 0) s (passed_of s)

-- the tail's slot, or nothing where none waits
unfoldable pub next_load : EpState → Next
next_load s = cond (has_waiting s) (At (slot_addr s s.tail)) Nothing

unfoldable pub loaded_of : EpState → EpState
loaded_of s = with_loaded s 1

unfoldable pub unloaded_of : EpState → EpState
unloaded_of s = with_loaded s 0
