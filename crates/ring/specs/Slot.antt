-- A ring of slots in the lent buffer, by an endpoint's record: counters, slots, addresses.
use Rattle.std.specs.Prelude.{ℕ, ◌+◌, ◌*◌, ◌%◌, ◌^◌, Bool, cond, ◌==◌, nat_lt}
use Rattle.state.specs.declared.EpState.{EpState}
use Rattle.state.specs.Ep as ep
use Rattle.ring.specs.Fields.{with_head, with_tail}

-- the `j`th value of a counter after `i`: "Head and tail are 8-bit and run free"
abbrev pub after : ℕ → ℕ → ℕ
after i j = (i + j) % 2 ^ 8

-- the slot of counter `i`: i mod slots; with no slots 0
unfoldable pub slot_of : EpState → ℕ → ℕ
slot_of s i = cond (s.slots == 0) 0 (i % s.slots)

-- "Slot i lies at base + (i mod 16) × buffer size"; 32 bits
unfoldable pub slot_addr : EpState → ℕ → ℕ
slot_addr s i = (s.base + slot_of s i * s.stride) % 2 ^ 32

-- "the queued count is head minus tail modulo 256"
unfoldable pub count_of : EpState → ℕ
count_of s = ep.count_of s

unfoldable pub has_waiting : EpState → Bool
has_waiting s = nat_lt 0 (count_of s)

-- one more waits: the packet in the head's slot
unfoldable pub joined_of : EpState → EpState
joined_of s = with_head s (after s.head 1)

-- one less waits: the oldest is read or sent
unfoldable pub passed_of : EpState → EpState
passed_of s = with_tail s (after s.tail 1)
