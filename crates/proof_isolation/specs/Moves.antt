-- What MovesLaws.antt speaks of: lists of turns made from what is done. There whether each is allowed is worked out by
-- a test (`fine`), and what passes it is (`sound`)
use Rattle.std.specs.Prelude.{Bool, true, false, not, ◌&&◌, ◌||◌, List, ◌≡◌, ℕ, ◌+◌, ◌-◌, ◌%◌, ◌≤◌, ◌<◌, leb, length}
use Rattle.std.proofs.Common.{⊎_elim, ◌∙◌}
use Rattle.bits.specs.Bit.{bit_is_set}
use Rattle.regs.specs.declared.Dir.TheVariants.{Out}
use Rattle.alloc.specs.Alloc.{allocated_ins}
use Rattle.state.specs.Driver.{Driver, ep_on}
use Rattle.ring.specs.Copies.{copied}
use Rattle.script.specs.Answers.{Answer}
use Rattle.script.specs.Machine.{Buf, Pending, idle, busy}
use Rattle.proof_isolation.specs.Schedule.{Run}

-- an interrupt begins in both, with its status word; a continue of both; a packet is stored in the slot of an OUT
-- endpoint in each run, any; one packet in that of one OUT endpoint in both; a continue of one alone; the first opens
-- or closes the channel's oldest packet
pub data Move : Type 0 where
  serves : ℕ → Move
  reads : ℕ → ℕ → Move
  stored : ℕ → List ℕ → ℕ → List ℕ → Move
  stored_both : ℕ → List ℕ → Move
  first_Goes second-goes : ℕ → Move
  first-opens first-closes : Move

abbrev pub same : Bool → Bool → Bool
same true b = b
same false b = not b

abbrev pub is_idle : Pending Answer Driver → Bool
is_idle idle = true
is_idle (busy i a k) = false

-- the slot of OUT e's last receive address
abbrev pub armed_of : Run → ℕ → ℕ
armed_of r e = (ep_on r.machine.st Out e).armed_slot

-- e is allocated, the bytes fit its slot and the buffer
abbrev pub roomy : Run → ℕ → List ℕ → Bool
roomy r e p = bit_is_set (allocated_ins r.machine.st.allocator Out) (e % 16) &&
    (leb (length p) r.machine.st.allocator.size && leb (armed_of r e + length p) (length r.machine.buf))

abbrev pub stored_on : Run → ℕ → List ℕ → Buf
stored_on r e p = copied r.machine.buf (armed_of r e) p

abbrev pub allocated_b : Run → ℕ → Bool
allocated_b r e = bit_is_set (allocated_ins r.machine.st.allocator Out) (e % 16)

abbrev pub fits_b : Run → List ℕ → Bool
fits_b r p = leb (length p) r.machine.st.allocator.size
