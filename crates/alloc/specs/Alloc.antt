-- Allocation of an endpoint number and its buffers, and of EP0's buffer (mod.rs 953-1043, 1144-1149; usb/mod.rs 19-42):
-- what they answer and the allocator afterwards, in the order of document 01's rows 6, 7, 8, and request Twelve's 22
-- before them. A refusal changes nothing: of an 8 the Rust keeps the number and the buffers that were left. The
-- accesses stand elsewhere.
use Rattle.std.specs.Prelude.{Bool, true, false, not, ℕ, zero, suc, ◌+◌, ◌*◌, ◌/◌, ◌%◌, eqb, leb, ltb}
use Rattle.state.specs.declared.Allocator.{Allocator}
use Rattle.state.specs.declared.EpState.{EpState}
use Rattle.state.specs.Ep.{reset_of, with_place}
use Rattle.state.specs.Fresh.{fresh_allocator}
use Rattle.regs.specs.declared.Dir.{Dir}
use Rattle.regs.specs.declared.Dir.TheVariants.{Out, In}
use Rattle.alloc.specs.declared.Found.{Found}
use Rattle.alloc.specs.declared.Found.TheVariants.{Number, Nothing}
use Rattle.alloc.specs.declared.Answer.TheVariants.{Refused, Given}
use Rattle.alloc.specs.declared.Allocation.{Allocation}
use Rattle.bits.specs.Bit.{bit_is_set, with_bit}

abbrev pub if : {A : Type 0} → Bool → A → A → A
if true a b = a
if false a b = b

-- ---- the allocator

-- after start-up: no buffer used, no number taken
unfoldable pub fresh : ℕ → ℕ → Allocator
fresh size count = fresh_allocator size count

-- the numbers taken in a direction (the Rust's `allocated`)
unfoldable pub taken_ins : Allocator → Dir → ℕ
taken_ins a Out = a.taken_out
taken_ins a In = a.taken_in

-- the numbers of a sort, isochronous or not, in either direction
unfoldable pub nums_of : Allocator → Bool → ℕ
nums_of a true = a.iso_nums
nums_of a false = a.other_nums

-- the numbers allocated in a direction: these alone pass row 5
unfoldable pub allocated_ins : Allocator → Dir → ℕ
allocated_ins a Out = a.allocated_out
allocated_ins a In = a.allocated_in

-- a set with e, where it is the one that is meant
unfoldable pub add_to : Bool → ℕ → ℕ → ℕ
add_to true w e = with_bit w e true
add_to false w e = w

unfoldable pub is_out : Dir → Bool
is_out Out = true
is_out In = false

-- the number is taken: in its direction and for its sort
unfoldable pub taken : Allocator → Bool → Dir → ℕ → Allocator
taken a iso dir e = record {
  size = a.size;
  count = a.count;
  next = a.next;
  taken_out = add_to (is_out dir) a.taken_out e;
  taken_in = add_to (not (is_out dir)) a.taken_in e;
  iso_nums = add_to iso a.iso_nums e;
  other_nums = add_to (not iso) a.other_nums e;
  allocated_out = a.allocated_out;
  allocated_in = a.allocated_in;
}

-- the next buffer, and the numbers allocated in each direction
abbrev pub with_given : Allocator → ℕ → ℕ → ℕ → Allocator
with_given a next outs ins = record {
  size = a.size;
  count = a.count;
  next = next;
  taken_out = a.taken_out;
  taken_in = a.taken_in;
  iso_nums = a.iso_nums;
  other_nums = a.other_nums;
  allocated_out = outs;
  allocated_in = ins;
}

-- the number is allocated in its direction
unfoldable pub with_allocated : Allocator → Dir → ℕ → Allocator
with_allocated a dir e =
    with_given a a.next (add_to (is_out dir) a.allocated_out e) (add_to (not (is_out dir)) a.allocated_in e)

-- the buffers before this one are used
unfoldable pub with_next : Allocator → ℕ → Allocator
with_next a next = with_given a next a.allocated_out a.allocated_in

-- ---- the number (row 7)

-- kinds 0 control, 1 isochronous, 2 bulk, 3 interrupt (USB 2.0, 9.6.6), modulo 4
unfoldable pub is_iso : ℕ → Bool
is_iso kind = eqb (kind % 4) 1

-- not taken in this direction, nor by the other sort in either
unfoldable pub is_free : Allocator → Bool → Dir → ℕ → Bool
is_free a iso dir e = if (bit_is_set (taken_ins a dir) e) false (not (bit_is_set (nums_of a (not iso)) e))

-- bit 7 of an address in a descriptor
abbrev pub dir_bit : Dir → ℕ
dir_bit Out = 0
dir_bit In = 1

-- a number, where it is free
abbrev pub free_of : Allocator → Bool → Dir → ℕ → Found
free_of a iso dir e = if (is_free a iso dir e) (Number e) Nothing

-- the number of an address that is asked for: its direction is this one, it is 1 to 15 and free
unfoldable pub asked_of : Allocator → Bool → ℕ → Dir → Found
asked_of a iso address dir =
    if (eqb (address / 128) (dir_bit dir))
    (if (eqb (address % 128) 0) Nothing
    (if (leb 16 (address % 128)) Nothing
    (free_of a iso dir (address % 128))))
    Nothing

-- the first free of `left` numbers from e on
unfoldable pub lowest_of : Allocator → Bool → Dir → ℕ → ℕ → Found
lowest_of a iso dir zero e = Nothing
lowest_of a iso dir (suc left) e = if (is_free a iso dir e) (Number e) (lowest_of a iso dir left (suc e))

-- an address of 256 or more asks for none: the lowest free of 1 to 15
unfoldable pub number_of : Allocator → Bool → ℕ → Dir → Found
number_of a iso address dir = if (ltb address 256) (asked_of a iso address dir) (lowest_of a iso dir 15 1)

-- ---- the buffers (row 8)

-- ISO_OUT_SLOTS, ISO_IN_SLOTS
unfoldable pub slots_of : Bool → Dir → ℕ
slots_of false dir = 1
slots_of true Out = 16
slots_of true In = 2

abbrev pub refused : ℕ → Allocator → Allocation
refused n a = record { answer = Refused n; after = a }

-- the ring's slots are consecutive buffers: 8 where there are not as many left
unfoldable pub buffered_of : Allocator → Bool → Dir → ℕ → Allocation
buffered_of a iso dir e =
    if (ltb a.count (a.next + slots_of iso dir)) (refused 8 a)
    (record {
      answer = Given e (a.next * a.size) (slots_of iso dir);
      after = with_allocated (with_next (taken a iso dir e) (a.next + slots_of iso dir)) dir e;
    })

-- 7 where there is no number
unfoldable pub numbered_of : Allocator → Bool → Dir → Found → Allocation
numbered_of a iso dir Nothing = refused 7 a
numbered_of a iso dir (Number e) = buffered_of a iso dir e

-- 6 where the maximum is above the buffer size
unfoldable pub allocate_of : Allocator → ℕ → ℕ → ℕ → Dir → Allocation
allocate_of a kind address maximum dir =
    if (ltb a.size maximum) (refused 6 a)
    (numbered_of a (is_iso kind) dir (number_of a (is_iso kind) address dir))

-- EP0's one buffer, for number 0. 22 where the maximum is not that of a high-speed control endpoint (USB 2.0, 5.5.3)
unfoldable pub allocate_ep0_of : Allocator → ℕ → Allocation
allocate_ep0_of a maximum =
    if (eqb maximum 64)
    (if (ltb a.size maximum) (refused 6 a)
    (if (leb a.count a.next) (refused 8 a)
    (record { answer = Given 0 (a.next * a.size) 1; after = with_next a (a.next + 1) })))
    (refused 22 a)

-- ---- the endpoint's record

abbrev pub flag : Bool → ℕ
flag true = 1
flag false = 0

-- sort, kind, maximum, base, stride and slots set; no slot is armed yet, and what stands for it is the first
abbrev pub shaped : EpState → ℕ → ℕ → ℕ → ℕ → ℕ → EpState
shaped s kind maximum base size slots = with_place s (flag (is_iso kind)) (kind % 4) base size slots maximum base

-- after an accepted allocation (mod.rs 1010-1031)
unfoldable pub allocated : EpState → ℕ → ℕ → ℕ → ℕ → ℕ → EpState
allocated s kind maximum base size slots = reset_of (shaped s kind maximum base size slots)
