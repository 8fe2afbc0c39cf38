-- The calls of document 01, each with its script; which bring the slot buffer and which pass during an interrupt
use Rattle.std.specs.Prelude.{Bool, true, false, not, cond, List, ℕ, eqb, length}
use Rattle.regs.specs.declared.Dir.{Dir}
use Rattle.regs.specs.Registers.{fits_in}
use Rattle.alloc.specs.Buffer.{good_buffer, fits}
use Rattle.script.specs.Script.{Script, ret, done, test, ◌>>=◌, ◌>>◌}
use Rattle.script.specs.Answers.{Answer, Refused, ok, operation, resultless, staged, named, is_number}
use Rattle.script.specs.IsoIn.{iso_in_advance, iso_in_set_paced, microframe}
use Rattle.script.specs.Handler.{stamped_interrupt}
use Rattle.script.specs.Bus as bus
use Rattle.script.specs.Endpoint.{begin_read, poll_read, begin_write, poll_write}
use Rattle.script.specs.Control.{begin_setup, poll_setup, begin_data_out, poll_data_out, begin_data_in, poll_data_in}
use Rattle.script.specs.Control.{begin_accept, begin_accept_set_address, poll_accept, begin_reject}
use Rattle.script.specs.Driver.{start_up, alloc_endpoint, start, open_packet, close_packet, queue_packet}
use Rattle.script.specs.AllocateAll.{allocate_all}
use Rattle.script.specs.Machine.{Buf, Calls}

-- start-up: buffer size, count, whether there is a start-of-frame callback
pub record Config : Type 0 where
  pub size : ℕ
  pub count : ℕ
  pub callback : Bool

-- the calls that read or write a slot, and so bring the slot buffer
pub data Slotted : Type 0 where
  SetEnabled : Dir → ℕ → Bool → Slotted
  PollRead : ℕ → ℕ → Slotted
  BeginWrite PollWrite : ℕ → List ℕ → Slotted
  PollDataOut : ℕ → Slotted
  BeginDataIn : List ℕ → Bool → Bool → Slotted

-- those that do not
pub data Other : Type 0 where
  Allocate : Dir → ℕ → ℕ → ℕ → ℕ → Other  -- kind, address, maximum, interval
  AllocateAll : List ℕ → Other  -- the endpoints of a configuration descriptor
  Start : ℕ → Other
  BusPoll BusEnable BusDisable Microframe : Other
  SetStalled : Dir → ℕ → Bool → Other
  IsStalled : Dir → ℕ → Other
  SetPaced : ℕ → Bool → Other
  Advance : ℕ → Other
  BeginRead : ℕ → ℕ → Other
  BeginSetup PollSetup PollDataIn BeginAccept PollAccept BeginReject : Other
  BeginDataOut : ℕ → Bool → Other
  BeginAcceptSetAddress : ℕ → Other

-- those that pass during an interrupt
pub data Aside : Type 0 where
  Open Close : ℕ → Aside
  Queue : ℕ → List ℕ → Aside

pub data Op : Type 0 where
  interrupt : Op
  slotted : Slotted → Op
  other : Other → Op
  aside : Aside → Op

-- row 5 of pacing: 0 or above 15; stalls take 0
abbrev pub numbered : {i : Bool} → ℕ → Script i Answer → Script i Answer
numbered e p = test (is_number e) p (ret (Refused 5))

abbrev pub named_or_0 : {i : Bool} → Dir → ℕ → Script i Answer → Script i Answer
named_or_0 d e p = test (eqb e 0) p (named d e p)

-- the operations whose begin and end stand in one file of the Rust
abbrev pub set_paced : {i : Bool} → ℕ → Bool → Script i Answer
set_paced e on = staged 2 (numbered e (do
  iso_in_set_paced e on
  ret ok))

abbrev pub set_enabled : Dir → ℕ → Bool → Script false Answer
set_enabled d e on = staged 2 (named d e (resultless (bus.set_enabled d e on)))

abbrev pub set_stalled : {i : Bool} → Dir → ℕ → Bool → Script i Answer
set_stalled d e on = staged 2 (named_or_0 d e (resultless (bus.set_stalled d e on)))

abbrev pub is_stalled : {i : Bool} → Dir → ℕ → Script i Answer
is_stalled d e = staged 2 (named_or_0 d e (operation (bus.is_endpoint_stalled d e)))

abbrev pub slotted_code : Slotted → Script false Answer
slotted_code (SetEnabled d e on) = set_enabled d e on
slotted_code (PollRead e n) = poll_read e n
slotted_code (BeginWrite e bs) = begin_write e bs
slotted_code (PollWrite e bs) = poll_write e bs
slotted_code (PollDataOut n) = poll_data_out n
slotted_code (BeginDataIn bs first last) = begin_data_in bs first last

abbrev pub other_code : Other → Script false Answer
other_code (Allocate d kind address maximum interval) = alloc_endpoint d kind address maximum interval
other_code (AllocateAll bytes) = allocate_all bytes
other_code (Start maximum) = start maximum
other_code BusPoll = staged 2 (operation bus.poll)
other_code BusEnable = staged 2 (resultless bus.enable)
other_code BusDisable = staged 2 (resultless done)
other_code Microframe = staged 2 (operation microframe)
other_code (SetStalled d e on) = set_stalled d e on
other_code (IsStalled d e) = is_stalled d e
other_code (SetPaced e on) = set_paced e on
other_code (Advance e) = staged 2 (numbered e (resultless (iso_in_advance e)))
other_code (BeginRead e n) = begin_read e n
other_code BeginSetup = begin_setup
other_code PollSetup = poll_setup
other_code PollDataIn = poll_data_in
other_code BeginAccept = begin_accept
other_code PollAccept = poll_accept
other_code BeginReject = begin_reject
other_code (BeginDataOut n first) = begin_data_out n first
other_code (BeginAcceptSetAddress a) = begin_accept_set_address a

abbrev pub aside_code : Aside → Script false Answer
aside_code (Open e) = open_packet e
aside_code (Close e) = close_packet e
aside_code (Queue e bs) = queue_packet e bs

abbrev pub interrupt_code : Script true Answer
interrupt_code = staged 2 (resultless stamped_interrupt)

-- no row occurs in an interrupt
abbrev pub irq : Op → Bool
irq interrupt = true
irq (slotted o) = false
irq (other o) = false
irq (aside o) = false

abbrev pub code : (o : Op) → Script (irq o) Answer
code interrupt = interrupt_code
code (slotted o) = slotted_code o
code (other o) = other_code o
code (aside o) = aside_code o

-- row 1 is asked of the calls that bring the slot buffer: of the last three, open and queue
abbrev pub aside_slots : Aside → Bool
aside_slots (Open e) = true
aside_slots (Close e) = false
aside_slots (Queue e bs) = true

abbrev pub slots : Op → Bool
slots interrupt = false
slots (slotted o) = true
slots (other o) = false
slots (aside o) = aside_slots o

abbrev pub passes : Op → Bool
passes interrupt = false
passes (slotted o) = false
passes (other o) = false
passes (aside o) = true

-- rows 1 and 2 of start-up
unfoldable pub start_row : Config → Buf → ℕ
start_row c b = cond (not (fits (length b) c.size c.count)) 1 (cond (good_buffer c.size c.count) 0 2)

abbrev pub starting : Config → Script false Answer
starting c = start_up c.callback

-- row 16
abbrev pub too_wide : ℕ → ℕ → Bool
too_wide width v = not (fits_in v width)

abbrev pub calls : Calls Config Op Answer
calls = record {
  irq = irq;
  code = code;
  slots = slots;
  aside = passes;
  starts = starting;
  refuses = start_row;
  wide
      = too_wide;
  refusal = Refused;
}
