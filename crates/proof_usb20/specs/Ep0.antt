-- What the driver's state says of endpoint 0, and when that fits the log
use Rattle.std.specs.Prelude.{Bool, true, false, ◌&&◌, ◌||◌, List, ◌⊎◌, ◌≡◌, ℕ, ◌+◌, ◌*◌, ◌%◌, ◌≤◌, eqb}
use Rattle.regs.specs.declared.Access.{Access}
use Rattle.regs.specs.declared.Dir.TheVariants.{Out, In}
use Rattle.regs.specs.ControlWord.{toggle}
use Rattle.state.specs.declared.Control.{Control}
use Rattle.state.specs.declared.EpState.{EpState}
use Rattle.state.specs.Driver.{Driver, ep_on}
use Rattle.script.specs.Answers.{Answer}
use Rattle.script.specs.Calls.{Op, code}
use Rattle.script.specs.Control.{SETUP, DATA-OUT, DATA-IN, ACCEPT, setup_bytes}
use Rattle.script.specs.Script.{run}
use Rattle.script.specs.Tree as tree
use Rattle.script.specs.Statics.{is_on}
use Rattle.script.specs.TogglesLaws.{number}
use Rattle.script_ops.specs.Rings.{St}
use Rattle.script_ops.specs.Concrete.{concrete}
use Rattle.proof_book.specs.Sorting.{Sorting}
use Rattle.proof_usb20.specs.Pipe.{Half, Pipe, data_ready, is_ready, Awaited, nothing, taken, given, confirmed}
use Rattle.proof_usb20.specs.Pipe.{Setting, keeps, sets}
use Rattle.proof_usb20.specs.Log.{Ep0Word, Request, empty_request, for-setup, for-data-in, for-status, for_data_out}
use Rattle.proof_usb20.specs.Log.{Log, Shows, saw, opens, closes, EndsByReason, Allowed, SetupPacket, is_waiting}
use Rattle.proof_usb20.specs.Log.{IsPacket}
use Rattle.proof_usb20.specs.Watch.{Along, Fitted}

pub record Rec : Type 0 where
  pub ready : ℕ
  pub armed : ℕ
  pub len : ℕ

pub record View : Type 0 where
  pub out : Rec
  pub inn : Rec
  pub control : Control
  pub setup_ready : ℕ
  pub setup_bytes_lem : List ℕ
  pub stage : ℕ
  pub maximum : ℕ
  pub buffer : ℕ
  pub room : ℕ  -- the slot buffer's length

abbrev pub rec_of : EpState → Rec
rec_of r = record { ready = r.ready; armed = r.armed; len = r.len }

abbrev pub view : Driver → View
view d = record {
  out = rec_of (ep_on d Out 0);
  inn = rec_of (ep_on d In 0);
  control = d.control;
  setup_ready = d.globals.setup_ready;
  setup_bytes_lem = setup_bytes d.globals;
  stage = d.globals.stage;
  maximum = d.globals.ep0_max;
  buffer = d.globals.ep0_buf;
  room = d.allocator.count * d.allocator.size;
}

-- ---- it fits

-- a direction: its control word, the pipe's half, the record
pub record Fits (c : Ep0Word) (h : Half) (r : Rec) : Type 0 where
  pub shows : Shows c h h.answers
  pub toggles : c.read_back && c.in_step ≡ true → h.begun ≡ true → toggle c.last ≡ number h.bit
  pub armed : is_on r.armed ≡ data_ready h.answers

-- no stage's request is there
pub record Unstaged (c : Control) : Type 0 where
  pub not_out : c.sort ≡ DATA-OUT → ⊥
  pub not_in : c.sort ≡ DATA-IN → ⊥
  pub not_status : c.sort ≡ ACCEPT → ⊥

-- no stage is under way that a poll could end
pub data Rests (p : Pipe) (x : View) : Type 0 where
  unstaged : Unstaged x.control → Rests p x
  set_up : is_on x.setup_ready ≡ true → is_on x.out.ready ≡ false → is_on x.inn.ready ≡ false
      → is_ready p.out.answers ≡ false → is_ready p.inn.answers ≡ false → Rests p x

-- the half has a packet that is ready, or went through; its record says which
pub record Due (h : Half) (r : Rec) : Type 0 where
  pub ready : is_on r.ready ≡ h.through
  pub pends : is_ready h.answers || h.through ≡ true
  pub begun : h.begun ≡ true

-- a data_in's wait for its packet, and for the closing OUT
pub data Gives (last : Bool) (p : Pipe) (x : View) : Type 0 where
  first_wait : x.control.wait ≡ 1 → Due p.inn x.inn → (last ≡ true → Due p.out x.out) → Gives last p x
  second_wait : x.control.wait ≡ 2 → last ≡ true → p.inn.through ≡ true → Due p.out x.out → Gives last p x

-- an accept's address
abbrev pub Confirms : Setting → Control → Type 0
Confirms keeps c = is_on c.sets_address ≡ false
Confirms (sets a) c = (is_on c.sets_address ≡ true) × (c.address % 128 ≡ a)

abbrev pub Waits : Awaited → Pipe → View → Type 0
Waits nothing p x = Rests p x
Waits taken p x = (x.control.sort ≡ DATA-OUT) × Due p.out x.out
Waits (given last) p x = (x.control.sort ≡ DATA-IN) × (is_on x.control.last ≡ last) × Gives last p x
Waits (confirmed s) p x = (x.control.sort ≡ ACCEPT) × Due p.inn x.inn × Confirms s x.control

-- a setup packet is there, and these are its bytes
pub record SetUp (u : SetupPacket) (ready : ℕ) (bytes : List ℕ) : Type 0 where
  pub there : is_on ready ≡ is_waiting u
  pub packet : IsPacket bytes u

pub record Rel (rx tx : Ep0Word) (len got : ℕ) (p : Pipe) (a : Awaited) (u : SetupPacket) (x : View) : Type 0 where
  pub stage : x.stage ≡ 2
  pub out : Fits rx p.out x.out
  pub inn : Fits tx p.inn x.inn
  pub waits : Waits a p x
  pub size : is_ready p.inn.answers ≡ true → len ≡ p.size
  pub received : p.out.begun ≡ true → x.out.len ≡ got
  pub setup : SetUp u x.setup_ready x.setup_bytes_lem

-- the request is the one in the driver's record
abbrev pub Says : Request → Control → Type 0
Says empty_request c = c.sort ≡ 0
Says for-setup c = c.sort ≡ SETUP
Says for-data-in c = c.sort ≡ DATA-IN
Says for-status c = c.sort ≡ ACCEPT
Says (for_data_out m) c = (c.sort ≡ DATA-OUT) × (c.length ≡ m)

-- what is so whether the log is exempt or not
pub record Base (q : Request) (b : Bool) (at : ℕ) (x : View) : Type 0 where
  pub says : Says q x.control
  pub started : eqb x.stage 2 ≡ b
  pub maximum : b ≡ true → x.maximum ≡ 64
  pub slot : b ≡ true → x.buffer ≡ at
  pub inside : b ≡ true → x.buffer + 64 ≤ x.room

-- the log says nothing, or the state fits it
abbrev pub Line : Request → Bool → ℕ → Bool → Ep0Word → Ep0Word → ℕ → ℕ → Pipe → Awaited → SetupPacket → View → Type 0
Line q b slot exempt rx tx len got p a u x = Base q b slot x × ((exempt ≡ true) ⊎ Rel rx tx len got p a u x)

abbrev pub R : Log → View → Type 0
R w x = Line w.request w.started w.slot w.exempt w.rx w.tx w.len w.got w.pipe w.awaits
    w.untaken x

-- ---- the law of a call

-- every way through an outcome, as the log sees it
abbrev pub Watch : (St → St → Type 0) → (Log → Access → Type 0) → {A : Type 0} → (Log → A → St → Type 0) → Log
    → tree.Out St A
    → Type 0
Watch K Ok P w o = Along (λ w q v s. saw w q v s.1) (λ _ _ _. Unit {0}) K Ok P w o

-- between two accesses: calls that pass during an interrupt, and stores in the slots
abbrev pub Between : St → St → Type 0
Between s t = (view t.0 ≡ view s.0) × Sorting t.0 × (t.0.wakes ≡ s.0.wakes) × Fitted t

abbrev pub Ends : Op → Log → Answer → St → Type 0
Ends o w a s = R (closes o a w) (view s.0) × EndsByReason o a w

abbrev pub Law : Op → Type 0
Law o = (w : Log) (s : St) → R w (view s.0) → Sorting s.0
    → Watch Between (Allowed o) (Ends o) (opens o s.1 w) (run concrete (code o) s)
