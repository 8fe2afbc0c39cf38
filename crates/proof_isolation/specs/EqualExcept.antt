-- "One channel's data can't disturb another": what two states have in common beside the data of one OUT endpoint, x
use Rattle.std.specs.Prelude.{true, false, cond, List, [], ◌∷◌, ◌≢◌, ◌≡◌, ℕ, ◌≤◌, ◌<◌, eqb, length}
use Rattle.regs.specs.declared.Dir.{Dir}
use Rattle.regs.specs.declared.Dir.TheVariants.{Out}
use Rattle.state.specs.declared.EpState.{EpState}
use Rattle.state.specs.Wakes.{Wakes, wake_code, listed}
use Rattle.state.specs.WakesLaws.{Room}
use Rattle.state.specs.Driver.{Driver, key, ep_on, request_on}
use Rattle.ring.specs.Only.{Only}
use Rattle.script.specs.Simulates.{Phase}
use Rattle.script.specs.TransferKinds.{TransferKinds}
use Rattle.script.specs.Statics.{with_ready}
use Rattle.script.specs.Control.{DATA-OUT}
use Rattle.ring.specs.Waiting.{SamePlace}
use Rattle.script_ops.specs.Records.{plain_of}
use Rattle.script_ops.specs.Rings.{St}
use Rattle.proof_book.specs.Pages.{Pages}
use Rattle.proof_book.specs.Coupling.{end_of, lens_of, slot_stamps, Coupling}
use Rattle.proof_book.specs.TransferKinds.{Has}

-- a list without one code
abbrev pub without : ℕ → List ℕ → List ℕ
without o [] = []
without o (a ∷ l) = cond (eqb a o) (without o l) (a ∷ without o l)

-- a list of wake-ups without those of OUT x
abbrev pub others : ℕ → List ℕ → List ℕ
others x l = without (wake_code Out x) l

-- "the order of the others' wake-ups": the two lists without OUT x's are the same. A list of 64 has no room for more,
-- to which none comes in a run
-- (`proof_wake_ups`: `rooms`)
abbrev pub SameCodes : ℕ → List ℕ → List ℕ → Type 0
SameCodes x l l' = length l < 64 → length l' < 64 → others x l ≡ others x l'

-- so far gathered
pub record OtherWakes (x : ℕ) (w w' : Wakes) : Type 0 where
  pub room : Room w
  pub room' : Room w'
  pub same : SameCodes x (listed w) (listed w')

-- what stays of OUT x's record: where its slots lie and what scripts read (`Plain`), but for `ready`, which a poll of
-- its read makes 0
pub record Stays (r r' : EpState) : Type 0 where
  pub place : SamePlace r r'
  pub plain : with_ready 0 (plain_of r') ≡ with_ready 0 (plain_of r)

-- two drivers are the same but for OUT x's queue, stamps, overruns, armed slot and open packet, its read's request, and
-- the wake-ups, of which W holds
pub record ButBy (W : Wakes → Wakes → Type 0) (x : ℕ) (d d' : Driver) : Type 0 where
  pub globals : d.globals ≡ d'.globals
  pub allocator : d.allocator ≡ d'.allocator
  pub control : d.control ≡ d'.control
  pub paced : d.paced ≡ d'.paced
  pub wakes : W d.wakes d'.wakes
  pub requests : (dir : Dir) (e : ℕ) → key dir e ≢ key Out x → request_on d dir e ≡ request_on d' dir e
  pub eps : (dir : Dir) (e : ℕ) → key dir e ≢ key Out x → ep_on d dir e ≡ ep_on d' dir e
  pub lens : (dir : Dir) (e : ℕ) → key dir e ≢ key Out x → lens_of d dir e ≡ lens_of d' dir e
  pub stamps : (e : ℕ) → key Out e ≢ key Out x → slot_stamps d e ≡ slot_stamps d' e
  pub own : Stays (ep_on d Out x) (ep_on d' Out x)

-- of two runs: the others' wake-ups are the same
abbrev pub EqualExcept : ℕ → Driver → Driver → Type 0
EqualExcept x d d' = ButBy (OtherWakes x) x d d'

-- of one run, before and after: no wake-up
abbrev pub Beside : ℕ → Driver → Driver → Type 0
Beside x d d' = ButBy (λ w w'. w ≡ w') x d d'

-- a data_out's length is at most EP0's maximum, as its begin asks (row 10); it holds after every list of calls
-- (`Bounds`: `after-bounded`)
abbrev pub Bounded : Driver → Type 0
Bounded d = d.control.sort ≡ DATA-OUT → (d.globals.stage ≡ 2) × (d.control.length ≤ d.globals.ep0_max)

-- a state of a run under demand 3's premise, after EP0's start, whose endpoints have these sorts
pub record Lawful (iso : TransferKinds) (φ : Phase) (s : St) : Type 0 where
  pub pages : Pages
  pub rest : Coupling φ s.1 s.0 pages
  pub has : Has iso s.0
  pub stage : s.0.globals.stage ≡ 2
  pub bounded : Bounded s.0

-- the channel: an isochronous OUT endpoint, 1 to 15, and the sorts of all endpoints in this run; EP0 is not isochronous
pub record Channel : Type 0 where
  pub number : ℕ
  pub below : number < 16
  pub iso : TransferKinds
  pub receives : iso Out number ≡ true
  pub ep0 : (dir : Dir) → iso dir 0 ≡ false

-- two such states, with their slot buffers, that are the same but for its data: "every other endpoint has the same
-- queue, stamps, bytes, overruns and wake-ups"
pub record LowEquiv (c : Channel) (φ : Phase) (s t : St) : Type 0 where
  pub left : Lawful c.iso φ s
  pub right : Lawful c.iso φ t
  pub but : EqualExcept c.number s.0 t.0
  pub bytes : Only (ep_on s.0 Out c.number).base (end_of (ep_on s.0 Out c.number)) s.1 t.1

-- one state before and after what is done to its data alone, between two accesses or operations: stores in its slots,
-- its opens and closes, polls of its read
pub record Touched (c : Channel) (φ : Phase) (s t : St) : Type 0 where
  pub left : Lawful c.iso φ s
  pub right : Lawful c.iso φ t
  pub but : Beside c.number s.0 t.0
  pub bytes : Only (ep_on s.0 Out c.number).base (end_of (ep_on s.0 Out c.number)) s.1 t.1
