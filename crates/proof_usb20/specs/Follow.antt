-- What the driver's state says of the endpoint, when that fits the log, and the law of a call
use Rattle.std.specs.Prelude.{Bool, false, ◌≡◌, ℕ, eqb}
use Rattle.regs.specs.declared.Dir.{Dir}
use Rattle.state.specs.declared.EpState.{EpState}
use Rattle.state.specs.Driver.{Driver, ep_on}
use Rattle.script.specs.Tree as tree
use Rattle.script.specs.Answers.{Answer}
use Rattle.script.specs.Calls.{Op, code}
use Rattle.script.specs.Script.{run}
use Rattle.script.specs.Statics.{is_on}
use Rattle.script.specs.TogglesLaws.{number}
use Rattle.script.specs.Usb20Toggles.{Pid, initial}
use Rattle.script_ops.specs.Rings.{St}
use Rattle.script_ops.specs.Concrete.{concrete}
use Rattle.proof_book.specs.Sorting.{Sorting}
use Rattle.script.specs.Machine.{ended}
use Rattle.proof_wake_ups.specs.Rooms.{Few}
use Rattle.proof_usb20.specs.Watch.{Along, Fitted}
use Rattle.proof_usb20.specs.Sequence.{Track, saw, opens, closes, EndsByReason}

pub record EpSeen : Type 0 where
  pub ready : ℕ
  pub len : ℕ
  pub armed : ℕ
  pub tog : ℕ
  pub iso : ℕ
  pub stage : ℕ

abbrev pub seen_of : EpState → ℕ → EpSeen
seen_of r n = record { ready = r.ready; len = r.len; armed = r.armed; tog = r.tog; iso = r.iso; stage = n }

-- the record is as the log says; before EP0's start nothing has happened yet
pub record FitsAs (b : Pid) (through : Bool) (n : ℕ) (a : Bool) (x : EpSeen) : Type 0 where
  pub tog : x.tog ≡ number b
  pub ready : is_on x.ready ≡ through
  pub len : x.len ≡ n
  pub armed : is_on x.armed ≡ a
  pub early : eqb x.stage 2 ≡ false → (b ≡ initial) × (through ≡ false) × (a ≡ false)

abbrev pub Fits : Track → EpSeen → Type 0
Fits w x = FitsAs w.bit w.through w.len w.armed x

module _ (D : Dir) (E : ℕ) where
  abbrev pub view : Driver → EpSeen
  view d = seen_of (ep_on d D E) d.globals.stage

  -- between two accesses: open, close and queue, and stores in the slots
  abbrev pub Between : St → St → Type 0
  Between s t = (view t.0 ≡ view s.0) × Sorting t.0 × (t.0.wakes ≡ s.0.wakes) × Fitted t

  -- `P` at each end, of what the log is then: nothing is asked of the chip, and any access is allowed
  abbrev pub Follow : {A : Type 0} → (Track → A → St → Type 0) → Track → tree.Out St A → Type 0
  Follow P w o = Along (λ w q v _. saw D E w q v) (λ _ _ _. Unit {0}) Between (λ _ _. Unit {0}) P w o

  abbrev pub Ends : Op → Track → Answer → St → Type 0
  Ends o w a s = Fits (closes D E o a w) (view s.0) × EndsByReason D E o a w

  -- of an interrupt, whose wake-ups are fewer than the room for them
  abbrev pub EndsFew : Op → Track → Answer → St → Type 0
  EndsFew o w a s = Fits (closes D E o a w) (view s.0) × (Few (ended a) → EndsByReason D E o a w)

  -- `iso`: the endpoint is not isochronous when the call begins
  abbrev pub Law : Op → Type 0
  Law o = (w : Track) (s : St) → Fits w (view s.0)
      → is_on (ep_on s.0 D E).iso ≡ false → Sorting s.0 → Follow (Ends o) (opens D E o w) (run concrete (code o) s)
