-- What RoomsLaws.antt speaks of. It proves: in every run from an accepted start-up the wake-ups gathered, and those
-- that an end gives, are fewer than 64 at each moment
use Rattle.std.specs.Prelude.{Bool, List, ℕ}
use Rattle.state.specs.Driver.{Driver}
use Rattle.state.specs.Wakes.{listed}
use Rattle.script.specs.Tree as tree
use Rattle.script.specs.Answers.{Answer, Refused, End, NotYet, Done, Shown}
use Rattle.script.specs.Machine.{Ans, ended, handed, told, Awaits, Pending, idle, busy, Machine}
use Rattle.script_ops.specs.Rings.{St}
use Rattle.proof_wake_ups.specs.Heard.{Heard}
use Rattle.proof_wake_ups.specs.Twins.{Short}
use Rattle.proof_wake_ups.specs.Machines.{Told, Pair}
use Rattle.proof_wake_ups.specs.Ends.{Lists, Ends}

-- fewer than 64, of what any call answers
abbrev pub Few : Ans Answer → Type 0
Few (ended (End n l)) = Short l
Few (ended (Refused n)) = Unit {0}
Few (ended NotYet) = Unit {0}
Few (ended (Done bytes)) = Unit {0}
Few (ended (Shown bytes stamp)) = Unit {0}
Few (handed q) = Unit {0}
Few (told n) = Unit {0}

-- what is under way ends so too
pub data Goes : Pending Answer Driver → Type 0 where
  rests : Goes idle
  works : {i : Bool} {q : Awaits} {k : ℕ → St → tree.Out St Answer} → ((v : ℕ) (s : St) → Ends (k v s))
      → Goes (busy i q k)

-- a machine with room for one more wake-up, now and after any call
pub record Roomy (m : Machine Answer Driver) : Type 0 where
  pub heard : Machine Answer Heard
  pub pair : Pair m heard
  pub goes : Goes m.under_way_lem

-- an answer gives no more than was gathered
abbrev pub Gathered : Ans Answer → List ℕ → Type 0
Gathered (ended a) w = Lists a w
Gathered (handed q) w = Unit {0}
Gathered (told n) w = Unit {0}

pub record RoomsKept (x : Told) : Type 0 where
  pub answer : Gathered x.0 (listed x.1.st.wakes)
  pub goes : Goes x.1.under_way_lem

-- a call
pub record Rooms (x : Told) : Type 0 where
  pub answer : Few x.0
  pub machine : Roomy x.1
