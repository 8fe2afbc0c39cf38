-- What MachinesLaws.antt speaks of. It proves: the driver and the driver beside the record answer every call alike
-- (request Nine): the list that an end gives has every wake-up since the operation's begin, in order, and none is lost
use Rattle.std.specs.Prelude.{Bool, List, [], ◌≡◌, ℕ}
use Rattle.state.specs.Driver.{Driver}
use Rattle.script.specs.Tree as tree
use Rattle.script.specs.Answers.{Answer}
use Rattle.script.specs.Calls.{Config, Op, calls}
use Rattle.script.specs.Machine as machine
use Rattle.script.specs.Machine.{Buf, Call, question, Ans, Awaits, Pending, idle, busy, Machine, call}
use Rattle.script_ops.specs.Rings.{St}
use Rattle.machine.specs.Suspended.{driver_of}
use Rattle.proof_wake_ups.specs.Heard.{Heard, Hst, bare, heard_ops}
use Rattle.proof_wake_ups.specs.Twins.{Fits, Twin, Short}

-- the driver beside the record
abbrev pub heard : machine.Instance Config Heard
heard = record {
  ops = heard_ops;
  fresh = λ c. (driver_of.fresh c, []);
  size = λ h. driver_of.size h.0;
  question = λ q h. driver_of.question q h.0;
}

abbrev pub Told : Type 0
Told = Ans Answer × Machine Answer Driver

abbrev pub ToldHeard : Type 0
ToldHeard = Ans Answer × Machine Answer Heard

-- one call of it
abbrev pub hear : Call Config Op → Machine Answer Heard → Buf → ToldHeard
hear c n b = call calls heard (λ s. s) c n b

-- what is under way goes on alike, with the record as it stands
pub data Ways (l : List ℕ) : Pending Answer Driver → Pending Answer Heard → Type 0 where
  rests : Ways l idle idle
  works : {i : Bool} {q : Awaits} {k : ℕ → St → tree.Out St Answer} {k' : ℕ → Hst → tree.Out Hst Answer}
      → ((v : ℕ) (u : Hst) → Fits u.0 → u.0.1 ≡ l → Twin Short (k v (bare u)) (k' v u))
      → Ways l (busy i q k) (busy i q k')

-- the same driver and buffer; the driver lists what was recorded, and has room for one more
pub record Pair (m : Machine Answer Driver) (n : Machine Answer Heard) : Type 0 where
  pub driver : m.st ≡ n.st.0
  pub buf : m.buf ≡ n.buf
  pub fits : Fits n.st
  pub short : Short n.st.1
  pub ways : Ways n.st.1 m.under_way_lem n.under_way_lem
