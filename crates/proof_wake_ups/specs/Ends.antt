-- What EndsLaws.antt speaks of. It proves: the list that an end gives: no longer than the one gathered
use Rattle.std.specs.Prelude.{List, ℕ, ◌≤◌, length}
use Rattle.regs.specs.declared.Access.{Access}
use Rattle.state.specs.Wakes.{listed}
use Rattle.script.specs.Tree as tree
use Rattle.script.specs.Tree.{ends, asks}
use Rattle.script.specs.Answers.{Answer, Refused, End, NotYet, Done, Shown}
use Rattle.script_ops.specs.Rings.{St}

-- what an answer lists, by what was gathered
abbrev pub Lists : Answer → List ℕ → Type 0
Lists (End n l) w = length l ≤ length w
Lists (Refused n) w = Unit {0}
Lists NotYet w = Unit {0}
Lists (Done bytes) w = Unit {0}
Lists (Shown bytes stamp) w = Unit {0}

-- of every end that an outcome may come to
pub data Ends : tree.Out St Answer → Type 0 where
  end : {a : Answer} {s : St} → Lists a (listed s.0.wakes) → Ends (ends a s)
  ask : {q : Access} {s : St} {k : ℕ → St → tree.Out St Answer} → ((v : ℕ) (t : St) → Ends (k v t)) → Ends (asks q s k)
