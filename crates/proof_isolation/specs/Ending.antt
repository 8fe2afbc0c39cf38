-- Calls that end at once
use Rattle.script.specs.Tree as tree
use Rattle.script_ops.specs.Rings.{St}

-- in a state of which K holds
pub data Finished {A : Type 0} (K : St → Type 0) : tree.Out St A → Type 0 where
  fin : (a : A) {s : St} → K s → Finished K (tree.ends a s)
