-- How many accesses a script hands out, of every kind, on every path: an operation under way takes as many continues
-- until it ends, at most
use Rattle.std.specs.Prelude.{Bool, [], ◌∷◌, ℕ, ◌+◌, ◌≤◌}
use Rattle.script.specs.Tree.{Out, ends, asks}
use Rattle.script.specs.Script.{Script, Ops, run}
use Rattle.script.specs.Readings.{Continues}

-- the accesses handed out along a path, up to the end or as far as the path goes. A path is given by the continues: the
-- number that each brings and the state as it is then, any number and any state
unfoldable pub accesses : {S A : Type 0} → Out S A → Continues S → ℕ
accesses (ends a s) w = 0
accesses (asks q s k) [] = 1
accesses (asks q s k) (c ∷ w) = 1 + accesses (k c.0 c.1) w

-- no path has more
abbrev pub Within : {S A : Type 0} → ℕ → Out S A → Type 0
Within n o = (w : Continues _) → accesses o w ≤ n

-- of a script: over any state, any operations of it and any path
pub record Asks≤ {i : Bool} {A : Type 0} (n : ℕ) (p : Script i A) : Type 1 where
  pub on : (S : Type 0) (O : Ops S) (s : S) → Within n (run O p s)
