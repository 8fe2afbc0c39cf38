-- How many readings a script hands out, on every path. A reading is an access that brings a register's value; writes,
-- addresses, waits and the callback are none
use Rattle.std.specs.Prelude.{List, [], ◌∷◌, Bool, ℕ, ◌+◌, ◌≤◌}
use Rattle.regs.specs.declared.Access.{Access}
use Rattle.regs.specs.declared.Access.TheVariants.{Read, Write, Receive, Transmit, Ep0Dma, Wait, Callback}
use Rattle.script.specs.Tree.{Out, ends, asks}
use Rattle.script.specs.Script.{Script, Ops, run}

abbrev pub reading : Access → ℕ
reading (Read r e) = 1
reading (Write r e v) = 0
reading (Receive e x) = 0
reading (Transmit e x) = 0
reading (Ep0Dma x) = 0
reading (Wait n) = 0
reading Callback = 0

-- a path is given by the calls that continue: the number that each brings and the state as it is then. Any number and
-- any state: nothing is said of what other calls do between two accesses
abbrev pub Continues : Type 0 → Type 0
Continues S = List (ℕ × S)

-- the readings handed out along a path, up to the end or as far as the path goes
unfoldable pub readings : {S A : Type 0} → Out S A → Continues S → ℕ
readings (ends a s) w = 0
readings (asks q s k) [] = reading q
readings (asks q s k) (c ∷ w) = reading q + readings (k c.0 c.1) w

-- no path has more
abbrev pub AtMost : {S A : Type 0} → ℕ → Out S A → Type 0
AtMost n o = (w : Continues _) → readings o w ≤ n

-- of a script: over any state, any operations of it and any path
pub record Reads≤ {i : Bool} {A : Type 0} (n : ℕ) (p : Script i A) : Type 1 where
  pub on : (S : Type 0) (O : Ops S) (s : S) → AtMost n (run O p s)
