-- A script's run on the driver and beside the record, side by side: the same accesses and results, and what the driver
-- lists is what was recorded.
-- How many wake-ups a script has at most, whatever is read and whatever becomes of the driver between two accesses but
-- for its wake-ups
use Rattle.std.specs.Prelude.{List, ◌≡◌, ℕ, ◌<◌, length}
use Rattle.regs.specs.declared.Access.{Access}
use Rattle.state.specs.Wakes.{listed}
use Rattle.state.specs.WakesLaws.{Room}
use Rattle.script.specs.Tree as tree
use Rattle.script.specs.Tree.{ends, asks}
use Rattle.script_ops.specs.Rings.{St}
use Rattle.proof_wake_ups.specs.Heard.{Heard, Hst, bare}

-- the driver lists what was recorded
pub record Fits (h : Heard) : Type 0 where
  pub room : Room h.0.wakes
  pub list : listed h.0.wakes ≡ h.1

-- P of the record at each access and at the end; between two accesses it stays
pub data Twin {A : Type 0} (P : List ℕ → Type 0) : tree.Out St A → tree.Out Hst A → Type 0 where
  end : {a : A} (t : Hst) → Fits t.0 → P t.0.1 → Twin P (ends a (bare t)) (ends a t)
  ask : {q : Access} {k : ℕ → St → tree.Out St A} {k' : ℕ → Hst → tree.Out Hst A} (t : Hst) → Fits t.0 → P t.0.1
      → ((v : ℕ) (u : Hst) → Fits u.0 → u.0.1 ≡ t.0.1 → Twin P (k v (bare u)) (k' v u))
      → Twin P (asks q (bare t) k) (asks q t k')

-- ---- calls

-- the room for 64 is never full
abbrev pub Short : List ℕ → Type 0
Short l = length l < 64
