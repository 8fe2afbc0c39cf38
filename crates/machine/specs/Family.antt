-- A family's points: what one awaits, what is left to run there, the family's tag and the numbers in the saved record.
-- Said once for the driver's own, the bus's, the control pipe's, those of reads and writes, and a paced advance's
use Rattle.std.specs.Prelude.{false, ◌≡◌, ℕ}
use Rattle.state.specs.declared.Saved.{Saved}
use Rattle.script.specs.Tree.{Out, bind_out}
use Rattle.script.specs.Script.{run}
use Rattle.script.specs.Machine.{Awaits, busy}
use Rattle.script_ops.specs.Rings.{St}
use Rattle.script_ops.specs.Concrete.{concrete}
use Rattle.machine.specs.declared.Suspended.{Suspended}
use Rattle.machine.specs.Suspended.{decode, way_of, finish}

pub record Family {P : Type 0} (under : P → Suspended) (awaits : P → Awaits) (rest : P → ℕ → St → Out St ℕ)
    (mark : ℕ) (by_number : ℕ → Saved → P) : Type 0 where
  pub under_way_lem : (p : P) → way_of (under p) ≡ busy false (awaits p)
      (λ v t. bind_out (rest p v t) (λ n u. run concrete (finish n) u))
  pub read : (c : Saved) → c.tag ≡ mark → decode c ≡ under (by_number c.sub c)
