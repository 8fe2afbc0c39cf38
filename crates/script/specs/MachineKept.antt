-- The machine of calls while K of its state is kept
use Rattle.std.specs.Prelude.{◌≡◌, ℕ, zero}
use Rattle.script.specs.Script.{run}
use Rattle.script.specs.Machine.{Buf, Pending, idle, busy, Machine, Calls, Instance}
use Rattle.script.specs.StepsRuns.{Holds}

module _ {S : Type 0} (K : S → Type 0) where
  -- of a state with the slot buffer
  abbrev pub LentKeeps : S × Buf → Type 0
  LentKeeps s = K s.0

  -- what is under way goes on so
  abbrev pub WayKeeps : {A : Type 0} → Pending A S → Type 0
  WayKeeps idle = Unit {0}
  WayKeeps (busy i q k) = (v : ℕ) (t : S × Buf) → K t.0 → Holds LentKeeps (k v t)

  pub record MachineKeeps {A : Type 0} (m : Machine A S) : Type 0 where
    pub state : K m.st
    pub under_way_lem : WayKeeps m.under_way_lem

  -- what a law over every list of calls is to be told: each script keeps K, and an accepted start-up begins with it
  pub record Preserves {C Op A : Type 0} (L : Calls C Op A) (D : Instance C S) : Type 0 where
    pub calls : (o : Op) (s : S × Buf) → K s.0 → Holds LentKeeps (run D.ops (L.code o) s)
    pub starts : (c : C) (s : S × Buf) → K s.0 → Holds LentKeeps (run D.ops (L.starts c) s)
    pub fresh : (c : C) (b : Buf) → L.refuses c b ≡ zero → K (D.fresh c)
