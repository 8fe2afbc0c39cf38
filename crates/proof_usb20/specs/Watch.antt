-- What holds on every way through an outcome, as a log of it sees it: as `Every` of script/specs, whose chip is told
-- the accesses alone, but told the numbers brought too, and the state at the access
use Rattle.std.specs.Prelude.{◌≡◌, ℕ, ◌*◌, length}
use Rattle.regs.specs.declared.Access.{Access}
use Rattle.script_ops.specs.Rings.{St}
use Rattle.script.specs.Machine.{Buf}
use Rattle.script.specs.Tree as tree
use Rattle.script.specs.Tree.{ends, asks}

-- `Ok` of each access that is handed out, `P` at each end. `Keeps`: what becomes of the state between an access and the
-- next call
pub data Along {L S : Type 0} (saw : L → Access → ℕ → S → L) (Brings : L → Access → ℕ → Type 0)
    (Keeps : S → S → Type 0) (Ok : L → Access → Type 0) {A : Type 0} (P : L → A → S → Type 0) : L → tree.Out S A
    → Type 0 where
  at_end : {w : L} {a : A} {s : S} → P w a s → Along saw Brings Keeps Ok P w (ends a s)
  at_ask : {w : L} {q : Access} {s : S} {k : ℕ → S → tree.Out S A} → Ok w q
      → ((v : ℕ) (t : S) → Brings w q v → Keeps s t → Along saw Brings Keeps Ok P (saw w q v s) (k v t))
      → Along saw Brings Keeps Ok P w (asks q s k)

-- the slot buffer has its length: row 1 stops a continue that is lent another
abbrev pub Fitted : St → Type 0
Fitted s = length s.1 ≡ s.0.allocator.count * s.0.allocator.size

-- ---- the slot buffer

-- `P` of it where an access is handed out
pub data AtFirst (P : Buf → Type 0) {A : Type 0} : tree.Out St A → Type 0 where
  ended : {a : A} {s : St} → AtFirst P (ends a s)
  handed : {q : Access} {s : St} {k : ℕ → St → tree.Out St A} → P s.1 → AtFirst P (asks q s k)

-- `K` of it, as each call is lent it and leaves it
pub data Spared (K : Buf → Buf → Type 0) {A : Type 0} : Buf → tree.Out St A → Type 0 where
  stops : {b : Buf} {a : A} {s : St} → K b s.1 → Spared K b (ends a s)
  goes : {b : Buf} {q : Access} {s : St} {k : ℕ → St → tree.Out St A} → K b s.1
      → ((v : ℕ) (t : St) → Spared K t.1 (k v t)) → Spared K b (asks q s k)

-- of all calls but the first
pub data SparedAfter (K : Buf → Buf → Type 0) {A : Type 0} : tree.Out St A → Type 0 where
  no_more : {a : A} {s : St} → SparedAfter K (ends a s)
  then : {q : Access} {s : St} {k : ℕ → St → tree.Out St A} → ((v : ℕ) (t : St) → Spared K t.1 (k v t))
      → SparedAfter K (asks q s k)
