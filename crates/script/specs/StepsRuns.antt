-- What the steps of a call say of the states on its way
use Rattle.std.specs.Prelude.{true, not, ◌≡◌, ℕ}
use Rattle.regs.specs.declared.Access.{Access}
use Rattle.script.specs.Tree as tree
use Rattle.script.specs.Tree.{ends, asks}
use Rattle.script.specs.Cells.{Cell, Val}
use Rattle.script.specs.Script.{Ops, Act, DmaStep, Burst}
use Rattle.script.specs.Steps.{Kind, queueing, is, may_put, may_act, may_row}

-- K at each access and at each end, whatever is read and whatever state of K the next call finds
pub data Holds {S : Type 0} (K : S → Type 0) {A : Type 0} : tree.Out S A → Type 0 where
  end : {a : A} {s : S} → K s → Holds K (ends a s)
  ask : {q : Access} {s : S} {k : ℕ → S → tree.Out S A} → K s → ((v : ℕ) (t : S) → K t → Holds K (k v t))
      → Holds K (asks q s k)

-- what a law over the states of a kind of calls is to be told: each step keeps K
pub record Keeps {S : Type 0} (O : Ops S) (K : S → Type 0) (k : Kind) : Type 0 where
  pub put : (c : Cell) (v : Val c) → may_put k c v ≡ true → (s : S) → K s → K (O.put c v s)
  pub act : (q : Act) → may_act k q ≡ true → (s : S) → K s → K (O.act q s)
  pub hand : (q : DmaStep) → not (is k queueing) ≡ true → (s : S) → K s → K (O.hand q s).1
  pub row : (g : Burst) → may_row k g ≡ true → (n : ℕ) (s : S) → K s → K (O.row g n s).1
