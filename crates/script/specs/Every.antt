-- What holds on every way through an outcome, whatever is read
use Rattle.std.specs.Prelude.{Bool, true, false, ℕ, eqb}
use Rattle.regs.specs.declared.Access.{Access}
use Rattle.regs.specs.declared.Access.TheVariants.{Read, Write, Receive, Transmit, Ep0Dma, Wait, Callback}
use Rattle.regs.specs.declared.Reg.{Reg}
use Rattle.regs.specs.Registers.{number_of}
use Rattle.script.specs.Tree as tree
use Rattle.script.specs.Tree.{ends, asks}

-- the chip as far as a law speaks of it: what it holds, which numbers it may bring for an access, what it holds after
-- one
pub record Chip : Type 1 where
  pub Holds : Type 0
  pub Brings : Holds → Access → ℕ → Type 0
  pub after : Holds → Access → Holds

-- what an access has to meet where a test holds
abbrev pub Throughout : Bool → Type 0 → Type 0
Throughout true X = X
Throughout false X = Unit {0}

-- a type where a test holds, else none
abbrev pub When : Bool → Type 0 → Type 0
When true X = X
When false X = ⊥

abbrev pub same_reg : Reg → Reg → Bool
same_reg r q = eqb (number_of r) (number_of q)

-- what a write gives; any other access gives x
abbrev pub on_write : {A : Type 0} → (Reg → ℕ → ℕ → A) → A → Access → A
on_write f x (Write r e v) = f r e v
on_write f x (Read r e) = x
on_write f x (Receive e y) = x
on_write f x (Transmit e y) = x
on_write f x (Ep0Dma y) = x
on_write f x (Wait n) = x
on_write f x Callback = x

-- what a write has to meet
abbrev pub OnWrite : (Reg → ℕ → ℕ → Type 0) → Access → Type 0
OnWrite Ok (Write r e v) = Ok r e v
OnWrite Ok (Read r e) = Unit {0}
OnWrite Ok (Receive e x) = Unit {0}
OnWrite Ok (Transmit e x) = Unit {0}
OnWrite Ok (Ep0Dma x) = Unit {0}
OnWrite Ok (Wait n) = Unit {0}
OnWrite Ok Callback = Unit {0}

-- `Ok` of each access that is handed out, and `P` of what the chip holds, the answer and the state at each end.
-- `Keeps`: what becomes of the state between an access and the next call
pub data Every {S : Type 0} (C : Chip) (Keeps : S → S → Type 0)
    (Ok : Access → Type 0) {A : Type 0} (P : C.Holds → A → S → Type 0) : C.Holds → tree.Out S A → Type 0 where
  at_end : {h : C.Holds} {a : A} {s : S} → P h a s → Every C Keeps Ok P h (ends a s)
  at_ask : {h : C.Holds} {q : Access} {s : S} {k : ℕ → S → tree.Out S A}
      → Ok q → ((v : ℕ) (t : S) → C.Brings h q v → Keeps s t → Every C Keeps Ok P (C.after h q) (k v t))
      → Every C Keeps Ok P h (asks q s k)

-- `Ok` of each access, and no more
abbrev pub All : {S : Type 0} (C : Chip) → (S → S → Type 0) → (Access → Type 0) → {A : Type 0} → C.Holds → tree.Out S A
    → Type 0
All C Keeps Ok h o = Every C Keeps Ok (λ _ _ _. Unit {0}) h o
