-- The device's address changes once the status stage of Set Address is complete (USB 2.0, 9.4.6)
use Rattle.std.specs.Prelude.{Bool, true, false, cond, ◌&&◌, ◌≡◌, refl, ℕ, ◌%◌}
use Rattle.std.proofs.Common.{◌∙◌}
use Rattle.regs.specs.declared.Access.{Access}
use Rattle.regs.specs.declared.Access.TheVariants.{Read, Write, Receive, Transmit, Ep0Dma, Wait, Callback}
use Rattle.regs.specs.declared.Reg.TheVariants.{DevAd}
use Rattle.script.specs.Tree as tree
use Rattle.script.specs.Every.{on_write, Chip, Every, at_end, at_ask, same_reg, Throughout}
use Rattle.script.specs.AddressWrites.{Writes}
use Rattle.script.proofs.AddressCallsLaws.{None}

-- the address in force: the one last written
abbrev pub in_force : ℕ → Access → ℕ
in_force a q = on_write (λ r e v. cond (same_reg r DevAd) v a) a q

abbrev pub addressed : Chip
addressed = record { Holds = ℕ; Brings = λ _ _ _. Unit {0}; after = in_force }

-- from the address a, `P` of the address at the end, whatever is read and whatever becomes of the state
abbrev pub Addressed : {S : Type 0} {A : Type 0} → (ℕ → Type 0) → ℕ → tree.Out S A → Type 0
Addressed {S = S} P a o = Every addressed (λ (s t : S). Unit {0}) (λ _. Unit {0}) (λ b _ _. P b) a o

-- where no address is written, the address stays: every call but a poll of the bus and of an accept, by
-- `address-writes`
keeps : (q : Access) (a : ℕ) → Writes None q → in_force a q ≡ a
keeps (Write r e v) a x = go (same_reg r DevAd) x
  where
    go : (t : Bool) → Throughout t ⊥ → cond t v a ≡ a
    go false y = refl
    go true y = elim y [ ]
keeps (Read r e) a x = refl
keeps (Receive e y) a x = refl
keeps (Transmit e y) a x = refl
keeps (Ep0Dma y) a x = refl
keeps (Wait n) a x = refl
keeps Callback a x = refl

stays : {S A : Type 0} {a b : ℕ} {o : tree.Out S A}
    → Every addressed (λ (s t : S). Unit {0}) (Writes None) (λ _ _ _. Unit {0}) b o → b ≡ a → Addressed (λ c. c ≡ a) b o
stays (at_end x) e = at_end e
stays {b = b} (at_ask {q = q} ok k) e = at_ask tt (λ v t y z. stays (k v t y z) (keeps q b ok ∙ e))
