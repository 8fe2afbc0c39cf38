-- The loop of a reset, step by step. Assumes nothing.
use Rattle.std.specs.Prelude.{◌≡◌, refl, false, ℕ, suc, ◌+◌, ◌-◌, ◌<◌, ◌≤◌}
use Rattle.std.proofs.Common.{ap, ◌∙◌, add-one, arith}
use Rattle.regs.specs.declared.Access.TheVariants.{Write}
use Rattle.regs.specs.declared.Reg.TheVariants.{EpRxCtrl, EpTxCtrl}
use Rattle.regs.specs.ControlWord.{NAK, DATA0, word_of}
use Rattle.script.specs.Tree as tree
use Rattle.script.specs.Tree.{asks, ends}
use Rattle.script.specs.Script.{run}
use Rattle.script.specs.Bus.{nak_all}
use Rattle.script_ops.specs.Rings.{St}
use Rattle.script_ops.specs.Concrete.{concrete}

-- ---- `bus_reset`: the endpoints above e

abbrev naks : ℕ → ℕ → tree.Prog St Unit
naks n e t = run concrete (nak_all {i = false} n e) t

gap : (e : ℕ) → e < 15 → 15 - e ≡ suc (15 - suc e)
gap e h = omega arith

over : (e : ℕ) → 15 ≤ e → 15 - e ≡ 0
over e h = omega arith

step : (n e : ℕ) (t : St) → naks (suc n) e t ≡ asks (Write EpTxCtrl e (word_of NAK DATA0 false)) t
    (λ _ u. asks (Write EpRxCtrl e (word_of NAK DATA0 false)) u (λ _ x. naks n (suc e) x))
unfolding nak_all
step n e t = refl

pub nak-none : (e : ℕ) → 15 ≤ e → (t : St) → run concrete (nak_all {i = false} (15 - e) (suc e)) t ≡ ends tt t
unfolding nak_all
nak-none e h t = ap (λ (n : ℕ). naks n (suc e) t) (over e h)

pub nak-more : (e : ℕ) → e < 15 → (t : St)
    → run concrete (nak_all {i = false} (15 - e) (suc e)) t ≡ asks (Write EpTxCtrl (e + 1) (word_of NAK DATA0 false)) t
    (λ _ u. asks (Write EpRxCtrl (e + 1) (word_of NAK DATA0 false)) u
    (λ _ x. run concrete (nak_all {i = false} (15 - (e + 1)) (suc (e + 1))) x))
nak-more e h t = rw (add-one e) (ap (λ (n : ℕ). naks n (suc e) t) (gap e h) ∙ step (15 - suc e) (suc e) t)
