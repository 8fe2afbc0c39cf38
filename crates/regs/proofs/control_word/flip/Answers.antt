use mathlib.Core.Path.{◌∙◌, sym}
use native.Mathlib.Omega.{arith}
use borrow.Author.Tests.{eq-eqb, ne_eqb}
use Rattle.regs.proofs.Words.{toggles, toggles-back}
use Rattle.regs.specs.ControlWord.{flip}
use Rattle.regs.proofs.control_word.flip.Goals as goal

pub returns-then-toggle-eq-DATA0 : goal.returns-then-toggle-eq-DATA0
unfolding flip
returns-then-toggle-eq-DATA0 c =
    simp (eq-eqb _ _ (sym c.toggle.ensures ∙ c.if-toggle-eq-DATA0.true))
    (toggles c.args.word 1 c.ranges.word.fits (omega arith))

pub returns : goal.returns
unfolding flip
returns c =
    simp (ne_eqb _ _ (λ z. c.if-toggle-eq-DATA0.false (c.toggle.ensures ∙ z)))
    (toggles-back c.args.word c.ranges.word.fits)
