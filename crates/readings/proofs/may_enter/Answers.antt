use mathlib.Core.Bool.{true≢false}
use mathlib.Core.Path.{sym, ap, ◌∙◌}
use Prim.Native.Nat.{ℕ}
use lib.Dec.{eqb}
use borrow.Author.Tests.{eq-eqb}
use Rattle.readings.proofs.may_enter.Goals as goal

pub returns-then-slots_fit : goal.returns-then-slots_fit
returns-then-slots_fit c h = (
  ap (λ (n : ℕ). eqb n 0) (sym c.stop-n.ensures) ∙ eq-eqb _ _ c.if-n-eq0.true,
  sym c.slots_fit.ensures ∙ c.if-slots_fit.true,
  sym c.fits.ensures ∙ h,
)

pub returns-then-n-eq0 : goal.returns-then-n-eq0
returns-then-n-eq0 c h = absurd (true≢false (sym h))

pub returns : goal.returns
returns c h = absurd (true≢false (sym h))
