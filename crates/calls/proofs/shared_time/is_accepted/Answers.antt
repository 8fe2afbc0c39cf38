use borrow.Author.Tests.{eq-eqb, ne_eqb}
use Rattle.calls.specs.Accepts.{accepts}
use Rattle.calls.proofs.shared_time.is_accepted.Goals as goal

pub returns-then-stop-eq0 : goal.returns-then-stop-eq0
unfolding accepts
returns-then-stop-eq0 c =
    simp (
      ← c.slots_fit.ensures,
      c.if-slots_fit.true,
      ← c.stop.ensures,
      eq-eqb _ _ c.if-stop-eq0.true,
    ) c.is_allocated.ensures

pub returns-then-slots_fit : goal.returns-then-slots_fit
unfolding accepts
returns-then-slots_fit c =
    simp (← c.slots_fit.ensures, c.if-slots_fit.true, ← c.stop.ensures, ne_eqb _ _ c.if-stop-eq0.false)

pub returns : goal.returns
unfolding accepts
returns c = simp (← c.slots_fit.ensures, c.if-slots_fit.false)
