use Rattle.machine.specs.Rows.{stop_of}
use borrow.Author.Tests.{eq-eqb, ne_eqb}
use Rattle.machine.proofs.stops.stop.Goals as goal

pub returns-then-g-stage : goal.returns-then-g-stage
unfolding stop_of
returns-then-g-stage c =
    simp (
      ← c.is_idle.ensures,
      c.if-is_idle.true,
      ← c.load_globals-g.ensures,
      eq-eqb _ _ c.if-g-stage.true,
    )

pub returns-then-is_idle : goal.returns-then-is_idle
unfolding stop_of
returns-then-is_idle c =
    simp (
      ← c.is_idle.ensures,
      c.if-is_idle.true,
      ← c.load_globals-g.ensures,
      ne_eqb _ _ c.if-g-stage.false,
    )

pub returns : goal.returns
unfolding stop_of
returns c = simp (← c.is_idle.ensures, c.if-is_idle.false)
