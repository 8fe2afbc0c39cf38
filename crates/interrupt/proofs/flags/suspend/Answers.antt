use Rattle.interrupt.specs.StopsLaws.{pauses-in, goes_in}
use Rattle.interrupt.specs.Continuations.{after_bus_rst}
use mathlib.Core.Path.{refl}
use Rattle.interrupt.proofs.flags.suspend.Goals as goal

pub returns-then-suspend : goal.returns-then-suspend
unfolding after_bus_rst
returns-then-suspend c =
    pauses-in c.stand_suspend.ensures refl
    (λ b. simp (
      c.set_int_en.ensures.s_after,
      c.with_suspend-word.ensures,
      c.load_globals-g.ensures,
      ← c.suspend.ensures,
      c.if-suspend.true,
    ))

pub returns : goal.returns
unfolding after_bus_rst
returns c = goes_in c.fifo.ensures (λ b. simp (← c.suspend.ensures, c.if-suspend.false))
