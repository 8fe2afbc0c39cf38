use Rattle.interrupt.specs.StopsLaws.{pauses-in, goes_in}
use Rattle.interrupt.specs.Continuations.{after_suspend}
use mathlib.Core.Path.{refl}
use Rattle.interrupt.proofs.flags.fifo.Goals as goal

pub returns-then-fifo_ov : goal.returns-then-fifo_ov
unfolding after_suspend
returns-then-fifo_ov c =
    pauses-in c.stand_fifo.ensures refl (λ b. simp (← c.fifo_ov.ensures, c.if-fifo_ov.true))

pub returns : goal.returns
unfolding after_suspend
returns c = goes_in c.after_fifo.ensures (λ b. simp (← c.fifo_ov.ensures, c.if-fifo_ov.false))
