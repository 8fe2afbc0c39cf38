use Rattle.interrupt.specs.StopsLaws.{pauses-in, goes_in}
use Rattle.interrupt.specs.Continuations.{after_fifo}
use mathlib.Core.Path.{refl}
use Rattle.interrupt.proofs.flags.after_fifo.Goals as goal

pub returns-then-hst_sof : goal.returns-then-hst_sof
unfolding after_fifo
returns-then-hst_sof c =
    pauses-in c.stand_host.ensures refl (λ b. simp (← c.hst_sof.ensures, c.if-hst_sof.true))

pub returns : goal.returns
unfolding after_fifo
returns c = goes_in c.after_host.ensures (λ b. simp (← c.hst_sof.ensures, c.if-hst_sof.false))
