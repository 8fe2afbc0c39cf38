use Rattle.interrupt.specs.StopsLaws.{pauses-in, goes_in}
use Rattle.interrupt.specs.Continuations.{after_setup_tx, after_transfer}
use mathlib.Core.Path.{refl}
use Rattle.interrupt.proofs.setup.after_transfer.Goals as goal

pub returns-then-setup : goal.returns-then-setup
unfolding after_transfer after_setup_tx
returns-then-setup c =
    pauses-in c.stand_setup_rx.ensures refl (λ b. simp (c.nak_word.ensures, c.if-setup.true))

pub returns : goal.returns
unfolding after_transfer
returns c = goes_in c.stop.ensures (λ b. simp c.if-setup.false)
