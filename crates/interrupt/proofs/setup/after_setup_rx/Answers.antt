use Rattle.interrupt.specs.StandsLaws.{stops_at, stored_at}
use mathlib.Core.Path.{refl}
use Rattle.interrupt.proofs.setup.after_setup_rx.Goals as goal

pub returns : goal.returns
returns c = (
  λ v b. stops_at c.stand_setup_tx.ensures (refl) b (simp c.nak_word.ensures),
  stored_at
      c.stand_setup_tx.ensures,
)
