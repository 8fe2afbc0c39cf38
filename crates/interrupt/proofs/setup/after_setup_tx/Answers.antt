use Rattle.interrupt.specs.StandsLaws.{stops_at, stored_at}
use mathlib.Core.Path.{refl}
use Rattle.interrupt.proofs.setup.after_setup_tx.Goals as goal

pub returns : goal.returns
returns c = (
  λ v. stops_at c.stand_setup_released.ensures (refl) _ c.take.ensures.t_after,
  stored_at
      c.stand_setup_released.ensures,
)
