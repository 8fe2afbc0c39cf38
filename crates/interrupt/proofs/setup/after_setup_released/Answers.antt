use Rattle.interrupt.specs.StandsLaws.{then-on}
use Rattle.interrupt.proofs.setup.after_setup_released.Goals as goal

pub returns : goal.returns
returns c =
    (λ v b. then-on (c.stop.ensures.0 b) (simp (c.wake-2.ensures.s_after, c.wake.ensures.s_after)), c.stop.ensures.1)
