use Rattle.interrupt.specs.StandsLaws.{then-on}
use Rattle.interrupt.proofs.flags.after_bus_rst.Goals as goal

pub returns : goal.returns
returns c =
    (λ v b. then-on (c.suspend.ensures.0 b) (simp c.wake_bus.ensures.s_after), c.suspend.ensures.1)
