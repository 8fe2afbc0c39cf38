use Rattle.interrupt.specs.Laws.{interrupt-begun}
use mathlib.Core.Path.{refl}
use Rattle.interrupt.proofs.on_interrupt.Goals as goal

pub returns : goal.returns
returns c =
    record {
      b_value = λ d b. interrupt-begun (d, b);
      linked = refl;
    }
