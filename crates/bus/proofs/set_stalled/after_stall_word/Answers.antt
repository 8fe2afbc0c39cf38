use mathlib.Core.Path.{refl}
use Rattle.bus.specs.Points.{after_stall_word}
use Rattle.bus.proofs.set_stalled.after_stall_word.Goals as goal

pub returns : goal.returns
unfolding after_stall_word
returns c =
    record {
      b_value = λ d b. simp (c.ctrl_of.ensures, c.stall-word.ensures, c.byte.ensures);
      awaited = refl;
    }
