use mathlib.Core.Path.{refl}
use Rattle.bus.specs.Points.{after_placed}
use Rattle.bus.proofs.set_enabled.after_no_length.Goals as goal

pub returns : goal.returns
unfolding after_placed
returns c =
    record {
      b_value = λ d b. simp c.in_word-word.ensures;
      awaited = refl;
    }
