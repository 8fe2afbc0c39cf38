use mathlib.Core.Path.{refl}
use Rattle.bus.proofs.set_enabled.after_placed_out.Goals as goal

pub returns : goal.returns
returns c =
    record {
      by_index = λ v d b. simp c.out_word-word.ensures;
      awaited = refl;
    }
