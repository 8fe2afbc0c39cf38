use mathlib.Core.Path.{refl}
use Rattle.bus.specs.Points.{after_type, after_words}
use Rattle.bus.proofs.set_enabled.after_words.Goals as goal

pub returns : goal.returns
unfolding after_words after_type
returns c =
    record {
      by_index = λ b. simp (
        c.set_ep_type.ensures.s_after,
        c.with_on-word.ensures,
        c.both-bit.ensures,
        c.load_globals-g.ensures,
      );
      s_unchanged = c.set_ep_type.ensures.s_unchanged;
      awaited = refl;
    }
