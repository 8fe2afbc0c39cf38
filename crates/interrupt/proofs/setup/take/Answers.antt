use Rattle.interrupt.specs.Laws.{setup_taken}
use mathlib.Core.Path.{◌∙◌}
use Rattle.interrupt.proofs.setup.take.Goals as goal

pub returns : goal.returns
returns c =
    record {
      t_after = setup_taken _ _ _ _ _ _ _ c.setup_word-low.ensures c.setup_word-high.ensures
          c.clear.ensures.s_after c.clear-2.ensures.s_after c.keep.ensures.s_after;
      s_unchanged = c.keep.ensures.s_unchanged ∙ (c.clear-2.ensures.s_unchanged ∙ c.clear.ensures.s_unchanged);
    }
