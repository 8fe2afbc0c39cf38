use Rattle.state.specs.Wakes.{listed}
use Rattle.machine.specs.Suspended.{decode}
use Rattle.machine.specs.Counted.{front-take}
use mathlib.Core.Path.{◌∙◌}
use Rattle.machine.proofs.stands.stop.Goals as goal

pub returns : goal.returns
unfolding decode listed
returns c =
    record {
      there = λ b. simp (
        c.how_many-k.ensures.value,
        front-take,
        c.store_saved.ensures.s_unchanged,
        c.store_saved.ensures.s_after,
        c.nothing.ensures,
      );
      stored = λ xs. c.store_saved.ensures.s_after ∙ c.nothing.ensures;
    }
