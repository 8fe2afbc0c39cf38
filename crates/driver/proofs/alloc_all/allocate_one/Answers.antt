use Rattle.driver.specs.Each.{one_on}
use mathlib.Core.Path.{◌∙◌}
use Rattle.driver.proofs.alloc_all.allocate_one.Goals as goal

pub returns : goal.returns
unfolding one_on
returns c =
    record {
      s_after = c.allocate-z.ensures.s_after ∙ simp c.direction.ensures;
      s_unchanged = c.allocate-z.ensures.s_unchanged;
    }
