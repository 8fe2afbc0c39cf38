use mathlib.Core.Path.{◌∙◌}
use Rattle.script_ops.specs.Rings.{renewed_on}
use Rattle.script_ops.proofs.slots.renew.Goals as goal

pub returns : goal.returns
unfolding renewed_on
returns c =
    record {
      s_after = simp (
        c.store_ep.ensures.s_after,
        c.by_loan.ensures,
        c.clear_stamps.ensures.s_after,
        c.load_ep-r.ensures,
      );
      s_unchanged = c.store_ep.ensures.s_unchanged ∙ c.clear_stamps.ensures.s_unchanged;
    }
