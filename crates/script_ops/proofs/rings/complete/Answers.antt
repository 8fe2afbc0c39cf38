use Rattle.script_ops.specs.Rings.{complete_on}
use Rattle.script_ops.proofs.rings.complete.Goals as goal

pub returns : goal.returns
unfolding complete_on
returns c =
    record {
      s_after = simp (
        c.store_ep.ensures.s_after,
        c.unloaded.ensures,
        c.completed-c.ensures,
        c.load_ep-r.ensures,
      );
      s_unchanged = c.store_ep.ensures.s_unchanged;
    }
