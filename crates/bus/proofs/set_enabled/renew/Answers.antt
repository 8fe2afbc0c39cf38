use Rattle.bus.specs.SetEnabledLaws.{renew-both}
use Rattle.state.specs.Laws.{view-sized}
use Rattle.bus.proofs.set_enabled.renew.Goals as goal

pub returns : goal.returns
returns c =
    record {
      s_after = simp (
        c.store_ep.ensures.s_after,
        c.by_loan-t.ensures,
        c.load_ep-r.ensures,
        renew-both _ (view-sized _) _ _ c.args.armed c.requires,
      );
      s_unchanged = c.store_ep.ensures.s_unchanged;
    }
