use Rattle.std.proofs.Common.{ap, ◌∙◌}
use Rattle.state.specs.Driver.{with_stamps}
use Rattle.state.specs.State.{view}
use Rattle.state.specs.Laws.{view-sized}
use Rattle.state.specs.Fresh.{no_stamps}
use Rattle.state.proofs.Filling.{filled-all}
use Rattle.state.proofs.stamps.clear_all_stamps.Goals as goal

pub returns : goal.returns
unfolding no_stamps
returns c =
    record {
      s_after = c.clear_from.ensures.s_after ∙ ap (with_stamps (view c.args.s.now)) (filled-all (view c.args.s.now).stamps 256 0 (view-sized c.args.s.now).stamps);
      s_unchanged = c.clear_from.ensures.s_unchanged;
    }
