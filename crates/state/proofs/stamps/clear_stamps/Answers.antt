use Rattle.state.specs.Fresh.{clear_stamps}
use Rattle.state.proofs.stamps.clear_stamps.Goals as goal

pub returns : goal.returns
unfolding clear_stamps
returns c =
    record {
      s_after = c.clear_from.ensures.s_after;
      s_unchanged = c.clear_from.ensures.s_unchanged;
    }
