use Rattle.std.proofs.Common.{ap, ◌∙◌}
use Rattle.state.specs.Driver.{with_wakes, none_gathered}
use Rattle.state.specs.Wakes.{with_count, with_codes}
use Rattle.state.specs.State.{view}
use Rattle.state.specs.Laws.{view-codes}
use Rattle.state.proofs.Filling.{filled-all}
use Rattle.state.proofs.wakes.fresh_wakes.Goals as goal

pub returns : goal.returns
returns c =
    record {
      s_after = c.clear_wakes.ensures.s_after ∙ ap none_gathered c.clear_codes.ensures.s_after
          ∙ ap (λ (l : _). with_wakes (view c.args.s.now) (with_count (with_codes (view c.args.s.now).wakes l) 0))
          (filled-all (view c.args.s.now).wakes.codes 64 0 (view-codes c.args.s.now));
      s_unchanged = c.clear_wakes.ensures.s_unchanged ∙ c.clear_codes.ensures.s_unchanged;
    }
