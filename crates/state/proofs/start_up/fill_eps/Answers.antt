use Rattle.std.proofs.Common.{ap, ◌∙◌}
use Rattle.state.specs.Ep.{new_ep}
use Rattle.state.specs.Driver.{Driver, no_ep, with_eps}
use Rattle.state.specs.State.{view}
use Rattle.state.specs.Laws.{view-sized}
use Rattle.state.specs.Fresh.{filled}
use Rattle.state.proofs.Filling.{filled-all, filled-twice}
use Rattle.state.proofs.start_up.fill_eps.Goals as goal

pub new_eps-requires : goal.new_eps-requires
new_eps-requires c =
    ap (λ (d : Driver). d.eps) c.clear_eps.ensures.s_after ∙ filled-all (view c.args.s.now).eps 32 no_ep (view-sized c.args.s.now).eps

pub returns : goal.returns
returns c =
    record {
      s_after = c.new_eps.ensures.s_after ∙ ap (λ (d : Driver). with_eps d (filled d.eps 0 32 new_ep)) c.clear_eps.ensures.s_after
          ∙ ap (with_eps (view c.args.s.now)) (filled-twice (view c.args.s.now).eps 32 no_ep new_ep (view-sized c.args.s.now).eps);
      s_unchanged = c.new_eps.ensures.s_unchanged ∙ c.clear_eps.ensures.s_unchanged;
    }
