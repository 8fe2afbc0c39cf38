use mathlib.Core.Path.{refl, ◌∙◌}
use Rattle.state.specs.State.{view}
use Rattle.script.specs.Statics.{is_on}
use Rattle.endpoint.specs.RecordsLaws.{on-driver}
use Rattle.control.proofs.Laws.{setup-done, setup-waits}
use Rattle.control.proofs.poll.take_setup.Goals as goal

pub returns-then-is_on : goal.returns-then-is_on
returns-then-is_on c =
    record {
      by_index = λ b. setup-done (view c.args.s.now) _ _ b c.requires.1 c.requires.0 _ _ c.store_globals.ensures.s_after
          c.set_request.ensures.s_after (on-driver (λ x. is_on x.setup_ready) c.requires.0 c.is_on.ensures
          c.if-is_on.true);
      s_unchanged = c.set_request.ensures.s_unchanged ∙ c.store_globals.ensures.s_unchanged;
      linked_polled = tt;
    }

pub returns : goal.returns
returns c =
    record {
      by_index = λ b. setup-waits (view c.args.s.now) _ _ b c.requires.1 c.requires.0
          (on-driver (λ x. is_on x.setup_ready) c.requires.0 c.is_on.ensures c.if-is_on.false);
      s_unchanged = refl;
      linked_polled = tt;
    }
