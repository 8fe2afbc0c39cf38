use mathlib.Core.Path.{sym, ◌∙◌}
use mathlib.Core.List.{[]}
use Rattle.state.specs.State.{view}
use Rattle.endpoint.proofs.Laws.{sent-done, sent-waits}
use Rattle.endpoint.proofs.write.sent_ready.Goals as goal

pub returns-then-is_on : goal.returns-then-is_on
returns-then-is_on c =
    record {
      by_index = λ b. sent-done (view c.args.s.now) b [] c.args.e c.args.r
          (sym c.is_on.ensures ∙ c.if-is_on.true) _ _ c.unready.ensures.s_after c.end_request.ensures.s_after;
      s_unchanged = c.end_request.ensures.s_unchanged ∙ c.unready.ensures.s_unchanged;
    }

pub returns : goal.returns
returns c =
    record {
      by_index = λ b. c.wait_on.ensures.by_index _ b ∙ sent-waits (view c.args.s.now) b [] c.args.e c.args.r
          (sym c.is_on.ensures ∙ c.if-is_on.false);
      s_unchanged = c.wait_on.ensures.s_unchanged;
    }
