use mathlib.Core.Path.{refl, sym, ◌∙◌}
use Rattle.endpoint.proofs.checks.wait_on.Goals as goal

pub returns-then-is_enabled : goal.returns-then-is_enabled
returns-then-is_enabled c =
    record {
      by_index = λ out b. rw (sym c.is_enabled.ensures ∙ c.if-is_enabled.true);
      s_unchanged = refl;
    }

pub returns : goal.returns
returns c =
    record {
      by_index = λ out b. rw (c.end_request.ensures.s_after, sym c.is_enabled.ensures ∙ c.if-is_enabled.false);
      s_unchanged = c.end_request.ensures.s_unchanged;
    }
