use Rattle.std.specs.Prelude.{not}
use Rattle.std.proofs.Common.{ap}
use mathlib.Core.Path.{refl, sym, ◌∙◌}
use mathlib.Core.List.{[]}
use borrow.Author.Tests.{not-false}
use Rattle.state.specs.State.{view}
use Rattle.script.specs.Statics.{is_on}
use Rattle.endpoint.specs.RecordsLaws.{on-driver}
use Rattle.control.proofs.Laws.{accept-done, accept-address, accept-waits}
use Rattle.control.specs.declared.Point.TheVariants as point
use Rattle.control.specs.PointsLaws.{asked-at, linked-at}
use Rattle.control.proofs.poll.take_accept.Goals as goal

pub returns-then-not-is_on : goal.returns-then-not-is_on
returns-then-not-is_on c =
    record {
      by_index = λ b. accept-done (view c.args.s.now) _ b c.requires _ _ c.unready.ensures.s_after
          c.set_request.ensures.s_after (on-driver (λ x. is_on x.ready) c.load_ep-r.ensures
          c.is_on.ensures c.if-is_on.true) (sym c.is_on-then-is_on.ensures ∙ c.if-not-is_on.true);
      s_unchanged = c.set_request.ensures.s_unchanged ∙ c.unready.ensures.s_unchanged;
      linked_polled = tt;
    }

pub returns-then-is_on : goal.returns-then-is_on
returns-then-is_on c =
    record {
      by_index = λ b. asked-at point.Wrote c.point.ensures _ b ∙ accept-address (view c.args.s.now) _ b c.requires _
          _
          c.unready.ensures.s_after
          c.set_request.ensures.s_after
          (on-driver (λ x. is_on x.ready)
          c.load_ep-r.ensures
          c.is_on.ensures
          c.if-is_on.true) _
          c.clear_wakes.ensures.s_after
          (sym c.is_on-then-is_on.ensures
          ∙ not-false c.is_on-then-is_on.result
          (ap not c.if-not-is_on.false));
      s_unchanged = c.clear_wakes.ensures.s_unchanged
          ∙ c.set_request.ensures.s_unchanged
          ∙ c.unready.ensures.s_unchanged;
      linked_polled = linked-at point.Wrote c.point.ensures refl;
    }

pub returns : goal.returns
returns c =
    record {
      by_index = λ b. c.wait_on.ensures.by_index [] b ∙ accept-waits (view c.args.s.now) _ b c.requires
          (on-driver (λ x. is_on x.ready) c.load_ep-r.ensures c.is_on.ensures c.if-is_on.false);
      s_unchanged = c.wait_on.ensures.s_unchanged;
      linked_polled = c.wait_on.ensures.linked_polled;
    }
