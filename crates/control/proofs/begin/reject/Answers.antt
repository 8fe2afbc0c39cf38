use Rattle.state.specs.State.{view}
use lib.Dec.{eqb}
use Rattle.endpoint.specs.RecordsLaws.{on-driver}
use Rattle.control.proofs.Laws.{reject-asks, reject-refused}
use mathlib.Core.Path.{◌∙◌, refl}
use Rattle.control.specs.declared.Point.TheVariants as point
use Rattle.control.specs.PointsLaws.{asked-at, linked-at}
use Rattle.control.proofs.begin.reject.Goals as goal

pub returns-then-is_started : goal.returns-then-is_started
returns-then-is_started c =
    record {
      by_index = λ b. asked-at point.StallIn c.point.ensures _ b ∙ reject-asks
          (view c.args.s.now)
          _ _ _ _ c.set_request.ensures.s_after
          c.clear_wakes.ensures.s_after
          c.set_armed.ensures.s_after c.set_armed-then-is_started.ensures.s_after
          (on-driver (λ x. eqb x.stage 2)
          c.load_globals-g.ensures
          c.is_started.ensures
          c.if-is_started.true) b;
      s_unchanged = c.set_armed-then-is_started.ensures.s_unchanged
          ∙ c.set_armed.ensures.s_unchanged
          ∙ c.clear_wakes.ensures.s_unchanged
          ∙ c.set_request.ensures.s_unchanged;
      linked_begun = linked-at point.StallIn c.point.ensures refl;
    }

pub returns : goal.returns
returns c =
    record {
      by_index = reject-refused (view c.args.s.now)
          (on-driver (λ x. eqb x.stage 2) c.load_globals-g.ensures c.is_started.ensures c.if-is_started.false);
      s_unchanged = refl;
      linked_begun = tt;
    }
