use Rattle.state.specs.State.{view}
use mathlib.Core.Path.{refl}
use Rattle.control.proofs.Laws.{accepted, accept-refused}
use Rattle.control.proofs.begin.accept.Goals as goal

pub returns-then-row-eq0-clause-by_index : goal.returns-then-row-eq0-clause-by_index
returns-then-row-eq0-clause-by_index c =
    (accepted (view c.args.s.now) _ (c.set_request.ensures.s_after, c.set_request.ensures.s_unchanged) c.load_globals.ensures
    c.begin_row-row.ensures c.if-row-eq0.true (c.status_in.ensures.by_index, (c.status_in.ensures.s_unchanged, c.status_in.ensures.linked_begun))).0

pub returns-then-row-eq0-clause-s_unchanged : goal.returns-then-row-eq0-clause-s_unchanged
returns-then-row-eq0-clause-s_unchanged c =
    (accepted (view c.args.s.now) _ (c.set_request.ensures.s_after, c.set_request.ensures.s_unchanged) c.load_globals.ensures
    c.begin_row-row.ensures c.if-row-eq0.true (c.status_in.ensures.by_index, (c.status_in.ensures.s_unchanged, c.status_in.ensures.linked_begun))).1.0

pub returns-then-row-eq0-clause-linked_begun : goal.returns-then-row-eq0-clause-linked_begun
returns-then-row-eq0-clause-linked_begun c =
    (accepted (view c.args.s.now) _ (c.set_request.ensures.s_after, c.set_request.ensures.s_unchanged) c.load_globals.ensures
    c.begin_row-row.ensures c.if-row-eq0.true (c.status_in.ensures.by_index, (c.status_in.ensures.s_unchanged, c.status_in.ensures.linked_begun))).1.1

pub returns : goal.returns
returns c =
    record {
      by_index = λ b. accept-refused _ b _ c.load_globals.ensures c.begin_row-row.ensures c.if-row-eq0.false;
      s_unchanged = refl;
      linked_begun = tt;
    }
