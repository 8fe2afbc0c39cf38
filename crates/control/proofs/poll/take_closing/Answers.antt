use Rattle.state.specs.State.{view}
use Rattle.script.specs.Statics.{is_on}
use Rattle.endpoint.specs.RecordsLaws.{on-driver}
use Rattle.control.proofs.Laws.{closing-now, closing-waits}
use mathlib.Core.Path.{◌∙◌, refl}
use Rattle.control.proofs.poll.take_closing.Goals as goal

pub returns-then-both : goal.returns-then-both
returns-then-both c =
    record {
      by_index = λ b. rw c.if-both.true (closing-now (view c.args.s.now) _ _ _ c.args.c _
          c.closed.result b c.load_ep-r.ensures c.unready.ensures.s_after
          c.unready-then-both.ensures.s_after c.set_request.ensures.s_after (on-driver (λ x. is_on x.ready) c.load_ep-r.ensures
          c.is_on.ensures c.if-is_on.true) c.closed.ensures.b_value);
      s_unchanged = c.set_request.ensures.s_unchanged ∙ c.unready-then-both.ensures.s_unchanged ∙ c.unready.ensures.s_unchanged;
      linked_polled = c.closed.ensures.linked_polled;
    }

pub returns-then-is_on : goal.returns-then-is_on
returns-then-is_on c =
    record {
      by_index = λ b. simp (
        c.closed-then-is_on.ensures.b_value,
        c.set_request-then-is_on.ensures.s_after,
        c.if-both.false,
        c.unready.ensures.s_after,
        c.if-is_on.true,
        ← c.is_on.ensures,
        ← c.load_ep-r.ensures,
      );
      s_unchanged = c.set_request-then-is_on.ensures.s_unchanged ∙ c.unready.ensures.s_unchanged;
      linked_polled = c.closed-then-is_on.ensures.linked_polled;
    }

pub returns-then-is_on-2 : goal.returns-then-is_on-2
returns-then-is_on-2 c =
    record {
      by_index = λ b. simp (
        c.set_request-then-is_on-2.ensures.s_after,
        c.if-is_on-2.true,
        ← c.is_on-2.ensures,
        ← c.load_globals-g.ensures,
        c.if-is_on.false,
        ← c.is_on.ensures,
        ← c.load_ep-r.ensures,
      );
      s_unchanged = c.set_request-then-is_on-2.ensures.s_unchanged;
      linked_polled = tt;
    }

pub returns-then-both-2 : goal.returns-then-both-2
returns-then-both-2 c =
    record {
      by_index = λ b. rw c.if-both-2.true (closing-waits (view c.args.s.now) _ _ c.args.c b
          c.unready-then-both-2.ensures.s_after c.set_data_in.ensures.s_after (on-driver (λ x. is_on x.ready) c.load_ep-r.ensures
          c.is_on.ensures c.if-is_on.false) (on-driver (λ x. is_on x.setup_ready) c.load_globals-g.ensures
          c.is_on-2.ensures c.if-is_on-2.false));
      s_unchanged = c.set_data_in.ensures.s_unchanged ∙ c.unready-then-both-2.ensures.s_unchanged;
      linked_polled = tt;
    }

pub returns : goal.returns
returns c =
    record {
      by_index = λ b. simp (
        c.if-both-2.false,
        c.if-is_on-2.false,
        ← c.is_on-2.ensures,
        ← c.load_globals-g.ensures,
        c.if-is_on.false,
        ← c.is_on.ensures,
        ← c.load_ep-r.ensures,
      );
      s_unchanged = refl;
      linked_polled = tt;
    }
