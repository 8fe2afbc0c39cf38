use mathlib.Core.List.{[]}
use mathlib.Core.Path.{◌∙◌, sym}
use Rattle.state.specs.State.{view}
use Rattle.script.specs.Statics.{is_on}
use Rattle.endpoint.specs.RecordsLaws.{on-driver}
use Rattle.control.proofs.Laws.{in-waits, in-closes, in-done}
use Rattle.control.proofs.poll.take_in.Goals as goal

pub returns-then-is_on-2 : goal.returns-then-is_on-2
returns-then-is_on-2 c =
    record {
      by_index = λ b. c.take_closing.ensures.by_index b ∙ in-closes (view c.args.s.now) c.args.c
          (on-driver (λ x. is_on x.ready) c.load_ep-r.ensures c.is_on.ensures c.if-is_on.true)
          (sym c.is_on-then-is_on.ensures ∙ c.if-is_on-2.true) b;
      s_unchanged = c.take_closing.ensures.s_unchanged;
      linked_polled = c.take_closing.ensures.linked_polled;
    }

pub returns-then-is_on : goal.returns-then-is_on
returns-then-is_on c =
    record {
      by_index = in-done (view c.args.s.now) c.args.c (on-driver (λ x. is_on x.ready) c.load_ep-r.ensures
          c.is_on.ensures c.if-is_on.true) _ _ c.unready.ensures.s_after c.set_request.ensures.s_after
          (sym c.is_on-then-is_on.ensures ∙ c.if-is_on-2.false);
      s_unchanged = c.set_request.ensures.s_unchanged ∙ c.unready.ensures.s_unchanged;
      linked_polled = tt;
    }

pub returns : goal.returns
returns c =
    record {
      by_index = λ b. c.wait_on.ensures.by_index [] b ∙ in-waits (view c.args.s.now) c.args.c
          (on-driver (λ x. is_on x.ready) c.load_ep-r.ensures c.is_on.ensures c.if-is_on.false) b;
      s_unchanged = c.wait_on.ensures.s_unchanged;
      linked_polled = c.wait_on.ensures.linked_polled;
    }
