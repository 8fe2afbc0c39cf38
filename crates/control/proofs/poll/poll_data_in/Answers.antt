use Rattle.state.specs.State.{view}
use mathlib.Core.Path.{refl, ◌∙◌}
use Rattle.control.proofs.Laws.{polling, in-second, in-first, poll-refused}
use Rattle.control.proofs.poll.poll_data_in.Goals as goal

pub returns-then-c-eq2 : goal.returns-then-c-eq2
returns-then-c-eq2 c =
    let d = view
    c.args.s.now in let q
    = polling d 3 c.load_globals.ensures
    c.load_control-c.ensures
    c.poll_row-row.ensures c.if-row-eq0.true in
    record {
      by_index = λ b. c.take_closing.ensures.by_index b ∙ in-second d _ b q c.if-c-eq2.true;
      s_unchanged = c.take_closing.ensures.s_unchanged;
      linked_polled = c.take_closing.ensures.linked_polled;
    }

pub returns-then-row-eq0 : goal.returns-then-row-eq0
returns-then-row-eq0 c =
    let d = view
    c.args.s.now in let q
    = polling d 3 c.load_globals.ensures
    c.load_control-c.ensures
    c.poll_row-row.ensures c.if-row-eq0.true in
    record {
      by_index = λ b. c.take_in.ensures.by_index b ∙ in-first d _ b q c.if-c-eq2.false;
      s_unchanged = c.take_in.ensures.s_unchanged;
      linked_polled = c.take_in.ensures.linked_polled;
    }

pub returns : goal.returns
returns c =
    record {
      by_index = λ b. poll-refused _ 3 b _ c.load_globals.ensures c.load_control-c.ensures c.poll_row-row.ensures c.if-row-eq0.false;
      s_unchanged = refl;
      linked_polled = tt;
    }
