use Rattle.state.specs.State.{view}
use lib.ListN.{length}
use mathlib.Core.Path.{refl, ◌∙◌}
use Rattle.control.proofs.Laws.{polling, out-takes, out-other, out-refused}
use Rattle.endpoint.specs.Brought.{lends}
use Rattle.control.proofs.poll.poll_data_out.Goals as goal

pub returns-then-c-out : goal.returns-then-c-out
returns-then-c-out c =
    let d
    = view c.args.s.now in
    let q = polling d 2 c.load_globals.ensures
    c.load_control-c.ensures
    c.poll_row-row.ensures c.if-row-eq0.true in
    let is = out-takes d _ c.args.buf.now (length c.args.out.now) q c.if-c-out.true in
    record {
      buf_after = c.take_out.ensures.buf_after ∙ is;
      out_after = c.take_out.ensures.out_after ∙ lends c.args.out.now is;
      s_unchanged = c.take_out.ensures.s_unchanged;
      linked_polled = c.take_out.ensures.linked_polled;
    }

pub returns-then-row-eq0 : goal.returns-then-row-eq0
returns-then-row-eq0 c =
    let d
    = view c.args.s.now in
    let q = polling d 2 c.load_globals.ensures
    c.load_control-c.ensures
    c.poll_row-row.ensures c.if-row-eq0.true in
    let is = out-other d _ c.args.buf.now (length c.args.out.now) q c.if-c-out.false _ _
    c.unready.ensures.s_after c.set_request.ensures.s_after in
    record {
      buf_after = is;
      out_after = lends c.args.out.now is;
      s_unchanged = c.set_request.ensures.s_unchanged ∙ c.unready.ensures.s_unchanged;
      linked_polled = tt;
    }

pub returns : goal.returns
returns c =
    let is = out-refused (view c.args.s.now) c.args.buf.now (length c.args.out.now)
    c.load_globals.ensures c.load_control-c.ensures c.poll_row-row.ensures c.if-row-eq0.false in
    record {
      buf_after = is;
      out_after = lends c.args.out.now is;
      s_unchanged = refl;
      linked_polled = tt;
    }
