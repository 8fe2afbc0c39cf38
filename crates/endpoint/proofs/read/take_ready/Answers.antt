use mathlib.Core.Path.{sym, ◌∙◌}
use lib.ListN.{length}
use Rattle.state.specs.State.{view}
use Rattle.endpoint.proofs.Laws.{not-long, ready-long, ready-taken, ready-waits}
use Rattle.endpoint.proofs.read.take_ready.Goals as goal

pub returns-then-too_long : goal.returns-then-too_long
returns-then-too_long c =
    let p = ready-long (view c.args.s.now) c.args.buf.now c.args.out.now c.args.e
    (length c.args.out.now) c.args.r (sym c.is_on.ensures
    ∙ c.if-is_on.true) _ _ c.unready.ensures.s_after c.end_request.ensures.s_after (sym c.too_long.ensures ∙ c.if-too_long.true) in
    record {
      buf_after = p.0;
      out_after = p.1;
      s_unchanged = c.end_request.ensures.s_unchanged ∙ c.unready.ensures.s_unchanged;
    }

pub fetch-n-requires : goal.fetch-n-requires
fetch-n-requires c = not-long _ _ (sym c.too_long.ensures ∙ c.if-too_long.false)

pub returns-then-is_on : goal.returns-then-is_on
returns-then-is_on c =
    let p = ready-taken (view c.args.s.now) c.args.buf.now c.args.out.now
    c.args.e (length c.args.out.now) c.args.r (sym c.is_on.ensures ∙ c.if-is_on.true) _ _
    c.unready.ensures.s_after c.end_request-then-is_on.ensures.s_after (sym c.too_long.ensures ∙ c.if-too_long.false) c.load_ep-t.result _ _
    c.load_ep-t.ensures c.fetch-n.ensures.value c.fetch-n.ensures.out_after in
    record {
      buf_after = p.0;
      out_after = p.1;
      s_unchanged = c.end_request-then-is_on.ensures.s_unchanged ∙ c.unready.ensures.s_unchanged;
    }

pub returns : goal.returns
returns c =
    let p = ready-waits (view c.args.s.now) c.args.buf.now
    c.args.out.now c.args.e (length c.args.out.now) c.args.r
    (sym c.is_on.ensures ∙ c.if-is_on.false)
    c.wait_on.result _ (c.wait_on.ensures.by_index _ _) in
    record {
      buf_after = p.0;
      out_after = p.1;
      s_unchanged = c.wait_on.ensures.s_unchanged;
    }
