use Rattle.std.specs.Prelude.{not}
use Rattle.std.proofs.Common.{ap}
use mathlib.Core.Path.{refl, sym, ◌∙◌}
use native.Mathlib.Omega.{arith}
use lib.ListN.{length}
use borrow.Author.Tests.{not-true}
use Rattle.state.specs.State.{view}
use Rattle.endpoint.proofs.Laws.{iso-disabled, iso-none, iso-taken}
use Rattle.endpoint.proofs.read.take_iso.Goals as goal

pub returns-then-not-is_enabled : goal.returns-then-not-is_enabled
returns-then-not-is_enabled c =
    let p = iso-disabled (view c.args.s.now) c.args.buf.now c.args.out.now
    c.args.e (length c.args.out.now) (sym c.is_enabled.ensures ∙ not-true c.is_enabled.result
    (ap not c.if-not-is_enabled.true)) _ c.end_request.ensures.s_after in
    record {
      buf_after = p.0;
      out_after = p.1;
      s_unchanged = c.end_request.ensures.s_unchanged;
    }

pub returns-then-not-waiting : goal.returns-then-not-waiting
returns-then-not-waiting c =
    let p = iso-none (view c.args.s.now) c.args.buf.now c.args.out.now c.args.e
    (length c.args.out.now) (sym c.is_enabled.ensures ∙ c.if-not-is_enabled.false)
    (sym c.waiting.ensures ∙ c.if-not-waiting.true) in
    record {
      buf_after = p.0;
      out_after = p.1;
      s_unchanged = refl;
    }

pub fetch-n-requires : goal.fetch-n-requires
fetch-n-requires c = omega (arith, c.shorter-k.ensures)

pub returns : goal.returns
returns c =
    let p = iso-taken (view c.args.s.now) c.args.buf.now c.args.out.now c.args.e
    (length c.args.out.now) (sym c.is_enabled.ensures ∙ c.if-not-is_enabled.false)
    (sym c.waiting.ensures ∙ c.if-not-waiting.false) _ _ _ _ _ _ _ c.oldest_at-at.ensures
    c.next_len-len.ensures c.shorter-k.ensures c.fetch-n.ensures.value c.fetch-n.ensures.out_after c.take_oldest.ensures.s_after
    c.end_request-2.ensures.s_after in
    record {
      buf_after = p.0;
      out_after = p.1;
      s_unchanged = c.end_request-2.ensures.s_unchanged ∙ c.take_oldest.ensures.s_unchanged;
    }
