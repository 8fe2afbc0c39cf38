use mathlib.Core.Path.{refl, ◌∙◌}
use lib.Dec.{ltb}
use lib.ListN.{length}
use borrow.Author.Tests.{lt-ltb, le-ltb}
use Rattle.state.specs.State.{view}
use Rattle.script.specs.Statics.{is_on}
use Rattle.endpoint.specs.RecordsLaws.{on-driver}
use Rattle.control.proofs.Laws.{out-long, out-done, out-waits}
use Rattle.control.proofs.poll.take_out.Goals as goal

pub returns-then-out-r : goal.returns-then-out-r
returns-then-out-r c =
    let p = out-long (view c.args.s.now) _ _ c.args.buf.now c.args.out.now (length c.args.out.now)
    c.unready.ensures.s_after
    c.set_request.ensures.s_after (on-driver (λ y. is_on y.ready) c.load_ep-r.ensures
    c.is_on.ensures
    c.if-is_on.true)
    (on-driver (λ y. ltb (length c.args.out.now) y.len) c.load_ep-r.ensures refl
    (lt-ltb _ _ c.if-out-r.true)) in
    record {
      buf_after = p.0;
      out_after = p.1;
      s_unchanged = c.set_request.ensures.s_unchanged ∙ c.unready.ensures.s_unchanged;
      linked_polled = tt;
    }

pub returns-then-is_on : goal.returns-then-is_on
returns-then-is_on c =
    let p = out-done (view c.args.s.now) _ _ c.args.buf.now c.args.out.now (length c.args.out.now)
    c.unready.ensures.s_after
    c.set_request-then-is_on.ensures.s_after (on-driver (λ y. is_on y.ready) c.load_ep-r.ensures
    c.is_on.ensures
    c.if-is_on.true)
    (on-driver (λ y. ltb (length c.args.out.now) y.len) c.load_ep-r.ensures refl
    (le-ltb _ _ c.if-out-r.false)) _ _ _ _ c.load_ep-r.ensures c.load_globals-g.ensures
    c.fetch-n.ensures.value c.fetch-n.ensures.out_after in
    record {
      buf_after = p.0;
      out_after = p.1;
      s_unchanged = c.set_request-then-is_on.ensures.s_unchanged ∙ c.unready.ensures.s_unchanged;
      linked_polled = tt;
    }

pub returns : goal.returns
returns c =
    let p = out-waits (view c.args.s.now) c.args.buf.now c.args.out.now (length c.args.out.now)
    (on-driver (λ y. is_on y.ready) c.load_ep-r.ensures c.is_on.ensures c.if-is_on.false)
    (c.wait_on.ensures.by_index c.args.out.now c.args.buf.now) in
    record {
      buf_after = p.0;
      out_after = p.1;
      s_unchanged = c.wait_on.ensures.s_unchanged;
      linked_polled = c.wait_on.ensures.linked_polled;
    }
