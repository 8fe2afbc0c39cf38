use Rattle.std.specs.Prelude.{not}
use Rattle.std.proofs.Common.{ap}
use mathlib.Core.Path.{◌≡◌, refl, ◌∙◌}
use mathlib.Core.Bool.{false}
use lib.ListN.{length}
use Rattle.regs.specs.declared.Dir.TheVariants.{Out}
use Rattle.state.specs.State.{view}
use Rattle.endpoint.specs.Brought.{lends}
use Rattle.endpoint.proofs.Laws.{reads, poll-none, poll-other, poll-takes, picks, leaves, onward}
use Rattle.endpoint.proofs.read.take_read.Goals as goal

pub returns-then-not-is_on_word : goal.returns-then-not-is_on_word
returns-then-not-is_on_word c =
    let is = poll-none Out c.args.e (length c.args.out.now)
    (reads c.args.e (length c.args.out.now))
    (view c.args.s.now) c.args.buf.now c.requires
    c.load_request-q.ensures c.is_on_word.ensures (ap not c.if-not-is_on_word.true) in
    record {
      buf_after = is;
      out_after = lends c.args.out.now is;
      s_unchanged = refl;
    }

pub returns-then-is_on-clause-buf_after : goal.returns-then-is_on-clause-buf_after
returns-then-is_on-clause-buf_after c =
    (onward c.args.out.now (picks _ _ c.is_on.ensures
    c.if-is_on.true ∙ (poll-takes Out c.args.e (length c.args.out.now) (reads c.args.e (length c.args.out.now)) (view c.args.s.now)
    c.args.buf.now c.requires c.load_request-q.ensures c.is_on_word.ensures (ap not c.if-not-is_on_word.false)
    c.if-q-out.true _ c.load_ep-r.ensures)) (c.take_iso.ensures.buf_after, (c.take_iso.ensures.out_after, c.take_iso.ensures.s_unchanged))).0

pub returns-then-is_on-clause-out_after : goal.returns-then-is_on-clause-out_after
returns-then-is_on-clause-out_after c =
    (onward c.args.out.now (picks _ _ c.is_on.ensures
    c.if-is_on.true ∙ (poll-takes Out c.args.e (length c.args.out.now) (reads c.args.e (length c.args.out.now)) (view c.args.s.now)
    c.args.buf.now c.requires c.load_request-q.ensures c.is_on_word.ensures (ap not c.if-not-is_on_word.false)
    c.if-q-out.true _ c.load_ep-r.ensures)) (c.take_iso.ensures.buf_after, (c.take_iso.ensures.out_after, c.take_iso.ensures.s_unchanged))).1.0

pub returns-then-is_on-clause-s_unchanged : goal.returns-then-is_on-clause-s_unchanged
returns-then-is_on-clause-s_unchanged c =
    (onward c.args.out.now (picks _ _ c.is_on.ensures
    c.if-is_on.true ∙ (poll-takes Out c.args.e (length c.args.out.now) (reads c.args.e (length c.args.out.now)) (view c.args.s.now)
    c.args.buf.now c.requires c.load_request-q.ensures c.is_on_word.ensures (ap not c.if-not-is_on_word.false)
    c.if-q-out.true _ c.load_ep-r.ensures)) (c.take_iso.ensures.buf_after, (c.take_iso.ensures.out_after, c.take_iso.ensures.s_unchanged))).1.1

pub returns-then-q-out-clause-buf_after : goal.returns-then-q-out-clause-buf_after
returns-then-q-out-clause-buf_after c =
    (onward c.args.out.now (leaves _ _ c.is_on.ensures
    c.if-is_on.false ∙ (poll-takes Out c.args.e (length c.args.out.now) (reads c.args.e (length c.args.out.now)) (view c.args.s.now)
    c.args.buf.now c.requires c.load_request-q.ensures c.is_on_word.ensures (ap not c.if-not-is_on_word.false)
    c.if-q-out.true _ c.load_ep-r.ensures)) (c.take_ready.ensures.buf_after, (c.take_ready.ensures.out_after, c.take_ready.ensures.s_unchanged))).0

pub returns-then-q-out-clause-out_after : goal.returns-then-q-out-clause-out_after
returns-then-q-out-clause-out_after c =
    (onward c.args.out.now (leaves _ _ c.is_on.ensures
    c.if-is_on.false ∙ (poll-takes Out c.args.e (length c.args.out.now) (reads c.args.e (length c.args.out.now)) (view c.args.s.now)
    c.args.buf.now c.requires c.load_request-q.ensures c.is_on_word.ensures (ap not c.if-not-is_on_word.false)
    c.if-q-out.true _ c.load_ep-r.ensures)) (c.take_ready.ensures.buf_after, (c.take_ready.ensures.out_after, c.take_ready.ensures.s_unchanged))).1.0

pub returns-then-q-out-clause-s_unchanged : goal.returns-then-q-out-clause-s_unchanged
returns-then-q-out-clause-s_unchanged c =
    (onward c.args.out.now (leaves _ _ c.is_on.ensures
    c.if-is_on.false ∙ (poll-takes Out c.args.e (length c.args.out.now) (reads c.args.e (length c.args.out.now)) (view c.args.s.now)
    c.args.buf.now c.requires c.load_request-q.ensures c.is_on_word.ensures (ap not c.if-not-is_on_word.false)
    c.if-q-out.true _ c.load_ep-r.ensures)) (c.take_ready.ensures.buf_after, (c.take_ready.ensures.out_after, c.take_ready.ensures.s_unchanged))).1.1

pub returns : goal.returns
returns c =
    let is = poll-other Out c.args.e (length c.args.out.now)
    (reads c.args.e (length c.args.out.now))
    (view c.args.s.now) c.args.buf.now c.requires
    c.load_request-q.ensures c.is_on_word.ensures (ap not c.if-not-is_on_word.false)
    c.if-q-out.false _ _
    c.unready.ensures.s_after c.end_request.ensures.s_after in
    record {
      buf_after = is;
      out_after = lends c.args.out.now is;
      s_unchanged = c.end_request.ensures.s_unchanged ∙ c.unready.ensures.s_unchanged;
    }
