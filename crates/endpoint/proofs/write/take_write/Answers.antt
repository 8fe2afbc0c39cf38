use Rattle.std.specs.Prelude.{not}
use Rattle.std.proofs.Common.{ap}
use mathlib.Core.Path.{refl, ◌∙◌}
use lib.ListN.{length}
use Rattle.regs.specs.declared.Dir.TheVariants.{In}
use Rattle.state.specs.State.{view}
use Rattle.endpoint.proofs.Laws.{writes, poll-none, poll-other, poll-takes, picks, leaves}
use Rattle.endpoint.proofs.write.take_write.Goals as goal

pub returns-then-not-is_on_word : goal.returns-then-not-is_on_word
returns-then-not-is_on_word c =
    record {
      buf_after = poll-none In c.args.e (length c.args.bytes.now)
          (writes c.args.e c.args.bytes.now) (view c.args.s.now) c.args.buf.now
          c.requires
          c.load_request-q.ensures c.is_on_word.ensures (ap not c.if-not-is_on_word.true);
      s_unchanged = refl;
    }

pub returns-then-is_on : goal.returns-then-is_on
returns-then-is_on c =
    record {
      buf_after = c.put_iso.ensures.buf_after ∙ picks _ _ c.is_on.ensures
          c.if-is_on.true ∙ poll-takes In c.args.e (length c.args.bytes.now)
          (writes c.args.e c.args.bytes.now) (view c.args.s.now) c.args.buf.now
          c.requires
          c.load_request-q.ensures c.is_on_word.ensures
          (ap not c.if-not-is_on_word.false)
          c.if-q-bytes.true _ c.load_ep-r.ensures;
      s_unchanged = c.put_iso.ensures.s_unchanged;
    }

pub returns-then-q-bytes : goal.returns-then-q-bytes
returns-then-q-bytes c =
    record {
      buf_after = c.sent_ready.ensures.by_index c.args.buf.now ∙ leaves _ _ c.is_on.ensures c.if-is_on.false
          ∙ poll-takes In c.args.e (length c.args.bytes.now)
          (writes c.args.e c.args.bytes.now)
          (view c.args.s.now) c.args.buf.now c.requires
          c.load_request-q.ensures c.is_on_word.ensures
          (ap not c.if-not-is_on_word.false)
          c.if-q-bytes.true _ c.load_ep-r.ensures;
      s_unchanged = c.sent_ready.ensures.s_unchanged;
    }

pub returns : goal.returns
returns c =
    record {
      buf_after = poll-other In c.args.e (length c.args.bytes.now)
          (writes c.args.e c.args.bytes.now) (view c.args.s.now)
          c.args.buf.now c.requires
          c.load_request-q.ensures c.is_on_word.ensures
          (ap not c.if-not-is_on_word.false) c.if-q-bytes.false _ _
          c.unready.ensures.s_after c.end_request.ensures.s_after;
      s_unchanged = c.end_request.ensures.s_unchanged ∙ c.unready.ensures.s_unchanged;
    }
