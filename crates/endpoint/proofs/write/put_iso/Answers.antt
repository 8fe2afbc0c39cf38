use mathlib.Core.Path.{refl, sym, ◌∙◌}
use Rattle.state.specs.State.{view}
use Rattle.endpoint.proofs.Laws.{put-disabled, put_full, put-done}
use Rattle.endpoint.proofs.write.put_iso.Goals as goal

pub returns-then-not-is_enabled : goal.returns-then-not-is_enabled
returns-then-not-is_enabled c =
    record {
      buf_after = put-disabled (view c.args.s.now) c.args.buf.now c.args.bytes.now c.args.e
          (sym c.is_enabled.ensures ∙ c.if-not-is_enabled.true) _ c.end_request.ensures.s_after;
      s_unchanged = c.end_request.ensures.s_unchanged;
    }

pub returns-then-not-room : goal.returns-then-not-room
returns-then-not-room c =
    record {
      buf_after = put_full (view c.args.s.now) c.args.buf.now c.args.bytes.now c.args.e
          (sym c.is_enabled.ensures ∙ c.if-not-is_enabled.false)
          (sym c.room.ensures ∙ c.if-not-room.true);
      s_unchanged = refl;
    }

pub returns : goal.returns
returns c =
    record {
      buf_after = put-done (view c.args.s.now) c.args.buf.now c.args.bytes.now c.args.e
          (sym c.is_enabled.ensures ∙ c.if-not-is_enabled.false) (sym c.room.ensures
          ∙ c.if-not-room.false) _ _ _ c.iso_in_enqueue.ensures.s_after
          c.iso_in_enqueue.ensures.buf_after c.end_request-2.ensures.s_after;
      s_unchanged = c.end_request-2.ensures.s_unchanged ∙ c.iso_in_enqueue.ensures.s_unchanged;
    }
