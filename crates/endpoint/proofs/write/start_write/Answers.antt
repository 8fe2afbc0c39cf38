use Rattle.std.specs.Prelude.{not}
use Rattle.std.proofs.Common.{ap}
use mathlib.Core.Path.{refl, sym, ◌∙◌}
use lib.Dec.{ltb}
use lib.ListN.{length}
use borrow.Author.Tests.{lt-ltb, le-ltb, not-false}
use Rattle.state.specs.State.{view}
use Rattle.script.specs.Statics.{is_on}
use Rattle.endpoint.specs.RecordsLaws.{on-driver}
use Rattle.endpoint.proofs.Laws.{write-disabled, write-long, write-iso, write-asks}
use Rattle.endpoint.specs.declared.Point.TheVariants as point
use Rattle.endpoint.specs.PointsLaws.{asked-at, linked-at}
use Rattle.endpoint.proofs.write.start_write.Goals as goal

pub returns-then-not-is_enabled : goal.returns-then-not-is_enabled
returns-then-not-is_enabled c =
    record {
      buf_after = write-disabled (view c.args.s.now) c.args.buf.now c.args.bytes.now
          c.args.e c.requires (sym c.is_enabled.ensures ∙ c.if-not-is_enabled.true);
      s_unchanged = refl;
      linked_begun = tt;
    }

pub returns-then-r-bytes : goal.returns-then-r-bytes
returns-then-r-bytes c =
    record {
      buf_after = write-long (view c.args.s.now) c.args.buf.now c.args.bytes.now c.args.e
          c.requires (sym c.is_enabled.ensures ∙ c.if-not-is_enabled.false)
          (on-driver (λ y. ltb y.max_len (length c.args.bytes.now))
          c.load_ep-r.ensures refl (lt-ltb _ _ c.if-r-bytes.true));
      s_unchanged = refl;
      linked_begun = tt;
    }

pub length16-n-requires : goal.length16-n-requires
length16-n-requires c = c.if-r-bytes.false

pub returns-then-is_on : goal.returns-then-is_on
returns-then-is_on c =
    record {
      buf_after = write-iso (view c.args.s.now) c.args.buf.now c.args.bytes.now c.args.e
          c.requires (sym c.is_enabled.ensures ∙ c.if-not-is_enabled.false)
          (on-driver (λ y. ltb y.max_len (length c.args.bytes.now)) c.load_ep-r.ensures refl
          (le-ltb _ _ c.if-r-bytes.false)) _ c.length16-n.ensures _ _ c.set_request.ensures.s_after c.clear_wakes.ensures.s_after
          (on-driver (λ y. is_on y.iso) c.load_ep-r.ensures c.is_on.ensures c.if-is_on.true);
      s_unchanged = c.clear_wakes.ensures.s_unchanged ∙ c.set_request.ensures.s_unchanged;
      linked_begun = tt;
    }

pub returns : goal.returns
returns c =
    record {
      buf_after = asked-at (point.Loaded _) c.point.ensures _ _ ∙ write-asks
          (view c.args.s.now)
          c.args.buf.now
          c.args.bytes.now
          c.args.e
          c.requires
          (sym
          c.is_enabled.ensures ∙ not-false
          c.is_enabled.result
          (ap not c.if-not-is_enabled.false))
          (on-driver
          (λ y. ltb y.max_len
          (length c.args.bytes.now))
          c.load_ep-r.ensures refl
          (le-ltb _ _
          c.if-r-bytes.false)) _
          c.length16-n.ensures _ _
          c.set_request.ensures.s_after
          c.clear_wakes.ensures.s_after
          (on-driver (λ y. is_on y.iso)
          c.load_ep-r.ensures
          c.is_on.ensures
          c.if-is_on.false) _
          c.fill.ensures _ c.arm_in.ensures.s_after;
      s_unchanged = c.arm_in.ensures.s_unchanged
          ∙ c.clear_wakes.ensures.s_unchanged
          ∙ c.set_request.ensures.s_unchanged;
      linked_begun = linked-at (point.Loaded _) c.point.ensures refl;
    }
