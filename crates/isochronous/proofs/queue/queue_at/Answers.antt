use mathlib.Core.Path.{refl, ap, sym, ◌∙◌}
use mathlib.Core.Bool.{true, false}
use lib.Dec.{ltb}
use lib.ListN.{length}
use Rattle.regs.specs.declared.Dir.TheVariants.{In}
use Rattle.regs.specs.Enables as enables
use Rattle.state.specs.declared.Allocator.{Allocator}
use Rattle.state.specs.declared.EpState.{EpState}
use Rattle.state.specs.declared.Globals.{Globals}
use Rattle.state.specs.State.{view}
use Rattle.script.specs.Statics.{is_on}
use Rattle.isochronous.specs.QueueLaws.{queue-by, queue-ok}
use borrow.Author.Tests.{lt-ltb, le-ltb}
use Rattle.isochronous.proofs.queue.queue_at.Goals as goal

pub returns-then-a-bytes : goal.returns-then-a-bytes
returns-then-a-bytes c =
    record {
      buf_after = queue-by c.args.e c.args.bytes.now (view c.args.s.now) c.args.buf.now true true _ _
          (ap (λ (g : Globals). enables.is_on g.ep_config In c.args.e) (sym c.load_globals-g.ensures)
          ∙ (sym c.is_on.ensures ∙ c.if-is_on.true))
          (ap (λ (x : Allocator). ltb x.size (length c.args.bytes.now)) (sym c.load_allocator-a.ensures)
          ∙ lt-ltb _ _ c.if-a-bytes.true) refl refl;
      s_unchanged = refl;
    }

pub returns-then-room : goal.returns-then-room
returns-then-room c =
    record {
      buf_after = queue-ok c.args.e c.args.bytes.now (view c.args.s.now) _ c.args.buf.now _
          (ap (λ (g : Globals). enables.is_on g.ep_config In c.args.e) (sym c.load_globals-g.ensures)
          ∙ (sym c.is_on.ensures ∙ c.if-is_on.true))
          (ap (λ (x : Allocator). ltb x.size (length c.args.bytes.now)) (sym c.load_allocator-a.ensures)
          ∙ le-ltb _ _ c.if-a-bytes.false) (ap (λ (r : EpState). is_on r.iso) (sym c.load_ep-r.ensures)
          ∙ (sym c.is_on-then-is_on.ensures ∙ c.if-is_on-2.true)) (sym c.room.ensures
          ∙ c.if-room.true) c.iso_in_enqueue.ensures.s_after c.iso_in_enqueue.ensures.buf_after;
      s_unchanged = c.iso_in_enqueue.ensures.s_unchanged;
    }

pub returns-then-is_on-2 : goal.returns-then-is_on-2
returns-then-is_on-2 c =
    record {
      buf_after = queue-by c.args.e c.args.bytes.now (view c.args.s.now) c.args.buf.now true false true false
          (ap (λ (g : Globals). enables.is_on g.ep_config In c.args.e) (sym c.load_globals-g.ensures)
          ∙ (sym c.is_on.ensures ∙ c.if-is_on.true))
          (ap (λ (x : Allocator). ltb x.size (length c.args.bytes.now)) (sym c.load_allocator-a.ensures)
          ∙ le-ltb _ _ c.if-a-bytes.false) (ap (λ (r : EpState). is_on r.iso) (sym c.load_ep-r.ensures)
          ∙ (sym c.is_on-then-is_on.ensures ∙ c.if-is_on-2.true)) (sym c.room.ensures ∙ c.if-room.false);
      s_unchanged = refl;
    }

pub returns-then-is_on : goal.returns-then-is_on
returns-then-is_on c =
    record {
      buf_after = queue-by c.args.e c.args.bytes.now (view c.args.s.now) c.args.buf.now true false false _
          (ap (λ (g : Globals). enables.is_on g.ep_config In c.args.e) (sym c.load_globals-g.ensures)
          ∙ (sym c.is_on.ensures ∙ c.if-is_on.true))
          (ap (λ (x : Allocator). ltb x.size (length c.args.bytes.now)) (sym c.load_allocator-a.ensures)
          ∙ le-ltb _ _ c.if-a-bytes.false) (ap (λ (r : EpState). is_on r.iso) (sym c.load_ep-r.ensures)
          ∙ (sym c.is_on-then-is_on.ensures ∙ c.if-is_on-2.false)) refl;
      s_unchanged = refl;
    }

pub returns : goal.returns
returns c =
    record {
      buf_after = queue-by c.args.e c.args.bytes.now (view c.args.s.now) c.args.buf.now false _ _ _
          (ap (λ (g : Globals). enables.is_on g.ep_config In c.args.e) (sym c.load_globals-g.ensures)
          ∙ (sym c.is_on.ensures ∙ c.if-is_on.false)) refl refl refl;
      s_unchanged = refl;
    }
