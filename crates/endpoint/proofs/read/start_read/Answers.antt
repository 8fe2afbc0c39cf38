use Rattle.std.specs.Prelude.{not}
use Rattle.std.proofs.Common.{ap}
use mathlib.Core.Path.{refl, sym, ◌∙◌}
use lib.Dec.{ltb}
use borrow.Author.Tests.{lt-ltb, le-ltb, not-false}
use Rattle.state.specs.State.{view}
use Rattle.script.specs.Statics.{is_on}
use Rattle.endpoint.specs.RecordsLaws.{on-driver}
use Rattle.endpoint.proofs.Laws.{read-disabled, read_short, read-iso, read_has, read-asks}
use Rattle.endpoint.specs.declared.Point.TheVariants as point
use Rattle.endpoint.specs.PointsLaws.{asked-at, linked-at}
use Rattle.regs.specs.declared.Dir.TheVariants.{Out}
use Rattle.endpoint.proofs.read.start_read.Goals as goal

pub returns-then-not-is_enabled : goal.returns-then-not-is_enabled
returns-then-not-is_enabled c =
    record {
      by_index = λ b. read-disabled (view c.args.s.now) b c.args.e c.args.n c.requires
          (sym c.is_enabled.ensures ∙ c.if-not-is_enabled.true);
      s_unchanged = refl;
      linked_begun = tt;
    }

pub returns-then-n-r : goal.returns-then-n-r
returns-then-n-r c =
    record {
      by_index = λ b. read_short (view c.args.s.now) b c.args.e c.args.n c.requires
          (sym c.is_enabled.ensures ∙ c.if-not-is_enabled.false)
          (on-driver (λ y. ltb c.args.n y.max_len) c.load_ep-r.ensures refl (lt-ltb _ _ c.if-n-r.true));
      s_unchanged = refl;
      linked_begun = tt;
    }

pub returns-then-is_on : goal.returns-then-is_on
returns-then-is_on c =
    record {
      by_index = λ b. read-iso (view c.args.s.now) b c.args.e c.args.n c.requires
          (sym c.is_enabled.ensures ∙ c.if-not-is_enabled.false) (on-driver
          (λ y. ltb c.args.n y.max_len) c.load_ep-r.ensures refl (le-ltb _ _ c.if-n-r.false)) _ _
          c.set_request.ensures.s_after c.clear_wakes.ensures.s_after (on-driver (λ y. is_on y.iso) c.load_ep-r.ensures
          c.is_on.ensures c.if-is_on.true);
      s_unchanged = c.clear_wakes.ensures.s_unchanged ∙ c.set_request.ensures.s_unchanged;
      linked_begun = tt;
    }

pub returns-then-is_on-2 : goal.returns-then-is_on-2
returns-then-is_on-2 c =
    record {
      by_index = λ b. read_has (view c.args.s.now) b c.args.e c.args.n c.requires
          (sym c.is_enabled.ensures ∙ c.if-not-is_enabled.false) (on-driver
          (λ y. ltb c.args.n y.max_len) c.load_ep-r.ensures refl (le-ltb _ _ c.if-n-r.false)) _ _
          c.set_request.ensures.s_after c.clear_wakes.ensures.s_after (on-driver (λ y. is_on y.iso) c.load_ep-r.ensures
          c.is_on.ensures c.if-is_on.false) (on-driver (λ y. is_on y.ready) c.load_ep-r.ensures
          c.is_on-2.ensures c.if-is_on-2.true);
      s_unchanged = c.clear_wakes.ensures.s_unchanged ∙ c.set_request.ensures.s_unchanged;
      linked_begun = tt;
    }

pub returns : goal.returns
returns c =
    record {
      by_index = λ b. asked-at (point.Ack Out _) c.point.ensures _ b ∙ read-asks
          (view
          c.args.s.now)
          b c.args.e
          c.args.n
          c.requires
          (sym c.is_enabled.ensures
          ∙ not-false
          c.is_enabled.result
          (ap not c.if-not-is_enabled.false))
          (on-driver (λ y. ltb
          c.args.n
          y.max_len)
          c.load_ep-r.ensures refl
          (le-ltb _ _
          c.if-n-r.false)) _ _
          c.set_request.ensures.s_after
          c.clear_wakes.ensures.s_after
          (on-driver (λ y. is_on y.iso)
          c.load_ep-r.ensures
          c.is_on.ensures
          c.if-is_on.false)
          (on-driver (λ y. is_on y.ready)
          c.load_ep-r.ensures
          c.is_on-2.ensures c.if-is_on-2.false) _
          c.set_armed.ensures.s_after;
      s_unchanged = c.set_armed.ensures.s_unchanged
          ∙ c.clear_wakes.ensures.s_unchanged
          ∙ c.set_request.ensures.s_unchanged;
      linked_begun = linked-at (point.Ack Out _) c.point.ensures refl;
    }
