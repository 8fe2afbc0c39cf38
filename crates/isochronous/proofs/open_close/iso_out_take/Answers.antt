use mathlib.Core.Path.{refl, ap, ◌∙◌}
use Rattle.state.specs.State.{view}
use Rattle.regs.specs.declared.Dir.TheVariants.{Out}
use Rattle.script_ops.specs.Concrete.{go}
use Rattle.isochronous.specs.Packets.{opening}
use Rattle.isochronous.specs.OpenCloseLaws.{passed, refused, passed-number}
use Prim.Native.Nat.{ℕ}
use Rattle.isochronous.proofs.open_close.iso_out_take.Goals as goal

pub low-requires : goal.low-requires
low-requires c =
    passed-number (view c.args.s.now) Out c.args.e _ c.refusal-row.ensures c.if-row-eq0.true

pub returns-then-row-eq0 : goal.returns-then-row-eq0
returns-then-row-eq0 c =
    record {
      buf_after = c.open_at.ensures.by_index c.args.buf.now ∙ (ap (λ (n : ℕ). go (opening n) (view c.args.s.now) c.args.buf.now) c.low.ensures
          ∙ passed Out c.args.e _ (opening c.args.e) (view c.args.s.now)
          c.args.buf.now c.refusal-row.ensures c.if-row-eq0.true);
      s_unchanged = c.open_at.ensures.s_unchanged;
      shown_at = rw c.low.ensures at c.open_at.ensures.shown_at;
    }

pub returns : goal.returns
returns c =
    record {
      buf_after = refused Out c.args.e _ (opening c.args.e) (view c.args.s.now) c.args.buf.now c.refusal-row.ensures c.if-row-eq0.false;
      s_unchanged = refl;
      shown_at = tt;
    }
