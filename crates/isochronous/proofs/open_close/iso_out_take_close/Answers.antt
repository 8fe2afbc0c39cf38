use mathlib.Core.Path.{refl, ap, ◌∙◌}
use Rattle.state.specs.State.{view}
use Rattle.regs.specs.declared.Dir.TheVariants.{Out}
use Rattle.script_ops.specs.Concrete.{go}
use Rattle.isochronous.specs.Packets.{closing}
use Rattle.isochronous.specs.OpenCloseLaws.{passed, refused, passed-number}
use Prim.Native.Nat.{ℕ}
use Rattle.isochronous.proofs.open_close.iso_out_take_close.Goals as goal

pub low-requires : goal.low-requires
low-requires c =
    passed-number (view c.args.s.now) Out c.args.e _ c.refusal-row.ensures c.if-row-eq0.true

pub returns-then-row-eq0 : goal.returns-then-row-eq0
returns-then-row-eq0 c =
    record {
      by_index = λ b. c.close_at.ensures.by_index b
          ∙ (ap (λ (n : ℕ). go (closing n) (view c.args.s.now) b) c.low.ensures ∙ passed Out c.args.e _ (closing c.args.e)
          (view c.args.s.now) b c.refusal-row.ensures c.if-row-eq0.true);
      s_unchanged = c.close_at.ensures.s_unchanged;
    }

pub returns : goal.returns
returns c =
    record {
      by_index = λ b. refused Out c.args.e _ (closing c.args.e) (view c.args.s.now) b c.refusal-row.ensures c.if-row-eq0.false;
      s_unchanged = refl;
    }
