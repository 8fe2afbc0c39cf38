use mathlib.Core.Path.{refl, ap, ◌∙◌}
use Rattle.state.specs.State.{view}
use Rattle.regs.specs.declared.Dir.TheVariants.{In}
use Rattle.script_ops.specs.Concrete.{go}
use Rattle.isochronous.specs.Queue.{queueing}
use Rattle.isochronous.specs.OpenCloseLaws.{passed, refused, passed-number}
use Prim.Native.Nat.{ℕ}
use Rattle.isochronous.proofs.queue.iso_in_prime.Goals as goal

pub low-requires : goal.low-requires
low-requires c =
    passed-number (view c.args.s.now) In c.args.e _ c.refusal-row.ensures c.if-row-eq0.true

pub returns-then-row-eq0 : goal.returns-then-row-eq0
returns-then-row-eq0 c =
    record {
      buf_after = c.queue_at.ensures.buf_after ∙ (ap (λ (n : ℕ). go (queueing n c.args.bytes.now) (view c.args.s.now) c.args.buf.now) c.low.ensures
          ∙ passed In c.args.e _ (queueing c.args.e c.args.bytes.now) (view c.args.s.now)
          c.args.buf.now c.refusal-row.ensures c.if-row-eq0.true);
      s_unchanged = c.queue_at.ensures.s_unchanged;
    }

pub returns : goal.returns
returns c =
    record {
      buf_after = refused In c.args.e _ (queueing c.args.e c.args.bytes.now) (view c.args.s.now) c.args.buf.now c.refusal-row.ensures
          c.if-row-eq0.false;
      s_unchanged = refl;
    }
