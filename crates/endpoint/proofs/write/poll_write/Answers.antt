use mathlib.Core.Path.{refl, sym, ◌∙◌}
use borrow.Author.Tests.{eq-eqb, ne_eqb}
use Rattle.state.specs.State.{view}
use Rattle.script_ops.specs.RowsLaws.{numbered}
use Rattle.regs.specs.declared.Dir.TheVariants.{In}
use Rattle.script.specs.Endpoint.{poll_write}
use Rattle.endpoint.proofs.Laws.{refused, lowered}
use Rattle.endpoint.proofs.write.poll_write.Goals as goal

pub low-requires : goal.low-requires
low-requires c =
    numbered (view c.args.s.now) In c.args.e (eq-eqb _ _ (sym c.refusal-row.ensures ∙ c.if-row-eq0.true))

pub take_write-requires : goal.take_write-requires
take_write-requires c =
    rw c.low.ensures (eq-eqb _ _ (sym c.refusal-row.ensures ∙ c.if-row-eq0.true))

pub returns-then-row-eq0 : goal.returns-then-row-eq0
returns-then-row-eq0 c =
    record {
      buf_after = c.take_write.ensures.buf_after ∙ lowered (λ x. poll_write x c.args.bytes.now) (view c.args.s.now) c.args.buf.now c.low.ensures;
      s_unchanged = c.take_write.ensures.s_unchanged;
    }

pub returns : goal.returns
returns c =
    record {
      buf_after = refused _ In _ _ _ _ c.refusal-row.ensures (ne_eqb _ _ c.if-row-eq0.false);
      s_unchanged = refl;
    }
