use mathlib.Core.Path.{refl, sym, ◌∙◌}
use lib.ListN.{length}
use borrow.Author.Tests.{eq-eqb}
use Rattle.state.specs.State.{view}
use Rattle.script_ops.specs.RowsLaws.{numbered}
use Rattle.regs.specs.declared.Dir.TheVariants.{Out}
use Rattle.script.specs.Endpoint.{poll_read}
use Rattle.endpoint.specs.Brought.{lends}
use Rattle.endpoint.proofs.Laws.{read-refused, lowered}
use Rattle.endpoint.proofs.read.poll_read.Goals as goal

pub low-requires : goal.low-requires
low-requires c =
    numbered (view c.args.s.now) Out c.args.e (eq-eqb _ _ (sym c.refusal-row.ensures ∙ c.if-row-eq0.true))

pub take_read-requires : goal.take_read-requires
take_read-requires c =
    rw c.low.ensures (eq-eqb _ _ (sym c.refusal-row.ensures ∙ c.if-row-eq0.true))

pub returns-then-row-eq0 : goal.returns-then-row-eq0
returns-then-row-eq0 c =
    let is = lowered (λ x. poll_read x (length c.args.out.now)) (view c.args.s.now) c.args.buf.now
    c.low.ensures in
    record {
      buf_after = c.take_read.ensures.buf_after ∙ is;
      out_after = c.take_read.ensures.out_after ∙ lends c.args.out.now is;
      s_unchanged = c.take_read.ensures.s_unchanged;
    }

pub returns : goal.returns
returns c =
    let is = read-refused (view c.args.s.now) c.args.buf.now c.args.e (length c.args.out.now)
    c.refusal-row.ensures c.if-row-eq0.false in
    record {
      buf_after = is;
      out_after = lends c.args.out.now is;
      s_unchanged = refl;
    }
