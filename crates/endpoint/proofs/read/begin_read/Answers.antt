use mathlib.Core.Path.{refl, sym, ◌∙◌}
use borrow.Author.Tests.{eq-eqb, ne_eqb}
use Rattle.state.specs.State.{view}
use Rattle.script_ops.specs.RowsLaws.{numbered}
use Rattle.regs.specs.declared.Dir.TheVariants.{Out}
use Rattle.script.specs.Endpoint.{begin_read}
use Rattle.endpoint.proofs.Laws.{refused, lowered}
use Rattle.endpoint.proofs.read.begin_read.Goals as goal

pub low-requires : goal.low-requires
low-requires c =
    numbered (view c.args.s.now) Out c.args.e (eq-eqb _ _ (sym c.refusal-row.ensures ∙ c.if-row-eq0.true))

pub start_read-requires : goal.start_read-requires
start_read-requires c =
    rw c.low.ensures (eq-eqb _ _ (sym c.refusal-row.ensures ∙ c.if-row-eq0.true))

pub returns-then-row-eq0 : goal.returns-then-row-eq0
returns-then-row-eq0 c =
    record {
      by_index = λ b. c.start_read.ensures.by_index b ∙ lowered (λ x. begin_read x c.args.n) (view c.args.s.now) b c.low.ensures;
      s_unchanged = c.start_read.ensures.s_unchanged;
      linked_begun = c.start_read.ensures.linked_begun;
    }

pub returns : goal.returns
returns c =
    record {
      by_index = λ b. refused _ Out _ _ b _ c.refusal-row.ensures (ne_eqb _ _ c.if-row-eq0.false);
      s_unchanged = refl;
      linked_begun = tt;
    }
