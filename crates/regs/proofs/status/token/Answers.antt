use mathlib.Core.Path.{ap, sym, ◌∙◌}
use borrow.Author.Tests.{ne_eqb}
use Rattle.bits.specs.Field.{reads as reads-field}
use Rattle.regs.specs.Status.{token, token_numbered}
use Rattle.regs.proofs.status.token.Goals as goal

pub returns-in-0 : goal.returns-in-0
unfolding token token_numbered
returns-in-0 c = ap token_numbered (sym c.in-0.is ∙ reads-field c.args.status 4 2)

pub returns-in-1 : goal.returns-in-1
unfolding token token_numbered
returns-in-1 c = ap token_numbered (sym c.in-1.is ∙ reads-field c.args.status 4 2)

pub returns-in-2 : goal.returns-in-2
unfolding token token_numbered
returns-in-2 c = ap token_numbered (sym c.in-2.is ∙ reads-field c.args.status 4 2)

pub returns-in_default : goal.returns-in_default
unfolding token token_numbered
returns-in_default c =
    simp (
      ne_eqb _ _ (λ z. c.in_default.in_default-own.rest.0.0.1 (reads-field c.args.status 4 2 ∙ z)),
      ne_eqb _ _ (λ z. c.in_default.in_default-own.rest.0.1 (reads-field c.args.status 4 2 ∙ z)),
      ne_eqb _ _ (λ z. c.in_default.in_default-own.rest.1 (reads-field c.args.status 4 2 ∙ z)),
    )
