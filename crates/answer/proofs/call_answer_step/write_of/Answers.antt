use borrow.Author.Tests.{ne_eqb}
use Rattle.answer.proofs.call_answer_step.write_of.Goals as goal

pub returns-in-12 : goal.returns-in-12
returns-in-12 c = simp c.in-12.is

pub returns-in-15 : goal.returns-in-15
returns-in-15 c = simp c.in-15.is

pub returns-in-16 : goal.returns-in-16
returns-in-16 c = simp c.in-16.is

pub returns-in_default : goal.returns-in_default
returns-in_default c =
    simp (
      c.register_of.ensures,
      ne_eqb _ _ c.in_default.in_default-own.rest.1,
      ne_eqb _ _ c.in_default.in_default-own.rest.0.1,
      ne_eqb _ _
          c.in_default.in_default-own.rest.0.0.1,
    )
