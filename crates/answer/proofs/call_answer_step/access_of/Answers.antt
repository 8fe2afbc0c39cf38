use borrow.Author.Tests.{ne_eqb}
use Rattle.answer.proofs.call_answer_step.access_of.Goals as goal

pub returns-in-1 : goal.returns-in-1
returns-in-1 c =
    simp (c.in-1.is, c.low_byte-in-1.ensures, c.register_of.ensures, c.low_byte.ensures)

pub returns-in-2 : goal.returns-in-2
returns-in-2 c =
    simp (
      c.in-2.is,
      c.write_of.ensures,
      c.high_word.ensures,
      c.low_byte-in-2-2.ensures,
      c.low_byte-in-2.ensures,
    )

pub returns-in-3 : goal.returns-in-3
returns-in-3 c = simp (c.in-3.is, c.low_byte-in-3.ensures)

pub returns-in_default : goal.returns-in_default
returns-in_default c =
    simp (ne_eqb _ _ c.in_default.in_default-own.rest.1, ne_eqb _ _ c.in_default.in_default-own.rest.0.1, ne_eqb _ _ c.in_default.in_default-own.rest.0.0.1)
