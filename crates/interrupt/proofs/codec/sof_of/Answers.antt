use borrow.Author.Tests.{ne_eqb}
use borrow.Author.Rules.{rules}
use Rattle.interrupt.proofs.codec.sof_of.Goals as goal

pub returns-in-2 : goal.returns-in-2
returns-in-2 c = simp c.in-2.is

pub returns-in-3 : goal.returns-in-3
returns-in-3 c = simp c.in-3.is

pub returns-in-4 : goal.returns-in-4
returns-in-4 c = simp c.in-4.is

pub returns-in_default : goal.returns-in_default
returns-in_default c = search (rules, ne_eqb)
