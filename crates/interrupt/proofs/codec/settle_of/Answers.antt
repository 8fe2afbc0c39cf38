use borrow.Author.Tests.{ne_eqb}
use borrow.Author.Rules.{rules}
use Rattle.interrupt.proofs.codec.settle_of.Goals as goal

pub returns-in-3 : goal.returns-in-3
returns-in-3 c = simp c.in-3.is

pub returns-in-4 : goal.returns-in-4
returns-in-4 c = simp c.in-4.is

pub returns-in-5 : goal.returns-in-5
returns-in-5 c = simp c.in-5.is

pub returns-in-6 : goal.returns-in-6
returns-in-6 c = simp c.in-6.is

pub returns-in-7 : goal.returns-in-7
returns-in-7 c = simp c.in-7.is

pub returns-in-8 : goal.returns-in-8
returns-in-8 c = simp c.in-8.is

pub returns-in-9 : goal.returns-in-9
returns-in-9 c = simp c.in-9.is

pub returns-in-10 : goal.returns-in-10
returns-in-10 c = simp c.in-10.is

pub returns-in_default : goal.returns-in_default
returns-in_default c = search (rules, ne_eqb)
