use Rattle.interrupt.specs.Laws.{passed-known}
use borrow.Author.Rules.{rules}
use Rattle.interrupt.proofs.tokens.passed.Goals as goal

pub enum_told-1 : goal.enum_told-1
enum_told-1 c = search rules

pub returns-in-Out : goal.returns-in-Out
returns-in-Out c =
    record {
      by_index = λ b. passed-known _ _ _ _ _ _ c.in-Out.is (c.received.ensures.by_index b);
      s_unchanged = c.received.ensures.s_unchanged;
    }

pub returns-in-In : goal.returns-in-In
returns-in-In c =
    record {
      by_index = λ b. passed-known _ _ _ _ _ _ c.in-In.is (c.sent.ensures.by_index b);
      s_unchanged = c.sent.ensures.s_unchanged;
    }
