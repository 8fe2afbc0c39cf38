use Rattle.interrupt.specs.Laws.{flip-in, flipped-known}
use mathlib.Core.Path.{◌∙◌}
use borrow.Author.Rules.{rules}
use Rattle.interrupt.proofs.tokens.flip_done.Goals as goal

pub enum_told-1 : goal.enum_told-1
enum_told-1 c = search rules

pub returns-in-Out : goal.returns-in-Out
returns-in-Out c =
    record {
      by_index = λ b. flipped-known _ _ _ _ _ c.in-Out.is (c.received.ensures.by_index b);
      s_unchanged = c.received.ensures.s_unchanged;
    }

pub returns-in-In : goal.returns-in-In
returns-in-In c =
    record {
      by_index = λ b. c.sent.ensures.by_index b ∙ flip-in _ _ b _ _ _ c.load_ep-r.ensures
          c.store_ep.ensures.s_after c.in-In.is;
      s_unchanged = c.sent.ensures.s_unchanged ∙ c.store_ep.ensures.s_unchanged;
    }
