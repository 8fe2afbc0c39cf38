use mathlib.Core.Path.{refl}
use Rattle.answer.specs.Word.{word_of}
use Rattle.answer.specs.WordLaws.{says}
use borrow.Author.Rules.{rules}
use Rattle.answer.proofs.word.word_of.Goals as goal

pub enum_told-1 : goal.enum_told-1
enum_told-1 c = search rules

pub returns-in-Refused : goal.returns-in-Refused
unfolding word_of
returns-in-Refused c = says _ _ _ c.in-Refused.is (search rules) refl

pub returns-in-Asks : goal.returns-in-Asks
unfolding word_of
returns-in-Asks c = says _ _ _ c.in-Asks.is c.access_word.ensures.1 c.access_word.ensures.0

pub returns-in-Ends : goal.returns-in-Ends
unfolding word_of
returns-in-Ends c =
    says _ _ _ c.in-Ends.is c.end_word.ensures.end_fits c.end_word.ensures.value

pub returns-in-NotYet : goal.returns-in-NotYet
unfolding word_of
returns-in-NotYet c = says _ _ _ c.in-NotYet.is tt refl

pub returns-in-Done : goal.returns-in-Done
unfolding word_of
returns-in-Done c = says _ _ _ c.in-Done.is (search rules) c.done_word.ensures

pub returns-in-Setup : goal.returns-in-Setup
unfolding word_of
returns-in-Setup c = says _ _ _ c.in-Setup.is tt c.done_word-in-Setup.ensures

pub returns-in-Shown : goal.returns-in-Shown
unfolding word_of
returns-in-Shown c = says _ _ _ c.in-Shown.is (search rules, search rules) c.shown_word.ensures
