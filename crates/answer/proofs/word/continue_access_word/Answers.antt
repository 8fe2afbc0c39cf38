use Rattle.answer.specs.WordLaws.{read-says, write-says}
use borrow.Author.Rules.{rules}
use Rattle.answer.proofs.word.continue_access_word.Goals as goal

pub returns-in-Read : goal.returns-in-Read
returns-in-Read c =
    read-says _ _ _ _ _ c.in-Read.is (search rules) c.number.ensures c.read_word.ensures

pub returns-in-Write : goal.returns-in-Write
returns-in-Write c =
    write-says _ _ _ _ _ _ c.in-Write.is (search rules, search rules) c.number-in-Write.ensures c.write_word.ensures

pub returns-in_default : goal.returns-in_default
returns-in_default c = c.access_word.ensures
