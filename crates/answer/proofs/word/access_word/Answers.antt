use mathlib.Core.Path.{refl}
use Rattle.answer.specs.Word.{access_word}
use Rattle.answer.specs.WordLaws.{access-says, read-says, write-says}
use borrow.Author.Rules.{rules}
use Rattle.answer.proofs.word.access_word.Goals as goal

pub enum_told-1 : goal.enum_told-1
enum_told-1 c = search rules

pub returns-in-Read : goal.returns-in-Read
returns-in-Read c =
    read-says _ _ _ _ _ c.in-Read.is (search rules) c.number.ensures c.read_word.ensures

pub returns-in-Write : goal.returns-in-Write
returns-in-Write c =
    write-says _ _ _ _ _ _ c.in-Write.is (search rules, search rules) c.number-in-Write.ensures c.write_word.ensures

pub returns-in-Receive : goal.returns-in-Receive
unfolding access_word
returns-in-Receive c =
    access-says _ _ _ c.in-Receive.is (search rules, search rules) (simp c.write_word-in-Receive.ensures)

pub returns-in-Transmit : goal.returns-in-Transmit
unfolding access_word
returns-in-Transmit c =
    access-says _ _ _ c.in-Transmit.is (search rules, search rules) (simp c.write_word-in-Transmit.ensures)

pub returns-in-Ep0Dma : goal.returns-in-Ep0Dma
unfolding access_word
returns-in-Ep0Dma c =
    access-says _ _ _ c.in-Ep0Dma.is (search rules) (simp c.write_word-in-Ep0Dma.ensures)

pub returns-in-Wait : goal.returns-in-Wait
unfolding access_word
returns-in-Wait c = access-says _ _ _ c.in-Wait.is (search rules) refl

pub returns-in-Callback : goal.returns-in-Callback
unfolding access_word
returns-in-Callback c = access-says _ _ _ c.in-Callback.is tt refl
