use Rattle.regs.proofs.Words.{word-of, word-of-automatic}
use Rattle.regs.proofs.control_word.word_of.Goals as goal

pub returns-then-automatic : goal.returns-then-automatic
returns-then-automatic c =
    rw c.if-automatic.true (word-of-automatic c.args.response c.args.toggle)

pub returns : goal.returns
returns c = rw c.if-automatic.false (word-of c.args.response c.args.toggle)
