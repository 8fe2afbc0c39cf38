use Rattle.bus.proofs.set_enabled.out_word.Goals as goal

pub returns-then-on : goal.returns-then-on
returns-then-on c = simp (c.word_of.ensures, c.if-on.true)

pub returns : goal.returns
returns c = simp (c.word_of-2.ensures, c.if-on.false)
