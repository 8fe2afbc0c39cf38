use Rattle.bus.proofs.set_enabled.in_word.Goals as goal

pub returns-then-both : goal.returns-then-both
returns-then-both c = simp (c.word_of.ensures, ← c.both.ensures, c.if-both.true)

pub returns : goal.returns
returns c = simp (c.word_of-2.ensures, ← c.both.ensures, c.if-both.false)
