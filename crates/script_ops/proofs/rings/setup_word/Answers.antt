use Rattle.script_ops.proofs.rings.setup_word.Goals as goal

pub returns : goal.returns
returns c = simp (c.word_at.ensures, c.load_globals-g.ensures)
