use Rattle.ring.proofs.Laws.{run-four}
use Rattle.ring.proofs.marks.mark_four.Goals as goal

pub returns : goal.returns
returns c =
    rw (c.mark_word-4.ensures, c.mark_word-3.ensures, c.mark_word-2.ensures, c.mark_word.ensures)
    (run-four c.args.part.now c.args.i)
