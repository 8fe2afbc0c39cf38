use Rattle.std.proofs.Common.{arith, length-set}
use Rattle.ring.proofs.Laws.{stores}
use Rattle.ring.proofs.marks.mark_word.Goals as goal

pub bounds-part-a-2 : goal.bounds-part-a-2
bounds-part-a-2 c = simp length-set (omega arith)

pub bounds-part-a-3 : goal.bounds-part-a-3
bounds-part-a-3 c = simp length-set (omega arith)

pub bounds-part-a-4 : goal.bounds-part-a-4
bounds-part-a-4 c = simp length-set (omega arith)

pub returns : goal.returns
returns c = stores c.args.part.now c.args.i
