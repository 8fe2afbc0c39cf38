use Rattle.alloc.specs.Alloc.{add_to}
use Rattle.alloc.proofs.masks.add_to.Goals as goal

pub returns-then-here : goal.returns-then-here
unfolding add_to
returns-then-here c = simp (c.with.ensures, c.if-here.true)

pub returns-else-here : goal.returns-else-here
unfolding add_to
returns-else-here c = simp c.if-here.false
