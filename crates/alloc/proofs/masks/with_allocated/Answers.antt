use Rattle.alloc.specs.Alloc.{with_allocated}
use Rattle.alloc.proofs.masks.with_allocated.Goals as goal

pub returns : goal.returns
unfolding with_allocated
returns c = simp (c.add_to-2.ensures, ← c.add_to.ensures, ← c.is_out-out.ensures)
