use Rattle.alloc.specs.Alloc.{allocated}
use Rattle.alloc.proofs.endpoint.Goals as goal

pub returns : goal.returns
unfolding allocated
returns c = simp (c.by_loan.ensures, c.flag.ensures, ← c.is_iso.ensures)
