use native.Mathlib.Nat.{mod-eq_of_lt}
use Rattle.alloc.proofs.masks.with.Goals as goal

pub returns : goal.returns
returns c = rw (c.mask_with.ensures, mod-eq_of_lt c.requires)
