-- A change of one field of a control word leaves the others, and a word made of its fields has them. Assumes nothing.
use Rattle.std.specs.Prelude.{◌≡◌, ℕ, ◌%◌}
use Rattle.std.proofs.Common.{arith}
use Rattle.regs.specs.ControlWord.{toggle, with_toggle}

pub toggle-with : (w t : ℕ) → toggle (with_toggle w t) ≡ t % 4
unfolding toggle with_toggle
toggle-with w t = omega arith
