-- A place stays below 32. Assumes nothing.
use mathlib.Core.Path.{◌≡◌}
use Prim.Native.Nat.{ℕ, ◌%◌}
use native.Mathlib.Omega.{arith}
use Rattle.regs.specs.declared.Dir.{Dir}
use Rattle.regs.specs.declared.Dir.TheVariants.{Out, In}
use Rattle.regs.specs.Enables.{place}

pub place-mod : (dir : Dir) (e : ℕ) → place dir e % 32 ≡ place dir e
place-mod In e = omega arith
place-mod Out e = omega arith
