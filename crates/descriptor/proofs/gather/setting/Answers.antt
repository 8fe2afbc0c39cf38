use mathlib.Core.Path.{sym, ◌∙◌}
use native.Mathlib.Omega.{arith}
use borrow.Author.Tests.{eqb-true}
use Rattle.descriptor.specs.WalkLaws.{setting-at}
use Rattle.descriptor.proofs.gather.setting.Goals as goal

pub bounds-bytes-at-then-is_interface : goal.bounds-bytes-at-then-is_interface
bounds-bytes-at-then-is_interface c =
    omega (arith, c.requires.here.interface (eqb-true _ _ (sym c.is_interface.ensures ∙ c.if-is_interface.true)))

pub returns-then-is_interface : goal.returns-then-is_interface
returns-then-is_interface c = rw (setting-at, ← c.is_interface.ensures, c.if-is_interface.true)

pub returns : goal.returns
returns c = rw (setting-at, ← c.is_interface.ensures, c.if-is_interface.false)
