use mathlib.Core.Path.{sym}
use native.Mathlib.Nat.{mod-eq_of_lt}
use Rattle.isochronous.specs.Laws.{set-above}
use Rattle.isochronous.proofs.advance.is_paced.Goals as goal

pub returns-then-e-lt16 : goal.returns-then-e-lt16
returns-then-e-lt16 c = simp (c.mask_has.ensures, mod-eq_of_lt c.if-e-lt16.true)

pub returns : goal.returns
returns c = sym (set-above c.args.mask c.args.e c.ranges.mask.fits c.if-e-lt16.false)
