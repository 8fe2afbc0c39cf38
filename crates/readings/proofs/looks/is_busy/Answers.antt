use mathlib.Core.Bool.{true≢false}
use mathlib.Core.Path.{sym, ap, ◌∙◌}
use native.Mathlib.Omega.{arith}
use Rattle.regs.specs.MisStatus.{sie_free}
use Rattle.interrupt.specs.TransferLaws.{wider}
use Rattle.readings.specs.LooksLaws.{is_false}
use Rattle.readings.proofs.looks.is_busy.Goals as goal

pub byte-requires : goal.byte-requires
byte-requires c = wider _ 2 (omega arith) (sym c.fits.ensures ∙ c.if-fits.true)

pub returns-then-fits : goal.returns-then-fits
returns-then-fits c h = (
  sym c.fits.ensures ∙ c.if-fits.true,
  ap sie_free (sym c.byte.ensures) ∙ (sym c.sie_free.ensures ∙ is_false _ h),
)

pub returns : goal.returns
returns c h = absurd (true≢false (sym h))
