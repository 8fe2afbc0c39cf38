use mathlib.Core.Bool.{true≢false}
use mathlib.Core.Path.{sym, ◌∙◌}
use Rattle.readings.proofs.are_taken.Goals as goal

pub returns-then-fits-2 : goal.returns-then-fits-2
returns-then-fits-2 c h = (
  sym c.fits.ensures ∙ c.if-fits.true,
  sym c.fits-then-fits.ensures ∙ c.if-fits-2.true,
  sym c.fits-then-fits-2.ensures ∙ h,
)

pub returns-then-fits : goal.returns-then-fits
returns-then-fits c h = absurd (true≢false (sym h))

pub returns : goal.returns
returns c h = absurd (true≢false (sym h))
