use mathlib.Core.Bool.{true≢false}
use mathlib.Core.Path.{sym, ◌∙◌}
use Rattle.readings.proofs.may_pass.Goals as goal

pub returns-then-slots_fit : goal.returns-then-slots_fit
returns-then-slots_fit c h =
    let taken = c.are_taken.ensures h in (
      sym c.tag.ensures ∙ c.if-tag-eq-INTERRUPT.true,
      sym c.site_byte.ensures ∙ c.if-site_byte-eq-MIS.true,
      sym c.slots_fit.ensures ∙ c.if-slots_fit.true,
      taken.0,
      taken.1,
      taken.2,
    )

pub returns-then-site_byte-eq-MIS : goal.returns-then-site_byte-eq-MIS
returns-then-site_byte-eq-MIS c h = absurd (true≢false (sym h))

pub returns-then-tag-eq-INTERRUPT : goal.returns-then-tag-eq-INTERRUPT
returns-then-tag-eq-INTERRUPT c h = absurd (true≢false (sym h))

pub returns : goal.returns
returns c h = absurd (true≢false (sym h))
