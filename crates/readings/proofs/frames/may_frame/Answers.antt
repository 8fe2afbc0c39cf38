use mathlib.Core.Bool.{true≢false}
use mathlib.Core.Path.{sym, ◌∙◌}
use Rattle.readings.proofs.frames.may_frame.Goals as goal

pub returns-then-slots_fit : goal.returns-then-slots_fit
returns-then-slots_fit c h = (
  record {
    tagged = sym c.tag.ensures
        ∙ c.if-tag-eq-INTERRUPT.true;
    numbered = sym c.site_byte.ensures ∙ c.if-site_byte-eq-RELEASED.true;
  },
  sym c.slots_fit.ensures ∙ c.if-slots_fit.true,
  sym c.fits.ensures ∙ h,
)

pub returns-then-site_byte-eq-RELEASED : goal.returns-then-site_byte-eq-RELEASED
returns-then-site_byte-eq-RELEASED c h = absurd (true≢false (sym h))

pub returns-then-tag-eq-INTERRUPT : goal.returns-then-tag-eq-INTERRUPT
returns-then-tag-eq-INTERRUPT c h = absurd (true≢false (sym h))

pub returns : goal.returns
returns c h = absurd (true≢false (sym h))
