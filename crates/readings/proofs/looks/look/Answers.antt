use mathlib.Core.Path.{sym, ◌∙◌}
use Rattle.readings.proofs.looks.look.Goals as goal

pub settle_looks-requires : goal.settle_looks-requires
settle_looks-requires c =
    let busy = c.is_busy.ensures c.if-is_busy.true in (
      record {
        tagged = sym c.tag.ensures ∙ c.if-tag-eq-INTERRUPT.true;
        numbered = sym c.site_byte-site.ensures ∙ c.if-site-eq-SETTLE.true;
      },
      sym c.slots_fit.ensures ∙ c.if-slots_fit.true,
      busy.0,
      busy.1,
    )

pub toggled_looks-requires : goal.toggled_looks-requires
toggled_looks-requires c =
    let busy = c.is_busy.ensures c.if-is_busy.true in (
      record {
        tagged = sym c.tag.ensures ∙ c.if-tag-eq-INTERRUPT.true;
        numbered = sym c.site_byte-site.ensures ∙ c.if-site-eq-TOGGLED.true;
      },
      sym c.slots_fit.ensures ∙ c.if-slots_fit.true,
      busy.0,
      busy.1,
    )
