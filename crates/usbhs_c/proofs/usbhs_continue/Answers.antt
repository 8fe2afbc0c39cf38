use mathlib.Core.Path.{sym, ◌∙◌}
use Rattle.calls.specs.ProceedsLaws.{interrupt-shared}
use Rattle.usbhs_c.proofs.usbhs_continue.Goals as goal

pub interrupt-requires : goal.interrupt-requires
interrupt-requires c = sym c.tag.ensures ∙ c.if-tag-eq-INTERRUPT.true

pub returns-then-tag-eq-INTERRUPT : goal.returns-then-tag-eq-INTERRUPT
returns-then-tag-eq-INTERRUPT c =
    let the-tag = sym c.tag.ensures ∙ c.if-tag-eq-INTERRUPT.true in (
      _,
      c.interrupt.ensures.pins_from.0,
      (
        λ a. interrupt-shared c.args.driver c.args.value c.args.s.now c.args.time.now a c.args.slots.now _ the-tag
            (c.interrupt.ensures.by_index a),
        (c.interrupt.ensures.buffer_unchanged_on_row1, c.interrupt.ensures.pins_from.1),
      ),
    )

pub operation_word-requires : goal.operation_word-requires
operation_word-requires c h = c.if-tag-eq-INTERRUPT.false (c.tag.ensures ∙ h)
