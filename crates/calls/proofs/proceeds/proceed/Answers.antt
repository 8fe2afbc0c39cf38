use mathlib.Core.Path.{sym, subst, ◌∙◌}
use Rattle.answer.specs.declared.Step.{Step}
use Rattle.machine.specs.Suspended.{SavedByAnswer}
use Rattle.calls.specs.ProceedsLaws.{interrupt-shared, named}
use Rattle.calls.proofs.proceeds.proceed.Goals as goal

pub interrupt-requires : goal.interrupt-requires
interrupt-requires c = sym c.tag.ensures ∙ c.if-tag-eq-INTERRUPT.true

pub returns-then-tag-eq-INTERRUPT : goal.returns-then-tag-eq-INTERRUPT
returns-then-tag-eq-INTERRUPT c =
    let the-tag = sym c.tag.ensures ∙ c.if-tag-eq-INTERRUPT.true in (
      λ a. interrupt-shared c.args.driver c.args.v c.args.s.now c.args.time.now a c.args.slots.now _ the-tag
          (named _ _ c.step_of.ensures _ _ _ (c.interrupt.ensures.by_index a)),
      (c.interrupt.ensures.buffer_unchanged_on_row1, subst (λ (z : Step). SavedByAnswer z c.args.s.now c.interrupt.new.s) (sym c.step_of.ensures) c.interrupt.ensures.pins_from.1),
    )

pub operate-requires : goal.operate-requires
operate-requires c h = c.if-tag-eq-INTERRUPT.false (c.tag.ensures ∙ h)
