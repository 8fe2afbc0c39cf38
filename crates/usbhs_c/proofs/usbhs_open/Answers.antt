use mathlib.Core.Path.{◌∙◌, ap}
use Rattle.answer.specs.Goes.{StepResult}
use Rattle.usbhs_c.specs.Stamp.{stamp_by}
use Rattle.usbhs_c.proofs.usbhs_open.Goals as goal

pub returns : goal.returns
returns c = (
  (_, c.word_of.ensures, (c.open-step.ensures.by_index, (c.open-step.ensures.shown_at, c.open-step.ensures.s_unchanged))),
  λ b. c.stamp_by.ensures c.args.slots.now _ ∙ ap (λ (x : StepResult). stamp_by x.0 c.args.stamp.now)
      (c.open-step.ensures.by_index b),
)
