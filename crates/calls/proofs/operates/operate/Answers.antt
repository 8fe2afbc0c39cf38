use mathlib.Core.Path.{refl}
use Rattle.machine.specs.Suspended.{machine_of}
use Rattle.calls.specs.SharingLaws.{settles}
use Rattle.script.specs.Machine.{continue}
use Rattle.calls.proofs.operates.operate.Goals as goal

pub operation-step-requires : goal.operation-step-requires
operation-step-requires c = c.requires

pub returns : goal.returns
returns c = (
  λ a. settles c.args.driver (continue c.args.v) (machine_of c.args.s.now a) c.args.time.now c.args.slots.now _ _ refl
      (c.operation-step.ensures.by_index a)
      (c.gone_on.ensures _ _),
  (c.operation-step.ensures.buffer_unchanged_on_row1, c.operation-step.ensures.saved_by_answer),
)
