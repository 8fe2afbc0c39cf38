-- A descriptor's endpoints after the rows and the reading
use Rattle.std.specs.Prelude.{false, cond, List, ◌≡◌, ℕ, eqb}
use Rattle.std.proofs.Common.{◌∙◌}
use Rattle.descriptor.specs.declared.Endpoint.{Endpoint}
use Rattle.descriptor.specs.declared.Answer as reading-answer
use Rattle.descriptor.specs.declared.Answer.TheVariants as reading
use Rattle.descriptor.specs.declared.preview.Shown.{Shown}
use Rattle.descriptor.specs.Trial.{trial_of}
use Rattle.descriptor.specs.Preview.{refused_by, preview_of}
use Rattle.state.specs.declared.Allocator.{Allocator}
use Rattle.state.specs.Driver.{Driver}
use Rattle.script.specs.Tree as tree
use Rattle.script.specs.Script.{Script, run}
use Rattle.script.specs.Answers.{Answer}
use Rattle.script.specs.AllocateAll.{allocate_tried}
use Rattle.script.specs.Machine.{Buf}
use Rattle.script_ops.specs.Concrete.{concrete}
use Rattle.machine.specs.Suspended.{halts}
use Rattle.answer.specs.Goes.{StepResult}

-- ---- the list, where nothing is under way

abbrev pub trying : List Endpoint → ℕ → Script false Answer
trying es refusal = allocate_tried es refusal

abbrev pub allocated_all : List Endpoint → Driver → Buf → StepResult
allocated_all es d b = halts (run concrete (trying es (trial_of d.allocator es).refusal) (d, b))

-- ---- the preview: row 3 or 4 (n, 0 where neither stops it), else the trial on the state's allocator

abbrev pub previewed : ℕ → Allocator → List ℕ → Shown
previewed n a bytes = cond (eqb n 0) (preview_of a bytes) (refused_by n)
