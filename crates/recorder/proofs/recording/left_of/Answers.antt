use native.Mathlib.Omega.{arith}
use Rattle.recorder.specs.RecordingLaws.{left-none, left-low, left-some, left-many}
use Rattle.recorder.proofs.recording.left_of.Goals as goal

pub returns-then-number-from : goal.returns-then-number-from
returns-then-number-from c = left-none _ _ c.if-number-from.true

pub returns-then-number-from-2 : goal.returns-then-number-from-2
returns-then-number-from-2 c = left-low _ _ (omega arith)

pub returns-then-number-from-lt3 : goal.returns-then-number-from-lt3
returns-then-number-from-lt3 c = left-some _ _ _ (omega arith) (omega arith)

pub returns : goal.returns
returns c = left-many _ _ (omega arith)
