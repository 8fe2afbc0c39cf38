use Rattle.recorder.specs.RecordingLaws.{stored-none, stored_last, stored_one}
use Rattle.recorder.proofs.recording.stored.Goals as goal

pub returns-then-r-eq0 : goal.returns-then-r-eq0
returns-then-r-eq0 c = stored-none _ c.if-r-eq0.true

pub returns-then-r-eq1 : goal.returns-then-r-eq1
returns-then-r-eq1 c = stored_last _ c.if-r-eq1.true

pub returns : goal.returns
returns c = stored_one _ c.if-r-eq0.false c.if-r-eq1.false
