use mathlib.Core.Path.{refl}
use Rattle.survey_c.specs.Recorder.{recorder_numbers}
use Rattle.survey_c.proofs.six_numbers.recorder_numbers.Goals as goal

pub returns : goal.returns
unfolding recorder_numbers
returns c = refl
