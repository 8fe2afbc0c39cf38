use mathlib.Core.Path.{refl}
use Rattle.survey_c.specs.Recorder.{recorder_in}
use Rattle.survey_c.proofs.six_numbers.recorder_in.Goals as goal

pub returns : goal.returns
unfolding recorder_in
returns c = refl
