use mathlib.Core.Path.{refl}
use Rattle.survey_c.specs.Card.{writer_in}
use Rattle.survey_c.proofs.writer.writer_in.Goals as goal

pub returns : goal.returns
unfolding writer_in
returns c = refl
