use mathlib.Core.Path.{refl}
use Rattle.survey_c.specs.Card.{numbers_of}
use Rattle.survey_c.proofs.writer.numbers_of.Goals as goal

pub returns : goal.returns
unfolding numbers_of
returns c = refl
