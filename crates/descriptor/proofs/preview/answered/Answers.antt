use Rattle.descriptor.specs.Trial.{answered}
use Rattle.descriptor.proofs.preview.answered.Goals as goal

pub returns-in-Refused : goal.returns-in-Refused
unfolding answered
returns-in-Refused c = simp c.in-Refused.is

pub returns-in-Given : goal.returns-in-Given
unfolding answered
returns-in-Given c = simp (c.given.ensures, c.in-Given.is)
