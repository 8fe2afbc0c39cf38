-- A continue, by what is under way
use Rattle.std.specs.Prelude.{◌≡◌}
use Rattle.std.proofs.Common.{◌∙◌}
use Rattle.state.specs.Driver.{Driver}
use Rattle.script.specs.Answers.{Answer}
use Rattle.script.specs.Machine.{Machine, Ans}

abbrev pub StepResult : Type 0
StepResult = Ans Answer × Machine Answer Driver
