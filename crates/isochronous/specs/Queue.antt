-- The script of queue behind rows 4 and 5
use Rattle.std.specs.Prelude.{false, List, ℕ}
use Rattle.script.specs.Script.{Script}
use Rattle.script.specs.Answers.{Answer}
use Rattle.script.specs.Driver as scripts

abbrev pub queueing : ℕ → List ℕ → Script false Answer
queueing ep bytes = scripts.queueing ep bytes
