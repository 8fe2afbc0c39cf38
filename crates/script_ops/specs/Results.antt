-- What the points of every operation have in common: the result of an operation that has none
use Rattle.std.specs.Prelude.{false, ℕ}
use Rattle.script.specs.Script.{Script, ret, ◌>>◌}

-- an operation without a result answers 0
abbrev pub resultless : Script false Unit → Script false ℕ
resultless p = do
  p
  ret 0
