-- A begun operation's end, and what a poll leaves in the slice it was lent
use Rattle.std.specs.Prelude.{false, List, [], ◌∷◌, ℕ, zero, suc}
use Rattle.ring.specs.Copies.{over}
use Rattle.script.specs.Tree as tree
use Rattle.script.specs.Tree.{ends, asks}
use Rattle.script.specs.Script.{Script, ret, ◌>>=◌, fetch, gathered}
use Rattle.script.specs.Answers.{Answer, Refused, End, NotYet, Done, Shown}
use Rattle.script_ops.specs.Rings.{St}

-- the result with the wake-ups (`operation`)
abbrev pub finished : Script false ℕ → Script false Answer
finished p = do
  n ← p
  w ← fetch gathered
  ret (End n w)

-- the slice's first n bytes, n of them whatever its length: those past its end read 256, which no byte is
abbrev pub front : ℕ → List ℕ → List ℕ
front zero out = []
front (suc n) [] = 256 ∷ front n []
front (suc n) (x ∷ out) = x ∷ front n out

-- the bytes that were brought at the slice's front
abbrev pub brought_by : Answer → List ℕ → List ℕ
brought_by (Done bytes) out = over bytes out
brought_by (Refused n) out = out
brought_by (End n w) out = out
brought_by NotYet out = out
brought_by (Shown bytes stamp) out = out

abbrev pub lent_after : tree.Out St Answer → List ℕ → List ℕ
lent_after (ends a s) out = brought_by a out
lent_after (asks q s k) out = out
