-- What ServedLaws.antt speaks of. It proves: the readings of an interrupt counted in the answers of the calls: at most
-- 4,056, whatever calls fall between
use Rattle.std.specs.Prelude.{Bool, false, cond, ℕ, ◌+◌}
use Rattle.state.specs.Driver.{Driver}
use Rattle.script.specs.Answers.{Answer}
use Rattle.script.specs.Machine.{Ans, ended, handed, told, Pending, idle, busy, Machine}
use Rattle.script.specs.Readings.{reading}

-- is an interrupt under way?
abbrev pub serving : Pending Answer Driver → Bool
serving idle = false
serving (busy i a k) = i

-- the readings in an answer
abbrev pub asked : Ans Answer → ℕ
asked (ended a) = 0
asked (handed q) = reading q
asked (told n) = 0

-- with the n of the calls after it; none where it leaves no interrupt under way
abbrev pub and_then : Ans Answer × Machine Answer Driver → ℕ → ℕ
and_then x n = cond (serving x.1.under_way_lem) (asked x.0 + n) 0
