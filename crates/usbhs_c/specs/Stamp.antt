-- The stamp in the caller's room for it
use Rattle.std.specs.Prelude.{ℕ}
use Rattle.script.specs.Answers.{Answer, Refused, End, NotYet, Done, Shown}
use Rattle.script.specs.Machine.{Ans, ended, handed, told}

-- after a call that answers so: that of the packet shown, or what was there
abbrev pub stamp_by : Ans Answer → ℕ → ℕ
stamp_by (ended (Shown bytes stamp)) old = stamp
stamp_by (ended (Refused n)) old = old
stamp_by (ended (End n w)) old = old
stamp_by (ended NotYet) old = old
stamp_by (ended (Done bytes)) old = old
stamp_by (handed q) old = old
stamp_by (told n) old = old
