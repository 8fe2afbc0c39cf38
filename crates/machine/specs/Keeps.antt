-- The saved bytes: canonical ones, and those of a call that changed the state before its operation stood
use Rattle.std.specs.Prelude.{List, ◌≡◌, ℕ}
use Rattle.std.proofs.Common.{◌∙◌}
use Rattle.state.specs.State.{saved}
use Rattle.state.specs.Fresh.{nothing}
use Rattle.script.specs.Answers.{Answer, Refused, End, NotYet, Done, Shown}
use Rattle.script.specs.Machine.{Ans, ended, handed, told}
use Rattle.answer.specs.declared.Step.TheVariants as step
use Rattle.machine.specs.Suspended.{Canonical}

-- ---- the same by an answer of the machine of calls: after a question they stay

abbrev KeptEnd : Answer → List ℕ → List ℕ → Type 0
KeptEnd (Refused n) xs ys = saved ys ≡ saved xs
KeptEnd (End n ws) xs ys = saved ys ≡ nothing
KeptEnd NotYet xs ys = saved ys ≡ saved xs
KeptEnd (Done bytes) xs ys = saved ys ≡ saved xs
KeptEnd (Shown bytes stamp) xs ys = saved ys ≡ saved xs

abbrev pub KeptBy : Ans Answer → List ℕ → List ℕ → Type 0
KeptBy (ended a) xs ys = KeptEnd a xs ys
KeptBy (handed q) xs ys = Canonical ys
KeptBy (told n) xs ys = saved ys ≡ saved xs
