-- A refusal leaves every byte that was lent, but for a poll's 9 and 10: by a call's contract, of which r is Refused n
use Rattle.std.specs.Prelude.{Bool, true, false, ◌⊎◌, ◌≡◌, ℕ, eqb}
use Rattle.std.proofs.Common.{◌∙◌}
use Rattle.script.specs.Calls.{Config, Op, slots}
use Rattle.script.specs.Machine.{Call, start, begin, continue, question}
use Rattle.answer.specs.declared.Step.TheVariants as step
use Rattle.proof_refusals.specs.Left.{Poll, none, poll_of}

abbrev pub poll_in : Call Config Op → Poll
poll_in (start c) = none
poll_in (begin o) = poll_of o
poll_in (continue v) = none
poll_in (question q) = none

-- it is no poll, or the number is neither 9 nor 10
abbrev pub Spares : Call Config Op → ℕ → Type 0
Spares c n = (poll_in c ≡ none) ⊎ ((eqb n 9 ≡ false) × (eqb n 10 ≡ false))

-- the calls that bring the slots and may change them
abbrev pub BringsSlots : Call Config Op → Bool
BringsSlots (start c) = false
BringsSlots (begin o) = slots o
BringsSlots (continue v) = true
BringsSlots (question q) = false
