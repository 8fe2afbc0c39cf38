-- A setup packet in the caller's 8 bytes
use Rattle.script.specs.Answers.{Refused, NotYet, Done, Shown}
use Rattle.answer.specs.declared.Step.{Step}
use Rattle.answer.specs.declared.Step.TheVariants as step

abbrev pub NoSlice : Step → Type 0
NoSlice (step.Refused n) = Unit {0}
NoSlice (step.Asks q) = Unit {0}
NoSlice (step.Ends n w) = Unit {0}
NoSlice step.NotYet = Unit {0}
NoSlice (step.Done n) = ⊥
NoSlice (step.Setup low high) = Unit {0}
NoSlice (step.Shown at n stamp) = Unit {0}
