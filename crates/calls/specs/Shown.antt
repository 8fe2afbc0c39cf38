-- Where a packet is shown
use Rattle.std.specs.Prelude.{◌≡◌, ℕ}
use Rattle.regs.specs.declared.Dir.TheVariants.{Out}
use Rattle.state.specs.Driver.{Driver}
use Rattle.script_ops.specs.Rings.{oldest_at, next_len, next_stamp}
use Rattle.answer.specs.declared.Step.{Step}
use Rattle.answer.specs.declared.Step.TheVariants as step

-- it is the oldest, and all of it, with its stamp
abbrev pub ShownAt : Step → Driver → ℕ → Type 0
ShownAt (step.Refused n) d e = Unit {0}
ShownAt (step.Asks q) d e = Unit {0}
ShownAt (step.Ends n w) d e = Unit {0}
ShownAt step.NotYet d e = Unit {0}
ShownAt (step.Done n) d e = Unit {0}
ShownAt (step.Setup low high) d e = Unit {0}
ShownAt (step.Shown at n stamp) d e = (at ≡ oldest_at d e) × (n ≡ next_len d Out e) × (stamp ≡ next_stamp d e)
