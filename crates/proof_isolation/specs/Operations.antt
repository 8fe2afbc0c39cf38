-- What OperationsLaws.antt speaks of. It proves: the calls of document 01 that both runs get: each answers the same but
-- for the channel's wake-ups and lines up
use Rattle.std.specs.Prelude.{◌≢◌, ◌≡◌, ℕ}
use Rattle.regs.specs.declared.Dir.TheVariants.{Out}
use Rattle.state.specs.Driver.{key}
use Rattle.script.specs.Calls.{Slotted, SetEnabled, PollRead, BeginWrite, PollWrite, PollDataOut, BeginDataIn}
use Rattle.script.specs.Calls.{Aside}
use Rattle.script.specs.Calls.{Op, interrupt, slotted, other, aside}
use Rattle.proof_isolation.specs.Asides.{Others, Mine}

-- all calls but those on the channel itself whose answers tell its data: a poll of its read, its open and its close
abbrev pub CommonSlots : ℕ → Slotted → Type 0
CommonSlots x (SetEnabled dir e onn) = Unit {0}
CommonSlots x (PollRead e n) = key Out e ≢ key Out x
CommonSlots x (BeginWrite e bytes) = Unit {0}
CommonSlots x (PollWrite e bytes) = Unit {0}
CommonSlots x (PollDataOut n) = Unit {0}
CommonSlots x (BeginDataIn bytes first last) = Unit {0}

abbrev pub Common : ℕ → Op → Type 0
Common x interrupt = Unit {0}
Common x (slotted o) = CommonSlots x o
Common x (other o) = Unit {0}
Common x (aside o) = Others x o

-- the three on the channel itself
pub data OfChannel (x : ℕ) : Op → Type 0 where
  polls : (e n : ℕ) → key Out e ≡ key Out x → OfChannel x (slotted (PollRead e n))
  passes : (o : Aside) → Mine x o → OfChannel x (aside o)
