-- The same of the Rattle code: what its calls make of the lent bytes. The contract of each call says that it is one
-- step of the machine of calls that the bytes are (machine/specs/Suspended.antt), so what is claimed of lists of calls
-- is claimed of calls that were made
use Rattle.std.specs.Prelude.{List, [], ◌∷◌}
use Rattle.state.specs.Driver.{Driver}
use Rattle.script.specs.Answers.{Answer}
use Rattle.script.specs.Machine.{Machine}
use Rattle.machine.specs.Suspended.{machine_of}
use Rattle.proof_book.specs.FrontPage.{CallRecord}
use Rattle.proof_usb20.specs.Observer.{Observer, serves, Watched, noted, Claim, Standing}

-- the machine that a call left
abbrev pub left : CallRecord → Machine Answer Driver
left m = machine_of m.bytes m.slots

module _ (O : Observer) where
  -- the observer's log after a call that was made: told the call, its answer, the slot buffer before and after it, and
  -- whether an operation is under way after it
  abbrev pub told : CallRecord → Watched O → Watched O
  told m x = noted O m.event.call m.event.lent m.slots m.answer (serves (left m).under_way_lem) x

  -- what is claimed of each call, and of the state where nothing is under way after it
  abbrev pub CodeAll : List CallRecord → Watched O → Type 0
  CodeAll [] x = Unit {0}
  CodeAll (m ∷ ms) x = Claim O m.event.call m.event.lent m.slots m.answer (serves (left m).under_way_lem) x
      × Standing O (left m).st (told m x).log (told m x).under × CodeAll ms (told m x)
