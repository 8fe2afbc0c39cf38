-- An endpoint's record, as a script assigns it
use Rattle.std.specs.Prelude.{◌≡◌, ℕ}
use Rattle.regs.specs.declared.Dir.{Dir}
use Rattle.state.specs.Driver.{Driver, ep_on, with_on}
use Rattle.script.specs.Cells.{EpCore}
use Rattle.script_ops.specs.Records.{plain_of, merged}

abbrev pub modified_on : Dir → ℕ → (EpCore → EpCore) → Driver → Driver
modified_on dir e f d = with_on d dir e (merged (ep_on d dir e) (f (plain_of (ep_on d dir e))))
