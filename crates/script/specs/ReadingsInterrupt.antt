-- The interrupt has at most 4,096 readings (document 01, demand 1)
use Rattle.std.proofs.Common.{arith}
use Rattle.script.specs.Calls.{interrupt, interrupt_code}
use Rattle.script.specs.Readings.{Reads≤}
use Rattle.script.specs.ReadingsLaws.{reads_of}
use Rattle.script.specs.SpendsLaws.{more}
use Rattle.script.specs.SpendsCalls.{call-spends}

pub interrupt-reads : Reads≤ 4061 interrupt_code
interrupt-reads = reads_of (call-spends interrupt)

-- demand 1
pub interrupt-4096 : Reads≤ 4096 interrupt_code
interrupt-4096 = reads_of {w = 0} (more (call-spends interrupt) (omega arith) (omega arith))
