-- No call reads more often than the table says, whatever is read and whatever becomes of the state between two accesses
use Rattle.script.specs.Calls.{Op, code, Config, starting}
use Rattle.script.specs.Readings.{Reads≤}
use Rattle.script.specs.ReadingsMost.{most}
use Rattle.script.specs.ReadingsLaws.{reads_of}
use Rattle.script.specs.SpendsCalls.{call-spends, start-up-spends}

pub call-reads : (o : Op) → Reads≤ (most o) (code o)
call-reads o = reads_of (call-spends o)

pub start-up-reads : (c : Config) → Reads≤ 1 (starting c)
start-up-reads c = reads_of (start-up-spends c)
