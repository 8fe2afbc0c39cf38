use Rattle.std.proofs.Common.{◌≡◌, drop}
use Rattle.card.specs.Register.{over}
use Rattle.card.proofs.crc.data_crc.Given as goal

abbrev pub invariant-loop-i : goal.invariant-loop-i
invariant-loop-i l = over l.kept (drop l.i l.bytes) ≡ over 65535 l.bytes
