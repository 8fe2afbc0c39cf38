use Rattle.std.proofs.Common.{◌≡◌, ◌-◌}
use Rattle.card.specs.Register.{turns}
use Rattle.card.proofs.crc.turn_byte.Given as goal

abbrev pub invariant-loop-bit : goal.invariant-loop-bit
invariant-loop-bit l = turns (8 - l._bit) l.kept l.x ≡ turns 8 l.remainder l.byte
