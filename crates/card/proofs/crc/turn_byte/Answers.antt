use Rattle.std.proofs.Common.{sym, ◌∙◌, arith}
use Rattle.card.proofs.Laws.{turns_more, turns-none}
use Rattle.card.proofs.crc.turn_byte.Goals as goal

pub loop-bit-preserved : goal.loop-bit-preserved
loop-bit-preserved c =
    rw c.turn-kept.ensures (sym (turns_more c.loop-bit._bit c.loop-bit.kept c.loop-bit.x (omega arith))
    ∙ c.loop-bit.invariant)

pub returns : goal.returns
returns c =
    sym (turns-none c.loop-bit._bit c.loop-bit.kept c.loop-bit.x (omega arith)) ∙ c.loop-bit.invariant
