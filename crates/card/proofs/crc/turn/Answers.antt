use Rattle.std.proofs.Common.{eq-eqb, ne_eqb}
use Rattle.card.specs.Register.{turned}
use Rattle.card.proofs.crc.turn.Goals as goal

pub returns-then-remainder-x : goal.returns-then-remainder-x
unfolding turned
returns-then-remainder-x c = simp (eq-eqb _ _ c.if-remainder-x.true)

pub returns : goal.returns
unfolding turned
returns c = simp (ne_eqb _ _ c.if-remainder-x.false)
