use Rattle.std.proofs.Common.{eq-eqb, ne_eqb}
use Rattle.card.specs.Calls.{in_blocks}
use Rattle.card.proofs.blocks.in_blocks.Goals as goal

pub returns-then-stream-eq0 : goal.returns-then-stream-eq0
unfolding in_blocks
returns-then-stream-eq0 c = simp (eq-eqb _ _ c.if-stream-eq0.true)

pub returns-else-stream-eq0 : goal.returns-else-stream-eq0
unfolding in_blocks
returns-else-stream-eq0 c = simp (ne_eqb _ _ c.if-stream-eq0.false)
