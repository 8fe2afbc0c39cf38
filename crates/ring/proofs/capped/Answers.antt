use Rattle.std.proofs.Common.{le-ltb, lt-ltb}
use Rattle.ring.specs.Out.{capped_at}
use Rattle.ring.proofs.capped.Goals as goal

pub returns-then-len-s : goal.returns-then-len-s
unfolding capped_at
returns-then-len-s c = simp (lt-ltb _ _ c.if-len-s.true)

pub returns-else-len-s : goal.returns-else-len-s
unfolding capped_at
returns-else-len-s c = simp (le-ltb _ _ c.if-len-s.false)
