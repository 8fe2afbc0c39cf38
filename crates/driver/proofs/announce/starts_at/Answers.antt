use Rattle.driver.specs.Announce.{starts_at}
use Rattle.driver.proofs.announce.starts_at.Goals as goal

pub returns-then-is_allocated : goal.returns-then-is_allocated
unfolding starts_at
returns-then-is_allocated c =
    simp (← c.load_ep-r.ensures, ← c.is_allocated.ensures, c.if-is_allocated.true)

pub returns : goal.returns
unfolding starts_at
returns c = simp (← c.is_allocated.ensures, c.if-is_allocated.false)
