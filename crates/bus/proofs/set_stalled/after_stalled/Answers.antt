use Rattle.bus.proofs.set_stalled.after_stalled.Goals as goal

pub returns-then-is_stalled : goal.returns-then-is_stalled
returns-then-is_stalled c =
    λ d b. simp (c.if-is_stalled.true, ← c.is_stalled.ensures, ← c.byte.ensures)

pub returns : goal.returns
returns c = λ d b. simp (c.if-is_stalled.false, ← c.is_stalled.ensures, ← c.byte.ensures)
