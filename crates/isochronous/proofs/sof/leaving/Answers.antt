use Rattle.script.specs.IsoIn.{leaving}
use Rattle.isochronous.proofs.sof.leaving.Goals as goal

pub returns-then-is_in : goal.returns-then-is_in
unfolding leaving
returns-then-is_in c = simp (c.endpoint.ensures, ← c.is_in.ensures, c.if-is_in.true)

pub returns : goal.returns
unfolding leaving
returns c = simp (← c.is_in.ensures, c.if-is_in.false)
