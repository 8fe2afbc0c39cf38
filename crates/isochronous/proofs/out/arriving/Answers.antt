use Rattle.script.specs.IsoOut.{arriving}
use Rattle.isochronous.proofs.out.arriving.Goals as goal

pub returns-then-is_out : goal.returns-then-is_out
unfolding arriving
returns-then-is_out c = simp (← c.endpoint.ensures, ← c.is_out.ensures, c.if-is_out.true)

pub returns : goal.returns
unfolding arriving
returns c = simp (← c.is_out.ensures, c.if-is_out.false)
