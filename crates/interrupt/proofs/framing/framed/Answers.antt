use Rattle.interrupt.proofs.framing.framed.Goals as goal

pub returns-then-own_in : goal.returns-then-own_in
returns-then-own_in c = simp (← c.own_in.ensures, c.if-own_in.true)

pub returns : goal.returns
returns c = simp (← c.own_in.ensures, c.if-own_in.false)
