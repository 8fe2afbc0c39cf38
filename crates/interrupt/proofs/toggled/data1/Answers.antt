use Rattle.interrupt.proofs.toggled.data1.Goals as goal

pub returns-then-is_data1 : goal.returns-then-is_data1
returns-then-is_data1 c = simp (← c.is_data1.ensures, c.if-is_data1.true)

pub returns : goal.returns
returns c = simp (← c.is_data1.ensures, c.if-is_data1.false)
