use Rattle.regs.proofs.enables.place.Goals as goal

pub returns-in-In : goal.returns-in-In
returns-in-In c = simp c.in-In.is

pub returns-in-Out : goal.returns-in-Out
returns-in-Out c = simp c.in-Out.is
