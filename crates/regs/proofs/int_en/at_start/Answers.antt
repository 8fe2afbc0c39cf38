use Rattle.regs.proofs.int_en.at_start.Goals as goal

pub returns-then-callback : goal.returns-then-callback
returns-then-callback c = rw c.if-callback.true

pub returns : goal.returns
returns c = rw c.if-callback.false
