use Rattle.interrupt.specs.Continuations.{naks_first}
use Rattle.interrupt.proofs.interrupt_entry.naks_first.Goals as goal

pub returns-then-is_sof : goal.returns-then-is_sof
unfolding naks_first
returns-then-is_sof c = simp (c.if-busy.true, ← c.is_sof.ensures, c.if-is_sof.true)

pub returns-then-busy : goal.returns-then-busy
unfolding naks_first
returns-then-busy c =
    simp (c.if-busy.true, ← c.is_sof.ensures, c.if-is_sof.false, ← c.endpoint.ensures)

pub returns : goal.returns
unfolding naks_first
returns c = simp c.if-busy.false
