use Rattle.interrupt.specs.StopsLaws.{pauses-in}
use Rattle.interrupt.specs.Continuations.{after_st}
use mathlib.Core.Path.{refl}
use Rattle.interrupt.proofs.interrupt_entry.after_st.Goals as goal

pub returns : goal.returns
unfolding after_st
returns c = pauses-in c.stand_len.ensures refl (λ b. simp c.byte.ensures)
