use Rattle.interrupt.specs.StopsLaws.{pauses-in}
use Rattle.interrupt.specs.Continuations.{after_mis}
use mathlib.Core.Path.{refl}
use Rattle.interrupt.proofs.interrupt_entry.after_mis.Goals as goal

pub returns : goal.returns
unfolding after_mis
returns c =
    pauses-in c.stand_st.ensures refl (λ b. simp (c.sie_free-busy.ensures, c.byte.ensures))
