use Rattle.interrupt.specs.StopsLaws.{pauses-in}
use Rattle.interrupt.specs.Continuations.{after_settle}
use mathlib.Core.Path.{refl}
use Rattle.interrupt.proofs.interrupt_entry.after_settle.Goals as goal

pub returns : goal.returns
unfolding after_settle
returns c =
    pauses-in c.stand_frame_no.ensures refl (λ b. simp (
      c.iso_for.ensures,
      c.load_ep-n.ensures,
      c.load_ep-o.ensures,
      c.endpoint-ep.ensures,
    ))
