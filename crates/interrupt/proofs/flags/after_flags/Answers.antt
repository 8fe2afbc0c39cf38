use Rattle.interrupt.specs.StopsLaws.{pauses-in, goes_in}
use Rattle.interrupt.specs.Continuations.{after_flags}
use mathlib.Core.Path.{refl}
use Rattle.interrupt.proofs.flags.after_flags.Goals as goal

pub returns-then-bus_rst : goal.returns-then-bus_rst
unfolding after_flags
returns-then-bus_rst c =
    pauses-in c.stand_bus_rst.ensures refl (λ b. simp (
      c.set_int_en.ensures.s_after,
      c.with_bus_rst-word.ensures,
      c.load_globals-g.ensures,
      ← c.bus_rst.ensures,
      c.if-bus_rst.true,
      ← c.byte-f.ensures,
    ))

pub returns : goal.returns
unfolding after_flags
returns c =
    goes_in c.suspend.ensures (λ b. simp (← c.bus_rst.ensures, c.if-bus_rst.false, ← c.byte-f.ensures))
