use mathlib.Core.Path.{sym, ◌∙◌}
use native.Mathlib.Omega.{arith}
use Rattle.interrupt.specs.declared.Point.TheVariants as point
use Rattle.interrupt.specs.Sites.{at-site, of_inner}
use Rattle.answer.specs.Answering.{parts3}
use Rattle.readings.specs.LooksLaws.{toggled-looks}
use Rattle.readings.proofs.looks.toggled_looks.Goals as goal

pub returns-else-j-eq0 : goal.returns-else-j-eq0
returns-else-j-eq0 c =
    let here = at-site 18 c.requires.0
    (parts3 (λ d. of_inner (point.Toggled d)) c.dir_at-d.ensures c.entry_at-e.ensures
    (sym c.in-Look.is ∙ c.toggled_at.ensures)) in (
      c.fewest-j.ensures.0,
      λ i time. toggled-looks i c.args.v c.args.s.now c.args.slots.now time (omega arith) c.requires.1
          c.requires.2 c.requires.3 _ c.fewest-j.result _
          (omega (arith, c.if-j-eq0.false)) c.fewest-j.ensures.1 _ _ _ _ c.requires.0.tagged here c.stand_toggled.ensures,
    )
