use mathlib.Core.Path.{sym, ◌∙◌}
use native.Mathlib.Omega.{arith}
use Rattle.interrupt.specs.declared.Point.TheVariants as point
use Rattle.interrupt.specs.Sites.{at-site}
use Rattle.answer.specs.Answering.{parts3}
use Rattle.readings.specs.LooksLaws.{iso-looks, bulk-looks}
use Rattle.readings.proofs.looks.settle_looks.Goals as goal

pub returns-else-j-eq0 : goal.returns-else-j-eq0
returns-else-j-eq0 c =
    let here = at-site 11 c.requires.0 (parts3 point.Settle c.setup_at-setup.ensures
    c.transfer_at-x.ensures
    (sym c.in-IsoLook.is ∙ c.settle_at.ensures)) in (
      c.fewest-j.ensures.0,
      λ i time. iso-looks i c.args.v c.args.s.now c.args.slots.now time (omega arith) c.requires.1
          c.requires.2 c.requires.3 _ c.fewest-j.result _
          (omega (arith, c.if-j-eq0.false)) c.fewest-j.ensures.1 _ _ c.requires.0.tagged here c.stand_settle.ensures,
    )

pub returns-else-j-eq0-2 : goal.returns-else-j-eq0-2
returns-else-j-eq0-2 c =
    let here = at-site 11 c.requires.0 (parts3 point.Settle c.setup_at-setup-in-BulkLook.ensures
    c.transfer_at-x-in-BulkLook.ensures
    (sym c.in-BulkLook.is ∙ c.settle_at.ensures)) in (
      c.fewest-j-in-BulkLook.ensures.0,
      λ i time. bulk-looks i c.args.v c.args.s.now c.args.slots.now time (omega arith) c.requires.1
          c.requires.2 c.requires.3 _ c.fewest-j-in-BulkLook.result _
          (omega (arith, c.if-j-eq0-2.false)) c.fewest-j-in-BulkLook.ensures.1 _ _ c.requires.0.tagged here c.stand_settle-in-BulkLook.ensures,
    )
