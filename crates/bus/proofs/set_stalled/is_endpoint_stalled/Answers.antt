use mathlib.Core.Path.{◌∙◌}
use Rattle.bus.specs.Laws.{word_width}
use Rattle.bus.specs.declared.Point.TheVariants as point
use Rattle.bus.specs.PointsLaws.{begun-at}
use Rattle.regs.specs.declared.Access.TheVariants.{Read}
use Rattle.bus.proofs.set_stalled.is_endpoint_stalled.Goals as goal

pub returns : goal.returns
returns c =
    let word = Read c.ctrl_of.result c.args.e in
    let begun = begun-at point.Stalled {q = word} c.point.ensures
    (simp (c.ctrl_of.ensures, word_width)) in
    (λ d b. begun.0 d b ∙ simp c.ctrl_of.ensures, begun.1)
