use Rattle.std.specs.Prelude.{not}
use Rattle.std.proofs.Common.{ap}
use Rattle.bus.specs.Points.{after_stall_word, woken}
use mathlib.Core.Path.{refl, ◌∙◌}
use Rattle.regs.specs.declared.Dir.TheVariants as Dir
use Rattle.bus.specs.declared.Point.TheVariants as point
use Rattle.bus.specs.PointsLaws.{begun-at}
use borrow.Author.Rules.{rules}
use borrow.Author.Tests.{not-false}
use Rattle.bus.proofs.set_stalled.set_endpoint_stalled.Goals as goal

pub returns-then-not-on : goal.returns-then-not-on
returns-then-not-on c =
    (λ b. simp (c.restart.ensures.0, c.if-not-on.true), c.restart.ensures.1)

pub enum_told-1 : goal.enum_told-1
enum_told-1 c = search rules

pub returns-in-Out : goal.returns-in-Out
unfolding after_stall_word woken
returns-in-Out c =
    let begun = begun-at (point.StallWord Dir.Out _) c.point.ensures refl in (
      λ b. begun.0 _ b ∙ simp (
        c.in-Out.is,
        not-false c.args.on
            (ap not c.if-not-on.false),
      ),
      (refl, begun.1),
    )

pub returns-in-In : goal.returns-in-In
unfolding after_stall_word woken
returns-in-In c =
    let begun = begun-at (point.StallLen _) c.point-in-In.ensures refl in (
      λ b. begun.0 _ b ∙ simp (
        c.in-In.is,
        not-false c.args.on
            (ap not c.if-not-on.false),
      ),
      (refl, begun.1),
    )
