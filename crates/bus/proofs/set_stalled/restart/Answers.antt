use mathlib.Core.Path.{refl, ◌∙◌}
use Rattle.bus.specs.declared.Point.TheVariants as point
use Rattle.bus.specs.PointsLaws.{begun-at}
use Rattle.bus.specs.Points.{after_restart, woken}
use Rattle.regs.specs.declared.Dir.TheVariants as Dir
use borrow.Author.Rules.{rules}
use Rattle.bus.proofs.set_stalled.restart.Goals as goal

pub enum_told-1 : goal.enum_told-1
enum_told-1 c = search rules

pub returns-in-Out : goal.returns-in-Out
unfolding woken
returns-in-Out c =
    let begun = begun-at (point.Woken Dir.Out _) c.point.ensures refl in (
      λ b. begun.0 _ b
          ∙ rw (
            c.store_ep.ensures.s_after,
            c.restarted_out-word.ensures,
            c.load_ep-r.ensures,
            c.in-Out.is,
          ),
      (c.store_ep.ensures.s_unchanged, begun.1),
    )

pub returns-in-In : goal.returns-in-In
unfolding woken after_restart
returns-in-In c =
    let begun = begun-at (point.Restarted _ c.is_on-iso.result) c.point-in-In.ensures refl in (
      λ b. begun.0 _ b
          ∙ rw (
            c.store_ep.ensures.s_after,
            c.restarted_in-word.ensures,
            c.is_on-iso.ensures,
            c.load_ep-r.ensures,
            c.in-In.is,
          ),
      (c.store_ep.ensures.s_unchanged, begun.1),
    )
