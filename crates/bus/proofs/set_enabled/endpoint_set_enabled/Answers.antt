use Rattle.bus.specs.SetEnabledLaws.{enable-iso, enable-out}
use Rattle.state.specs.State.{view}
use mathlib.Core.Path.{◌∙◌, sym}
use Rattle.bus.specs.declared.Point.TheVariants as point
use Rattle.bus.specs.PointsLaws.{begun-at}
use borrow.Author.Rules.{rules}
use Rattle.bus.proofs.set_enabled.endpoint_set_enabled.Goals as goal

pub enum_told-1 : goal.enum_told-1
enum_told-1 c = search rules

pub returns-then-iso_out : goal.returns-then-iso_out
returns-then-iso_out c =
    let begun = begun-at (point.Switch _ _ 18) c.point.ensures
    c.after_switch-q.ensures.awaited in (
      begun.0 _ _ ∙ c.after_switch-q.ensures.buf_after
          ∙ sym (enable-iso
          c.args.dir
          c.args.e
          c.args.on
          (view c.args.s.now)
          c.args.buf.now
          c.in-Out.is
          (sym c.iso_out.ensures
          ∙ c.if-iso_out.true)),
      (c.after_switch-q.ensures.s_unchanged, begun.1),
    )

pub set_enabled_out-requires : goal.set_enabled_out-requires
set_enabled_out-requires c = sym c.iso_out.ensures ∙ c.if-iso_out.false

pub returns-else-iso_out : goal.returns-else-iso_out
returns-else-iso_out c = (
  c.set_enabled_out.ensures.0 c.args.buf.now ∙ sym (enable-out c.args.dir c.args.e
      c.args.on (view c.args.s.now) c.args.buf.now c.in-Out.is
      (sym c.iso_out.ensures ∙ c.if-iso_out.false)),
  (c.set_enabled_out.ensures.1.0, c.set_enabled_out.ensures.1.1),
)

pub returns-in-In : goal.returns-in-In
returns-in-In c = (
  simp (c.set_enabled_in.ensures.0, c.in-In.is),
  (c.set_enabled_in.ensures.1.0, c.set_enabled_in.ensures.1.1),
)
