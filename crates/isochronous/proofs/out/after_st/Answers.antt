use mathlib.Core.Path.{sym, ◌∙◌}
use Rattle.state.specs.State.{view}
use Rattle.isochronous.specs.OutLaws.{status-out, status-marked}
use Rattle.isochronous.proofs.out.after_st.Goals as goal

pub returns-then-arriving : goal.returns-then-arriving
returns-then-arriving c = (
  c.walk_on.ensures.0 ∙ sym (status-out c.args.x c.args.iso c.args.e c.args.m c.args.v (view c.args.s.now, c.args.buf.now)
      (rw c.byte-st.ensures at (sym c.arriving.ensures ∙ c.if-arriving.true))),
  (c.walk_on.ensures.1.0, c.walk_on.ensures.1.1),
)

pub returns : goal.returns
returns c =
    let r = c.arm.ensures c.args.x c.args.iso in (
      r.0 ∙ sym (status-marked c.args.x c.args.iso c.args.e c.args.m c.args.v _ (view c.args.s.now, c.args.buf.now)
          (rw c.byte-st.ensures at (sym c.arriving.ensures ∙ c.if-arriving.false)) c.marked-len.ensures),
      (r.1.0, r.1.1),
    )
