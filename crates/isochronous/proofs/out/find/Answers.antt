use mathlib.Core.Path.{refl, sym, ◌∙◌}
use native.Mathlib.Omega.{arith}
use Rattle.state.specs.State.{view}
use Rattle.isochronous.specs.OutLaws.{walk-over, walk_at, walk_end, rest-less}
use Rattle.isochronous.proofs.out.find.Goals as goal

pub loop-m-init : goal.loop-m-init
loop-m-init c = (omega arith, λ x iso. refl)

pub returns-then-changed : goal.returns-then-changed
returns-then-changed c =
    λ x iso. c.loop-m.invariant.1 x iso ∙ walk_at x iso c.loop-m.m _ _ (view c.args.s.now, c.args.buf.now)
    c.loop-m-test.true c.loop-m.invariant.0 c.next_endpoint-e.ensures
    c.rest_of-m.ensures (sym c.changed.ensures ∙ c.if-changed.true)

pub loop-m-smaller : goal.loop-m-smaller
loop-m-smaller c =
    rest-less c.loop-m.m _ c.loop-m-test.true c.loop-m.invariant.0 c.rest_of-m.ensures

pub loop-m-preserved : goal.loop-m-preserved
loop-m-preserved c =
    let less = rest-less c.loop-m.m _ c.loop-m-test.true c.loop-m.invariant.0 c.rest_of-m.ensures in (
      omega arith,
      λ x iso. c.loop-m.invariant.1 x iso ∙ walk-over x iso c.loop-m.m _ _ (view c.args.s.now, c.args.buf.now)
          c.loop-m-test.true c.loop-m.invariant.0 c.next_endpoint-e.ensures
          c.rest_of-m.ensures (sym c.changed.ensures ∙ c.if-changed.false),
    )

pub returns : goal.returns
returns c =
    λ x iso. c.loop-m.invariant.1 x iso ∙ walk_end x iso c.loop-m.m (view c.args.s.now, c.args.buf.now) c.loop-m-test.false
