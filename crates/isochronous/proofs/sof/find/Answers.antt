use mathlib.Core.Path.{refl, sym, ◌∙◌}
use mathlib.Core.Bool.{true, false}
use native.Mathlib.Omega.{arith}
use Rattle.state.specs.State.{view}
use Rattle.isochronous.specs.Laws.{sof-none, sof-step, rest-less}
use Rattle.isochronous.proofs.sof.find.Goals as goal

pub loop-eps-init : goal.loop-eps-init
loop-eps-init c = (c.ranges.m.fits, λ b. refl)

pub returns-then-not-in_previous : goal.returns-then-not-in_previous
returns-then-not-in_previous c =
    λ b. sym (sof-step c.args.frame c.loop-eps.eps _ _ (
      view c.args.s.now,
      b,
    ) _ _ false (omega arith) c.loop-eps.invariant.0 c.next_endpoint-e.ensures c.rest_of-rest.ensures
    c.load_ep-r.ensures c.in_previous.ensures (c.if-not-in_previous.true)) ∙ c.loop-eps.invariant.1 b

pub loop-eps-smaller : goal.loop-eps-smaller
loop-eps-smaller c =
    rest-less c.loop-eps.eps _ (omega arith) c.loop-eps.invariant.0 c.rest_of-rest.ensures

pub loop-eps-preserved : goal.loop-eps-preserved
loop-eps-preserved c = (
  omega (arith, loop-eps-smaller c, c.loop-eps.invariant.0),
  λ b. sym (sof-step c.args.frame c.loop-eps.eps _ _ (
    view c.args.s.now,
    b,
  ) _ _ true (omega arith) c.loop-eps.invariant.0 c.next_endpoint-e.ensures c.rest_of-rest.ensures
      c.load_ep-r.ensures c.in_previous.ensures (c.if-not-in_previous.false))
      ∙ c.loop-eps.invariant.1 b,
)

pub returns : goal.returns
returns c =
    λ b. sym (sof-none c.args.frame c.loop-eps.eps (view c.args.s.now, b) c.loop-eps-test.false)
    ∙ c.loop-eps.invariant.1 b
