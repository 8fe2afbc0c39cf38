use mathlib.Core.Path.{refl, sym, ◌∙◌}
use mathlib.Core.Bool.{true, false}
use native.Mathlib.Omega.{arith}
use Rattle.state.specs.State.{view}
use Rattle.isochronous.specs.Laws.{late-none, late_step, rest-less}
use Rattle.isochronous.proofs.late.find.Goals as goal

pub loop-eps-init : goal.loop-eps-init
loop-eps-init c = (c.ranges.m.fits, (λ b. refl, refl))

pub returns-then-first_in_frame : goal.returns-then-first_in_frame
returns-then-first_in_frame c =
    record {
      by_index = λ b. sym (late_step c.args.frame c.loop-eps.eps _ _ (view c.loop-eps.s)
          _ b _ true (omega arith) c.loop-eps.invariant.0 c.next_endpoint-e.ensures c.rest_of-rest.ensures
          c.first_in_frame.ensures.s_after c.first_in_frame.ensures.value c.if-first_in_frame.true) ∙ c.loop-eps.invariant.1.0 b;
      s_unchanged = c.first_in_frame.ensures.s_unchanged ∙ c.loop-eps.invariant.1.1;
    }

pub loop-eps-smaller : goal.loop-eps-smaller
loop-eps-smaller c =
    rest-less c.loop-eps.eps _ (omega arith) c.loop-eps.invariant.0 c.rest_of-rest.ensures

pub loop-eps-preserved : goal.loop-eps-preserved
loop-eps-preserved c = (
  omega (arith, loop-eps-smaller c, c.loop-eps.invariant.0),
  (
    λ b. sym (late_step c.args.frame c.loop-eps.eps _ _ (view c.loop-eps.s) _ b _ false
        (omega arith) c.loop-eps.invariant.0 c.next_endpoint-e.ensures c.rest_of-rest.ensures
        c.first_in_frame.ensures.s_after c.first_in_frame.ensures.value c.if-first_in_frame.false) ∙ c.loop-eps.invariant.1.0 b,
    c.first_in_frame.ensures.s_unchanged ∙ c.loop-eps.invariant.1.1,
  ),
)

pub returns : goal.returns
returns c =
    record {
      by_index = λ b. sym (late-none c.args.frame c.loop-eps.eps (view c.loop-eps.s, b) c.loop-eps-test.false)
          ∙ c.loop-eps.invariant.1.0 b;
      s_unchanged = c.loop-eps.invariant.1.1;
    }
