use mathlib.Core.Path.{◌≡◌, refl, ap, ◌∙◌}
use native.Mathlib.Omega.{arith}
use Rattle.regs.specs.declared.Dir.TheVariants.{In}
use Rattle.state.specs.State.{view}
use Rattle.script_ops.specs.Rings.{reset_below}
use Rattle.script_ops.specs.RingLaws.{renewed, reset-next}
use Rattle.script_ops.proofs.slots.reset_eps.Goals as goal

pub loop-e-init : goal.loop-e-init
unfolding reset_below
loop-e-init c = (omega arith, (refl, refl))

pub loop-e-preserved : goal.loop-e-preserved
loop-e-preserved c = (
  omega arith,
  (
    c.reset_one-in-loop-e.ensures.s_after ∙ ap (renewed In c.loop-e.e) c.reset_one.ensures.s_after ∙ reset-next c.loop-e.e
        (view c.args.s.now) (view c.loop-e.s) c.loop-e.invariant.1.0,
    c.reset_one-in-loop-e.ensures.s_unchanged ∙ c.reset_one.ensures.s_unchanged ∙ c.loop-e.invariant.1.1,
  ),
)

pub returns : goal.returns
returns c =
    let h : c.loop-e.e ≡ 16 = omega arith in
    record {
      s_after = rw h at c.loop-e.invariant.1.0;
      s_unchanged = c.loop-e.invariant.1.1;
    }
