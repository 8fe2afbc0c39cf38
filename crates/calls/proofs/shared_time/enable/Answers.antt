use mathlib.Core.Path.{refl, sym, ◌∙◌}
use native.Mathlib.Omega.{arith}
use Rattle.state.specs.State.{view, saved}
use Rattle.machine.specs.Suspended.{decode}
use Rattle.bus_time.specs.TimeLaws.{within}
use Rattle.calls.specs.Enabling.{turned, stopped, begun}
use Rattle.calls.proofs.shared_time.enable.Goals as goal

pub returns-then-is_accepted : goal.returns-then-is_accepted
returns-then-is_accepted c = (
  λ a. turned c.args.driver c.args.dir c.args.e (decode (saved c.args.s.now)) (view c.args.s.now) a
      c.args.slots.now c.args.time.now (sym c.is_accepted.ensures ∙ c.if-is_accepted.true) (rw (
        ← c.entry-at.ensures.value,
        ← c.charge_on-charge.ensures.value,
      ) (sym c.passes.ensures ∙ c.if-passes.true)),
  (λ h. refl, refl),
)

pub returns-then-passes : goal.returns-then-passes
returns-then-passes c = (
  λ a. stopped c.args.driver c.args.dir c.args.e (decode (saved c.args.s.now)) (view c.args.s.now) a c.args.slots.now
      c.args.time.now _
      (sym c.is_accepted.ensures ∙ c.if-is_accepted.false) (c.begin_set_enabled.ensures.0 a),
  c.begin_set_enabled.ensures.1,
)

pub charged-requires : goal.charged-requires
charged-requires c =
    record {
      at_bound = c.entry-at.ensures.upper_bound;
      c_bound = omega (
        arith,
        within _ _ _ c.entry-at.ensures.upper_bound (sym c.passes.ensures ∙ c.if-passes.false),
      );
    }

pub returns : goal.returns
returns c = (
  λ a. begun c.args.driver c.args.dir c.args.e (decode (saved c.args.s.now)) (view c.args.s.now) a
      c.args.slots.now c.args.time.now _ _ _ _ c.entry-at.ensures.value
      c.charge_on-charge.ensures.value
      (sym c.passes.ensures ∙ c.if-passes.false) (c.begin_set_enabled-step.ensures.0 a) (c.charged.ensures _),
  c.begin_set_enabled-step.ensures.1,
)
