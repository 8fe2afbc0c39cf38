use Rattle.machine.specs.Suspended.{machine_of}
use Rattle.calls.specs.Enabling.{disables}
use Rattle.calls.proofs.shared_time.begin_set_enabled.Goals as goal

pub returns-then-on : goal.returns-then-on
returns-then-on c = (
  λ a. simp c.if-on.true (c.enable.ensures.0 a),
  c.enable.ensures.1,
)

pub returns : goal.returns
returns c = (
  λ a. disables c.args.driver c.args.dir c.args.e c.args.on (machine_of c.args.s.now a) c.args.time.now c.args.slots.now _
      c.if-on.false (c.begin_set_enabled.ensures.0 a),
  c.begin_set_enabled.ensures.1,
)
