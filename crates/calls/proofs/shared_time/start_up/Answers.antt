use mathlib.Core.Path.{refl}
use Rattle.machine.specs.Suspended.{machine_of, config_of}
use Rattle.calls.specs.SharingLaws.{settles}
use Rattle.script.specs.Machine.{start}
use Rattle.calls.proofs.shared_time.start_up.Goals as goal

pub returns : goal.returns
returns c =
    record {
      by_index = λ a. settles c.args.driver (start (config_of c.args.size c.args.count c.args.callback)) (machine_of c.args.s.now a)
          c.args.time.now c.args.slots.now _ _ refl (c.start_up-step.ensures.by_index a) (c.started.ensures _ _);
      saved_by_answer = c.start_up-step.ensures.saved_by_answer;
    }
