use mathlib.Core.Path.{refl}
use Rattle.script.specs.Calls as calls
use Rattle.script.specs.Answers.{operation}
use Rattle.state.specs.State.{view}
use Rattle.script.specs.IsoIn as script
use Rattle.machine.proofs.ContractsLaws.{begins, other-passed, other-stopped}
use Rattle.calls.proofs.begins.begin_microframe.Goals as goal

pub suspend_or_end-requires : goal.suspend_or_end-requires
suspend_or_end-requires c = c.microframe.ensures.1

pub returns-then-n-eq0 : goal.returns-then-n-eq0
returns-then-n-eq0 c =
    other-passed calls.Microframe 2 (operation script.microframe) _ c.stop-n.ensures (λ b. refl)
    c.if-n-eq0.true c.suspend_or_end.result _
    (begins script.microframe (view c.args.s.now) c.suspend_or_end.result _
    c.clear_wakes.ensures.s_after (c.microframe.ensures.0 _) c.suspend_or_end.ensures.steps_to)
    (c.suspend_or_end.ensures.stored _)

pub returns : goal.returns
returns c =
    other-stopped calls.Microframe 2 (operation script.microframe) _ c.stop-n.ensures (λ b. refl) c.if-n-eq0.false
