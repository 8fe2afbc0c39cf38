use mathlib.Core.Path.{refl}
use Rattle.script.specs.Calls as calls
use Rattle.script.specs.Bus as script
use Rattle.calls.specs.EntersLaws.{entered, stopped}
use Rattle.calls.proofs.bus_begins.begin_bus_poll.Goals as goal

pub suspend_or_end_bus-requires : goal.suspend_or_end_bus-requires
suspend_or_end_bus-requires c = c.poll-x.ensures.1.1

pub returns-then-n-eq0 : goal.returns-then-n-eq0
returns-then-n-eq0 c =
    entered calls.BusPoll script.poll _ _ c.enter-n.ensures (λ b. refl) c.if-n-eq0.true
    c.suspend_or_end_bus.result _ c.poll-x.ensures.0 c.suspend_or_end_bus.ensures.steps_to
    (c.suspend_or_end_bus.ensures.stored _)

pub returns : goal.returns
returns c =
    stopped calls.BusPoll script.poll _ _ c.enter-n.ensures (λ b. refl) c.if-n-eq0.false
