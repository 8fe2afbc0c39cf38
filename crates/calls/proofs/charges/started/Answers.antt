use borrow.Enum.Refused.{opened}
use mathlib.Core.List.{[]}
use Rattle.machine.specs.Suspended.{answer_of}
use Rattle.calls.specs.Sharing.{starting}
use Rattle.calls.proofs.Unasked.{unasked, unmoved}
use Rattle.calls.proofs.charges.started.Goals as goal

pub returns-in-Asks : goal.returns-in-Asks
returns-in-Asks c x d = simp c.in-Asks.is c.keep.ensures

pub returns-in_default : goal.returns-in_default
returns-in_default c x d =
    unmoved _ (answer_of c.args.step [] x) (unasked c.args.step x (opened c.in_default.in_default-own.keys2)) c.args.driver starting d
