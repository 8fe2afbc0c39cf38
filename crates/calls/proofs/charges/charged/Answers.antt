use borrow.Enum.Refused.{opened}
use mathlib.Core.List.{[]}
use Rattle.machine.specs.Suspended.{answer_of}
use Rattle.calls.proofs.Unasked.{unasked, uncharged}
use Rattle.calls.proofs.charges.charged.Goals as goal

pub returns-in-Asks : goal.returns-in-Asks
returns-in-Asks c x = simp c.in-Asks.is c.charge.ensures

pub returns-in_default : goal.returns-in_default
returns-in_default c x =
    uncharged _ (answer_of c.args.step [] x) (unasked c.args.step x (opened c.in_default.in_default-own.keys2)) c.args.at c.args.c
