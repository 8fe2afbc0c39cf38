use Rattle.std.proofs.Common.{◌≡◌}
use Rattle.channels.specs.Channels.{flagged}
use Rattle.channels.proofs.mark.Given as goal

abbrev pub invariant-loop-i : goal.invariant-loop-i
invariant-loop-i l = l.list ≡ flagged l.fn.list l.set l.i
