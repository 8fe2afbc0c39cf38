use mathlib.Core.Path.{◌≡◌}
use mathlib.Core.Bool.{Bool}
use Prim.Native.Nat.{◌<◌}
use Rattle.state.specs.State.{view}
use Rattle.script.specs.declared.Transfer.{Transfer}
use Rattle.script_ops.specs.Concrete.{go}
use Rattle.isochronous.specs.Points.{walk}
use Rattle.isochronous.proofs.out.find.Given as goal

abbrev pub invariant-loop-m : goal.invariant-loop-m
invariant-loop-m l = (l.m < 65536) × ((x : Transfer) (iso : Bool) → go (walk x iso l.mask) (view l.s) l.buf
    ≡ go (walk x iso l.m) (view l.s) l.buf)

abbrev pub decreases-loop-m : goal.decreases-loop-m
decreases-loop-m l = l.m
