use mathlib.Core.Path.{◌≡◌}
use mathlib.Core.List.{List}
use Prim.Native.Nat.{ℕ, ◌<◌}
use Rattle.state.specs.State.{view, saved}
use Rattle.isochronous.specs.Late.{walking}
use Rattle.isochronous.proofs.late.find.Given as goal

abbrev pub invariant-loop-eps : goal.invariant-loop-eps
invariant-loop-eps l = (l.eps < 65536) × (((b : List ℕ) → walking l.frame l.eps (view l.s, b)
    ≡ walking l.frame l.m (view l.initial.s, b)) × (saved l.s ≡ saved l.initial.s))

abbrev pub decreases-loop-eps : goal.decreases-loop-eps
decreases-loop-eps l = l.eps
