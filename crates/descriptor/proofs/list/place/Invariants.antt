use mathlib.Core.Path.{◌≡◌}
use Prim.Native.Nat.{◌+◌, ◌-◌, ◌≤◌}
use lib.ListN.{length, drop}
use Rattle.descriptor.specs.Endpoints.{listed, place_of}
use Rattle.descriptor.specs.Lists.{Tidy}
use Rattle.descriptor.proofs.list.place.Given as goal

abbrev pub invariant-loop-i : goal.invariant-loop-i
invariant-loop-i l = Tidy l.list × (l.i ≤ length (listed l.list))
    × (place_of l.address (listed l.list) ≡ l.i + place_of l.address (drop l.i (listed l.list)))

abbrev pub decreases-loop-i : goal.decreases-loop-i
decreases-loop-i l = l.list.count - l.i
