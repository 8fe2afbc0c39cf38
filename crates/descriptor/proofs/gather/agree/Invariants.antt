use mathlib.Core.Path.{◌≡◌}
use mathlib.Core.Bool.{Bool, true}
use Prim.Native.Nat.{ℕ, ◌-◌, ◌≤◌}
use lib.ListN.{length, drop}
use Rattle.descriptor.specs.Row.{is_row, endpoints_of}
use Rattle.descriptor.specs.Endpoints.{listed, agree}
use Rattle.descriptor.specs.Reading.{endpoints}
use Rattle.descriptor.proofs.gather.agree.Given as goal

abbrev pub invariant-loop-at : goal.invariant-loop-at
invariant-loop-at l = (l.at ≤ length l.bytes)
    × (n : ℕ)
    × (i : Bool)
    × (is_row n i (drop l.at l.bytes) ≡ true)
    × (agree (listed l.list) (endpoints_of n l.zeroth l.now_in (drop l.at l.bytes)) ≡ agree (listed l.list) (endpoints l.zeroth l.bytes))

abbrev pub decreases-loop-at : goal.decreases-loop-at
decreases-loop-at l = length l.bytes - l.at
