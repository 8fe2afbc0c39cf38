use Rattle.std.proofs.Common.{◌≡◌, ◌-◌, ◌≤◌}
use Rattle.state.specs.Driver.{with_wakes}
use Rattle.state.specs.Wakes.{with_codes}
use Rattle.state.specs.State.{view, saved}
use Rattle.state.specs.Fresh.{filled}
use Rattle.state.proofs.wakes.clear_codes.Given as goal

abbrev pub invariant-loop-k : goal.invariant-loop-k
invariant-loop-k l = (l.k ≤ 64) × ((view l.s ≡ with_wakes (view l.initial.s) (with_codes (view l.initial.s).wakes (filled (view l.initial.s).wakes.codes 0 l.k 0)))
    × (saved l.s ≡ saved l.initial.s))

abbrev pub decreases-loop-k : goal.decreases-loop-k
decreases-loop-k l = 64 - l.k
