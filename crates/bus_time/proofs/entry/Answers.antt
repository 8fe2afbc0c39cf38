use mathlib.Core.Path.{refl}
use native.Mathlib.Omega.{arith}
use Rattle.bus_time.specs.Time.{entry_of}
use Rattle.bus_time.proofs.entry.Goals as goal

pub returns-in-In : goal.returns-in-In
unfolding entry_of
returns-in-In c =
    record {
      value = rw c.in-In.is refl;
      upper_bound = omega arith;
    }

pub returns-in-Out : goal.returns-in-Out
unfolding entry_of
returns-in-Out c =
    record {
      value = rw c.in-Out.is refl;
      upper_bound = omega arith;
    }
