use mathlib.Core.Path.{◌≡◌, sym}
use native.Mathlib.Omega.{arith}
use Rattle.bus_time.specs.Time.{is_in_use}
use Rattle.bus_time.specs.TimeLaws.{total-none, total-more}
use Rattle.bus_time.proofs.in_use.Goals as goal

pub loop-k-init : goal.loop-k-init
loop-k-init c = (omega arith, omega arith, sym (total-none _))

pub loop-k-preserved : goal.loop-k-preserved
loop-k-preserved c =
    (omega arith, omega arith, rw (c.loop-k.invariant.2, c.wide-sum.ensures.value, total-more))

pub returns : goal.returns
unfolding is_in_use
returns c =
    let e : c.loop-k.k ≡ 128 = omega arith in
    record {
      value = rw e at c.loop-k.invariant.2;
      upper_bound = omega arith;
    }
