use native.Mathlib.Omega.{arith}
use borrow.Author.Tests.{eq-eqb, ne_eqb}
use Rattle.bus_time.specs.Time.{charge_of}
use Rattle.bus_time.proofs.charge_of.Goals as goal

pub returns-then-kind-eq-ISOCHRONOUS : goal.returns-then-kind-eq-ISOCHRONOUS
unfolding charge_of
returns-then-kind-eq-ISOCHRONOUS c =
    record {
      value = simp (eq-eqb _ _ c.if-kind-eq-ISOCHRONOUS.true);
      upper_bound = omega arith;
    }

pub returns-then-kind-eq-INTERRUPT : goal.returns-then-kind-eq-INTERRUPT
unfolding charge_of
returns-then-kind-eq-INTERRUPT c =
    record {
      value = simp (ne_eqb _ _ c.if-kind-eq-ISOCHRONOUS.false, eq-eqb _ _ c.if-kind-eq-INTERRUPT.true);
      upper_bound = omega arith;
    }

pub returns : goal.returns
unfolding charge_of
returns c =
    record {
      value = simp (ne_eqb _ _ c.if-kind-eq-ISOCHRONOUS.false, ne_eqb _ _ c.if-kind-eq-INTERRUPT.false);
      upper_bound = omega arith;
    }
