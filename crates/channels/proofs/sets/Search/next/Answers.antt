use Rattle.std.specs.Prelude.{◌≡◌, ◌+◌, ◌-◌, ◌*◌, ◌/◌, ◌^◌, ◌≤◌, true, false, length}
use Rattle.std.proofs.Common.{sym, ◌∙◌, arith}
use Rattle.channels.specs.Channels.{maximum, charge}
use Rattle.channels.proofs.NextLaws.{next-leaves, next-gap, next-joins, next-none}
use Rattle.channels.proofs.sets.Search.next.Goals as goal

pub returns-then-not-is_in-clause-maximum : goal.returns-then-not-is_in-clause-maximum
returns-then-not-is_in-clause-maximum c =
    let joins = next-joins (maximum c.args.self.now.list.now) _ _ _ _ c.loop-c.invariant.gap
    (sym c.is_in.ensures ∙ c.if-not-is_in.true) c.loop-c-test.true in
    rw (c.loop-c.invariant.maximum, c.alone-one.ensures.maximum) (sym joins)

pub returns-then-not-is_in-clause-charge : goal.returns-then-not-is_in-clause-charge
returns-then-not-is_in-clause-charge c =
    let joins = next-joins (charge c.args.self.now.list.now) _ _ _ _ c.loop-c.invariant.gap
    (sym c.is_in.ensures ∙ c.if-not-is_in.true) c.loop-c-test.true in
    rw (c.loop-c.invariant.charge, c.alone-one.ensures.charge) (sym joins)

pub overflow_sub-left : goal.overflow_sub-left
overflow_sub-left c =
    let leaves = next-leaves (maximum c.args.self.now.list.now) _ _ _ (sym c.is_in.ensures ∙ c.if-not-is_in.false)
    c.loop-c-test.true in
    rw (c.loop-c.invariant.maximum, c.alone-one.ensures.maximum, leaves) (omega arith)

pub overflow_sub-left-in-loop-c : goal.overflow_sub-left-in-loop-c
overflow_sub-left-in-loop-c c =
    let leaves = next-leaves (charge c.args.self.now.list.now) _ _ _ (sym c.is_in.ensures ∙ c.if-not-is_in.false)
    c.loop-c-test.true in
    rw (c.loop-c.invariant.charge, c.alone-one.ensures.charge, leaves) (omega arith)

pub loop-c-preserved : goal.loop-c-preserved
loop-c-preserved c =
    let bit = sym c.is_in.ensures ∙ c.if-not-is_in.false in
    record {
      maximum_most = let h = c.loop-c.invariant.maximum_most in omega arith;
      charge_most = let h = c.loop-c.invariant.charge_most in omega arith;
      maximum =
          rw (
            c.loop-c.invariant.maximum,
            c.alone-one.ensures.maximum,
            next-leaves (maximum c.args.self.now.list.now) _ _ _ bit c.loop-c-test.true,
          ) (omega arith);
      charge =
          rw (
            c.loop-c.invariant.charge,
            c.alone-one.ensures.charge,
            next-leaves (charge c.args.self.now.list.now) _ _ _ bit c.loop-c-test.true,
          ) (omega arith);
      gap = c.loop-c.invariant.gap ∙ next-gap _ _ bit;
    }

pub returns-clause-maximum : goal.returns-clause-maximum
returns-clause-maximum c =
    let e : c.loop-c.c-index ≡ length c.args.self.now.list.now =
    omega (arith, c.loop-c-test.false, c.loop-c.auto.c-index-end) in
    let none = next-none (maximum c.args.self.now.list.now) _ _ _ (rw (← e) c.loop-c.invariant.gap) in
    rw (c.loop-c.invariant.maximum, e) none

pub returns-clause-charge : goal.returns-clause-charge
returns-clause-charge c =
    let e : c.loop-c.c-index ≡ length c.args.self.now.list.now =
    omega (arith, c.loop-c-test.false, c.loop-c.auto.c-index-end) in
    let none = next-none (charge c.args.self.now.list.now) _ _ _ (rw (← e) c.loop-c.invariant.gap) in
    rw (c.loop-c.invariant.charge, e) none
