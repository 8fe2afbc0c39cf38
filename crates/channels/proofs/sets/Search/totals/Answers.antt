use Rattle.std.specs.Prelude.{◌≡◌, ◌+◌, ◌/◌, ◌^◌}
use Rattle.std.proofs.Common.{refl, sym, ◌∙◌, arith, add-zero}
use Rattle.std.proofs.Math.Nat.{div-one}
use Rattle.std.proofs.lemmas.Nat.{shr-shr}
use Rattle.bits.specs.Bit.{bit_is_set}
use Rattle.bits.specs.BitLaws.{set-high}
use Rattle.channels.specs.Channels.{maximum, charge}
use Rattle.channels.specs.SetsLaws.{total-none, total-more, total-rest}
use Rattle.channels.proofs.sets.Search.totals.Goals as goal
use Rattle.channels.proofs.sets.Search.totals.Goals.{then-is_in, else-is_in, Joined-is_in}

-- the first bit of what is left
first : (c : Joined-is_in) → c.is_in.result ≡ bit_is_set c.args.set c.loop-c.c-index
first c =
    let k = c.loop-c.c-index in
    c.is_in.ensures ∙ rw c.loop-c.invariant.rest (rw (add-zero k) at (set-high k c.args.set 0))

-- what is left behind it
rest : (c : Joined-is_in) → c.loop-c.rest / 2 ≡ c.args.set / 2 ^ (c.loop-c.c-index + 1)
rest c = rw c.loop-c.invariant.rest (shr-shr c.args.set c.loop-c.c-index 1)

pub loop-c-init : goal.loop-c-init
loop-c-init c =
    record {
      maximum_bound = omega arith;
      charge_bound = omega arith;
      maximum = sym (total-none _ _);
      charge = sym (total-none _ _);
      rest = sym (div-one _);
    }

pub loop-c-preserved : goal.loop-c-preserved
loop-c-preserved c = elim c.if-is_in.branch [
  | then-is_in w ↦
      let bit = sym (first c) ∙ w.if-is_in.true in
      record {
        maximum_bound = rw w.t-is (omega arith);
        charge_bound = rw w.t-is (omega arith);
        maximum = rw (w.t-is, total-more, bit, c.loop-c.invariant.maximum, w.alone-one.ensures.maximum) refl;
        charge = rw (w.t-is, total-more, bit, c.loop-c.invariant.charge, w.alone-one.ensures.charge) refl;
        rest = rest c;
      }
  | else-is_in w ↦
      let bit = sym (first c) ∙ w.if-is_in.false in
      record {
        maximum_bound = rw w.t-is (omega arith);
        charge_bound = rw w.t-is (omega arith);
        maximum = rw (w.t-is, total-more, bit, c.loop-c.invariant.maximum) (omega arith);
        charge = rw (w.t-is, total-more, bit, c.loop-c.invariant.charge) (omega arith);
        rest = rest c;
      }
]

pub returns-then-rest-eq0 : goal.returns-then-rest-eq0
returns-then-rest-eq0 c =
    let none = sym c.loop-c.invariant.rest ∙ c.if-rest-eq0.true in
    let upto = c.loop-c.auto.c-index-end in
    record {
      maximum = c.loop-c.invariant.maximum ∙ sym (total-rest (maximum c.args.self.now.list.now) _ _ _ none upto);
      charge = c.loop-c.invariant.charge ∙ sym (total-rest (charge c.args.self.now.list.now) _ _ _ none upto);
    }
