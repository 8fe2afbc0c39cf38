use mathlib.Core.Path.{◌≡◌}
use Prim.Native.Nat.{◌%◌}
use lib.Bits.{bit_and, and_mask}
use borrow.Author.Tests.{eq-eqb, ne_eqb, le-leb, lt-leb}
use Rattle.alloc.specs.Alloc.{asked_of}
use Rattle.alloc.proofs.number.asked.Goals as goal

pub returns-then-address-dir_bit : goal.returns-then-address-dir_bit
unfolding asked_of
returns-then-address-dir_bit c =
    simp (ne_eqb _ _ c.if-address-dir_bit.true, ← c.dir_bit.ensures)

pub returns-then-index-eq0 : goal.returns-then-index-eq0
unfolding asked_of
returns-then-index-eq0 c =
    let index : bit_and c.args.address 127
    ≡ c.args.address % 128 = and_mask c.args.address 7 in
    simp (← index, eq-eqb _ _ c.if-index-eq0.true, eq-eqb _ _ c.if-address-dir_bit.false, ← c.dir_bit.ensures)

pub returns-then-index : goal.returns-then-index
unfolding asked_of
returns-then-index c =
    let index : bit_and c.args.address 127
    ≡ c.args.address % 128 = and_mask c.args.address 7 in
    simp (
      ← index,
      le-leb _ _ c.if-index.true,
      ne_eqb _ _ c.if-index-eq0.false,
      eq-eqb _ _ c.if-address-dir_bit.false,
      ← c.dir_bit.ensures,
    )

pub returns : goal.returns
unfolding asked_of
returns c =
    let index : bit_and c.args.address 127 ≡ c.args.address % 128 = and_mask c.args.address 7 in
    simp (
      ← index,
      ← c.free_number.ensures,
      lt-leb _ _ c.if-index.false,
      ne_eqb _ _ c.if-index-eq0.false,
      eq-eqb _ _ c.if-address-dir_bit.false,
      ← c.dir_bit.ensures,
    )
