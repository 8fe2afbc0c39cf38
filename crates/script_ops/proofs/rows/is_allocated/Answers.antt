use mathlib.Core.Path.{◌∙◌, sym}
use Rattle.script_ops.specs.RowsLaws.{no_number, number_lt}
use native.Mathlib.Nat.{mod-eq_of_lt}
use Rattle.script_ops.proofs.rows.is_allocated.Goals as goal

pub low-requires : goal.low-requires
low-requires c = simp (← c.is_number.ensures, c.if-is_number.true)

pub returns-then-is_number : goal.returns-then-is_number
returns-then-is_number c =
    let number = sym c.is_number.ensures ∙ c.if-is_number.true in
    simp (
      c.mask_has.ensures,
      c.low.ensures,
      mod-eq_of_lt (number_lt c.args.e number),
      ← c.load_allocator-a.ensures,
      c.allocated.ensures c.args.e,
      number,
    )

pub returns : goal.returns
returns c = sym (no_number _ _ _ (sym c.is_number.ensures ∙ c.if-is_number.false))
