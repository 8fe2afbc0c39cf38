use Rattle.std.proofs.Common.{◌≡◌, ◌%◌, ap, ◌∙◌, arith}
use Rattle.bits.specs.Bit.{bit_is_set}
use Rattle.bits.proofs.byte_has.Goals as goal

pub returns : goal.returns
returns c =
    let low : c.args.bit % 8 % 32 ≡ c.args.bit % 8 = omega arith in
    c.is_set.ensures ∙ ap (bit_is_set c.args.byte) low
