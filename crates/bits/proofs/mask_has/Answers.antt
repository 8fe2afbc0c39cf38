use Rattle.std.proofs.Common.{◌≡◌, ◌%◌, ap, ◌∙◌, arith}
use Rattle.bits.specs.Bit.{bit_is_set}
use Rattle.bits.proofs.mask_has.Goals as goal

pub returns : goal.returns
returns c =
    let low : c.args.endpoint % 16 % 32 ≡ c.args.endpoint % 16 = omega arith in
    c.is_set.ensures ∙ ap (bit_is_set c.args.mask) low
