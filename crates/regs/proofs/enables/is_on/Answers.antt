use Prim.Native.Nat.{ℕ, ◌%◌}
use mathlib.Core.Path.{ap, ◌∙◌}
use Rattle.bits.specs.Bit.{bit_is_set}
use Rattle.regs.proofs.Places.{place-mod}
use Rattle.regs.specs.Enables.{is_on}
use Rattle.regs.proofs.enables.is_on.Goals as goal

pub returns : goal.returns
unfolding is_on
returns c =
    c.is_set.ensures ∙ ap (bit_is_set c.args.word)
    (ap (λ (x : ℕ). x % 32) c.place.ensures ∙ place-mod c.args.dir c.args.endpoint)
