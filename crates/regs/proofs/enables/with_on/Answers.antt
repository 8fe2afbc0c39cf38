use Prim.Native.Nat.{ℕ, ◌%◌}
use mathlib.Core.Path.{ap, ◌∙◌}
use Rattle.bits.specs.Bit.{with_bit}
use Rattle.regs.proofs.Places.{place-mod}
use Rattle.regs.specs.Enables.{with_on}
use Rattle.regs.proofs.enables.with_on.Goals as goal

pub returns : goal.returns
unfolding with_on
returns c =
    c.with_bit.ensures ∙ ap (λ (x : ℕ). with_bit c.args.word x c.args.on)
    (ap (λ (x : ℕ). x % 32) c.place.ensures ∙ place-mod c.args.dir c.args.endpoint)
