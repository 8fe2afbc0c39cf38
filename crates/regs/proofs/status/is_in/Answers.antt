use mathlib.Core.Path.{sym, ap, ◌∙◌}
use Prim.Native.Nat.{ℕ}
use lib.Dec.{eqb}
use Rattle.regs.specs.Status.{token, is_in}
use Rattle.regs.proofs.Tokens.{in-numbered}
use Rattle.regs.proofs.status.is_in.Goals as goal

pub returns : goal.returns
unfolding is_in token
returns c = ap (λ (n : ℕ). eqb n 2) c.token_number.ensures ∙ sym (in-numbered _)
