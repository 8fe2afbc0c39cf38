use mathlib.Core.Path.{sym, ap, ◌∙◌}
use Prim.Native.Nat.{ℕ}
use lib.Dec.{eqb}
use Rattle.regs.specs.Status.{token, is_out}
use Rattle.regs.proofs.Tokens.{out-numbered}
use Rattle.regs.proofs.status.is_out.Goals as goal

pub returns : goal.returns
unfolding is_out token
returns c = ap (λ (n : ℕ). eqb n 0) c.token_number.ensures ∙ sym (out-numbered _)
