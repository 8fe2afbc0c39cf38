use mathlib.Core.Path.{sym, ap, ◌∙◌}
use Prim.Native.Nat.{ℕ}
use lib.Dec.{eqb}
use Rattle.regs.specs.Status.{token, is_sof}
use Rattle.regs.proofs.Tokens.{sof-numbered}
use Rattle.regs.proofs.status.is_sof.Goals as goal

pub returns : goal.returns
unfolding is_sof token
returns c = ap (λ (n : ℕ). eqb n 1) c.token_number.ensures ∙ sym (sof-numbered _)
