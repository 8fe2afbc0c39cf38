-- An access that writes to dev_ad writes one of the addresses allowed
use Rattle.std.specs.Prelude.{ℕ}
use Rattle.regs.specs.declared.Access.{Access}
use Rattle.regs.specs.declared.Reg.TheVariants.{DevAd}
use Rattle.script.specs.Every.{Throughout, OnWrite, same_reg}

-- each address that is written is one of those allowed
abbrev pub Writes : (ℕ → Type 0) → Access → Type 0
Writes Allowed q = OnWrite (λ r e v. Throughout (same_reg r DevAd) (Allowed v)) q
