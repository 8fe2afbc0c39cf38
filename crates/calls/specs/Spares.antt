-- No write of ep_config, with which bus time comes back (request Seven). SparesLaws.antt proves it of every access of
-- an interrupt
use Rattle.regs.specs.declared.Access.{Access}
use Rattle.regs.specs.declared.Access.TheVariants.{Read, Write, Receive, Transmit, Ep0Dma, Wait, Callback}
use Rattle.regs.specs.declared.Reg.TheVariants.{EpConfig}
use Rattle.script.specs.Tree as tree
use Rattle.script.specs.Every.{Chip, All, Throughout, same_reg}
use Rattle.script_ops.specs.Rings.{St}

-- no write of ep_config
abbrev pub Spares : Access → Type 0
Spares (Write r e v) = Throughout (same_reg r EpConfig) ⊥
Spares (Read r e) = Unit {0}
Spares (Receive e x) = Unit {0}
Spares (Transmit e x) = Unit {0}
Spares (Ep0Dma x) = Unit {0}
Spares (Wait n) = Unit {0}
Spares Callback = Unit {0}

-- ---- over its run, whatever is read and whatever becomes of the state

abbrev pub any : Chip
any = record { Holds = Unit {0}; Brings = λ _ _ _. Unit {0}; after = λ h _. h }

abbrev pub Sparing : {A : Type 0} → tree.Out St A → Type 0
Sparing o = All any (λ _ _. Unit {0}) Spares tt o
