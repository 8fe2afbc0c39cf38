-- The registers: their numbers in this port, how many bits a reading has, and which register a direction has. Assumes
-- nothing.
use Rattle.std.specs.Prelude.{Bool, ℕ, ◌^◌, ltb}
use Rattle.regs.specs.declared.Reg.{Reg}
use Rattle.regs.specs.declared.Reg.TheVariants.{IntFg, IntSt, MisSt, RxLen, FrameNo, Ctrl, IntEn, DevAd}
use Rattle.regs.specs.declared.Reg.TheVariants.{HostCtrl, EpConfig, EpType, EpBufMod, EpMaxLen, EpTLen, EpRxCtrl}
use Rattle.regs.specs.declared.Reg.TheVariants.{EpTxCtrl}
use Rattle.regs.specs.declared.Dir.{Dir}
use Rattle.regs.specs.declared.Dir.TheVariants.{Out, In}

-- a register's number, and the bits of a reading, 0 for a register that is never read; 12, 15 and 16 are ep0_dma,
-- ep_rx_dma and ep_tx_dma
abbrev pub register : Reg → ℕ × ℕ
register IntFg = (0, 6)
register IntSt = (1, 7)
register MisSt = (2, 2)
register RxLen = (3, 16)
register FrameNo = (4, 16)
register Ctrl = (5, 6)
register IntEn = (6, 0)
register DevAd = (7, 0)
register HostCtrl = (8, 0)
register EpConfig = (9, 0)
register EpType = (10, 0)
register EpBufMod = (11, 0)
register EpMaxLen = (13, 0)
register EpTLen = (14, 0)
register EpRxCtrl = (17, 8)
register EpTxCtrl = (18, 8)

abbrev pub number_of : Reg → ℕ
number_of r = (register r).0

abbrev pub width_of : Reg → ℕ
width_of r = (register r).1

-- row 16 turned round: the value has no bit above the width
unfoldable pub fits_in : ℕ → ℕ → Bool
fits_in value width = ltb value (2 ^ width)

-- the control word of a direction
abbrev pub ctrl_of : Dir → Reg
ctrl_of Out = EpRxCtrl
ctrl_of In = EpTxCtrl
