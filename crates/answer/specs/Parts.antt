-- The answer that a word says: its parts, as the header's macros take them
use Rattle.std.specs.Prelude.{cond, ℕ, ◌/◌, ◌%◌, ◌^◌, ◌<◌, eqb}
use Rattle.regs.specs.declared.Reg.{Reg}
use Rattle.regs.specs.declared.Reg.TheVariants.{IntFg, IntSt, MisSt, RxLen, FrameNo, Ctrl, IntEn, DevAd, HostCtrl}
use Rattle.regs.specs.declared.Reg.TheVariants.{EpConfig, EpType, EpBufMod, EpMaxLen, EpTLen, EpRxCtrl, EpTxCtrl}
use Rattle.regs.specs.declared.Access.{Access}
use Rattle.regs.specs.declared.Access.TheVariants.{Read, Write, Receive, Transmit, Ep0Dma, Wait, Callback}
use Rattle.answer.specs.declared.Step.{Step}
use Rattle.answer.specs.declared.Step.TheVariants.{Refused, Asks, Ends, NotYet, Done, Setup, Shown}

-- the register of a number; numbers that no register has read as the last
abbrev pub reg_of : ℕ → Reg
reg_of n =
    cond (eqb n 0) IntFg
    (cond (eqb n 1) IntSt
    (cond (eqb n 2) MisSt
    (cond (eqb n 3) RxLen
    (cond (eqb n 4) FrameNo
    (cond (eqb n 5) Ctrl
    (cond (eqb n 6) IntEn
    (cond (eqb n 7) DevAd
    (cond (eqb n 8) HostCtrl
    (cond (eqb n 9) EpConfig
    (cond (eqb n 10) EpType
    (cond (eqb n 11) EpBufMod
    (cond (eqb n 13) EpMaxLen
    (cond (eqb n 14) EpTLen
    (cond (eqb n 17) EpRxCtrl
    EpTxCtrl))))))))))))))

-- a write by its register's number
abbrev pub write_of : ℕ → ℕ → ℕ → Access
write_of n e x = cond (eqb n 12) (Ep0Dma x) (cond (eqb n 15) (Receive e x)
    (cond (eqb n 16) (Transmit e x) (Write (reg_of n) e x)))

-- the word's byte, and its half word, from a bit on
abbrev pub byte_at : ℕ → ℕ → ℕ
byte_at w bit = w / 2 ^ bit % 2 ^ 8

abbrev pub half_at : ℕ → ℕ → ℕ
half_at w bit = w / 2 ^ bit % 2 ^ 16

abbrev pub of_kind : ℕ → ℕ → Step
of_kind k w =
    cond (eqb k 0) (Refused (byte_at w 8))
    (cond (eqb k 1) (Asks (Read (reg_of (byte_at w 8)) (byte_at w 16)))
    (cond (eqb k 2) (Asks (write_of (byte_at w 8) (byte_at w 16) (w / 2 ^ 32)))
    (cond (eqb k 3) (Asks (Wait (byte_at w 8)))
    (cond (eqb k 4) (Asks Callback)
    (cond (eqb k 5) (Ends (half_at w 8) (byte_at w 24))
    (cond (eqb k 6) NotYet
    (cond (eqb k 7) (Done (half_at w 8))
    (Shown (w / 2 ^ 32) (half_at w 8) 0))))))))

unfoldable pub step_of : ℕ → Step
step_of w = of_kind (w % 2 ^ 4) w

-- what an answer's word says: of a setup packet, whose bytes are in the caller's packet, that 8 are brought; of a
-- packet that is shown no stamp, which is in the caller's room for it
abbrev pub spoken : Step → Step
spoken (Refused n) = Refused n
spoken (Asks q) = Asks q
spoken (Ends n k) = Ends n k
spoken NotYet = NotYet
spoken (Done n) = Done n
spoken (Setup low high) = Done 8
spoken (Shown at n stamp) = Shown at n 0

-- the numbers of an answer are as wide as the call's types
abbrev pub AccessFits : Access → Type 0
AccessFits (Read r e) = e < 2 ^ 8
AccessFits (Write r e x) = (e < 2 ^ 8) × (x < 2 ^ 32)
AccessFits (Receive e x) = (e < 2 ^ 8) × (x < 2 ^ 32)
AccessFits (Transmit e x) = (e < 2 ^ 8) × (x < 2 ^ 32)
AccessFits (Ep0Dma x) = x < 2 ^ 32
AccessFits (Wait n) = n < 2 ^ 8
AccessFits Callback = Unit

abbrev pub EndFits : ℕ → ℕ → Type 0
EndFits n k = (n < 2 ^ 16) × (k < 2 ^ 8)

abbrev pub Fits : Step → Type 0
Fits (Refused n) = n < 2 ^ 8
Fits (Asks q) = AccessFits q
Fits (Ends n k) = EndFits n k
Fits NotYet = Unit
Fits (Done n) = n < 2 ^ 16
Fits (Setup low high) = Unit {0}
Fits (Shown at n stamp) = (at < 2 ^ 32) × (n < 2 ^ 16)
