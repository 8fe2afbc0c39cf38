-- What the functions of this crate come to: so many calls of one access each, each answered with the reading that the
-- next one brings. Definitions only
use Rattle.std.specs.Prelude.{true, ◌≡◌, ℕ, zero, suc}
use Rattle.regs.specs.declared.Access.TheVariants.{Read}
use Rattle.regs.specs.declared.Reg.TheVariants.{IntFg, IntSt, MisSt, RxLen, FrameNo}
use Rattle.answer.specs.declared.Step.{Step}
use Rattle.answer.specs.declared.Step.TheVariants.{Asks}
use Rattle.answer.specs.Word.{Worded}
use Rattle.readings.specs.declared.Entered.{Entered}
use Rattle.readings.specs.declared.Entered.TheVariants as entered
use Rattle.readings.specs.declared.Passed.{Passed}
use Rattle.readings.specs.declared.Passed.TheVariants as passed
use Rattle.readings.specs.declared.Served.{Served}
use Rattle.readings.specs.declared.Served.TheVariants as served
use Rattle.readings.specs.Readings.{Lent, Begins, Continues, asks_for}

-- the begin, and the continue that brings frame_no
abbrev pub Framed : ℕ → ℕ → Lent → Lent → Type 0
Framed i frame l l' = (m : Lent) × Begins l (Asks (Read FrameNo 0)) m × Continues i frame m (Asks (Read IntFg 0)) l'

-- and the one that brings int_fg; r: its answer
abbrev pub Flagged : Step → ℕ → ℕ → ℕ → Lent → Lent → Type 0
Flagged r i frame flags l l' = (m : Lent) × Framed i frame l m × Continues i flags m r l'

abbrev pub EntersAs : Entered → ℕ → ℕ → ℕ → Lent → Lent → Type 0
EntersAs entered.No i frame flags l l' = l' ≡ l
EntersAs entered.Flags i frame flags l l' = Framed i frame l l'
EntersAs entered.Mis i frame flags l l' = Flagged (Asks (Read MisSt 0)) i frame flags l l'

-- the continues that bring mis_st, int_st and rx_len; r: the last one's answer
abbrev pub Transferred : Step → ℕ → ℕ → ℕ → ℕ → Lent → Lent → Type 0
Transferred r i mis st len l l' = (m : Lent) × (n : Lent) × Continues i mis l (Asks (Read IntSt 0)) m
    × Continues i st m (Asks (Read RxLen 0)) n × Continues i len n r l'

abbrev pub PassesAs : Passed → ℕ → ℕ → ℕ → ℕ → Lent → Lent → Type 0
PassesAs passed.No i mis st len l l' = l' ≡ l
PassesAs (passed.Word w) i mis st len l l' = Worded w (λ r. Transferred r i mis st len l l')

-- all five
abbrev pub ServesAs : Served → ℕ → ℕ → ℕ → ℕ → ℕ → ℕ → Lent → Lent → Type 0
ServesAs served.No i frame flags mis st len l l' = l' ≡ l
ServesAs (served.Flags w) i frame flags mis st len l l' = Worded w (λ r. Flagged r i frame flags l l')
ServesAs (served.Transfer w) i frame flags mis st len l l' =
    Worded w (λ r. (m : Lent) × Flagged (Asks (Read MisSt 0)) i frame flags l m × Transferred r i mis st len m l')

-- so many continues, each of which brings v and is answered with a reading of mis_st
abbrev pub Looked : ℕ → ℕ → ℕ → Lent → Lent → Type 0
Looked zero i v l l' = l' ≡ l
Looked (suc j) i v l l' = (x : Step) × (m : Lent) × (asks_for MisSt x ≡ true) × Continues i v l x m × Looked j i v m l'

-- a continue after the write that clears the flag, and the one that brings frame_no
abbrev pub FramesAs : Passed → ℕ → ℕ → Lent → Lent → Type 0
FramesAs passed.No i frame l l' = l' ≡ l
FramesAs (passed.Word w) i frame l l' =
    Worded w (λ r. (m : Lent) × Continues i 0 l (Asks (Read FrameNo 0)) m × Continues i frame m r l')
