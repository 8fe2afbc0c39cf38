-- What a call that brings several readings says: its word is that of the last answer of the calls of one access each
-- that it stands for
-- (readings/specs/Readings.antt)
use Rattle.std.specs.Prelude.{[], ◌∷◌, ℕ}
use Rattle.regs.specs.declared.Reg.TheVariants.{IntFg, IntSt, MisSt, RxLen, FrameNo}
use Rattle.answer.specs.Word.{Worded}
use Rattle.readings.specs.Readings.{reading, Lent, BeginsWith, ContinuesWith, first_look, further_looks}

-- the interrupt's begin, a continue with frame_no, one with int_fg
abbrev pub AnswersInterrupt : ℕ → ℕ → ℕ → ℕ → Lent → Lent → Type 0
AnswersInterrupt r i frame flags l l' = Worded r (λ step. BeginsWith i (reading FrameNo frame ∷ reading IntFg flags
    ∷ []) l step l')

-- a continue with mis_st, one with int_st, one with rx_len
abbrev pub AnswersTransfer : ℕ → ℕ → ℕ → ℕ → ℕ → Lent → Lent → Type 0
AnswersTransfer r i mis st len l l' = Worded r (λ step. ContinuesWith i mis (reading IntSt st ∷ reading RxLen len ∷ [])
    l step l')

-- the interrupt's begin, and a continue each with frame_no, int_fg, mis_st, int_st and rx_len
abbrev pub AnswersInterruptTransfer : ℕ → ℕ → ℕ → ℕ → ℕ → ℕ → ℕ → Lent → Lent → Type 0
AnswersInterruptTransfer r i frame flags mis st len l l' =
    Worded r (λ step. BeginsWith i
    (reading FrameNo frame ∷ reading IntFg flags ∷ reading MisSt mis ∷ reading IntSt st ∷ reading RxLen len ∷ []) l step
    l')

-- k continues that bring v, a reading of mis_st, and one that brings u
abbrev pub AnswersLooks : ℕ → ℕ → ℕ → ℕ → ℕ → Lent → Lent → Type 0
AnswersLooks r i k v u l l' = Worded r (λ step. ContinuesWith i (first_look k v u) (further_looks k v u) l step l')

-- a continue after the write that clears the transfer's flag, which brings any number, say 0; and one with frame_no
abbrev pub AnswersReleased : ℕ → ℕ → ℕ → Lent → Lent → Type 0
AnswersReleased r i frame l l' = Worded r (λ step. ContinuesWith i 0 (reading FrameNo frame ∷ []) l step l')
