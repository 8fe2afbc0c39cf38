-- What an exported call says: its word is that of the answer which the machine of calls gives; the 22 bytes that are
-- saved of an operation under way are canonical, all zero or as they were, by the answer (`SavedByAnswer`)
use Rattle.std.specs.Prelude.{Bool, not, cond, List, [], ◌≡◌, ℕ, eqb}
use Rattle.regs.specs.declared.Dir.{Dir}
use Rattle.regs.specs.declared.Dir.TheVariants.{Out, In}
use Rattle.state.specs.State.{view, saved}
use Rattle.script.specs.Calls.{Config, Op, aside, Open, start_row}
use Rattle.script.specs.Machine.{Buf, Call, begin, start}
use Rattle.machine.specs.Suspended.{machine_of, drive, answer_of, lent_or, BufferUnchangedOnRow1, lent_by, SavedByAnswer}
use Rattle.calls.specs.Shown.{ShownAt}
use Rattle.calls.specs.Sharing.{shared_call, SharedStep}
use Rattle.answer.specs.Word.{Worded}
use Rattle.usbhs_c.specs.Stamp.{stamp_by}

-- a number as a direction: 0 OUT, else IN
unfoldable pub dir_of : ℕ → Dir
dir_of n = cond (eqb n 0) Out In

-- a number as a flag: 0 no, else yes
unfoldable pub flag_of : ℕ → Bool
flag_of n = not (eqb n 0)

-- a call that brings no slots: the state's bytes before and after; the slots may be any
abbrev pub Answers : ℕ → Call Config Op → List ℕ → List ℕ → Type 0
Answers r c before after =
    Worded r
    (λ step. ((a b : Buf) → (answer_of step [] (view after), machine_of after b) ≡ drive c (machine_of before a) b)
    × SavedByAnswer step before after)

-- pacing, which is no operation: what is saved stays
abbrev pub AnswersAtOnce : ℕ → Call Config Op → List ℕ → List ℕ → Type 0
AnswersAtOnce r c before after =
    Worded r
    (λ step. ((a b : Buf) → (answer_of step [] (view after), machine_of after b) ≡ drive c (machine_of before a) b)
    × (saved after ≡ saved before))

-- a call that brings the slots: their bytes before and after; of a wrong length (row 1) they stay
abbrev pub AnswersLent : ℕ → Call Config Op → List ℕ → List ℕ → Buf → Buf → Type 0
AnswersLent r c before after slots slots' =
    Worded r
    (λ step. ((a : Buf) → (answer_of step [] (view after), machine_of after (lent_or (view before) slots slots' a)) ≡ drive c (machine_of before a) slots)
    × (BufferUnchangedOnRow1 (view before) slots slots' × SavedByAnswer step before after))

-- a poll that fills a slice: its bytes after the call are those that the answer brings, or they stay
abbrev pub AnswersInto : ℕ → Call Config Op → List ℕ → List ℕ → List ℕ → List ℕ → Type 0
AnswersInto r c before after out out' =
    Worded r
    (λ step. ((a b : Buf) → (answer_of step out' (view after), machine_of after b) ≡ drive c (machine_of before a) b)
    × SavedByAnswer step before after)
    × ((a b : Buf) → out' ≡ lent_by (drive c (machine_of before a) b).0 out)

-- the same with the slots, which it reads
abbrev pub AnswersOutOf : ℕ → Call Config Op → List ℕ → List ℕ → Buf → List ℕ → List ℕ → Type 0
AnswersOutOf r c before after slots out out' =
    Worded r
    (λ step. ((a : Buf) → (answer_of step out' (view after), machine_of after (lent_or (view before) slots slots a))
    ≡ drive c (machine_of before a) slots)
    × SavedByAnswer step before after)
    × ((a : Buf) → out' ≡ lent_by (drive c (machine_of before a) slots).0 out)

-- packets in place: of one that is shown, the bytes are the slots'; what is saved stays
abbrev pub AnswersBeside : ℕ → Call Config Op → List ℕ → List ℕ → Type 0
AnswersBeside r c before after =
    Worded r
    (λ step. ((a b : Buf) → (answer_of step b (view after), machine_of after b) ≡ drive c (machine_of before a) b)
    × (saved after ≡ saved before))

-- the same with the slots: their bytes before and after
abbrev pub AnswersShown : ℕ → Call Config Op → List ℕ → List ℕ → Buf → Buf → Type 0
AnswersShown r c before after slots slots' =
    Worded r
    (λ step. ((a : Buf) → (answer_of step slots' (view after), machine_of after (lent_or (view before) slots slots' a))
    ≡ drive c (machine_of before a) slots)
    × (BufferUnchangedOnRow1 (view before) slots slots' × (saved after ≡ saved before)))

-- open, with the slots, which stay: a packet that is shown is the endpoint's oldest; its stamp is in the caller's room,
-- before and after the call
abbrev pub AnswersOpen : ℕ → ℕ → List ℕ → List ℕ → Buf → ℕ → ℕ → Type 0
AnswersOpen r e before after slots stamp stamp' =
    Worded r
    (λ step. ((a : Buf) → (
      answer_of step slots (view after),
      machine_of after (lent_or (view before) slots slots a),
    ) ≡ drive (begin (aside (Open e))) (machine_of before a) slots)
    × (ShownAt step (view after) e × (saved after ≡ saved before)))
    × ((a : Buf) → stamp' ≡ stamp_by (drive (begin (aside (Open e))) (machine_of before a) slots).0 stamp)

-- start-up by driver i: the slots that it is brought are the run's from then on, unless it is refused; the record of
-- bus time before and after
abbrev pub AnswersStart : ℕ → ℕ → Config → List ℕ → List ℕ → Buf → List ℕ → List ℕ → Type 0
AnswersStart r i c before after slots time time' =
    Worded r
    (λ step. ((a : Buf) → (
      (answer_of step [] (view after), machine_of after (cond (eqb (start_row c slots) 0) slots a)),
      time',
    ) ≡ shared_call i (start c) (machine_of before a) time slots)
    × SavedByAnswer step before after)

-- a call that brings the slots and the record of bus time
abbrev pub AnswersCharged : ℕ → ℕ → Call Config Op → List ℕ → List ℕ → Buf → Buf → List ℕ → List ℕ → Type 0
AnswersCharged r i c before after slots slots' time time'
    = Worded r (λ step. SharedStep step i c before after slots slots' time time')
