-- A call with the record of bus time as the driver alone gets it: one that row 19 stops is a question. What holds after
-- the one holds after the other
use Rattle.std.specs.Prelude.{Bool, true, false, cond, List, ◌≡◌, ℕ}
use Rattle.std.proofs.Common.{true≢false, ap, subst, sym, ◌∙◌}
use Rattle.std.proofs.Math.Path.{refl}
use Rattle.regs.specs.declared.Dir.{Dir}
use Rattle.state.specs.Driver.{Driver}
use Rattle.script.specs.Simulates.{Phase}
use Rattle.script.specs.Answers.{Answer, Refused}
use Rattle.script.specs.Calls.{Config, Op, interrupt, slotted, other, aside, SetEnabled, PollRead, BeginWrite}
use Rattle.script.specs.Calls.{PollWrite, PollDataOut, BeginDataIn, calls}
use Rattle.script.specs.Machine.{Buf, Call, start, begin, continue, question, pending, Machine, Ans, ended, told}
use Rattle.script.specs.Machine.{lent_to}
use Rattle.script.specs.Agree.{Ways}
use Rattle.answer.specs.Questions.{question_of}
use Rattle.machine.specs.Suspended.{driver_of, drive}
use Rattle.answer.specs.Goes.{StepResult}
use Rattle.calls.specs.Sharing.{sort_of, turned_down, time_after, settled, shared_call}
use Rattle.proof_book.specs.Pages.{Pages}
use Rattle.proof_book.specs.Book.{book}
use Rattle.proof_book.specs.Coupling.{Coupling}
use Rattle.proof_book.proofs.AgreesLaws.{agree}
use Rattle.proof_book.specs.FrontPage.{book_step, BufferPreserved}
use Rattle.proof_book.proofs.SlotsKeptLaws.{lent_is}
use Rattle.proof_contracts.specs.SharedBook.{shared_step}
use Rattle.proof_contracts.specs.SharedAgrees.{down-chip, down-same}

-- row 19 stops it
abbrev pub is_stopped : ℕ → Call Config Op → Machine Answer Driver → List ℕ → Buf → Bool
is_stopped i c m time b = turned_down i (sort_of c) (drive c m b).0 m.st time

-- the call as the driver alone gets it, and as it answers then
abbrev pub call_alone : Bool → Call Config Op → Call Config Op
call_alone stopped c = cond stopped (question (pending 0)) c

abbrev pub answer_alone : Bool → Driver → Ans Answer → Ans Answer
answer_alone stopped d x = cond stopped (told (question_of (pending 0) d)) x

-- it is an enabling
stopped-is : (P : Call Config Op → Type 0) → ((dir : Dir) (e : ℕ) → P (begin (slotted (SetEnabled dir e true))))
    → (i : ℕ) (c : Call Config Op) (x : Ans Answer) (s : Driver) (time : List ℕ)
    → turned_down i (sort_of c) x s time ≡ true → P c
stopped-is P y i (start g) x s time h = absurd (true≢false (sym h))
stopped-is P y i (begin interrupt) x s time h = absurd (true≢false (sym h))
stopped-is P y i (begin (slotted (SetEnabled dir e true))) x s time h = y dir e
stopped-is P y i (begin (slotted (SetEnabled dir e false))) x s time h = absurd (true≢false (sym h))
stopped-is P y i (begin (slotted (PollRead e m))) x s time h = absurd (true≢false (sym h))
stopped-is P y i (begin (slotted (BeginWrite e bs))) x s time h = absurd (true≢false (sym h))
stopped-is P y i (begin (slotted (PollWrite e bs))) x s time h = absurd (true≢false (sym h))
stopped-is P y i (begin (slotted (PollDataOut m))) x s time h = absurd (true≢false (sym h))
stopped-is P y i (begin (slotted (BeginDataIn bs first last))) x s time h = absurd (true≢false (sym h))
stopped-is P y i (begin (other o)) x s time h = absurd (true≢false (sym h))
stopped-is P y i (begin (aside o)) x s time h = absurd (true≢false (sym h))
stopped-is P y i (continue v) x s time h = absurd (true≢false (sym h))
stopped-is P y i (question q) x s time h = absurd (true≢false (sym h))

module _ (i : ℕ) (c : Call Config Op) (b : Buf) (time : List ℕ) (m : Machine Answer Driver) where
  abbrev stops : Bool
  stops = is_stopped i c m time b

  abbrev outcome : Bool → StepResult × List ℕ
  outcome u = cond u ((ended (Refused 19), lent_to calls driver_of m b), time)
      (drive c m b, time_after i (sort_of c) (drive c m b).0 m.st time)

  outcome-is : shared_call i c m time b ≡ outcome stops
  unfolding settled
  outcome-is = refl

  pub lent-alone : {φ : Phase} (n : Machine Answer Pages) → Coupling φ m.buf m.st n.st
      → BufferPreserved c n m.buf b
      → BufferPreserved (call_alone stops c) n m.buf b
  lent-alone n r l = by stops refl
    where
      by : (u : Bool) → stops ≡ u → BufferPreserved (call_alone u c) n m.buf b
      by true h = down-chip i c m n time b h (lent_is m n r b c l)
      by false h = l

  pub noted-alone : {φ : Phase} (n : Machine Answer Pages)
      → Ways driver_of book agree calls φ m.under_way_lem n.under_way_lem
      → Coupling φ m.buf m.st n.st → BufferPreserved c n m.buf b → (z : Ans Answer)
      → (shared_step i z c n time b).1 ≡ (book_step (answer_alone stops m.st z) (call_alone stops c) n b).1
  noted-alone n w r l z =
      subst (λ (u : Bool). (cond u stopped (book_step z c n b)).1
      ≡ (book_step (answer_alone stops m.st z) (call_alone stops
      c) n b).1) (down-same i c b time m n w r l z) (by stops)
    where
      stopped : Ans Answer × Machine Answer Pages
      stopped = (ended (Refused 19), lent_to calls book.driver n b)

      by : (u : Bool)
          → (cond u stopped (book_step z c n b)).1 ≡ (book_step (answer_alone u m.st z) (call_alone u c) n b).1
      by true = refl
      by false = refl

  -- what the call came to
  module _ (x : StepResult × List ℕ) (did : x ≡ shared_call i c m time b) where
    abbrev as_alone : StepResult
    as_alone = (answer_alone stops m.st x.0.0, x.0.1)

    pub did-alone : as_alone ≡ drive (call_alone stops c) m b
    did-alone = by stops (did ∙ outcome-is)
      where
        by : (u : Bool) → x ≡ outcome u → (answer_alone u m.st x.0.0, x.0.1) ≡ drive (call_alone u c) m b
        by true h = ap (λ (z : StepResult × List ℕ). (told (question_of (pending 0) m.st), z.0.1)) h
        by false h = ap (λ (z : StepResult × List ℕ). z.0) h

    -- row 19 changes nothing, so what a question says with the pages that stay it says after the refusal
    pub as-shared : (n : Machine Answer Pages) (P : Call Config Op → Ans Answer → Pages → Type 0)
        → ((dir : Dir) (e k : ℕ) → P (question (pending 0)) (told k) n.st
        → P (begin (slotted (SetEnabled dir e true))) (ended (Refused 19)) n.st)
        → (shared_step i x.0.0 c n time b).1 ≡ (book_step as_alone.0 (call_alone stops c) n b).1
        → P (call_alone stops c) as_alone.0 (book_step as_alone.0 (call_alone stops c) n b).1.st
        → P c x.0.0 (shared_step i x.0.0 c n time b).1.st
    as-shared n P stopped goes y =
        subst (λ (z : Machine Answer Pages). P c x.0.0 z.st) (sym goes) (by stops refl (did ∙ outcome-is) y)
      where
        then : Bool → Pages
        then u = (book_step (answer_alone u m.st x.0.0) (call_alone u c) n b).1.st

        by : (u : Bool) → stops ≡ u → x ≡ outcome u → P (call_alone u c) (answer_alone u m.st x.0.0) (then u)
            → P c x.0.0 (then u)
        by true h did y =
            subst (λ (z : Ans Answer). P c z n.st) (sym (ap (λ (z : StepResult × List ℕ). z.0.0) did))
            (stopped-is (λ (c : Call Config Op). P c (ended (Refused 19)) n.st)
            (λ dir e. stopped dir e (question_of (pending 0) m.st) y) i c (drive c m b).0 m.st time h)
        by false h did y = y
