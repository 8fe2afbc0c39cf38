-- Laws on the definitions of CodeRuns.antt: what is claimed of lists of calls is claimed of calls that were made
use Rattle.std.specs.Prelude.{List, [], ◌∷◌, ◌≡◌, ℕ, zero}
use Rattle.std.proofs.Common.{ap, subst, sym, ◌∙◌}
use Rattle.state.specs.Driver.{Driver}
use Rattle.script.specs.Answers.{Answer}
use Rattle.script.specs.Calls.{Config, Op, calls, start_row}
use Rattle.script.specs.Machine.{Buf, Event, Machine, Ans, start, started}
use Rattle.machine.specs.Suspended.{driver_of, drive, machine_of}
use Rattle.proof_book.specs.FrontPage.{CallRecord}
use Rattle.proof_book.specs.CodeReadings.{Steps}
use Rattle.proof_usb20.specs.Observer.{Observer, serves, Watched, started_by, noted, Claim, Standing, All}
use Rattle.proof_usb20.specs.RunsLaws.{Laws, from_start}
use Rattle.proof_usb20.specs.CodeRuns.{left, told, CodeAll}

abbrev events : List CallRecord → List (Event Config Op)
events [] = []
events (m ∷ ms) = m.event ∷ events ms

module _ (O : Observer) where
  abbrev Answered : Type 0
  Answered = Ans Answer × Machine Answer Driver

  to-code : (ms : List CallRecord) (xs : List ℕ) (a : Buf) (x : Watched O) → Steps xs a ms
      → All O (events ms) (machine_of xs a) x → CodeAll O ms x
  to-code [] xs a x h r = tt
  to-code (m ∷ ms) xs a x h r =
      let p : Claim O m.event.call m.event.lent m.slots m.answer (serves (left m).under_way_lem) x
      × Standing O (left m).st (told O m x).log (told O m x).under × All O (events ms) (left m) (told O m x)
      = subst
      (λ (z : Answered). let y = noted O m.event.call m.event.lent z.1.buf z.0 (serves z.1.under_way_lem)
      x in
      Claim O m.event.call m.event.lent z.1.buf z.0 (serves z.1.under_way_lem) x
      × Standing O z.1.st y.log y.under × All O (events ms) z.1 y) (sym h.0) r in
      (p.0, p.1, to-code ms m.bytes m.slots (told O m x) h.1 p.2)

  -- any bytes, a start-up that rows 1 and 2 do not stop, and then any calls whose contracts say what they are steps of
  pub code-from-start : {R : O.Log → O.View → Type 0} → Laws O R → (c : Config) (b : Buf) → start_row c b ≡ zero
      → (xs : List ℕ) (a : Buf) (first : CallRecord) → first.event ≡ record { call = start c; lent = b }
      → (ms : List CallRecord)
      → Steps xs a (first ∷ ms) → CodeAll O ms (started_by O first.answer)
  code-from-start L c b row xs a first e ms h =
      let q : (first.answer, left first) ≡ started calls driver_of (λ s. s) c zero (machine_of xs a) b
      = subst (λ (v : Event Config Op). (first.answer, left first) ≡ drive v.call (machine_of xs a) v.lent) e
      h.0
      ∙ ap (λ n. started calls driver_of (λ s. s) c n (machine_of xs a) b) row in
      to-code ms first.bytes first.slots (started_by O first.answer) h.1
      (subst (λ (z : Answered). All O (events ms) z.1 (started_by O z.0)) (sym q) (from_start O L c b row
      (events ms) (machine_of xs a)))
