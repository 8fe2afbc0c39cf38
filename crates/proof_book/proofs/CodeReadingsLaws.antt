-- The same of the Rattle code: whatever calls are made, each as its contract says, an interrupt hands out at most 4,056
-- readings
use Rattle.std.specs.Prelude.{List, [], ◌∷◌, ◌≡◌, refl, ℕ, zero, ◌≤◌}
use Rattle.std.proofs.Common.{sym, subst, ap, ◌∙◌}
use Rattle.state.specs.Driver.{Driver}
use Rattle.script.specs.Answers.{Answer}
use Rattle.script.specs.Calls.{Config, Op, interrupt, calls, start_row}
use Rattle.script.specs.Machine.{Buf, Event, Machine, Ans, start, begin, idle}
use Rattle.machine.specs.Suspended.{driver_of, machine_of}
use Rattle.proof_book.specs.FrontPage.{CallRecord}
use Rattle.proof_book.specs.Always.{after}
use Rattle.proof_book.specs.Sorting.{Sorting}
use Rattle.proof_book.proofs.SortingLaws.{after-sorting}
use Rattle.proof_book.specs.Served.{and_then}
use Rattle.proof_book.proofs.ServedLaws.{counted, served, sorting-served}
use Rattle.proof_book.specs.CodeReadings.{Steps, bytes_after, slots_after, read_by, events}

same_after : (ms : List CallRecord) (xs : List ℕ) (a : Buf)
    → Steps xs a ms → machine_of (bytes_after xs ms) (slots_after a ms) ≡ after calls driver_of (events ms) (machine_of xs a)
same_after [] xs a h = refl
same_after (m ∷ ms) xs a h = same_after ms m.bytes m.slots h.1
    ∙ ap (λ (x : Ans Answer × Machine Answer Driver). after calls driver_of (events ms) x.1) h.0

read-served : (ms : List CallRecord) (xs : List ℕ) (a : Buf) → Steps xs a ms → read_by ms
    ≡ served (events ms) (machine_of xs a)
unfolding served
read-served [] xs a h = refl
read-served (m ∷ ms) xs a h =
    ap (and_then (m.answer, machine_of m.bytes m.slots)) (read-served ms m.bytes m.slots h.1)
    ∙ ap (counted (events ms)) h.0

-- any bytes, a start-up that rows 1 and 2 do not stop, and any calls; then, where nothing is under way, an interrupt,
-- and any calls again
module _ (c : Config) (b : Buf) (row : start_row c b ≡ zero) (xs : List ℕ) (a : Buf) (first : CallRecord)
    (is-start : first.event ≡ record { call = start c; lent = b }) (ms : List CallRecord)
    (steps : Steps xs a (first ∷ ms)) where
  -- the machine then
  abbrev pub reached : Machine Answer Driver
  reached = machine_of (bytes_after xs (first ∷ ms)) (slots_after a (first ∷ ms))

  reached-sorting : Sorting reached.st
  reached-sorting =
      subst (λ (n : Machine Answer Driver). Sorting n.st) (sym (same_after (first ∷ ms) xs a steps))
      (subst (λ (v : Event Config Op). Sorting (after calls driver_of (v ∷ events ms) (machine_of xs a)).st)
      (sym is-start) (after-sorting c b row (events ms) (machine_of xs a)))

  pub code-4056 : reached.under_way_lem ≡ idle → (i : CallRecord) (slots : Buf) → i.event
      ≡ record { call = begin interrupt; lent = slots } → (fs : List CallRecord)
      → Steps (bytes_after xs (first ∷ ms)) (slots_after a (first ∷ ms)) (i ∷ fs) → read_by (i ∷ fs) ≤ 4056
  code-4056 w i slots is-interrupt fs h = rw (
    read-served (i ∷ fs) (bytes_after xs (first ∷ ms)) (slots_after a (first ∷ ms)) h,
    is-interrupt,
  ) (sorting-served reached reached-sorting w slots (events fs))
