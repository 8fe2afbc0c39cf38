-- A run with row 19 in it, computed by the check: driver 0's IN 2 is refused with 19 while driver 1 is charged with
-- 5,909 byte-times, and is enabled once driver 1 has given them back. Packets arrive before the refusal and after it;
-- one is queued and sent. It meets the premise of demand 3 with the record of bus time (`meets`), and so what
-- SharedPage.antt says holds after each of its calls (`holds`)
use Rattle.std.specs.Prelude.{Bool, true, List, [], ◌∷◌, ◌++◌, ◌≡◌, refl, ℕ, replicate}
use Rattle.std.proofs.Common.{ap, sym, ◌∙◌}
use Rattle.regs.specs.declared.Dir.TheVariants.{Out, In}
use Rattle.script.specs.Answers.{Answer, Refused, End, NotYet, Done, Shown}
use Rattle.script.specs.Calls.{Config, Op, slotted, aside, SetEnabled, Queue}
use Rattle.script.specs.Machine.{Call, begin, Ans, ended, handed}
use Rattle.script.specs.Machine as machine
use Rattle.machine.specs.Suspended.{drive}
use Rattle.answer.specs.Goes.{StepResult}
use Rattle.bus_time.specs.Time as bus-time
use Rattle.bus_time.specs.Time.{uncharged, is_in_use, entry_of, passes}
use Rattle.calls.specs.Sharing as sharing
use Rattle.calls.specs.Sharing.{is_handed, charge_on}
use Rattle.calls.specs.SharingLaws.{refuses}
use Rattle.proof_book.specs.Computing.{computing}
use Rattle.proof_book.specs.Inputs.{Input}
use Rattle.proof_book.proofs.Witness.{config, buffer, driver, pages, accepted, told, allocated, does}
use Rattle.proof_book.proofs.Witness.{continues, arrivals, late_arrival, asks, noting}
use Rattle.proof_contracts.specs.SharedMachine.{Turn, starting, comes_to, book_after, Premise, AfterTurns}
use Rattle.proof_contracts.proofs.SharedTurns.{machine-shared-demand-3}
use Rattle.proof_contracts.specs.Charged.{Charged, Standing, lent_time, outcome_of, next, after_all}
use Rattle.proof_contracts.specs.Charged.{at_end, at-end-is, turns_of, lawful, at_last}

-- what the record is computed with
unfoldable counting : Unit {0}
unfolding computing bus-time.charge_of bus-time.entry_of bus-time.total bus-time.is_in_use bus-time.passes bus-time.entry_kept
    bus-time.kept bus-time.keep_of sharing.charge_on sharing.settled
counting = tt

-- ---- what is done

-- driver 1's charges: five endpoints of 1,024 bytes and one of 561, isochronous: one byte-time too many; none
abbrev much : List ℕ
much = 1062 ∷ 1062 ∷ 1062 ∷ 1062 ∷ 1062 ∷ 599 ∷ replicate 26 0

abbrev none : List ℕ
none = replicate 32 0

abbrev with_others : List ℕ → List Input → List Charged
with_others others [] = []
with_others others (i ∷ is) = record { input = i; others = others } ∷ with_others others is

-- what is told
abbrev tells : Call Config Op → Input
tells c = record { stored = []; call = c; tell = true }

abbrev enabling : Input
enabling = tells (begin (slotted (SetEnabled In 2 true)))

-- OUT 1 and IN 2 allocated and EP0 started; OUT 1 enabled; two arrivals
abbrev pub before_it : List Charged
before_it = with_others much
    (allocated (does (begin (slotted (SetEnabled Out 1 true))) ∷ continues 20 (arrivals 2 (asks ∷ []))))

abbrev pub refused : Charged
refused = record { input = enabling; others = much }

-- an arrival; IN 2's enabling refused once more, and begun where driver 1 has none; a packet queued, and loaded while
-- one arrives late
abbrev pub after_it : List Charged
after_it = with_others much (arrivals 1 (asks ∷ enabling ∷ [])) ++ with_others none
    (enabling ∷ continues 7 (does (begin (aside (Queue 2 (7 ∷ 7 ∷ [])))) ∷ late_arrival (asks ∷ [])))

-- ---- what comes of it

-- the row of a refusal, else 0
abbrev row_of : Ans Answer → ℕ
row_of (ended (Refused r)) = r
row_of (ended (End k w)) = 0
row_of (ended NotYet) = 0
row_of (ended (Done bytes)) = 0
row_of (ended (Shown bytes stamp)) = 0
row_of (handed q) = 0
row_of (machine.told k) = 0

-- after each call that is told: its row, the time in use, and what the book is told (proof_book_witness)
abbrev pub tellings : List Charged → Standing → List (List ℕ)
tellings [] s = []
tellings (c ∷ cs) s = noting c.input.tell
    (row_of (outcome_of c s).0.0 ∷ is_in_use (outcome_of c s).1 ∷ told (next c s).book.st) (tellings cs (next c s))

-- ---- before it

abbrev pub first : Turn
first = starting config buffer uncharged

abbrev pub begun : Standing
begun = record {
  driver = (comes_to 0 first driver).0.1;
  time = (comes_to 0 first driver).1;
  book = book_after 0 first driver pages;
}

-- whatever is done then
pub meets : (cs : List Charged) → Premise 0 (first ∷ turns_of cs begun) driver pages
meets cs = (tt, lawful cs begun)

pub holds : (cs : List Charged) → AfterTurns 0 (first ∷ turns_of cs begun) driver pages
holds cs = machine-shared-demand-3 0 config buffer accepted uncharged (turns_of cs begun) driver pages (meets cs)

-- ---- what happens

pub happens : tellings (before_it ++ (refused ∷ after_it)) begun
    ≡ (0 ∷ 5955 ∷ 2 ∷ 2 ∷ 0 ∷ 0 ∷ 0 ∷ 0 ∷ 0 ∷ 0 ∷ [])  -- two arrivals
    ∷ (19 ∷ 5955 ∷ 2 ∷ 2 ∷ 0 ∷ 0 ∷ 0 ∷ 0 ∷ 0 ∷ 0 ∷ [])  -- refused
    ∷ (0 ∷ 5955 ∷ 3 ∷ 3 ∷ 0 ∷ 0 ∷ 0 ∷ 0 ∷ 0 ∷ 0 ∷ [])  -- one more arrival
    ∷ (19 ∷ 5955 ∷ 3 ∷ 3 ∷ 0 ∷ 0 ∷ 0 ∷ 0 ∷ 0 ∷ 0 ∷ [])  -- refused once more
    ∷ (0 ∷ 92 ∷ 3 ∷ 3 ∷ 0 ∷ 0 ∷ 0 ∷ 0 ∷ 0 ∷ 0 ∷ [])  -- begun
    ∷ (0 ∷ 92 ∷ 4 ∷ 4 ∷ 0 ∷ 0 ∷ 0 ∷ 1 ∷ 1 ∷ 1 ∷ []) ∷ []  -- one being sent, a late arrival
unfolding counting
happens = refl

-- ---- the refusal

abbrev pub at_it : Standing
at_it = after_all before_it begun

-- the driver alone would begin it, and it would pass 6,000
abbrev begins : Standing → Bool
begins s = is_handed (drive (begin (slotted (SetEnabled In 2 true))) s.driver s.driver.buf).0

abbrev too_much : Standing → Bool
too_much s = passes (lent_time much s.time) (entry_of 0 In 2) (charge_on s.driver.st In 2)

begins-it : at_end begins before_it begun ≡ true
unfolding counting
begins-it = refl

passes-it : at_end too_much before_it begun ≡ true
unfolding counting
passes-it = refl

-- it answers 19, and leaves the driver's state, what is under way, the slots and the record
pub nineteen : outcome_of refused at_it ≡ ((ended (Refused 19), at_it.driver), lent_time much at_it.time)
nineteen = sym (refuses 0 In 2 at_it.driver (lent_time much at_it.time) at_it.driver.buf
    (at-end-is begins before_it begun ∙ begins-it) (at-end-is too_much before_it begun ∙ passes-it))

-- demand 3 says of it that what waited waits still, on every endpoint
pub still-waits : (e : ℕ) → let t = at_it.book.st in let t' = (next refused at_it).book.st in
    (t'.outs e ≡ t.outs e) × (t'.ins e ≡ t.ins e)
still-waits e =
    (at_last before_it refused begun (holds (before_it ++ (refused ∷ []))).1).call.sentences.refusal_leaves 19
    (ap (λ (x : StepResult × List ℕ). x.0.0) nineteen) e
