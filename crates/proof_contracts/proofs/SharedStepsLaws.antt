-- Theorems over lists of calls of the driver alone (`Steps`, proof_book/specs/CodeReadings.antt) hold of the public
-- calls, of which start-up, enabling and continue bring the record of bus time: such a list is one of the driver alone
-- in which a call that row 19 stops is a question (`all_alone`, SharedAlone.antt). Of what the calls are lent nothing is
-- asked. A refusal, 19 too, leaves every byte that was lent
use Rattle.std.specs.Prelude.{Bool, true, false, cond, List, [], ◌∷◌, ◌++◌, ◌≡◌, refl, ℕ, zero, ◌+◌, ◌%◌, ◌≤◌, eqb, length}
use Rattle.std.proofs.Common.{inl, inr, ap, subst, sym, ◌∙◌, arith}
use Rattle.regs.specs.declared.Access.TheVariants.{Read, Transmit}
use Rattle.regs.specs.declared.Reg.TheVariants.{FrameNo}
use Rattle.regs.specs.declared.Dir.{Dir}
use Rattle.ring.specs.Copies.{over}
use Rattle.state.specs.Driver.{Driver}
use Rattle.state.specs.State.{view, saved}
use Rattle.state.specs.Wakes.{listed}
use Rattle.state.specs.Determined.{Bytes}
use Rattle.script.specs.Script.{ret, test, run}
use Rattle.script.specs.Answers.{Answer, Refused, End, NotYet, Done, Shown, resultless}
use Rattle.script.specs.Handler.{stamped_interrupt}
use Rattle.script.specs.Calls.{Config, Op, interrupt, calls, start_row}
use Rattle.script.specs.Machine.{Buf, Call, Event, start, begin, Pending, idle, busy, Machine, Ans, ended, handed, told}
use Rattle.script.specs.Machine.{lent_to, begun, halt, started, fed}
use Rattle.script_ops.specs.Concrete.{concrete}
use Rattle.machine.specs.Suspended.{decode, machine_of, driver_of, drive}
use Rattle.answer.specs.Goes.{StepResult}
use Rattle.calls.specs.Sharing.{sort_of, time_after, settled}
use Rattle.usbhs_c.proofs.usbhs_woken.Reads as woken-contract
use Rattle.ring.specs.Waiting.{Same}
use Rattle.proof_book.specs.Pages.{Pages}
use Rattle.proof_book.specs.Book.{book}
use Rattle.proof_book.specs.FrontPage.{CallRecord}
use Rattle.proof_book.specs.FrontPage as page
use Rattle.proof_book.proofs.SlotsStayLaws.{slots-stay}
use Rattle.proof_stale.specs.Stale.{NoneStaleEach, OwnEach, NoArrivalEach, DecidedStoredEach}
use Rattle.proof_stale.proofs.NothingStaleLaws.{nothing-stale}
use Rattle.proof_stale.proofs.OwnSlotLaws.{own-slots, nothing-arrives}
use Rattle.proof_stale.proofs.StoredSinceLaws.{decided-stored}
use Rattle.proof_stale.specs.Samples.{Each, Unmarked, packed, SamplesEach}
use Rattle.proof_stale.proofs.SamplesLaws.{samples-whole}
use Rattle.proof_book.specs.Lengths.{Known, learnt}
use Rattle.proof_book.specs.Watched.{WatchedBook, watched, RunLent}
use Rattle.proof_book.specs.LateArrival.{JoinEach}
use Rattle.proof_book.proofs.LateArrivalLaws.{late-arrivals}
use Rattle.proof_book.specs.Stamping.{not_yet_lem, StampsMade}
use Rattle.proof_book.proofs.StampingLaws.{code-stamps}
use Rattle.proof_book.specs.CodeReadings.{Steps, bytes_after, slots_after, read_by}
use Rattle.proof_book.proofs.CodeReadingsLaws.{code-4056}
use Rattle.proof_book.specs.Continues.{made_continues}
use Rattle.proof_book.specs.CodeContinuesLaws.{code-4154}
use Rattle.proof_wake_ups.specs.Heard.{Heard}
use Rattle.proof_wake_ups.specs.Code.{AsHeard}
use Rattle.proof_wake_ups.proofs.CodeLaws.{code-wake-ups}
use Rattle.proof_usb20.specs.Observer.{started_by}
use Rattle.proof_usb20.specs.CodeRuns.{CodeAll}
use Rattle.proof_usb20.specs.ControlStages.{control}
use Rattle.proof_usb20.proofs.ControlStagesLaws.{code-control-stages}
use Rattle.proof_usb20.specs.DataToggles.{toggles, words}
use Rattle.proof_usb20.proofs.DataTogglesLaws.{code-data-toggles, code-control-words}
use Rattle.proof_usb20.specs.TogBits.{TogBits}
use Rattle.proof_usb20.specs.TogBitsRunsLaws.{code-tog-bits}
use Rattle.proof_refusals.specs.Outcomes.{Listed}
use Rattle.proof_refusals.proofs.Ends.{end-lists}
use Rattle.proof_refusals.specs.Bytes.{Spares, BringsSlots}
use Rattle.proof_refusals.proofs.BytesLaws.{time-left, shared-bytes-left, shared-slots-left}
use Rattle.proof_contracts.specs.SharedPage.{MadeShared, outcome_of, CallStep, Calls}
use Rattle.proof_contracts.specs.SharedCall.{did-alone}
use Rattle.proof_contracts.specs.SharedAlone.{is_down, made_alone, all_alone}
use Rattle.proof_contracts.proofs.SharedAloneLaws.{start-alone, code-alone}
use Rattle.proof_contracts.specs.SavedPage.{passes, SavesAs, Saving}
use Rattle.proof_contracts.specs.Steps.{made, IsStep, IsStepLent, IsStepCharged, IsStepStart}

-- ---- lists of calls

module _ (i : ℕ) where
  pub steps-alone : (ms : List MadeShared) (xs : List ℕ) (a : Buf) → Saving i xs a ms → Steps xs a (all_alone i xs a ms)
  steps-alone [] xs a h = tt
  steps-alone (m ∷ ms) xs a h = (
    did-alone i m.event.call m.event.lent m.before (machine_of xs a) (outcome_of m) h.0,
    steps-alone ms m.bytes m.slots h.2,
  )

  -- what a call came to, by whether row 19 stops it
  abbrev outcome : List ℕ → Buf → MadeShared → Bool → StepResult × List ℕ
  outcome xs a m u =
      let c = m.event.call in
      let y = drive c (machine_of xs a) m.event.lent in
      cond u ((ended (Refused 19), lent_to calls driver_of (machine_of xs a) m.event.lent), m.before)
      (y, time_after i (sort_of c) y.0 (view xs) m.before)

  came-to : (xs : List ℕ) (a : Buf) (m : MadeShared) → CallStep i xs a m → outcome_of m
      ≡ outcome xs a m (is_down i xs a m)
  unfolding settled
  came-to xs a m did = did

  -- one that row 19 does not stop stands in that list as it was made; one that it stops was refused with 19, and
  -- changed nothing
  pub as-made : (xs : List ℕ) (a : Buf) (m : MadeShared) → is_down i xs a m ≡ false
      → ((made_alone i xs a m).event ≡ m.event) × ((made_alone i xs a m).answer ≡ m.answer)
  as-made xs a m h = rw h (refl, refl)

  pub as-refused : (xs : List ℕ) (a : Buf) (m : MadeShared) → CallStep i xs a m → is_down i xs a m ≡ true
      → outcome_of m ≡ ((ended (Refused 19), lent_to calls driver_of (machine_of xs a) m.event.lent), m.before)
  as-refused xs a m did h = came-to xs a m did ∙ ap (outcome xs a m) h

  -- an interrupt's begin is not stopped by row 19
  interrupt-alone : (xs : List ℕ) (a : Buf) (m : MadeShared) (slots : Buf)
      → m.event ≡ record { call = begin interrupt; lent = slots }
      → (made_alone i xs a m).event ≡ record { call = begin interrupt; lent = slots }
  interrupt-alone xs a m slots e =
      subst (λ (v : Event Config Op). (made_alone i xs a
      (made v.call v.lent m.before m.time m.answer m.bytes m.slots)).event
      ≡ record { call = begin interrupt; lent = slots }) (sym e) refl

  -- an interrupt ends, from any bytes (demand 1)
  pub shared-continues : (xs : List ℕ) (a : Buf) → (machine_of xs a).under_way_lem ≡ idle → (m : MadeShared) (slots : Buf)
      → m.event ≡ record { call = begin interrupt; lent = slots } → (fs : List MadeShared) → Saving i xs a (m ∷ fs)
      → made_continues m.bytes m.slots (all_alone i m.bytes m.slots fs) ≤ 4154
  shared-continues xs a w m slots e fs h =
      code-4154 xs a w (made_alone i xs a m) slots (interrupt-alone xs a m slots e) (all_alone i m.bytes m.slots fs)
      (steps-alone (m ∷ fs) xs a h)

  -- any bytes, a start-up that rows 1 and 2 do not stop, and any calls: those with the record, and those refused with
  -- 19 too
  module _ (c : Config) (b : Buf) (row : start_row c b ≡ zero) (xs : List ℕ) (a : Buf) (first : MadeShared)
      (is-start : first.event ≡ record { call = start c; lent = b }) (ms : List MadeShared)
      (run : Saving i xs a (first ∷ ms)) where
    abbrev pub up : CallRecord
    up = made_alone i xs a first

    abbrev pub further : List CallRecord
    further = all_alone i first.bytes first.slots ms

    is_up : up.event ≡ record { call = start c; lent = b }
    is_up = start-alone i c b xs a first is-start

    steps : Steps xs a (up ∷ further)
    steps = steps-alone (first ∷ ms) xs a run

    -- the readings of an interrupt (demand 1)
    pub shared-readings : let ys = bytes_after xs (up ∷ further) in let d = slots_after a (up ∷ further) in
        (machine_of ys d).under_way_lem ≡ idle → (m : MadeShared) (slots : Buf) → m.event
        ≡ record { call = begin interrupt; lent = slots }
        → (fs : List MadeShared) → Saving i ys d (m ∷ fs) → read_by (all_alone i ys d (m ∷ fs)) ≤ 4056
    shared-readings w m slots e fs h =
        let ys = bytes_after xs (up ∷ further) in let d = slots_after a (up ∷ further) in
        code-4056 c b row xs a up is_up further steps w (made_alone i ys d m) slots (interrupt-alone ys d m slots e)
        (all_alone i m.bytes m.slots fs) (steps-alone (m ∷ fs) ys d h)

    -- request Nine
    pub shared-wake-ups : (n : Machine Answer Heard) → AsHeard n (up ∷ further)
    shared-wake-ups n = code-wake-ups c b row xs a n up is_up further steps

    -- USB 2.0 (demand 2)
    pub shared-control-stages : CodeAll control further (started_by control up.answer)
    shared-control-stages = code-control-stages c b row xs a up is_up further steps

    pub shared-data-toggles : (D : Dir) (E : ℕ) → (E % 16 ≡ 0 → ⊥)
        → CodeAll (toggles D E) further (started_by (toggles D E) up.answer)
    shared-data-toggles D E h = code-data-toggles D E h c b row xs a up is_up further steps

    pub shared-control-words : (D : Dir) (E : ℕ) → (E % 16 ≡ 0 → ⊥)
        → CodeAll (words D E) further (started_by (words D E) up.answer)
    shared-control-words D E h = code-control-words D E h c b row xs a up is_up further steps

    pub shared-tog-bits : TogBits (view (bytes_after xs (up ∷ further)))
    shared-tog-bits = code-tog-bits c b row xs a up is_up further steps

-- ---- theorems that ask what the calls are lent (`Calls`, SharedPage.antt): by `code-alone`

appended : (i : ℕ) (ms ns : List MadeShared) (xs : List ℕ) (a : Buf) → all_alone i xs a (ms ++ ns)
    ≡ all_alone i xs a ms ++ all_alone i (bytes_after xs (all_alone i xs a ms)) (slots_after a (all_alone i xs a ms)) ns
appended i [] ns xs a = refl
appended i (m ∷ ms) ns xs a = ap (λ (l : List CallRecord). made_alone i xs a m ∷ l)
    (appended i ms ns m.bytes m.slots)

module _ (i : ℕ) (c : Config) (b : Buf) (row : start_row c b ≡ zero) (xs : List ℕ) (a : Buf) (n : Machine Answer Pages)
    (first : MadeShared) (is-start : first.event ≡ record { call = start c; lent = b }) where
  -- request One
  pub shared-stamps : (ms : List MadeShared) → Calls i xs a n (first ∷ ms)
      → StampsMade first.bytes first.slots not_yet_lem (all_alone i first.bytes first.slots ms)
  shared-stamps ms run =
      let one = made_alone i xs a first in
      let is_one = start-alone i c b xs a first is-start in
      let alone = code-alone i c b row xs a n first is-start ms run in
      let y = started calls book.driver (fed book one.answer) c zero n b in
      let booked : (page.book_after one n).1 ≡ y.1 =
      subst (λ (v : Event Config Op). (page.book_step one.answer v.call n v.lent).1 ≡ y.1) (sym is_one)
      (ap (λ (r : ℕ). (started calls book.driver (fed book one.answer) c r n b).1) row) in
      code-stamps c b row xs a n one is_one alone.0 (all_alone i first.bytes first.slots ms)
      (subst (λ (z : Machine Answer Pages). page.Calls first.bytes first.slots z
      (all_alone i first.bytes first.slots ms)) booked alone.2)

  -- no old sample is read again
  pub shared-nothing-stale : (ms : List MadeShared) → Calls i xs a n (first ∷ ms) → (e : ℕ)
      → let one = made_alone i xs a first in NoneStaleEach e false one.slots (page.book_after one n).1 []
      (all_alone i first.bytes first.slots ms)
  shared-nothing-stale ms run e = nothing-stale c b row xs a n (made_alone i xs a first)
      (start-alone i c b xs a first is-start)
      (all_alone i first.bytes first.slots ms) (code-alone i c b row xs a n first is-start ms run) e

  -- whose slot is armed; nothing stored, no arrival; what is decided, turned away too, was stored since
  pub shared-own-slots : (ms : List MadeShared) → Calls i xs a n (first ∷ ms)
      → let one = made_alone i xs a first in OwnEach (page.book_after one n).1
      (all_alone i first.bytes first.slots ms)
  shared-own-slots ms run = own-slots c b row xs a n (made_alone i xs a first) (start-alone i c b xs a first is-start)
      (all_alone i first.bytes first.slots ms) (code-alone i c b row xs a n first is-start ms run)

  pub shared-nothing-arrives : (ms : List MadeShared) → Calls i xs a n (first ∷ ms) → (e : ℕ)
      → let one = made_alone i xs a first in
      NoArrivalEach e false one.slots (page.book_after one n).1 [] (all_alone i first.bytes first.slots ms)
  shared-nothing-arrives ms run e =
      nothing-arrives c b row xs a n (made_alone i xs a first) (start-alone i c b xs a first is-start)
      (all_alone i first.bytes first.slots ms) (code-alone i c b row xs a n first is-start ms run) e

  pub shared-decided-stored : (ms : List MadeShared) → Calls i xs a n (first ∷ ms) → (e : ℕ)
      → let one = made_alone i xs a first in
      DecidedStoredEach e false one.slots (page.book_after one n).1 [] (all_alone i first.bytes first.slots ms)
  shared-decided-stored ms run e =
      decided-stored c b row xs a n (made_alone i xs a first) (start-alone i c b xs a first is-start)
      (all_alone i first.bytes first.slots ms) (code-alone i c b row xs a n first is-start ms run) e

  -- a packet of whole samples is never short and never lost to the mark; a late packet joins as it was received
  -- (request Eight)
  pub shared-samples-whole : (ms : List MadeShared) → Calls i xs a n (first ∷ ms)
      → (e k : ℕ) (vs : List ℕ) → Each Unmarked vs → (y : Machine Answer WatchedBook)
      → let one = made_alone i xs a first in let es = all_alone i first.bytes first.slots ms in
      let z = started calls (watched e).driver (fed (watched e) one.answer) c zero y b in
      RunLent e k (packed vs) one.bytes one.slots z.1 es → (f : Known)
      → SamplesEach e k vs one.slots (page.book_after one n).1 (learnt one.event.call one.answer f) z.1 es
  shared-samples-whole ms run e k vs unmarked y =
      samples-whole e k vs unmarked c b row xs a n y (made_alone i xs a first) (start-alone i c b xs a first is-start)
      (all_alone i first.bytes first.slots ms) (code-alone i c b row xs a n first is-start ms run)

  pub shared-late-arrivals : (ms : List MadeShared) → Calls i xs a n (first ∷ ms)
      → (e k : ℕ) (packet : List ℕ) (y : Machine Answer WatchedBook)
      → let one = made_alone i xs a first in let es = all_alone i first.bytes first.slots ms in
      let z = started calls (watched e).driver (fed (watched e) one.answer) c zero y b in
      RunLent e k packet one.bytes one.slots z.1 es → (f : Known)
      → JoinEach e k packet (page.book_after one n).1 (learnt one.event.call one.answer f) z.1 es
  shared-late-arrivals ms run e k packet y =
      late-arrivals e k packet c b row xs a n y (made_alone i xs a first) (start-alone i c b xs a first is-start)
      (all_alone i first.bytes first.slots ms) (code-alone i c b row xs a n first is-start ms run)

  -- "no slot being sent is written" (demand 3)
  pub shared-slots-stay : (before : List MadeShared) (hands : MadeShared) (further : List MadeShared)
      → Calls i xs a n (first ∷ (before ++ (hands ∷ further)))
      → let one = made_alone i xs a first in let es = all_alone i first.bytes first.slots before in
      let hand = made_alone i (bytes_after xs (one ∷ es)) (slots_after a (one ∷ es)) hands in
      let rest = all_alone i hands.bytes hands.slots further in
      let n' = (page.book_after hand (page.book_after_all n (one ∷ es))).1 in
      (e x : ℕ) → hand.answer ≡ handed (Transmit e x) → (n'.st.ins e).load ≡ true → page.NotEnded e n' rest
      → (b' : Buf) → page.Chip (page.book_after_all n' rest).st (page.slots_after hands.slots rest) b'
      → Same x (x + page.slot_size n'.st) hands.slots b'
  shared-slots-stay before hands further run =
      let one = made_alone i xs a first in
      let es = all_alone i first.bytes first.slots before in
      slots-stay c b row xs a n one (start-alone i c b xs a first is-start) es
      (made_alone i (bytes_after xs (one ∷ es)) (slots_after a (one ∷ es)) hands)
      (all_alone i hands.bytes hands.slots further)
      (subst (λ (l : List CallRecord). page.Calls xs a n (one ∷ l))
      (appended i before (hands ∷ further) first.bytes first.slots)
      (code-alone i c b row xs a n first is-start (before ++ (hands ∷ further)) run))

-- ---- a refusal leaves every byte that was lent, but for a poll's 9 and 10: of a public or exported call, by its lemma
-- (Calls.antt, Exported.antt)

saved-left : (p : Bool) (n : ℕ) (x : Ans Answer) (xs ys : List ℕ) → x ≡ ended (Refused n) → SavesAs p x xs ys → saved ys
    ≡ saved xs
saved-left true n x xs ys e h = h
saved-left false n x xs ys e h = subst (λ (z : Ans Answer). SavesAs false z xs ys) e h

module _ (n : ℕ) (xs ys : List ℕ) (long : Bytes xs) (long' : Bytes ys) where
  pub unlent-left : (c : Call Config Op) (x : Buf → Ans Answer) (b : Buf) → IsStep c xs x ys → x b ≡ ended (Refused n)
      → Spares c n → ys ≡ xs
  unlent-left c x b h e s =
      shared-bytes-left 0 c n xs ys (x b) e [] b b [] [] (h.did 0 [] b [])
      (saved-left (passes c) n (x b) xs ys e (h.saves b)) s long long'

  pub lent-left : (c : Call Config Op) (x : Ans Answer) (b b' : Buf) → IsStepLent c xs x ys b b' → x ≡ ended (Refused n)
      → BringsSlots c ≡ true → Spares c n → (ys ≡ xs) × (b' ≡ b)
  lent-left c x b b' h e brings s = (
    shared-bytes-left 0 c n xs ys x e [] b _ [] [] (h.did 0 [] []) (saved-left (passes c) n x xs ys e h.saves) s
        long long',
    shared-slots-left 0 c n xs ys x e b b' [] [] (λ a. h.did 0 a []) h.kept brings,
  )

  pub charged-left : (i : ℕ) (c : Call Config Op) (x : Ans Answer) (b b' : Buf) (time time' : List ℕ)
      → IsStepCharged i c xs x ys b b' time time' → x ≡ ended (Refused n)
      → BringsSlots c ≡ true → Spares c n → (ys ≡ xs) × (b' ≡ b) × (time' ≡ time)
  charged-left i c x b b' time time' h e brings s = (
    shared-bytes-left i c n xs ys x e [] b _ time time' (h.did []) (saved-left (passes c) n x xs ys e h.saves) s
        long long',
    shared-slots-left i c n xs ys x e b b' time time' h.did h.kept brings,
    time-left i c n xs ys x e [] b _ time time' (h.did []),
  )

  pub start_left : (i : ℕ) (c : Config) (x : Ans Answer) (b : Buf) (time time' : List ℕ)
      → IsStepStart i c xs x ys b time time' → x ≡ ended (Refused n) → (ys ≡ xs) × (time' ≡ time)
  start_left i c x b time time' h e = (
    shared-bytes-left i (start c) n xs ys x e [] b _ time time' (h.did [])
        (saved-left false n x xs ys e h.saves) (inl refl) long long',
    time-left i (start c) n xs ys x e [] b _ time time' (h.did []),
  )

-- ---- "each interrupt now begins with a frame reading" (request One): its begin hands out that, or a row refuses it.
-- So the number that its first continue brings, whose index is the stamp of what arrives (`OneMore`,
-- proof_book/specs/Stamping.antt), is a reading of frame_no

abbrev pub ReadsFrame : Ans Answer → Type 0
ReadsFrame (handed q) = q ≡ Read FrameNo 0
ReadsFrame (ended (Refused r)) = Unit {0}
ReadsFrame (ended (End r ws)) = ⊥
ReadsFrame (ended NotYet) = ⊥
ReadsFrame (ended (Done bytes)) = ⊥
ReadsFrame (ended (Shown bytes stamp)) = ⊥
ReadsFrame (told k) = ⊥

begin-frame : (w : Pending Answer Driver) (d : Driver) (a b : Buf)
    → ReadsFrame (begun calls driver_of (λ s. s) interrupt (record { under_way_lem = w; st = d; buf = a }) w b).0
begin-frame idle d a b = by (eqb d.globals.stage 2)
  where
    by : (u : Bool) → ReadsFrame (halt calls driver_of (λ s. s) true
        (run {i = true} concrete (test u (resultless stamped_interrupt) (ret (Refused 4))) (d, b))).0
    by true = refl
    by false = tt
begin-frame (busy true q k) d a b = tt
begin-frame (busy false q k) d a b = tt

pub interrupt-frame : (i : ℕ) (xs : List ℕ) (a : Buf) (m : MadeShared) (slots : Buf) → CallStep i xs a m
    → m.event ≡ record { call = begin interrupt; lent = slots } → ReadsFrame m.answer
unfolding settled
interrupt-frame i xs a m slots did e =
    subst (λ (v : Event Config Op). CallStep i xs a (made v.call v.lent m.before m.time m.answer
    m.bytes m.slots) → ReadsFrame m.answer)
    (sym e) by did
  where
    by : CallStep i xs a (made (begin interrupt) slots m.before m.time m.answer m.bytes m.slots)
        → ReadsFrame m.answer
    by h = subst ReadsFrame (sym (ap (λ (z : StepResult × List ℕ). z.0.0) h))
        (begin-frame (machine_of xs a).under_way_lem (view xs) a slots)

-- ---- the wake-ups that an end tells are those that usbhs_woken gives after it, in their order (request Nine)

told-wakes : (ws : List ℕ) (d : Driver) → (ws ≡ [] → ⊥) → Listed ws d → listed d.wakes ≡ ws
told-wakes ws d some (inl e) = absurd (some e)
told-wakes ws d some (inr e) = sym e

end-told : (i : ℕ) (xs : List ℕ) (a : Buf) (m : MadeShared) (n : ℕ) (ws : List ℕ) → CallStep i xs a m → m.answer
    ≡ ended (End n ws)
    → Listed ws (view m.bytes)
end-told i xs a m n ws did e = by (is_down i xs a m) (came-to i xs a m did)
  where
    by : (u : Bool) → outcome_of m ≡ outcome i xs a m u → Listed ws (view m.bytes)
    by true h = let z : ended (End n ws) ≡ ended (Refused 19) = sym e ∙ ap (λ (z : StepResult × List ℕ). z.0.0) h in
        let k : ◌≡◌ {A = ℕ} 0 1 = cc in absurd (omega arith)
    by false h =
        let y = drive m.event.call (machine_of xs a) m.event.lent in
        let same : y.1.st ≡ view m.bytes = sym (ap (λ (z : StepResult × List ℕ). z.0.1.st) h) in
        subst (Listed ws) same (end-lists m.event.call (decode (saved xs)) (view xs) a m.event.lent n ws
        (sym (ap (λ (z : StepResult × List ℕ). z.0.0) h) ∙ e))

pub woken-tells : (κs s room r z : _) → woken-contract.Learnt κs (s, (room, tt)) r z
    → (i : ℕ) (xs : List ℕ) (a : Buf) (m : MadeShared) → CallStep i xs a m → m.bytes ≡ s.now
    → (n : ℕ) (ws : List ℕ) → m.answer ≡ ended (End n ws) → (ws ≡ [] → ⊥)
    → (r ≡ length ws) × (z.1.0.now ≡ over ws room.now)
woken-tells κs s room r z h i xs a m did left n ws e some =
    let told : listed (view s.now).wakes ≡ ws = told-wakes ws (view s.now) some
    (subst (λ (ys : List ℕ). Listed ws (view ys)) left (end-told i xs a m n ws did e)) in
    (h.0 ∙ ap length told, h.1 ∙ ap (λ (l : List ℕ). over l room.now) told)
