-- A run up to a point after EP0's start with nothing under way: what holds there
use Rattle.std.specs.Prelude.{Bool, true, false, cond, ◌&&◌, List, [], ◌∷◌, ◌≡◌, refl, ℕ, zero, ◌<◌}
use Rattle.std.proofs.Common.{true≢false, ap, subst, sym, ◌∙◌}
use Rattle.regs.specs.declared.Access.TheVariants.{Wait}
use Rattle.regs.specs.declared.Dir.TheVariants.{Out}
use Rattle.state.specs.Driver.{Driver}
use Rattle.script.specs.Tree.{ends}
use Rattle.script.specs.Every.{at_end}
use Rattle.script.specs.Answers.{Answer, Refused, NotYet}
use Rattle.script.specs.Simulates.{Phase, quiet}
use Rattle.script.specs.Calls.{Config, Op, calls, start_row}
use Rattle.script.specs.Machine.{Buf, pending, start, question, Event, ended, Pending, idle, busy, Machine, lent_to}
use Rattle.script.specs.Machine.{started}
use Rattle.script.specs.Agree.{Ways, both_idle, both_busy, agrees, from_start}
use Rattle.machine.specs.Suspended.{driver_of, drive}
use Rattle.answer.specs.Goes.{StepResult}
use Rattle.proof_book.specs.Pages.{Pages}
use Rattle.proof_book.specs.Book.{book}
use Rattle.proof_book.specs.Coupling.{Coupling}
use Rattle.proof_book.proofs.StartUpLaws.{fresh_kept}
use Rattle.proof_book.proofs.AgreesLaws.{agree}
use Rattle.proof_book.specs.TransferKinds.{Has}
use Rattle.proof_book.specs.Sorting.{sorts_of, Sorting}
use Rattle.proof_book.proofs.SortingLaws.{ep0-plain, after-sorting}
use Rattle.proof_book.specs.Always.{after}
use Rattle.proof_book.specs.MachineRuns.{Premise}
use Rattle.proof_book.proofs.SlotsKeptLaws.{lent_is}
use Rattle.calls.specs.Sharing.{starting, sort_of, time_after, turned_down}
use Rattle.proof_wake_ups.specs.Rooms.{Few, Roomy, Rooms}
use Rattle.proof_wake_ups.proofs.RoomsLaws.{room, rooms, start-rooms}
use Rattle.proof_isolation.specs.EqualExcept as but
use Rattle.proof_isolation.specs.EqualExcept.{Bounded, Channel}
use Rattle.proof_isolation.specs.BoundsLaws.{after-bounded}
use Rattle.proof_isolation.specs.Apart.{end}
use Rattle.proof_isolation.specs.Answers as answer
use Rattle.proof_isolation.specs.Schedule.{Run, Early, gets, shares, run_by, sharing, called, given, heeded}
use Rattle.proof_isolation.specs.Schedule.{SameAns, same}
use Rattle.proof_isolation.specs.FreshBook.{fresh_book}
use Rattle.proof_isolation.proofs.Standing.{At, at}
use Rattle.proof_isolation.proofs.Runs.{lent-room}

-- with room for wake-ups
pub record Roomed (r : Run) : Type 0 where
  pub few : Few r.answer
  pub machine : Roomy r.machine

-- ---- a run of such calls is one of demand 3

module _ (share : Bool) (n : ℕ) where
  -- a call that is turned down does to the machine what a question does
  turned : (d : Bool) (e : Event Config Op) (m : Machine Answer Driver) (t u : List ℕ)
      → (cond {A = StepResult × List ℕ} d ((ended (Refused 19), lent_to calls driver_of m e.lent), t)
      (drive e.call m e.lent, u)).0.1
      ≡ (drive (cond d (record { call = question (pending 0); lent = e.lent }) e).call m
      (cond d (record { call = question (pending 0); lent = e.lent }) e).lent).1
  turned true e m t u = refl
  turned false e m t u = refl

  pub heeds : (es : List Early) (r : Run) → (given share n es r).machine
      ≡ after calls driver_of (heeded share n es r) r.machine
  heeds [] r = refl
  heeds (shares f ∷ es) r = heeds es (sharing f r)
  heeds (gets e ∷ es) r = heeds es (called share n e.call e.lent r)
      ∙ ap (λ m. after calls driver_of (heeded share n es (called share n e.call e.lent r)) m)
      (turned (turned_down n (sort_of e.call) (drive e.call r.machine e.lent).0 r.machine.st r.time
      && share) e r.machine r.time _)

  shared-rooms : (d : Bool) {m : Machine Answer Driver} → Roomy m → (b : Buf) {y : StepResult} → Rooms y
      → (t u : List ℕ)
      → Rooms (cond {A = StepResult × List ℕ} d ((ended (Refused 19), lent_to calls driver_of m b), t) (y, u)).0
  shared-rooms true k b r t u = record { answer = tt; machine = lent-room k b }
  shared-rooms false k b r t u = r

  pub given-rooms : (es : List Early) (r : Run) → Roomed r → Roomed (given share n es r)
  given-rooms [] r k = k
  given-rooms (shares f ∷ es) r k = given-rooms es (sharing f r) (record { few = k.few; machine = k.machine })
  given-rooms (gets e ∷ es) r k =
      let x = shared-rooms (turned_down n (sort_of e.call) (drive e.call r.machine e.lent).0 r.machine.st
      r.time && share)
      k.machine e.lent (rooms e.call k.machine e.lent) r.time _ in
      given-rooms es (called share n e.call e.lent r) (record { few = x.answer; machine = x.machine })

-- ---- with a book

record Stood (m : Machine Answer Driver) : Type 0 where
  phase : Phase
  pages : Machine Answer Pages
  ways : Ways driver_of book agree calls phase m.under_way_lem pages.under_way_lem
  rest : Coupling phase m.buf m.st pages.st

stood : (es : List (Event Config Op)) {φ : Phase} (m : Machine Answer Driver) (d : Machine Answer Pages)
    → Ways driver_of book agree calls φ m.under_way_lem d.under_way_lem → Coupling φ m.buf m.st d.st
    → Premise es m d → Stood (after calls driver_of es m)
stood [] {φ} m d w r l = record { phase = φ; pages = d; ways = w; rest = r }
stood (e ∷ es) m d w r l = let a = agrees driver_of book agree calls fresh_kept
    e.call e.lent m d w r (lent_is m d r e.lent e.call l.0) in stood es _ _ a.ways a.rest l.1

abbrev is_idle : {A S : Type 0} → Pending A S → Bool
is_idle idle = true
is_idle (busy i a k) = false

at_rest : {φ : Phase} {w : Pending Answer Driver} {w' : Pending Answer Pages} → Ways driver_of book agree calls φ w w'
    → is_idle w ≡ true → φ ≡ quiet
at_rest both_idle e = refl
at_rest (both_busy i a p k) e = absurd (true≢false (sym e))

quiet-rest : {m : Machine Answer Driver} (s : Stood m) → m.under_way_lem ≡ idle
    → Coupling quiet m.buf m.st s.pages.st
quiet-rest {m} s e = subst (λ φ. Coupling φ m.buf m.st s.pages.st) (at_rest s.ways (ap is_idle e)) s.rest

-- ---- the channel

-- every isochronous OUT endpoint of a run is one
abbrev pub channel_of : {d : Driver} → Sorting d → (x : ℕ) → x < 16 → sorts_of d Out x ≡ true → Channel
channel_of {d} k x small iso = record { number = x; below = small; iso = sorts_of d; receives = iso; ep0 = ep0-plain k }

-- ---- two runs that are one

abbrev rested : Pending Answer Driver → Run → Run
rested w r = record {
  machine = record { under_way_lem = w; st = r.machine.st; buf = r.machine.buf };
  access = r.access;
  answer = r.answer;
  time = r.time;
}

-- two runs at rest that are the same but for the bytes of the channel's slots
pub stands-idle : (c : Channel) (r r' : Run) → but.LowEquiv c quiet (r.machine.st, r.machine.buf)
    (r'.machine.st, r'.machine.buf)
    → Roomed r → Roomed r' → r.machine.under_way_lem ≡ idle → r'.machine.under_way_lem ≡ idle → r.answer ≡ r'.answer
    → r.time ≡ r'.time
    → At c (record { first = r; second = r'; status = 0 })
stands-idle c r r' l k k' e e' a t =
    subst (λ w. Roomy (rested w r).machine → At c (record { first = rested w r; second = r'; status = 0 })) (sym e)
    (λ y. subst (λ w. Roomy (rested w r').machine → At c
    (record { first = rested idle r; second = rested w r'; status = 0 })) (sym e')
    (λ y'. at 0 false {o = ends NotYet (r.machine.st, r.machine.buf)}
    {u = ends NotYet (r'.machine.st, r'.machine.buf)}
    (end (answer.same NotYet) l) r.access r'.access
    (subst (λ b. SameAns c.number r.answer b) a (same r.answer))
    (record { spares = λ _. at_end tt; few = k.few; room = y })
    (record { spares = λ _. at_end tt; few = k'.few; room = y' }) t) k'.machine) k.machine

-- after a start-up that rows 1 and 2 do not stop, and a list of calls under demand 3's premise
module _ (share : Bool) (n : ℕ) (k : Config) (b : Buf) (row : start_row k b ≡ zero) where
  abbrev new : Machine Answer Driver
  new = record { under_way_lem = idle; st = driver_of.fresh k; buf = b }

  -- what was before is gone
  abbrev pub anew : List ℕ → Run
  anew t = let x = started calls driver_of (λ s. s) k zero new b in
      run_by (Wait 0) (x, time_after n starting x.0 (driver_of.fresh k) t)

  pub starts : (r : Run) → called share n (start k) b r ≡ anew r.time
  starts r = rw row refl

  anew-rooms : (t : List ℕ) → Roomed (anew t)
  anew-rooms t = let x : Rooms (started calls driver_of (λ s. s) k zero new b) =
      subst (λ i. Rooms (started calls driver_of (λ s. s) k i new b)) row
      (start-rooms k b row new) in
      record { few = x.answer; machine = x.machine }

  -- a state under demand 3's premise, with room for wake-ups
  pub record Met (c : Channel) (z : Run) : Type 0 where
    pub lawful : but.Lawful c.iso quiet (z.machine.st, z.machine.buf)
    pub roomed : Roomed z

  abbrev Claim : List Early → Run → Type 0
  Claim es x = let z = given share n es x in
      Premise (heeded share n es x) x.machine (fresh_book k b x.answer) → z.machine.under_way_lem ≡ idle
      → z.machine.st.globals.stage ≡ 2
      → (c : Channel) → c.iso ≡ sorts_of z.machine.st → Met c z

  module _ (es : List Early) (t : List ℕ) where
    abbrev met : Run
    met = given share n es (anew t)

    abbrev heard : List (Event Config Op)
    heard = heeded share n es (anew t)

    -- what holds after the start-up and the list that was heeded
    met_by : (P : Driver → Type 0) → P (after calls driver_of heard
        (started calls driver_of (λ s. s) k (start_row k b) new b).1).st → P met.machine.st
    met_by P h = subst (λ (m : Machine Answer Driver). P m.st) (sym (heeds share n es (anew t)))
        (subst (λ i. P (after calls driver_of heard (started calls driver_of (λ s. s) k i new b).1).st) row h)

    met_sorting : Sorting met.machine.st
    met_sorting = met_by Sorting (after-sorting k b row heard new)

    met_bounded : Bounded met.machine.st
    met_bounded = met_by Bounded (after-bounded k b row heard new)

    stands_met : Premise heard (anew t).machine (fresh_book k b (anew t).answer)
        → met.machine.under_way_lem ≡ idle → met.machine.st.globals.stage ≡ 2 → (c : Channel)
        → c.iso ≡ sorts_of met.machine.st → Met c met
    stands_met l e g c f =
        let a = (from_start driver_of book agree calls fresh_kept k b row [] new
        (record { under_way_lem = idle; st = book.driver.fresh k; buf = b }) tt).0 in
        let z : Stood met.machine = subst Stood (sym (heeds share n es (anew t)))
        (stood heard _ _ a.ways a.rest l) in
        record {
          lawful = record {
            pages = z.pages.st;
            rest = quiet-rest z e;
            has = subst (λ i. Has i met.machine.st) (sym f) met_sorting.has;
            stage = g;
            bounded = met_bounded;
          };
          roomed = given-rooms share n es (anew t) (anew-rooms t);
        }

  pub one_so_far : (es : List Early) (r : Run) → Claim es (called share n (start k) b r)
  one_so_far es r = subst (λ x. Claim es x) (sym (starts r)) (stands_met es r.time)
