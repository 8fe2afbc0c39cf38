-- Both runs with each call worked out once: where a start-up, a list of calls and moves pass the test (`Passes`), they
-- meet the premise of request Fourteen (`opens`)
use Rattle.std.specs.Prelude.{Bool, true, false, cond, ◌&&◌, List, [], ◌∷◌, ◌≡◌, refl, ℕ, zero, suc, get_or, take, drop}
use Rattle.std.proofs.Common.{true≢false, ap, subst, sym, ◌∙◌, arith}
use Rattle.regs.specs.declared.Dir.{Dir}
use Rattle.regs.specs.declared.Dir.TheVariants.{Out, In}
use Rattle.state.specs.Driver.{Driver}
use Rattle.script.specs.Statics.{flag}
use Rattle.script.specs.Answers.{Answer}
use Rattle.script.specs.Calls.{Config, Op, interrupt, aside, Open, Close, calls, start_row}
use Rattle.script.specs.Machine.{Buf, Call, start, begin, continue, question, pending}
use Rattle.script.specs.Machine.{Pending, idle, busy, Machine, misfit}
use Rattle.machine.specs.Suspended.{drive}
use Rattle.calls.specs.Sharing.{sort_of, turned_down}
use Rattle.proof_book.specs.Pages.{Pages}
use Rattle.proof_book.specs.Book.{book}
use Rattle.proof_book.specs.FrontPage.{Chip, when_not, BufferPreserved}
use Rattle.proof_book.specs.MachineRuns.{Premise}
use Rattle.proof_book.specs.Sorting.{sorts_of}
use Rattle.proof_isolation.specs.EqualExcept.{Channel}
use Rattle.proof_isolation.specs.Schedule.{Run, Two, Turn, gets, first_of, second_of}
use Rattle.proof_isolation.specs.Schedule.{run_by, own_by, status_of}
use Rattle.proof_isolation.specs.Schedule.{called, apart, alone, turn, given, heeded, after, May, Allowed}
use Rattle.proof_isolation.specs.FreshBook.{fresh_book}
use Rattle.proof_isolation.specs.Undisturbed.{Session, opened, one_list, Opens}
use Rattle.proof_isolation.specs.Moves.{Move, serves, reads, stored, stored_both, first_Goes, second-goes}
use Rattle.proof_isolation.specs.Moves.{first-opens, first-closes}
use Rattle.proof_isolation.specs.Moves.{is_idle}
use Rattle.proof_isolation.proofs.MovesLaws.{turn_of, fine, sound}
use Rattle.proof_isolation.specs.Once.{earlies, by_down, next_run, gives_lent_back, Meets, quick, quickly, quick_own, quick_back, quick_all, ones, parting}

-- the second run gets what the first gets
one-in-both : (cs : List (Call Config Op)) (r : Run) → second_of (earlies cs r) ≡ first_of (earlies cs r)
one-in-both [] r = refl
one-in-both (c ∷ cs) r = ap (λ es. gets (record { call = c; lent = r.machine.buf }) ∷ es)
    (one-in-both cs (called false 0 c r.machine.buf r))

-- the chip stores nothing
no_store : (t : Pages) (b : Buf) → Chip t b b
no_store t b = record { long = refl; others = λ k e. refl }

granted : (g : Bool) {X : Type 0} → X → when_not g X
granted true x = tt
granted false x = x

as-left : (c : Call Config Op) (n : Machine Answer Pages) (b : Buf) → BufferPreserved c n b b
as-left (start k) n b = tt
as-left (begin o) n b =
    granted (cond (calls.slots o) (misfit calls book.driver n.st b) false) (no_store n.st b)
as-left (continue v) n b = granted (misfit calls book.driver n.st b) (no_store n.st b)
as-left (question q) n b = no_store n.st b

meets : (cs : List (Call Config Op)) (r : Run) (y : Machine Answer Pages) → Meets cs r y
meets [] r y = tt
meets (c ∷ cs) r y =
    let a = (drive c r.machine r.machine.buf).0 in
    by (λ z. meets cs z) (turned_down 0 (sort_of c) a r.machine.st r.time && false)
  where
    by : ((z : Run) (u : Machine Answer Pages) → Meets cs z u) → (d : Bool)
        → Premise (cond d (gives_lent_back (question (pending 0)) r) (gives_lent_back c r) ∷
        heeded false 0 (first_of (earlies cs (next_run c r d))) (next_run c r d)) r.machine y
    by f true = (as-left (question (pending 0)) y r.machine.buf, f (next_run c r true) _)
    by f false = (as-left c y r.machine.buf, f (next_run c r false) _)

and-off : (b : Bool) → (b && false) ≡ false
and-off true = refl
and-off false = refl

-- a driver that shares no bus time turns no call down
not-down : (c : Call Config Op) (b : Buf) (r : Run)
    → (turned_down 0 (sort_of c) (drive c r.machine b).0 r.machine.st r.time && false) ≡ false
not-down c b r = and-off (turned_down 0 (sort_of c) (drive c r.machine b).0 r.machine.st r.time)

pub quick-is : (c : Call Config Op) (b : Buf) (r : Run) → called false 0 c b r ≡ quick c b r
quick-is c b r = ap (λ d. run_by r.access (by_down c b r d)) (not-down c b r)

pub quickly-is : (c : Call Config Op) (r : Run) → called false 0 c r.machine.buf r ≡ quickly c r
quickly-is c r = quick-is c r.machine.buf r

own_is : (o : Op) (r : Run) → alone false 0 (begin o) r.machine.buf r ≡ quick_own (begin o) r
own_is o r =
    ap (λ d. own_by r.access r.answer (by_down (begin o) r.machine.buf r d))
    (not-down (begin o) r.machine.buf r)

pub back_is : (v : ℕ) (b : Buf) (r : Run) → apart false 0 (continue v) b r ≡ quick_back v b r
back_is v b r = ap (λ d. own_by r.access r.answer (by_down (continue v) b r d)) (not-down (continue v) b r)

given_is : (cs : List (Call Config Op)) (r : Run) → given false 0 (first_of (earlies cs r)) r ≡ quick_all cs r
given_is [] r = refl
given_is (c ∷ cs) r = given_is cs (called false 0 c r.machine.buf r) ∙ ap (quick_all cs) (quickly-is c r)

-- ---- turns of channel OUT x, likewise

two_is : {r r' z z' : Run} → r ≡ z → r' ≡ z' → (st : ℕ)
    → ◌≡◌ {A = Two} (record { first = r; second = r'; status = st }) (record { first = z; second = z'; status = st })
two_is p p' st = λ i. record { first = p i; second = p' i; status = st }

pub flag-on : (b : Bool) → flag b ≡ 1 → b ≡ true
flag-on true h = refl
flag-on false h = absurd (omega (arith, h))

flag_off : (b : Bool) → flag b ≡ 0 → b ≡ false
flag_off true h = absurd (omega (arith, h))
flag_off false h = refl

idle-is : (x : Pending Answer Driver) → is_idle x ≡ true → x ≡ idle
idle-is idle h = refl
idle-is (busy i a k) h = absurd (true≢false (sym h))

module _ (x : ℕ) where
  abbrev pub quick_turn : Move → Two → Two
  quick_turn (serves st) w = record {
    first = quickly (begin interrupt) w.first;
    second = quickly (begin interrupt) w.second;
    status = status_of w.first.machine.under_way_lem st w.status;
  }
  quick_turn (reads v v') w =
      record { first = quickly (continue v) w.first; second = quickly (continue v') w.second; status = w.status }
  quick_turn (stored e p e' p') w = turn false 0 (turn_of x (stored e p e' p') w) w
  quick_turn (stored_both e p) w = turn false 0 (turn_of x (stored_both e p) w) w
  quick_turn (first_Goes v) w = record {
    first = quickly (continue v) w.first;
    second = w.second;
    status
        = w.status;
  }
  quick_turn (second-goes v) w = record {
    first = w.first;
    second = quickly (continue v) w.second;
    status
        = w.status;
  }
  quick_turn first-opens w =
      record { first = quick_own (begin (aside (Open x))) w.first; second = w.second; status = w.status }
  quick_turn first-closes w =
      record { first = quick_own (begin (aside (Close x))) w.first; second = w.second; status = w.status }

  turn_is : (m : Move) (w : Two) → turn false 0 (turn_of x m w) w ≡ quick_turn m w
  turn_is (serves st) w = two_is (quickly-is (begin interrupt) w.first) (quickly-is (begin interrupt) w.second) _
  turn_is (reads v v') w = two_is (quickly-is (continue v) w.first) (quickly-is (continue v') w.second) _
  turn_is (stored e p e' p') w = refl
  turn_is (stored_both e p) w = refl
  turn_is (first_Goes v) w = two_is (quickly-is (continue v) w.first) refl _
  turn_is (second-goes v) w = two_is refl (quickly-is (continue v) w.second) _
  turn_is first-opens w = two_is (own_is (aside (Open x)) w.first) refl _
  turn_is first-closes w = two_is (own_is (aside (Close x)) w.first) refl _

  abbrev pub turns_of : List Move → Two → List Turn
  turns_of [] w = []
  turns_of (m ∷ ms) w = turn_of x m w ∷ turns_of ms (turn false 0 (turn_of x m w) w)

  -- whether each move is fine
  abbrev pub tested : List Move → Two → List ℕ
  tested [] w = []
  tested (m ∷ ms) w = let z = quick_turn m w in flag (fine x m w) ∷ tested ms z

  abbrev pub quick_last : List Move → Two → Two
  quick_last [] w = w
  quick_last (m ∷ ms) w = let z = quick_turn m w in quick_last ms z

  allowed : (c : Channel) → c.number ≡ x → (ms : List Move) (w : Two) → tested ms w ≡ ones ms
      → Allowed c false 0 (turns_of ms w) w
  allowed c e [] w h = tt
  allowed c e (m ∷ ms) w h =
      let f = flag-on (fine x m w) (ap (λ l. get_or l 0 0) h) in (
        subst (λ y. May c (turn_of y m w) w) e (sound c m w (subst (λ y. fine y m w ≡ true) (sym e) f)),
        allowed c e ms (turn false 0 (turn_of x m w) w) (ap (tested ms) (turn_is m w) ∙ ap (drop 1) h),
      )

  -- after the first n moves
  last_is : (n : ℕ) (ms : List Move) (w : Two) → after false 0 (take n (turns_of ms w)) w ≡ quick_last (take n ms) w
  last_is zero ms w = refl
  last_is (suc n) [] w = refl
  last_is (suc n) (m ∷ ms) w =
      last_is n ms (turn false 0 (turn_of x m w) w) ∙ ap (quick_last (take n ms)) (turn_is m w)

  -- after all
  all_is : (ms : List Move) (w : Two) → after false 0 (turns_of ms w) w ≡ quick_last ms w
  all_is [] w = refl
  all_is (m ∷ ms) w = all_is ms (turn false 0 (turn_of x m w) w) ∙ ap (quick_last ms) (turn_is m w)

module _ (k : Config) (b : Buf) (cs : List (Call Config Op)) (ms : List Move) (r₀ : Run) where
  abbrev pub started : Run
  started = called false 0 (start k) b r₀

  abbrev pub set_up : Run
  set_up = given false 0 (first_of (earlies cs started)) started

  abbrev pub quick_set_up : Run
  quick_set_up = quick_all cs (quick (start k) b r₀)

  set-up-is : set_up ≡ quick_set_up
  set-up-is = given_is cs started ∙ ap (quick_all cs) (quick-is (start k) b r₀)

  -- the start-up's row; of a run before the turns: whether OUT 1, OUT 0 and IN 0 are isochronous, whether nothing is
  -- under way, EP0's stage; and whether each move is fine
  abbrev pub summed : Run → List ℕ
  summed r =
      let d = r.machine.st in
      start_row k b ∷ flag (sorts_of d Out 1) ∷ flag (sorts_of d Out 0) ∷ flag (sorts_of d In 0) ∷
      flag (is_idle r.machine.under_way_lem) ∷ d.globals.stage ∷ tested 1 ms (parting r)

  -- all as it should be: EP0's stage is 2 after its start
  abbrev pub passing : List ℕ
  passing = 0 ∷ 1 ∷ 0 ∷ 0 ∷ 1 ∷ 2 ∷ ones ms

  abbrev pub Passes : Type 0
  Passes = (let r = quick_set_up in summed r) ≡ passing

  module _ (h : Passes) where
    met : summed set_up ≡ passing
    met = ap summed set-up-is ∙ h

    pub nth : (j : ℕ) → get_or (summed set_up) j 0 ≡ get_or passing j 0
    nth j = ap (λ l. get_or l j 0) met

    pub ep0-not : (dir : Dir) → sorts_of set_up.machine.st dir 0 ≡ false
    ep0-not Out = flag_off _ (nth 2)
    ep0-not In = flag_off _ (nth 3)

    abbrev pub channel : Channel
    channel = record {
      number = 1;
      below = omega arith;
      iso = sorts_of set_up.machine.st;
      receives = flag-on _ (nth 1);
      ep0 = ep0-not;
    }

    abbrev pub session : Session
    session = record {
      config = k;
      lent = b;
      lent' = b;
      before = earlies cs started;
      channel = channel;
      turns = turns_of 1 ms (parting set_up);
    }

    -- the two are one run up to the turns
    one-run : parting set_up ≡ opened false 0 session (parting r₀)
    one-run = ap (λ es. record { first = set_up; second = given false 0 es started; status = 0 })
        (sym (one-in-both cs started))

    pub opens : Opens false 0 session (parting r₀)
    opens = record {
      accepted = nth 0;
      lawful = meets cs started (fresh_book k b started.answer);
      rests = idle-is _ (flag-on _ (nth 4));
      stage = nth 5;
      sorts = refl;
      alike = one_list refl (one-in-both cs started);
      allowed = subst (Allowed channel false 0 (turns_of 1 ms (parting set_up))) one-run
          (allowed 1 channel refl ms (parting set_up) (ap (drop 6) met));
    }

    pub after-all : after false 0 session.turns (opened false 0 session (parting r₀))
        ≡ quick_last 1 ms (parting quick_set_up)
    after-all = ap (after false 0 session.turns) (sym one-run) ∙ all_is 1 ms (parting set_up)
        ∙ ap (λ r. quick_last 1 ms (parting r)) set-up-is

    pub after_is : (n : ℕ)
        → after false 0 (take n session.turns) (opened false 0 session (parting r₀))
        ≡ quick_last 1 (take n ms) (parting quick_set_up)
    after_is n = ap (after false 0 (take n session.turns)) (sym one-run) ∙ last_is 1 n ms (parting set_up)
        ∙ ap (λ r. quick_last 1 (take n ms) (parting r)) set-up-is
