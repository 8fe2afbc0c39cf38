-- Request Fourteen, where what the others get falls before an access of the channel's own in one run and after it in
-- the other: "they line up by the accesses not made for it, between which the others get the same calls and stores in
-- the same order". Definitions only; the theorem is `undisturbed-late` (LateRunsLaws.antt)
use Rattle.std.specs.Prelude.{Bool, true, false, List, [], ◌∷◌, ◌≢◌, ◌⊎◌, ◌≡◌, ℕ}
use Rattle.regs.specs.declared.Dir.TheVariants.{Out}
use Rattle.state.specs.Driver.{Driver, key}
use Rattle.script.specs.Answers.{Answer}
use Rattle.script.specs.Calls.{Config, Op, aside, Aside, Open, Close, Queue}
use Rattle.script.specs.Machine.{Buf, Question, Call, start, begin, continue, question, Event, Ans, Pending, idle, busy}
use Rattle.proof_isolation.specs.EqualExcept.{Channel}
use Rattle.proof_isolation.specs.Stores.{patched, Lands, OwnLent}
use Rattle.proof_isolation.specs.Schedule.{Run, Two, Turn, others_time, called, apart, alone, stored_in, turn}
use Rattle.proof_isolation.specs.Schedule.{after, wide}
use Rattle.proof_isolation.specs.Schedule.{state_of, unfit, Asked, at_own, BringsAt, Refuses, Alone, May, SameAns}
use Rattle.proof_isolation.specs.Schedule.{After, Every}
use Rattle.proof_isolation.specs.Undisturbed.{Session, opened, Opens}

-- ---- what may fall late

-- of the others: an open and a close, of OUT e; a queue, of IN e; a question; stores of the chip, each byte at its
-- place
pub data Light : Type 0 where
  opens closes : ℕ → Light
  queues : ℕ → List ℕ → Light
  asks_of : Question → Light
  stored : List (ℕ × ℕ) → Light

-- what a run gets in a late turn: that of the others; an open or a queue that row 1 refuses, with the buffer that it is
-- lent; the continue of an access of the channel's own; stores in the channel's slots; another call of its own alone
-- (`Alone`, Schedule.antt); a continue that is refused (`Refuses`)
pub data Item : Type 0 where
  gets : Light → Item
  stopped : Aside → Buf → Item
  goes_own : ℕ → Item
  stores_own : Buf → Item
  calls_own : Event Config Op → Item
  goes_back : ℕ → Buf → Item

-- what both get: of a call that row 1 refuses, which call it is
pub data Common : Type 0 where
  common : Light → Common
  row1 : Aside → Common

abbrev pub common_of : List Item → List Common
common_of [] = []
common_of (gets o ∷ is) = common o ∷ common_of is
common_of (stopped o b ∷ is) = row1 o ∷ common_of is
common_of (goes_own v ∷ is) = common_of is
common_of (stores_own b ∷ is) = common_of is
common_of (calls_own e ∷ is) = common_of is
common_of (goes_back v b ∷ is) = common_of is

abbrev pub lights_in : List Common → List Light
lights_in [] = []
lights_in (common o ∷ cs) = o ∷ lights_in cs
lights_in (row1 o ∷ cs) = lights_in cs

abbrev pub lights_of : List Item → List Light
lights_of is = lights_in (common_of is)

-- a turn (Schedule.antt); or both continue an access that is not made for the channel, and one of them is late: it gets
-- what the others get after that continue, at the channel's own accesses, where the other got it, in the same order,
-- before it. The numbers are what the two continues bring; the first list is what the late run gets after its continue,
-- the second what the other gets before its own
pub data Later : Type 0 where
  timely : Turn → Later
  first-late second-late : ℕ → ℕ → List Item → List Item → Later

-- the answers of the calls among them: stores have none
abbrev pub answers_by : Light → Ans Answer → List (Ans Answer) → List (Ans Answer)
answers_by (opens e) a l = a ∷ l
answers_by (closes e) a l = a ∷ l
answers_by (queues e bs) a l = a ∷ l
answers_by (asks_of q) a l = a ∷ l
answers_by (stored p) a l = l

-- of those that both get
abbrev pub answers_of : Item → Ans Answer → List (Ans Answer) → List (Ans Answer)
answers_of (gets o) a l = answers_by o a l
answers_of (stopped o b) a l = a ∷ l
answers_of (goes_own v) a l = l
answers_of (stores_own b) a l = l
answers_of (calls_own e) a l = l
answers_of (goes_back v b) a l = l

module _ (share : Bool) (n : ℕ) where
  -- each call of the others is lent the slot buffer as it was left
  abbrev pub lit : Light → Run → Run
  lit (opens e) r = called share n (begin (aside (Open e))) r.machine.buf r
  lit (closes e) r = called share n (begin (aside (Close e))) r.machine.buf r
  lit (queues e bs) r = called share n (begin (aside (Queue e bs))) r.machine.buf r
  lit (asks_of q) r = called share n (question q) r.machine.buf r
  lit (stored p) r = stored_in (patched p r.machine.buf) r

  abbrev pub gone : ℕ → Run → Run
  gone v r = called share n (continue v) r.machine.buf r

  abbrev pub lits : List Light → Run → Run
  lits [] r = r
  lits (o ∷ os) r = lits os (lit o r)

  abbrev pub item : Item → Run → Run
  item (gets o) r = lit o r
  item (stopped o b) r = called share n (begin (aside o)) b r
  item (goes_own v) r = gone v r
  item (stores_own b) r = stored_in b r
  item (calls_own e) r = alone share n e.call e.lent r
  item (goes_back v b) r = apart share n (continue v) b r

  abbrev pub items : List Item → Run → Run
  items [] r = r
  items (i ∷ is) r = items is (item i r)

  -- what the calls that both get were answered
  abbrev pub item_answers : List Item → Run → List (Ans Answer)
  item_answers [] r = []
  item_answers (i ∷ is) r = answers_of i (item i r).answer (item_answers is (item i r))

  abbrev pub later : Later → Two → Two
  later (timely t) w = turn share n t w
  later (first-late v v' is es) w = record {
    first = items is (gone v w.first);
    second = gone v' (items es w.second);
    status = w.status;
  }
  later (second-late v v' is es) w = record {
    first = gone v (items es w.first);
    second = items is (gone v' w.second);
    status = w.status;
  }

  abbrev pub after_all : List Later → Two → Two
  after_all [] w = w
  after_all (t ∷ ts) w = after_all ts (later t w)

-- ---- the premise

-- an interrupt is under way
abbrev pub Serving : Pending Answer Driver → Type 0
Serving idle = ⊥
Serving (busy false a k) = ⊥
Serving (busy true a k) = Unit {0}

abbrev pub is_store : Light → Bool
is_store (opens e) = false
is_store (closes e) = false
is_store (queues e bs) = false
is_store (asks_of q) = false
is_store (stored p) = true

-- there are stores among them
abbrev pub AnyStore : List Light → Type 0
AnyStore [] = ⊥
AnyStore (o ∷ os) = (is_store o ≡ true) ⊎ AnyStore os

module _ (c : Channel) where
  -- of another endpoint; a question that is not of the channel's overruns; stores as demand 3 has them
  abbrev pub Other : Light → Driver → Type 0
  Other (opens e) d = key Out e ≢ key Out c.number
  Other (closes e) d = key Out e ≢ key Out c.number
  Other (queues e bs) d = Unit {0}
  Other (asks_of q) d = Asked c q
  Other (stored p) d = Lands c d p

  -- both stand at an access of an interrupt that is not made for the channel, and continue it, with the same readings
  -- but for the channel's lengths
  pub record Continues (st v v' : ℕ) (r r' : Run) : Type 0 where
    pub serving : Serving r.machine.under_way_lem
    pub shared : at_own c r ≡ false
    pub shared' : at_own c r' ≡ false
    pub within : wide r.machine.under_way_lem v ≡ false
    pub within' : wide r'.machine.under_way_lem v' ≡ false
    pub brings : BringsAt c r.machine.under_way_lem st r.access v v'

  -- a call of the channel's own that is no continue
  abbrev pub Stays : Call Config Op → Buf → Run → Type 0
  Stays (continue v) b r = ⊥
  Stays (begin o) b r = Alone c (begin o) b r
  Stays (start k) b r = Alone c (start k) b r
  Stays (question q) b r = Alone c (question q) b r

  module _ (share : Bool) (n : ℕ) where
    -- what the run gets that is not late, before its continue
    abbrev pub Before : List Item → Run → Type 0
    Before [] r = Unit {0}
    Before (gets o ∷ is) r = Other o r.machine.st × Before is (lit share n o r)
    Before (stopped o b ∷ is) r = (unfit (begin (aside o)) r b ≡ true) × Before is (item share n (stopped o b) r)
    Before (goes_own v ∷ is) r = ⊥
    Before (stores_own b ∷ is) r = OwnLent c (state_of r) b × Before is (stored_in b r)
    Before (calls_own e ∷ is) r = Stays e.call e.lent r × Before is (alone share n e.call e.lent r)
    Before (goes_back v b ∷ is) r = Refuses c v r b × Before is (item share n (goes_back v b) r)

    -- no store is seen by the continue: were they made before it, as in the other run, the run would come to an access
    -- of the channel's own too. Where it would not, the two runs part (`seen_parts`, SeenLaws.antt)
    abbrev pub Unseen : ℕ → List Light → Run → Type 0
    Unseen v os r = AnyStore os → at_own c (gone share n v (lits share n os r)) ≡ true

    -- the late run stands at an access of the channel's own at each of these, and after them
    abbrev pub AtOwn : List Item → Run → Type 0
    AtOwn [] r = at_own c r ≡ true
    AtOwn (gets o ∷ is) r = (at_own c r ≡ true) × AtOwn is (lit share n o r)
    AtOwn (stopped o b ∷ is) r = (at_own c r ≡ true) × (unfit (begin (aside o)) r b ≡ true)
        × AtOwn is (item share n (stopped o b) r)
    AtOwn (goes_own v ∷ is) r = (at_own c r ≡ true) × (wide r.machine.under_way_lem v ≡ false) × Unseen v (lights_of is) r
        × AtOwn is (gone share n v r)
    AtOwn (stores_own b ∷ is) r = (at_own c r ≡ true) × OwnLent c (state_of r) b × AtOwn is (stored_in b r)
    AtOwn (calls_own e ∷ is) r = (at_own c r ≡ true) × Stays e.call e.lent r
        × AtOwn is (alone share n e.call e.lent r)
    AtOwn (goes_back v b ∷ is) r = (at_own c r ≡ true) × Refuses c v r b × AtOwn is (item share n (goes_back v b) r)

    -- r is the late one
    pub record Late (v : ℕ) (is es : List Item) (r r' : Run) : Type 0 where
      -- "the same calls and stores in the same order"
      pub same : common_of es ≡ common_of is
      pub early : Before es r'
      pub unseen : Unseen v (lights_of is) r
      pub own : AtOwn is (gone share n v r)

    abbrev pub MayLate : Later → Two → Type 0
    MayLate (timely t) w = May c t w
    MayLate (first-late v v' is es) w =
        Continues w.status v v' w.first w.second × Late v is es w.first w.second
    MayLate (second-late v v' is es) w =
        Continues w.status v v' w.first w.second × Late v' is es w.second w.first

    abbrev pub AllowedLate : List Later → Two → Type 0
    AllowedLate [] w = Unit {0}
    AllowedLate (t ∷ ts) w = MayLate t w × AllowedLate ts (later share n t w)

-- ---- the promise

-- answer for answer
pub data AllSame (x : ℕ) : List (Ans Answer) → List (Ans Answer) → Type 0 where
  none : AllSame x [] []
  more : {a b : Ans Answer} {us vs : List (Ans Answer)} → SameAns x a b → AllSame x us vs → AllSame x (a ∷ us) (b ∷ vs)

module _ (c : Channel) (share : Bool) (n : ℕ) where
  -- the calls that both get are answered the same
  abbrev pub Heard : Later → Two → Type 0
  Heard (timely t) w = Unit {0}
  Heard (first-late v v' is es) w =
      AllSame c.number (item_answers share n is (gone share n v w.first)) (item_answers share n es w.second)
  Heard (second-late v v' is es) w =
      AllSame c.number (item_answers share n es w.first) (item_answers share n is (gone share n v' w.second))

  -- after a turn what Schedule.antt says; after a late one the same but for the last answers: `stands`, `lined`,
  -- `alike`,
  -- `time`
  abbrev pub AfterLate : Later → Two → Type 0
  AfterLate (timely t) w = After c t w
  AfterLate (first-late v v' is es) w = After c (others_time (λ t. t)) w
  AfterLate (second-late v v' is es) w = After c (others_time (λ t. t)) w

  abbrev pub EveryLate : List Later → Two → Type 0
  EveryLate [] w = Unit {0}
  EveryLate (t ∷ ts) w = Heard t w × AfterLate t (later share n t w) × EveryLate ts (later share n t w)

-- ---- from start-ups on

-- a session (Undisturbed.antt), and then turns some of which may be late
pub record LateSession : Type 0 where
  pub opening : Session
  pub turns : List Later

module _ (share : Bool) (n : ℕ) where
  abbrev pub opened_late : LateSession → Two → Two
  opened_late s w = after share n s.opening.turns (opened share n s.opening w)

  abbrev pub AllOpenLate : List LateSession → Two → Type 0
  AllOpenLate [] w = Unit {0}
  AllOpenLate (s ∷ ss) w = Opens share n s.opening w
      × AllowedLate s.opening.channel share n s.turns (opened_late s w)
      × AllOpenLate ss (after_all share n s.turns (opened_late s w))

  abbrev pub UndisturbedLate : List LateSession → Two → Type 0
  UndisturbedLate [] w = Unit {0}
  UndisturbedLate (s ∷ ss) w = Every s.opening.channel share n s.opening.turns (opened share n s.opening w)
      × EveryLate s.opening.channel share n s.turns (opened_late s w)
      × UndisturbedLate ss (after_all share n s.turns (opened_late s w))
