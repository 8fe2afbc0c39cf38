-- The same of the Rattle code: what its calls make of the lent bytes in two runs (proof_isolation/specs/Code.antt),
-- where some of what the others get falls late in one
use Rattle.std.specs.Prelude.{Bool, List, [], ◌∷◌, ℕ}
use Rattle.script.specs.Answers.{Answer}
use Rattle.script.specs.Calls.{aside, Open, Close, Queue}
use Rattle.script.specs.Machine.{begin, continue, question, Ans}
use Rattle.proof_isolation.specs.EqualExcept.{Channel}
use Rattle.proof_isolation.specs.Code.{Left, Held, Pair, two_of, CallStep, heard, unheard, heard_own, stored_to}
use Rattle.proof_isolation.specs.Code.{TurnStep, next, SessionMade, opened_by, after_steps}
use Rattle.proof_isolation.specs.Code.{DidStep}
use Rattle.proof_isolation.specs.Code.{EveryStep, Begun}
use Rattle.proof_isolation.specs.Late as late
use Rattle.proof_isolation.specs.Stores.{patched}
use Rattle.proof_isolation.specs.Late.{Light, opens, closes, queues, asks_of, stored, Item, gets, stopped}
use Rattle.proof_isolation.specs.Late.{goes_own, stores_own, calls_own}
use Rattle.proof_isolation.specs.Late.{goes_back, answers_of, Later}
use Rattle.proof_isolation.specs.Late.{MayLate, AllSame, AfterLate}

-- ---- the calls that were made

-- what a run gets in a late turn, and what that left; stores leave nothing to be named
pub record ItemMade : Type 0 where
  pub item : Item
  pub left : Left

-- a step (Code.antt); or a late turn: what the late run's continue left, what it gets after it, what the other gets
-- before its continue, and what that left
pub data LateStep : Type 0 where
  timely : TurnStep → LateStep
  first-late second-late : ℕ → ℕ → Left → List ItemMade → List ItemMade → Left → LateStep

abbrev pub items_of : List ItemMade → List Item
items_of [] = []
items_of (i ∷ is) = i.item ∷ items_of is

abbrev pub later_of : LateStep → Later
later_of (timely s) = late.timely s.turn
later_of (first-late v v' l is es l') = late.first-late v v' (items_of is) (items_of es)
later_of (second-late v v' l is es l') = late.second-late v v' (items_of is) (items_of es)

-- a run after what the others get
abbrev pub light_left : Light → Left → Held → Held
light_left (opens e) l h = heard l h
light_left (closes e) l h = heard l h
light_left (queues e bs) l h = heard l h
light_left (asks_of q) l h = heard l h
light_left (stored p) l h = stored_to (patched p h.slots) h

-- after what it gets
abbrev pub item_left : Item → Left → Held → Held
item_left (gets o) l h = light_left o l h
item_left (stopped o b) l h = heard l h
item_left (goes_own v) l h = heard l h
item_left (stores_own b) l h = stored_to b h
item_left (calls_own e) l h = heard_own e.call l h
item_left (goes_back v b) l h = unheard l h

abbrev pub after_items : List ItemMade → Held → Held
after_items [] h = h
after_items (i ∷ is) h = after_items is (item_left i.item i.left h)

abbrev pub next_late : LateStep → Pair → Pair
next_late (timely s) w = next s w
next_late (first-late v v' l is es l') w =
    record {
      first = after_items is (heard l w.first);
      second = heard l' (after_items es w.second);
      status
          = w.status;
    }
next_late (second-late v v' l is es l') w =
    record {
      first = heard l' (after_items es w.first);
      second = after_items is (heard l w.second);
      status
          = w.status;
    }

abbrev pub after_late_steps : List LateStep → Pair → Pair
after_late_steps [] w = w
after_late_steps (s ∷ ss) w = after_late_steps ss (next_late s w)

-- what the calls that both get were answered
abbrev pub answers_made : List ItemMade → List (Ans Answer)
answers_made [] = []
answers_made (i ∷ is) = answers_of i.item i.left.answer (answers_made is)

-- ---- each call is as its contract says; those of the others are lent the slot buffer as it was left

module _ (share : Bool) (n : ℕ) where
  abbrev pub DidLight : Light → Left → Held → Type 0
  DidLight (opens e) l h = CallStep share n (begin (aside (Open e))) h.slots h l
  DidLight (closes e) l h = CallStep share n (begin (aside (Close e))) h.slots h l
  DidLight (queues e bs) l h = CallStep share n (begin (aside (Queue e bs))) h.slots h l
  DidLight (asks_of q) l h = CallStep share n (question q) h.slots h l
  DidLight (stored p) l h = Unit {0}

  abbrev pub DidItem : Item → Left → Held → Type 0
  DidItem (gets o) l h = DidLight o l h
  DidItem (stopped o b) l h = CallStep share n (begin (aside o)) b h l
  DidItem (goes_own v) l h = CallStep share n (continue v) h.slots h l
  DidItem (stores_own b) l h = Unit {0}
  DidItem (calls_own e) l h = CallStep share n e.call e.lent h l
  DidItem (goes_back v b) l h = CallStep share n (continue v) b h l

  abbrev pub DidItems : List ItemMade → Held → Type 0
  DidItems [] h = Unit {0}
  DidItems (i ∷ is) h = DidItem i.item i.left h × DidItems is (item_left i.item i.left h)

  -- of the late run h and of the other h': what they bring, what the two continues left
  pub record DidLate (v v' : ℕ) (l l' : Left) (is es : List ItemMade) (h h' : Held) : Type 0 where
    pub goes : CallStep share n (continue v) h.slots h l
    pub items : DidItems is (heard l h)
    pub early : DidItems es h'
    pub goes' : CallStep share n (continue v') (after_items es h').slots (after_items es h') l'

  abbrev pub DidLateStep : LateStep → Pair → Type 0
  DidLateStep (timely s) w = DidStep share n s w
  DidLateStep (first-late v v' l is es l') w = DidLate v v' l l' is es w.first w.second
  DidLateStep (second-late v v' l is es l') w = DidLate v' v l l' is es w.second w.first

  abbrev pub DidLateSteps : Channel → List LateStep → Pair → Type 0
  DidLateSteps c [] w = Unit {0}
  DidLateSteps c (s ∷ ss) w = DidLateStep s w × MayLate c share n (later_of s) (two_of w)
      × DidLateSteps c ss (next_late s w)

  -- the promise: the calls that both get are answered the same, and what `After` says
  abbrev pub HeardMade : Channel → LateStep → Type 0
  HeardMade c (timely s) = Unit {0}
  HeardMade c (first-late v v' l is es l') = AllSame c.number (answers_made is) (answers_made es)
  HeardMade c (second-late v v' l is es l') = AllSame c.number (answers_made es) (answers_made is)

  abbrev pub EveryLateStep : Channel → List LateStep → Pair → Type 0
  EveryLateStep c [] w = Unit {0}
  EveryLateStep c (s ∷ ss) w = HeardMade c s × AfterLate c share n (later_of s) (two_of (next_late s w))
      × EveryLateStep c ss (next_late s w)

-- a session's calls (`SessionMade`, Code.antt), and then steps some of which are late
pub record LateMade : Type 0 where
  pub opening : SessionMade
  pub steps : List LateStep

module _ (share : Bool) (n : ℕ) where
  abbrev pub opened_made : LateMade → Pair → Pair
  opened_made m w = after_steps m.opening.steps (opened_by m.opening w)

  abbrev pub AllBegunLate : List LateMade → Pair → Type 0
  AllBegunLate [] w = Unit {0}
  AllBegunLate (m ∷ ms) w = Begun share n m.opening w
      × DidLateSteps share n m.opening.channel m.steps (opened_made m w)
      × AllBegunLate ms (after_late_steps m.steps (opened_made m w))

  abbrev pub CodeUndisturbed : List LateMade → Pair → Type 0
  CodeUndisturbed [] w = Unit {0}
  CodeUndisturbed (m ∷ ms) w = EveryStep share n m.opening.channel m.opening.steps (opened_by m.opening w)
      × EveryLateStep share n m.opening.channel m.steps (opened_made m w)
      × CodeUndisturbed ms (after_late_steps m.steps (opened_made m w))
