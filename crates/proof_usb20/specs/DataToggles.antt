-- The observers of an endpoint's toggle and control word. DataTogglesLaws.antt proves: data toggles equal USB 2.0's
-- (8.6), over EVERY list of calls from an accepted start-up, of every endpoint but 0 that no call has allocated as an
-- isochronous one
use Rattle.std.specs.Prelude.{Bool, false, not, ◌&&◌, ◌||◌, List, [], ◌∷◌, ◌≡◌, ℕ, ◌%◌, ltb}
use Rattle.regs.specs.declared.Dir.{Dir}
use Rattle.alloc.specs.Alloc.{is_iso}
use Rattle.descriptor.specs.declared.Endpoint.{Endpoint}
use Rattle.descriptor.specs.Reading.{list_of}
use Rattle.descriptor.specs.Trial.{direction_of}
use Rattle.script.specs.Answers.{on_end, Answer}
use Rattle.script.specs.Calls.{Op, interrupt, slotted, other, aside, Other, Allocate, AllocateAll, Start, BusPoll}
use Rattle.script.specs.Calls.{BusEnable, BusDisable, Microframe, SetStalled, IsStalled, SetPaced, Advance, BeginRead}
use Rattle.script.specs.Calls.{BeginSetup, PollSetup, PollDataIn, BeginAccept, PollAccept, BeginReject, BeginDataOut}
use Rattle.script.specs.Calls.{BeginAcceptSetAddress}
use Rattle.proof_usb20.specs.Sequence.{Track, own, before, opens, saw, closes, EndsByReason, Writing}
use Rattle.proof_usb20.specs.Sequence.{unwritten_yet}
use Rattle.proof_usb20.specs.Sequence.{wrote}
use Rattle.proof_usb20.specs.Sequence.{LeavesWord}
use Rattle.proof_usb20.specs.Observer.{Observer}
use Rattle.proof_usb20.specs.Follow.{EpSeen, Fits, view}

-- ---- isochronous by its allocation

-- an address in a descriptor: bit 7 is its direction, the rest its number. One of 256 or more asks for any number
abbrev pub asks_for : Dir → ℕ → Dir → ℕ → Bool
asks_for D E d address = own D E d (address % 128) || not (ltb address 256)

abbrev pub lists_iso : Dir → ℕ → List Endpoint → Bool
lists_iso D E [] = false
lists_iso D E (e ∷ es) = (is_iso e.kind && asks_for D E (direction_of e.address) e.address) || lists_iso D E es

-- a call has allocated the endpoint as an isochronous one: its result is the number that is given; of a configuration
-- descriptor's endpoints each has the number of its address
abbrev pub made_by_other : Dir → ℕ → Other → Answer → Bool
made_by_other D E (Allocate d kind address maximum interval) a = on_end (λ n. is_iso kind && own D E d n) false a
made_by_other D E (AllocateAll bytes) a = on_end (λ n. lists_iso D E (list_of bytes)) false a
made_by_other D E (Start maximum) a = false
made_by_other D E BusPoll a = false
made_by_other D E BusEnable a = false
made_by_other D E BusDisable a = false
made_by_other D E Microframe a = false
made_by_other D E (SetStalled d e on) a = false
made_by_other D E (IsStalled d e) a = false
made_by_other D E (SetPaced e on) a = false
made_by_other D E (Advance e) a = false
made_by_other D E (BeginRead e n) a = false
made_by_other D E BeginSetup a = false
made_by_other D E PollSetup a = false
made_by_other D E PollDataIn a = false
made_by_other D E BeginAccept a = false
made_by_other D E PollAccept a = false
made_by_other D E BeginReject a = false
made_by_other D E (BeginDataOut n first) a = false
made_by_other D E (BeginAcceptSetAddress b) a = false

abbrev pub made_iso : Dir → ℕ → Op → Answer → Bool
made_iso D E interrupt a = false
made_iso D E (slotted o) a = false
made_iso D E (other o) a = made_by_other D E o a
made_iso D E (aside o) a = false

-- ---- the toggle

-- the observer of an endpoint's data toggle. Unless it was allocated as an isochronous one (`.0`): by its log a poll is
-- done exactly if a completion is there, an interrupt has looked, and the record has the bit with the last new packet,
-- whether a completion is there, its length
abbrev pub toggles : Dir → ℕ → Observer
toggles D E = record {
  Log = Bool × Track;
  before = (false, before);
  opens = λ o _ x. (x.0, opens D E o x.1);
  saw = λ x q v _. (x.0, saw D E x.1 q v);
  closes = λ o a x. (x.0 || made_iso D E o a, closes D E o a x.1);
  EndsByReason = λ o a x. x.0 ≡ false → EndsByReason D E o a x.1;
  Allowed = λ _ _ _. Unit {0};
  Asks = λ _ _. Unit {0};
  Loads = λ _ _ _. Unit {0};
  Spares = λ _ _ _. Unit {0};
  View = EpSeen;
  view = view D E;
  Stands = λ x v. x.0 ≡ false → Fits x.1 v;
}

-- ---- the control word that a call leaves

-- the observer of an endpoint's control word, unless it was allocated as an isochronous one: by its log the word that a
-- call has written last
abbrev pub words : Dir → ℕ → Observer
words D E = record {
  Log = Bool × Track × Writing;
  before = (false, before, unwritten_yet before);
  opens = λ o _ x. (x.0, opens D E o x.1, unwritten_yet x.1);
  saw = λ x q v _. (x.0, saw D E x.1 q v, wrote D E x.2 q v);
  closes = λ o a x. (x.0 || made_iso D E o a, closes D E o a x.1, x.2);
  EndsByReason = λ o a x. x.0 ≡ false → LeavesWord D E o a x.2;
  Allowed = λ _ _ _. Unit {0};
  Asks = λ _ _. Unit {0};
  Loads = λ _ _ _. Unit {0};
  Spares = λ _ _ _. Unit {0};
  View = EpSeen;
  view = view D E;
  Stands = λ _ _. Unit {0};
}
