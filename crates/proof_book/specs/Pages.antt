-- The book's state: what waits on each endpoint, beside the kept values that scripts read and assign
use Rattle.std.specs.Prelude.{Bool, cond, List, map, ℕ, ◌%◌, eqb}
use Rattle.regs.specs.declared.Dir.{Dir}
use Rattle.regs.specs.declared.Dir.TheVariants.{Out, In}
use Rattle.state.specs.declared.Globals.{Globals}
use Rattle.state.specs.declared.Allocator.{Allocator}
use Rattle.state.specs.declared.Request.{Request}
use Rattle.state.specs.declared.Control.{Control}
use Rattle.state.specs.Wakes.{Wakes}
use Rattle.script.specs.Cells.{EpCore}

-- a packet that waits on an OUT endpoint: its bytes, and the microframe index of the interrupt that admitted it
-- (request One)
pub record Packet : Type 0 where
  pub bytes : List ℕ
  pub stamp : ℕ

abbrev pub bytes_of : List Packet → List (List ℕ)
bytes_of w = map (λ (p : Packet). p.bytes) w

abbrev pub stamps_of : List Packet → List ℕ
stamps_of w = map (λ (p : Packet). p.stamp) w

-- OUT e: those waiting, first to last; whether the first is open; how many were turned away; the last receive address
pub record OutPage : Type 0 where
  pub waiting : List Packet
  pub opened : Bool
  pub lost : ℕ
  pub slot : ℕ
  -- of this stretch: those admitted, those read
  pub admitted : List Packet
  pub read : List Packet

-- IN e: those waiting, first to last; whether the first is being sent; whether the transmit address told last is a
-- load's, for what the book promises of it; which slot the next packet goes to
pub record InPage : Type 0 where
  pub waiting : List (List ℕ)
  pub sending : Bool
  pub load : Bool
  pub turn : ℕ
  -- of this stretch: those queued, those that came to be sent, those that the tail passed
  pub queued : List (List ℕ)
  pub sent : List (List ℕ)
  pub passed : List (List ℕ)
  -- of the one being sent: the transmit address it was handed out with, and the lent bytes as they stood then
  pub source : ℕ
  pub shown : List ℕ

-- the kept values
pub record Kept : Type 0 where
  pub globals : Globals
  pub wakes : Wakes
  pub control : Control
  pub allocator : Allocator
  pub paced : ℕ → ℕ
  pub requests : Dir → ℕ → Request
  pub plain : Dir → ℕ → EpCore

pub record Pages : Type 0 where
  pub kept : Kept
  pub outs : ℕ → OutPage
  pub ins : ℕ → InPage

-- f, but v at endpoint e; numbers count modulo 16
abbrev pub at : {A : Type 0} → ℕ → A → (ℕ → A) → ℕ → A
at e v f x = cond (eqb (x % 16) (e % 16)) v (f x)

abbrev pub on : {A : Type 0} → Dir → ℕ → A → (Dir → ℕ → A) → Dir → ℕ → A
on Out e v f Out x = at e v (f Out) x
on Out e v f In x = f In x
on In e v f Out x = f Out x
on In e v f In x = at e v (f In) x

-- ---- one part changed

abbrev pub with_kept : Pages → Kept → Pages
with_kept t k = record { kept = k; outs = t.outs; ins = t.ins }

abbrev pub with_out : Pages → ℕ → OutPage → Pages
with_out t e p = record { kept = t.kept; outs = at e p t.outs; ins = t.ins }

abbrev pub with_in : Pages → ℕ → InPage → Pages
with_in t e p = record { kept = t.kept; outs = t.outs; ins = at e p t.ins }

abbrev pub kept_of : Globals → Wakes → Control → Allocator → (ℕ → ℕ) → (Dir → ℕ → Request) → (Dir → ℕ → EpCore) → Kept
kept_of g w c a p r x = record { globals = g; wakes = w; control = c; allocator = a; paced = p; requests = r; plain = x }

-- the values that are one for all endpoints
abbrev pub kept_values : Kept → Globals → Wakes → Control → Allocator → Kept
kept_values k g w c a = kept_of g w c a k.paced k.requests k.plain

-- those of each endpoint
abbrev pub kept_tables : Kept → (ℕ → ℕ) → (Dir → ℕ → Request) → (Dir → ℕ → EpCore) → Kept
kept_tables k p r x = kept_of k.globals k.wakes k.control k.allocator p r x

abbrev pub kept_globals : Kept → Globals → Kept
kept_globals k v = kept_values k v k.wakes k.control k.allocator

abbrev pub kept_wakes : Kept → Wakes → Kept
kept_wakes k v = kept_values k k.globals v k.control k.allocator

abbrev pub kept_control : Kept → Control → Kept
kept_control k v = kept_values k k.globals k.wakes v k.allocator

abbrev pub kept_allocator : Kept → Allocator → Kept
kept_allocator k v = kept_values k k.globals k.wakes k.control v

abbrev pub kept_paced : Kept → ℕ → ℕ → Kept
kept_paced k e v = kept_tables k (at e v k.paced) k.requests k.plain

abbrev pub kept_request : Kept → Dir → ℕ → Request → Kept
kept_request k d e v = kept_tables k k.paced (on d e v k.requests) k.plain

abbrev pub kept_plain : Kept → Dir → ℕ → EpCore → Kept
kept_plain k d e v = kept_tables k k.paced k.requests (on d e v k.plain)
