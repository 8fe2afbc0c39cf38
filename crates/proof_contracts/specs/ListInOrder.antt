-- Requests Three and Four over calls that were made. The endpoints of a configuration descriptor, allocated by one
-- call that is continued to its end, are those that their own calls allocate, one after the other, from the same
-- bytes: the same accesses, the same state. And a preview tells what those calls answer. Definitions; the theorems
-- are `code-in-order`, `code-none-given` and `code-preview` (ListInOrderLaws.antt)
use Rattle.std.specs.Prelude.{List, [], ◌∷◌, ◌++◌, ◌≡◌, ℕ, ◌+◌, ◌<◌, length, get_or}
use Rattle.regs.specs.declared.Access.{Access}
use Rattle.state.specs.Driver.{none_gathered}
use Rattle.state.specs.State.{view}
use Rattle.descriptor.specs.declared.Endpoint.{Endpoint}
use Rattle.descriptor.specs.declared.Answer.TheVariants as reading
use Rattle.descriptor.specs.declared.preview.Said.TheVariants as said
use Rattle.descriptor.specs.Reading.{reading_of, list_of}
use Rattle.descriptor.specs.Trial.{direction_of, trial_of}
use Rattle.descriptor.specs.OneByOne.{padded}
use Rattle.script.specs.Answers.{Answer, Refused, End}
use Rattle.script.specs.Calls.{Op, other, Allocate, AllocateAll}
use Rattle.script.specs.Machine.{Buf, begin, continue, ended, handed, told, idle}
use Rattle.machine.specs.Suspended.{machine_of}
use Rattle.usbhs_c.specs.Preview.{shown_by}
use Rattle.proof_book.specs.FrontPage.{CallRecord}
use Rattle.proof_book.specs.CodeReadings.{Steps, bytes_after}

-- ---- an operation, by the calls that were made

-- what may fall between two accesses: a question, or a call that any row refuses
pub data Passes (m : CallRecord) : Type 0 where
  asked : (k : ℕ) → m.answer ≡ told k → Passes m
  refused : (r : ℕ) → m.answer ≡ ended (Refused r) → Passes m

-- an operation that is under way is continued, with any numbers, to its end: the accesses that it hands out, its answer
pub data ToItsEnd : List CallRecord → List Access → Answer → Type 0 where
  hands : (m : CallRecord) (v : ℕ) (q : Access) (ms : List CallRecord) (qs : List Access) (z : Answer)
      → m.event.call ≡ continue v → m.answer ≡ handed q → ToItsEnd ms qs z → ToItsEnd (m ∷ ms) (q ∷ qs) z
  passes : (m : CallRecord) (ms : List CallRecord) (qs : List Access) (z : Answer) → Passes m → ToItsEnd ms qs z
      → ToItsEnd
      (m ∷ ms) qs z
  stops : (m : CallRecord) (v k : ℕ) (ws : List ℕ) → m.event.call ≡ continue v → m.answer ≡ ended (End k ws)
      → ToItsEnd (m ∷ []) [] (End k ws)

-- begun and continued to its end
pub data Operation (o : Op) : List CallRecord → List Access → Answer → Type 0 where
  at_once : (m : CallRecord) (z : Answer) → m.event.call ≡ begin o → m.answer ≡ ended z → Operation o (m ∷ []) [] z
  goes_on_lem : (m : CallRecord) (q : Access) (ms : List CallRecord) (qs : List Access) (z : Answer)
      → m.event.call ≡ begin o → m.answer ≡ handed q → ToItsEnd ms qs z → Operation o (m ∷ ms) (q ∷ qs) z

-- ---- a descriptor's endpoints by calls of their own

abbrev pub own_call : Endpoint → Op
own_call e = other (Allocate (direction_of e.address) e.kind e.address e.maximum e.interval)

-- one after the other: all that they hand out
pub data OneByOne : List Endpoint → List CallRecord → List Access → Type 0 where
  none : OneByOne [] [] []
  next : (e : Endpoint) (es : List Endpoint) (ms ns : List CallRecord) (qs rs : List Access) (z : Answer)
      → Operation (own_call e) ms qs z → OneByOne es ns rs → OneByOne (e ∷ es) (ms ++ ns) (qs ++ rs)

-- one after the other up to the first that is refused: the numbers that they are given, and that row or 0
pub data UpToRefusal : List Endpoint → List CallRecord → List ℕ → ℕ → Type 0 where
  all_given : UpToRefusal [] [] [] 0
  refused : (e : Endpoint) (es : List Endpoint) (ms : List CallRecord) (qs : List Access) (n : ℕ)
      → Operation (own_call e) ms qs (Refused n) → UpToRefusal (e ∷ es) ms [] n
  given : (e : Endpoint) (es : List Endpoint) (ms ns : List CallRecord) (qs : List Access) (k : ℕ) (ws ks : List ℕ)
      (n : ℕ)
      → Operation (own_call e) ms qs (End k ws) → UpToRefusal es ns ks n → UpToRefusal (e ∷ es) (ms ++ ns) (k ∷ ks) n

-- ---- the sentences, of bytes xs and slots a at rest, after start-up and before EP0's start

pub record AtRest (xs : List ℕ) (a : Buf) (bytes : List ℕ) : Type 0 where
  pub nothing : (machine_of xs a).under_way_lem ≡ idle
  pub stage : (view xs).globals.stage ≡ 1
  pub small : (j : ℕ) → get_or bytes j 0 < 256
  pub listed : (reading_of bytes).answer ≡ reading.Listed

-- request Three: where no endpoint would be refused
abbrev pub InOrder : List ℕ → Buf → List ℕ → Type 0
InOrder xs a bytes = (trial_of (view xs).allocator (list_of bytes)).refusal ≡ 0
    → (all : List CallRecord) (qs : List Access) (z : Answer) → Steps xs a all
    → Operation (other (AllocateAll bytes)) all
    qs z
    → (each : List CallRecord) (rs : List Access) → Steps xs a each → OneByOne (list_of bytes) each rs
    → (qs ≡ rs) × (z ≡ End (length (list_of bytes)) [])
    × (view (bytes_after xs all) ≡ none_gathered (view (bytes_after xs each)))

-- where one would be, by that row: nothing is handed out, and nothing changes
abbrev pub NoneGiven : List ℕ → Buf → List ℕ → Type 0
NoneGiven xs a bytes = (n : ℕ) → (trial_of (view xs).allocator (list_of bytes)).refusal ≡ n → (n ≡ 0 → ⊥)
    → (all : List CallRecord) (qs : List Access) (z : Answer) → Steps xs a all
    → Operation (other (AllocateAll bytes)) all
    qs z
    → (qs ≡ []) × (z ≡ Refused n) × (view (bytes_after xs all) ≡ view xs)

-- request Four: what usbhs_preview answers of these bytes
abbrev pub Previews : List ℕ → Buf → List ℕ → Type 0
Previews xs a bytes = (each : List CallRecord) (ks : List ℕ) (n : ℕ) → Steps xs a each
    → UpToRefusal (list_of bytes) each ks n
    → (buffers : ℕ) × ((view (bytes_after xs each)).allocator.next ≡ (view xs).allocator.next + buffers)
    × (shown_by xs bytes
    ≡ record { said = said.Tried; numbers = padded ks; count = length ks; buffers = buffers; refusal = n })
