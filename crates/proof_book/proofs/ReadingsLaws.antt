-- An interrupt of the driver has at most 4,056 readings, begun after any list of calls from an accepted start-up
use Rattle.std.specs.Prelude.{List, ◌∷◌, ◌≡◌, zero, ◌≤◌}
use Rattle.std.proofs.Common.{subst, sym}
use Rattle.state.specs.Driver.{Driver}
use Rattle.script.specs.Script.{run}
use Rattle.script.specs.Answers.{Answer}
use Rattle.script.specs.Calls.{Config, Op, calls, start_row, interrupt_code}
use Rattle.script.specs.Machine.{Buf, Event, Machine, start}
use Rattle.script.specs.Readings.{Continues, readings}
use Rattle.script.specs.TransferKinds.{Along}
use Rattle.script.specs.SortsAside.{Passes, passing-4056}
use Rattle.script_ops.specs.Rings.{St}
use Rattle.script_ops.specs.Concrete.{concrete}
use Rattle.machine.specs.Suspended.{driver_of}
use Rattle.proof_book.specs.TransferKinds.{Has}
use Rattle.proof_book.specs.TransferKindsLaws.{sorted}
use Rattle.proof_book.specs.Always.{after}
use Rattle.proof_book.specs.Sorting.{sorts_of, Sorting}
use Rattle.proof_book.proofs.SortingLaws.{ep0-plain, after-sorting}

-- stores by others: any bytes of the slots become anything, the driver's state stays
abbrev pub Stores : St → St → Type 0
Stores s t = t.0 ≡ s.0

-- from a state in which flags and sets tell one sort of each endpoint
pub sorting-4056 : (d : Driver) → Sorting d
    → (slots : Buf) (w : Continues St) → Along (Passes concrete Stores) (run concrete interrupt_code (d, slots)) w
    → readings (run concrete interrupt_code (d, slots)) w ≤ 4056
sorting-4056 d k slots w l = passing-4056 (sorted (sorts_of d) (ep0-plain k)) (λ s t h. subst (Has (sorts_of d)) (sym h))
    (d, slots) k.has w l

-- the first call is a start-up that rows 1 and 2 do not stop, on whatever was before; then any calls, refused ones
-- included, each lent any slot buffer; then an interrupt, whatever is read. Between two of its accesses packets may be
-- opened, closed and queued, and the slots' bytes may change
pub driver-4056 : (c : Config) (b : Buf) → start_row c b ≡ zero
    → (es : List (Event Config Op)) (m : Machine Answer Driver)
    → let d = (after calls driver_of (record { call = start c; lent = b } ∷ es) m).st in
    (slots : Buf) (w : Continues St) → Along (Passes concrete Stores) (run concrete interrupt_code (d, slots)) w
    → readings (run concrete interrupt_code (d, slots)) w ≤ 4056
driver-4056 c b row es m = sorting-4056 (after calls driver_of (record { call = start c; lent = b } ∷ es) m).st
    (after-sorting c b row es m)
