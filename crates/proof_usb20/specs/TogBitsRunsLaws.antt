-- After each call of every list of calls from an accepted start-up every recorded toggle is 0 or 1
use Rattle.std.specs.Prelude.{List, [], ◌∷◌, ◌≡◌, ℕ, zero}
use Rattle.std.proofs.Common.{subst, sym}
use Rattle.std.proofs.lemmas.List.{get_or-replicate}
use Rattle.state.specs.Ep.{new_ep}
use Rattle.state.specs.Fresh.{fresh_driver}
use Rattle.state.specs.Driver.{Driver, key, no_ep, ep_on}
use Rattle.state.specs.Laws.{key-lt}
use Rattle.state.specs.State.{view}
use Rattle.script.specs.Answers.{Answer}
use Rattle.script.specs.Calls.{Config, Op, calls, start_row}
use Rattle.script.specs.Machine.{Buf, Event, start, Ans, Machine, started}
use Rattle.script.specs.MachineKept.{MachineKeeps, Preserves}
use Rattle.script.specs.MachineKeptLaws.{start-kept, call_kept}
use Rattle.machine.specs.Suspended.{driver_of, drive, machine_of}
use Rattle.proof_book.specs.Always.{after}
use Rattle.proof_book.specs.FrontPage.{CallRecord, CallStep}
use Rattle.proof_book.specs.CodeReadings.{Steps, bytes_after, slots_after}
use Rattle.proof_usb20.specs.TogBits.{TogBits}
use Rattle.proof_usb20.specs.TogBitsLaws.{bit-0}
use Rattle.proof_usb20.specs.TogBitsCallsLaws.{k-call, k-starting}

fresh-bits : (c : Config) → TogBits (driver_of.fresh c)
unfolding fresh_driver ep_on
fresh-bits c = record { bits = λ dir e. rw (get_or-replicate 32 (key dir e) new_ep no_ep (key-lt dir e)) bit-0 }

preserved : Preserves TogBits calls driver_of
preserved = record {
  calls = λ o s b. (k-call o).on s b;
  starts = λ c s b. (k-starting c).on s b;
  fresh
      = λ c b row. fresh-bits c;
}

abbrev Togs : Machine Answer Driver → Type 0
Togs m = MachineKeeps TogBits m

-- an accepted start-up, on whatever was before
accepted : (c : Config) (m : Machine Answer Driver) (b : Buf) → start_row c b ≡ zero → Togs (drive (start c) m b).1
accepted c m b row = subst (λ n. Togs (started calls driver_of (λ s. s) c n m b).1) (sym row)
    (start-kept preserved c m b row)

always : (es : List (Event Config Op)) (m : Machine Answer Driver) → Togs m → Togs (after calls driver_of es m)
always [] m k = k
always (e ∷ es) m k = always es _ (call_kept preserved e.call m k e.lent)

-- after every list of calls from an accepted start-up, refused ones among them, whatever the chip answers
pub tog-bits : (c : Config) (b : Buf) → start_row c b ≡ zero → (es : List (Event Config Op)) (m : Machine Answer Driver)
    → TogBits (after calls driver_of (record { call = start c; lent = b } ∷ es) m).st
tog-bits c b row es m = (always es _ (accepted c m b row)).state

-- a call as its contract says
made : (xs : List ℕ) (a : Buf) (m : CallRecord) → CallStep xs a m
    → Togs (drive m.event.call (machine_of xs a) m.event.lent).1 → Togs (machine_of m.bytes m.slots)
made xs a m h k = subst (λ (z : Ans Answer × Machine Answer Driver). Togs z.1) (sym h) k

code-always : (ms : List CallRecord) (xs : List ℕ) (a : Buf) → Togs (machine_of xs a) → Steps xs a ms
    → Togs (machine_of (bytes_after xs ms) (slots_after a ms))
code-always [] xs a k h = k
code-always (m ∷ ms) xs a k h = code-always ms m.bytes m.slots
    (made xs a m h.0 (call_kept preserved m.event.call (machine_of xs a) k m.event.lent)) h.1

-- of the Rattle code: any bytes, a start-up that rows 1 and 2 do not stop, and then any calls, each as its contract
-- says; `view` reads the records back from the lent bytes
pub code-tog-bits : (c : Config) (b : Buf) → start_row c b ≡ zero → (xs : List ℕ) (a : Buf) (first : CallRecord)
    → first.event ≡ record { call = start c; lent = b } → (ms : List CallRecord) → Steps xs a (first ∷ ms)
    → TogBits (view (bytes_after xs (first ∷ ms)))
code-tog-bits c b row xs a first e ms h = (code-always ms first.bytes first.slots
    (made xs a first h.0 (subst (λ (v : Event Config Op). Togs (drive v.call (machine_of xs a) v.lent).1)
    (sym e)
    (accepted c (machine_of xs a) b row))) h.1).state
