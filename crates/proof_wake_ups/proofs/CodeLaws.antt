-- Laws on the definitions of Code.antt
use Rattle.std.specs.Prelude.{List, [], ◌∷◌, ◌≡◌, ℕ, zero}
use Rattle.std.proofs.Common.{sym, subst}
use Rattle.script.specs.Answers.{Answer}
use Rattle.script.specs.Calls.{Config, Op, start_row}
use Rattle.script.specs.Machine.{Buf, Event, Machine, start}
use Rattle.machine.specs.Suspended.{machine_of, drive}
use Rattle.proof_book.specs.FrontPage.{CallRecord, CallStep}
use Rattle.proof_book.specs.CodeReadings.{Steps}
use Rattle.proof_wake_ups.specs.Heard.{Heard}
use Rattle.proof_wake_ups.specs.Machines.{Told, hear, Pair}
use Rattle.proof_wake_ups.proofs.MachinesLaws.{SameTold, steps, from_start}
use Rattle.proof_wake_ups.specs.Code.{AsHeard}

made : (m : CallRecord) (xs : List ℕ) (a : Buf) (n : Machine Answer Heard) → CallStep xs a m
    → SameTold (drive m.event.call (machine_of xs a) m.event.lent) (hear m.event.call n m.event.lent)
    → SameTold (m.answer, machine_of m.bytes m.slots) (hear m.event.call n m.event.lent)
made m xs a n d s = subst (λ (z : Told). SameTold z (hear m.event.call n m.event.lent)) (sym d) s

code-always : (ms : List CallRecord) (xs : List ℕ) (a : Buf) (n : Machine Answer Heard) → Pair (machine_of xs a) n
    → Steps xs a ms → AsHeard n ms
code-always [] xs a n p h = tt
code-always (m ∷ ms) xs a n p h =
    let s = made m xs a n h.0 (steps m.event.call (machine_of xs a) n p m.event.lent) in
    (s.answer, code-always ms m.bytes m.slots _ s.pair h.1)

-- any bytes, a start-up that rows 1 and 2 do not stop, and then any calls, each as its contract says: every end gives
-- every wake-up since its operation's begin, in order
pub code-wake-ups : (c : Config) (b : Buf) → start_row c b ≡ zero
    → (xs : List ℕ) (a : Buf) (n : Machine Answer Heard) (first : CallRecord)
    → first.event ≡ record { call = start c; lent = b } → (ms : List CallRecord)
    → Steps xs a (first ∷ ms) → AsHeard n (first ∷ ms)
code-wake-ups c b row xs a n first e ms h =
    let s = made first xs a n h.0
    (subst (λ (v : Event Config Op). SameTold (drive v.call (machine_of xs a) v.lent) (hear v.call n v.lent))
    (sym e) (from_start c b row (machine_of xs a) n)) in
    (s.answer, code-always ms first.bytes first.slots _ s.pair h.1)
