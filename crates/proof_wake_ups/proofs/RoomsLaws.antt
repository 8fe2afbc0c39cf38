-- Laws on the definitions of Rooms.antt
use Rattle.std.specs.Prelude.{Bool, true, false, cond, List, [], ◌∷◌, ◌≡◌, ℕ, zero, suc, length}
use Rattle.std.proofs.Common.{ap, arith}
use Rattle.state.specs.Driver.{Driver}
use Rattle.state.specs.Wakes.{listed}
use Rattle.state.specs.WakesLaws.{Room}
use Rattle.script.specs.Tree as tree
use Rattle.script.specs.Answers.{Answer, Refused, End, NotYet, Done, Shown}
use Rattle.script.specs.Calls.{Config, Op, calls, start_row}
use Rattle.script.specs.Machine.{Buf, Event, Call, start, begin, continue, question, Ans, ended, handed, told, Pending}
use Rattle.script.specs.Machine.{idle, Machine, over, halt, stay, lent_to, during_interrupt, begun, continued, started}
use Rattle.script.specs.Machine.{misfit}
use Rattle.script_ops.specs.Rings.{St}
use Rattle.machine.specs.Suspended.{driver_of, drive}
use Rattle.proof_book.specs.Always.{after}
use Rattle.proof_wake_ups.specs.Heard.{Heard}
use Rattle.proof_wake_ups.specs.Twins.{Short}
use Rattle.proof_wake_ups.specs.Machines.{Told, Pair}
use Rattle.proof_wake_ups.proofs.MachinesLaws.{steps, from_start}
use Rattle.proof_wake_ups.specs.Ends.{Ends, end, ask}
use Rattle.proof_wake_ups.specs.EndsLaws.{gives, start-up-gives}
use Rattle.proof_wake_ups.specs.Rooms.{Few, Goes, rests, works, Roomy, Gathered, RoomsKept, Rooms}

halts : (i : Bool) {o : tree.Out St Answer} → Ends o → RoomsKept (halt calls driver_of (λ s. s) i o)
halts i (end h) = record { answer = h; goes = rests }
halts i (ask k) = record { answer = tt; goes = works k }

stays : (n : ℕ) (m : Machine Answer Driver) → Goes m.under_way_lem → RoomsKept (stay calls driver_of n m)
stays n m g = record { answer = tt; goes = g }

besides : (m : Machine Answer Driver) → Goes m.under_way_lem → {o : tree.Out St Answer} → Ends o
    → RoomsKept (during_interrupt calls driver_of m o)
besides m g (end h) = record { answer = h; goes = g }
besides m g (ask k) = stays 3 m g

either : (b : Bool) {x y : Told} → RoomsKept x → RoomsKept y → RoomsKept (cond b x y)
either true p q = p
either false p q = q

begins : (o : Op) (m : Machine Answer Driver) {w : Pending Answer Driver} → Goes m.under_way_lem → Goes w → (b : Buf)
    → RoomsKept (begun calls driver_of (λ s. s) o m w b)
begins o m g rests b = halts (calls.irq o) ((gives o).on (m.st, b))
begins o m g (works {i = i} k) b = either (cond i (calls.aside o) false)
    (besides (lent_to calls driver_of m b) g ((gives o).on (m.st, b))) (stays 3 (lent_to calls driver_of m b) g)

continues : (v : ℕ) (m : Machine Answer Driver) {w : Pending Answer Driver} → Goes m.under_way_lem → Goes w → (b : Buf)
    → RoomsKept (continued calls driver_of (λ s. s) v m w b)
continues v m g rests b = stays 15 (lent_to calls driver_of m b) g
continues v m g (works {i = i} {q = q} k) b = either (over calls q v) (stays 16 (lent_to calls driver_of m b) g)
    (halts i (k v (m.st, b)))

starts : (c : Config) (n : ℕ) (m : Machine Answer Driver) → Goes m.under_way_lem → (b : Buf)
    → RoomsKept (started calls driver_of (λ s. s) c n m b)
starts c zero m g b = halts false ((start-up-gives c).on (driver_of.fresh c, b))
starts c (suc n) m g b = stays (suc n) m g

keeps : (c : Call Config Op) (m : Machine Answer Driver) → Goes m.under_way_lem → (b : Buf) → RoomsKept (drive c m b)
keeps (start c) m g b = starts c (start_row c b) m g b
keeps (begin o) m g b = either (cond (calls.slots o) (misfit calls driver_of m.st b) false) (stays 1 m g)
    (begins o m g g b)
keeps (continue v) m g b = either (misfit calls driver_of m.st b) (stays 1 m g) (continues v m g g b)
keeps (question q) m g b = record { answer = tt; goes = g }

few : (a : Ans Answer) (w : List ℕ) → Gathered a w → Short w → Few a
few (ended (End n l)) w h s = omega (arith, h, s)
few (ended (Refused n)) w h s = tt
few (ended NotYet) w h s = tt
few (ended (Done bytes)) w h s = tt
few (ended (Shown bytes stamp)) w h s = tt
few (handed q) w h s = tt
few (told n) w h s = tt

short-by : {m : Machine Answer Driver} {n : Machine Answer Heard} → Pair m n → Short (listed m.st.wakes)
short-by p = omega (
  arith,
  p.short,
  ap (λ (d : Driver). length (listed d.wakes)) p.driver,
  ap length
      p.fits.list,
)

-- the wake-ups gathered
pub short : {m : Machine Answer Driver} → Roomy m → Short (listed m.st.wakes)
short r = short-by r.pair

pub room : {m : Machine Answer Driver} → Roomy m → Room m.st.wakes
room r = rw r.pair.driver r.pair.fits.room

rooms-by : {x : Told} {n : Machine Answer Heard} → RoomsKept x → Pair x.1 n → Rooms x
rooms-by {x} {n} k p = record {
  answer = few x.0 _ k.answer (short-by p);
  machine
      = record { heard = n; pair = p; goes = k.goes };
}

pub rooms : (c : Call Config Op) {m : Machine Answer Driver} → Roomy m → (b : Buf) → Rooms (drive c m b)
rooms c {m} r b = rooms-by (keeps c m r.goes b) (steps c m r.heard r.pair b).pair

-- an accepted start-up, on whatever was before, and any calls
pub start-rooms : (c : Config) (b : Buf) → start_row c b ≡ zero → (m : Machine Answer Driver)
    → Rooms (drive (start c) m b)
start-rooms c b row m = rooms-by (by (start_row c b) row) (from_start c b row m none).pair
  where
    by : (n : ℕ) → n ≡ zero → RoomsKept (started calls driver_of (λ s. s) c n m b)
    by zero e = halts false ((start-up-gives c).on (driver_of.fresh c, b))
    by (suc n) e = absurd (omega (arith, e))

    none : Machine Answer Heard
    none = record { under_way_lem = idle; st = (driver_of.fresh c, []); buf = b }

later : (es : List (Event Config Op)) {m : Machine Answer Driver} → Roomy m → Roomy (after calls driver_of es m)
later [] r = r
later (e ∷ es) r = later es (rooms e.call r e.lent).machine

pub after-rooms : (c : Config) (b : Buf) → start_row c b ≡ zero
    → (es : List (Event Config Op)) (m : Machine Answer Driver)
    → Roomy (after calls driver_of (record { call = start c; lent = b } ∷ es) m)
after-rooms c b row es m = later es (start-rooms c b row m).machine
