-- Demand 3, to be read alone: what a list of calls is, what each call is lent, what document 01 compares after each
-- call, and demand 3's own sentences. Definitions only. `demand-3` (FrontPageLaws.antt) says that `AfterCall` holds
-- after every call of every list that an accepted start-up begins. The calls are in script/specs/Calls.antt, the book
-- in Book.antt over Pages.antt: what waits, was admitted, read, queued, sent
use Rattle.std.specs.Prelude.{Bool, true, false, not, cond, ◌&&◌, ◌||◌, ◌⊎◌, ◌≢◌, ◌≡◌, ℕ, zero, ◌+◌, ◌%◌, ◌^◌, ◌≤◌, ◌<◌, length, get_or, eqb, ltb}
use mathlib.Core.List.{List, [], ◌∷◌, ◌++◌, tail}
use Rattle.regs.specs.declared.Access.{Access}
use Rattle.regs.specs.declared.Access.TheVariants.{Read, Write, Receive, Transmit, Ep0Dma, Wait, Callback}
use Rattle.regs.specs.declared.Reg.TheVariants.{EpTLen, EpConfig}
use Rattle.regs.specs.declared.Dir.{Dir}
use Rattle.regs.specs.declared.Dir.TheVariants.{Out, In}
use Rattle.regs.specs.Enables as enables
use Rattle.state.specs.Driver.{Driver, ep_on, len_on, stamp_on}
use Rattle.alloc.specs.Alloc.{allocated_ins}
use Rattle.bits.specs.Bit.{bit_is_set}
use Rattle.bits.specs.Tables.{tab}
use Rattle.state.specs.State.{view}
use Rattle.ring.specs.Waiting.{waiting, Same}
use Rattle.ring.specs.Copies.{bytes_at}
use Rattle.script.specs.Every.{same_reg}
use Rattle.script.specs.Answers.{Answer, Refused, End, NotYet, Done, Shown, ok, is_number, is_allocated}
use Rattle.script.specs.Calls.{Config, Op, interrupt, slotted, other, aside, SetEnabled, PollRead, BeginWrite}
use Rattle.script.specs.Calls.{PollWrite}
use Rattle.script.specs.Calls.{PollDataOut, BeginDataIn, Allocate, AllocateAll, Advance, Aside, Open}
use Rattle.script.specs.Calls.{Close, Queue, calls, start_row}
use Rattle.script.specs.Machine.{Buf, Call, start, begin, continue, question, overruns, Event, Ans, ended, handed, told}
use Rattle.script.specs.Machine.{Pending}
use Rattle.script.specs.Machine.{idle, busy, Machine, over, misfit, fed, call, blank_a}
use Rattle.machine.specs.Suspended.{drive, machine_of}
use Rattle.proof_book.specs.Pages.{Packet, bytes_of, stamps_of, OutPage, InPage, Pages}
use Rattle.proof_book.specs.Book.{some, iso_of, receiving, front, slot_told, book}
use Rattle.proof_book.specs.Stamps.{stamped}
use Rattle.proof_book.specs.Lengths.{Known, learnt, length_at}
pub use Rattle.proof_book.specs.Others.{gives_to, addressed}
use Rattle.proof_book.specs.Others.{hands_out, releasing, sends_to, Names, under_way, call_names, Away, SamePage}
use Rattle.proof_book.specs.Arrivals.{Note, brings, checks, due, looks, after, above, Arrival}
use Rattle.proof_book.specs.Allocated.{Sorts, sorts_after}
use Rattle.proof_book.specs.Loads.{Heard, hears, hearing, values_of, last_in, loads_in, Loads, SentAll}

-- ---- a list of calls

-- a call that was made: the call and the slot buffer it was lent; its answer; the state's bytes and the slot buffer as
-- it left them
pub record CallRecord : Type 0 where
  pub event : Event Config Op
  pub answer : Ans Answer
  pub bytes : List ℕ
  pub slots : Buf

-- its contract, where the state's bytes were xs and the slot buffer a: it is one step of the machine of calls that the
-- bytes are
abbrev pub CallStep : List ℕ → Buf → CallRecord → Type 0
CallStep xs a m = (m.answer, machine_of m.bytes m.slots)
    ≡ drive m.event.call (machine_of xs a) m.event.lent

-- the book's step: "fed the calls alone, with the readings and lent bytes they bring and the accesses they hand out"
abbrev pub book_step : Ans Answer → Call Config Op → Machine Answer Pages → Buf → Ans Answer × Machine Answer Pages
book_step a c n b = call calls book.driver (fed book a) c n b

abbrev pub book_after : CallRecord → Machine Answer Pages → Ans Answer × Machine Answer Pages
book_after m n = book_step m.answer m.event.call n m.event.lent

-- "A receive address counts from the call that hands it out": byte k lies outside of the slot of every allocated OUT
-- endpoint's last receive address in this run, and outside of EP0's buffer
pub record Elsewhere (t : Pages) (k : ℕ) : Type 0 where
  pub outs : (e : ℕ) → bit_is_set (allocated_ins t.kept.allocator Out) (e % 16) ≡ true → (k < (t.outs e).slot)
      ⊎ ((t.outs e).slot + t.kept.allocator.size ≤ k)
  pub ep0 : t.kept.globals.stage ≡ 2 → (k < t.kept.globals.ep0_buf)
      ⊎ (t.kept.globals.ep0_buf + t.kept.allocator.size ≤ k)

-- the chip's stores, from b to b': all other bytes stay
pub record Chip (t : Pages) (b b' : Buf) : Type 0 where
  pub long : length b' ≡ length b
  pub others : (k : ℕ) → Elsewhere t k → get_or b' k 0 ≡ get_or b k 0

-- "Each call gets … the slot buffer too, but for the chip's stores; a new run may bring another buffer, a call refused
-- with 1 any other". Call c is lent b, where the last call left a
abbrev pub when_not : Bool → Type 0 → Type 0
when_not true X = Unit {0}
when_not false X = X

abbrev pub BufferPreserved : Call Config Op → Machine Answer Pages → Buf → Buf → Type 0
BufferPreserved (start c) n a b = Unit {0}
BufferPreserved (begin o) n a b = when_not (cond (calls.slots o) (misfit calls book.driver n.st b) false)
    (Chip n.st a b)
BufferPreserved (continue v) n a b = when_not (misfit calls book.driver n.st b) (Chip n.st a b)
BufferPreserved (question q) n a b = Chip n.st a b

-- calls one after the other, from the state's bytes xs, the slot buffer a and the book n
abbrev pub Calls : List ℕ → Buf → Machine Answer Pages → List CallRecord → Type 0
Calls xs a n [] = Unit {0}
Calls xs a n (m ∷ ms) = CallStep xs a m × BufferPreserved m.event.call n a m.event.lent
    × Calls m.bytes m.slots (book_after m n).1 ms

-- ---- what is compared

-- the recorded lengths of its slots
abbrev pub lens_of : Driver → Dir → ℕ → List ℕ
lens_of d dir e = tab 16 (λ i. len_on d dir e i)

-- the stamps of the slots of OUT e
abbrev pub slot_stamps : Driver → ℕ → List ℕ
slot_stamps d e = tab 16 (λ i. stamp_on d e i)

-- of OUT e: the bytes of the ring's slots, tail to head, each up to its recorded length; their stamps
abbrev pub ring_bytes : Driver → Buf → ℕ → List (List ℕ)
ring_bytes d b e = waiting b (ep_on d Out e) (lens_of d Out e)

abbrev pub ring_stamps : Driver → ℕ → List ℕ
ring_stamps d e = stamped (ep_on d Out e) (slot_stamps d e)

-- the first of those waiting is q, and the others wait after the call; q is read, and it alone
pub record ReadsFirst (p p' : OutPage) (q : Packet) : Type 0 where
  pub first : p.waiting ≡ q ∷ p'.waiting
  pub read : p'.read ≡ p.read ++ (q ∷ [])
  pub admitted : p'.admitted ≡ p.admitted
  pub closed : p'.opened ≡ false

-- where the transmit address x is a load's: the slot there holds the bytes of the first waiting
abbrev pub Holds : InPage → Buf → ℕ → Type 0
Holds p b x = (bytes : List ℕ) (rest : List (List ℕ)) → p.load ≡ true → p.waiting ≡ bytes ∷ rest
    → bytes_at b x (length bytes) ≡ bytes

-- a poll that is done
abbrev pub is_done : Answer → Bool
is_done (Refused r) = false
is_done (End r w) = false
is_done NotYet = false
is_done (Done bytes) = true
is_done (Shown bytes s) = false

abbrev pub done : Ans Answer → Bool
done (ended z) = is_done z
done (handed q) = false
done (told k) = false

-- "Queue: its bytes wait, last", where fewer than 2 wait; none comes to be sent
abbrev pub Joins : InPage → InPage → List ℕ → Type 0
Joins p p' bytes = (length p.waiting < 2) × (p'.waiting ≡ p.waiting ++ (bytes ∷ []))
    × (p'.queued ≡ p.queued ++ (bytes ∷ []))
    × (p'.sending ≡ p.sending)

-- document 01, "Compared after each call". A call c, the book before it, its answer, the driver's state and the slot
-- buffer after it, the book after it
pub record Compared (c : Call Config Op) (t : Pages) (a : Ans Answer) (d : Driver) (b : Buf) (t' : Pages) : Type 0 where
  -- "the bytes of the OUT ring's slots, tail to head, each up to its recorded length, equal those waiting, in order",
  -- with their stamps
  pub ring : (e : ℕ) → ring_bytes d b e ≡ bytes_of (t'.outs e).waiting
  pub stamps : (e : ℕ) → ring_stamps d e ≡ stamps_of (t'.outs e).waiting
  -- "open shows … the first", which is open then
  pub open_shows : (e stamp : ℕ) (bytes : List ℕ) → c ≡ begin (aside (Open e)) → a ≡ ended (Shown bytes stamp)
      → (q : Packet) × (rest : List Packet) × ((t.outs e).waiting ≡ q ∷ rest) × (bytes ≡ q.bytes)
      × (stamp ≡ q.stamp) × ((t'.outs e).opened ≡ true) × ((t'.outs e).waiting ≡ (t.outs e).waiting)
      × ((t'.outs e).admitted ≡ (t.outs e).admitted) × ((t'.outs e).read ≡ (t.outs e).read)
  -- "… and a read's poll gives the first", whole; it is read
  pub poll_gives : (e n : ℕ) (bytes : List ℕ) → c ≡ begin (slotted (PollRead e n)) → a ≡ ended (Done bytes)
      → iso_of t Out e ≡ true
      → (q : Packet) × (bytes ≡ q.bytes) × ReadsFirst (t.outs e) (t'.outs e) q
  -- .. and is "not yet" done only where none waits
  pub poll_waits : (e n : ℕ) → c ≡ begin (slotted (PollRead e n)) → a ≡ ended NotYet → iso_of t Out e ≡ true → (t.outs e).waiting ≡ []
  -- and a write's poll on an isochronous IN only where 2 wait. Its begin took no more bytes than fit a slot (row 10)
  pub write_waits : (e : ℕ) (bytes : List ℕ) → c ≡ begin (slotted (PollWrite e bytes)) → a ≡ ended NotYet
      → iso_of t In e ≡ true → length bytes ≤ t.kept.allocator.size → length (t.ins e).waiting ≡ 2
  -- "rows 12 and 14 continue by the book": none waits; none is open. A close that is not refused reads the first
  pub row_12 : (e : ℕ) → c ≡ begin (aside (Open e)) → a ≡ ended (Refused 12) → (t.outs e).waiting ≡ []
  pub row_14 : (e : ℕ) → c ≡ begin (aside (Close e)) → a ≡ ended (Refused 14) → (t.outs e).opened ≡ false
  pub close_reads : (e : ℕ) → c ≡ begin (aside (Close e)) → a ≡ ended ok → ((t.outs e).opened ≡ true) × (q : Packet)
      × ReadsFirst (t.outs e) (t'.outs e) q
  -- "overruns answers the count modulo 2^32", 0 where the Rust does
  pub overruns_answers : (e : ℕ) → c ≡ question (overruns e) → a ≡ told (cond (is_number e) (cond (iso_of t Out e) ((t.outs e).lost % 2 ^ 32) 0) 0)
  -- "row 13 goes by the book": 2 wait. A queue that is not refused finds fewer, and its bytes wait, last
  pub row_13 : (e : ℕ) (bytes : List ℕ) → c ≡ begin (aside (Queue e bytes)) → a ≡ ended (Refused 13) → length (t.ins e).waiting ≡ 2
  pub queue_joins : (e : ℕ) (bytes : List ℕ) → c ≡ begin (aside (Queue e bytes)) → a ≡ ended ok
      → Joins (t.ins e) (t'.ins e) bytes
  -- so do those of a write's poll that is done on an isochronous IN; with any other answer, and on any other endpoint,
  -- it leaves the page
  pub write_joins : (e : ℕ) (bytes : List ℕ) → c ≡ begin (slotted (PollWrite e bytes)) → done a ≡ true → iso_of t In e ≡ true
      → Joins (t.ins e) (t'.ins e) bytes
  pub write_leaves : (e : ℕ) (bytes : List ℕ) → c ≡ begin (slotted (PollWrite e bytes)) → (done a && iso_of t In e)
      ≡ false → t'.ins e ≡ t.ins e
  -- "the slot whose address a load hands out holds the bytes of the first then waiting"
  pub load_holds : (e x : ℕ) → a ≡ handed (Transmit e x) → Holds (t'.ins e) b x

-- ---- demand 3's own sentences

-- "An arrival is decided in the call that hands out the receive address": one that goes on with an interrupt, of an
-- enabled isochronous OUT
abbrev pub in_interrupt : Pending Answer Pages → Bool
in_interrupt idle = false
in_interrupt (busy i a k) = i

pub record Decides (c : Call Config Op) (n : Machine Answer Pages) (a : Ans Answer) (e : ℕ) : Type 0 where
  pub brought : ℕ
  pub address : ℕ
  pub continues : c ≡ continue brought
  pub interrupt : in_interrupt n.under_way_lem ≡ true
  pub enabled : receiving n.st e ≡ true
  pub hands : a ≡ handed (Receive e address)

-- "it joins those waiting, last, with its slot's bytes in that call up to its length; with 15 waiting it is turned away
-- and the endpoint's count rises": the one or the other, by whether 15 wait. An open packet stays open: "until it is
-- read or a reset"
pub data Decided (lent : Buf) (p p' : OutPage) : Type 0 where
  admitted : (q : Packet) → length p.waiting < 15 → q.bytes ≡ bytes_at lent p.slot (length q.bytes)
      → p'.waiting ≡ p.waiting ++ (q ∷ [])
      → p'.admitted ≡ p.admitted ++ (q ∷ []) → p'.read ≡ p.read → p'.lost ≡ p.lost → p'.opened ≡ p.opened → Decided lent p p'
  turned_away : length p.waiting ≡ 15 → p'.waiting ≡ p.waiting → p'.admitted ≡ p.admitted → p'.read ≡ p.read → p'.lost ≡ p.lost + 1
      → p'.opened ≡ p.opened → Decided lent p p'

-- the count of those turned away rises in no other call, and an accepted start-up alone takes it back, to 0
pub data Counted (c : Call Config Op) (lent : Buf) (a : Ans Answer) (e : ℕ) (p p' : OutPage) : Type 0 where
  same : p'.lost ≡ p.lost → Counted c lent a e p p'
  one_more : (f x : ℕ) → f % 16 ≡ e % 16 → a ≡ handed (Receive f x) → length p'.waiting ≡ 15 → p'.lost ≡ p.lost + 1
      → Counted c lent a e p p'
  none : (g : Config) → c ≡ start g → start_row g lent ≡ zero → p'.lost ≡ 0 → Counted c lent a e p p'

-- "Reset: none wait on that endpoint", and its stretch begins anew; the count of those turned away stays
pub record EmptiedOut (p p' : OutPage) : Type 0 where
  pub waiting : p'.waiting ≡ []
  pub opened : p'.opened ≡ false
  pub admitted : p'.admitted ≡ []
  pub read : p'.read ≡ []
  pub lost : p'.lost ≡ p.lost

pub record EmptiedIn (p' : InPage) : Type 0 where
  pub waiting : p'.waiting ≡ []
  pub sending : p'.sending ≡ false
  pub queued : p'.queued ≡ []
  pub sent : p'.sent ≡ []
  pub passed : p'.passed ≡ []

abbrev pub Emptied : Dir → ℕ → Pages → Pages → Type 0
Emptied Out e t t' = EmptiedOut (t.outs e) (t'.outs e)
Emptied In e t t' = EmptiedIn (t'.ins e)

-- an OUT's page is as before but for its slot, that of the last receive address
abbrev pub SamePackets : OutPage → OutPage → Type 0
SamePackets p p' = p' ≡ slot_told p p'.slot

-- one that releases a bus reset's flag, which empties all; no interrupt's does
abbrev pub emptying : Pending Answer Pages → Ans Answer → Bool
emptying w a = cond (in_interrupt w) false (releasing a)

-- one with which IN e may be loaded: its transmit address, or a length 0 for it. Not every length 0 is a load's: after
-- an empty packet's address its own length is 0 too
abbrev pub loads : Access → ℕ → Bool
loads (Read r f) e = false
loads (Write r f v) e = same_reg r EpTLen && (eqb v 0 && eqb (e % 16) (f % 16))
loads (Receive f x) e = false
loads (Transmit f x) e = eqb (e % 16) (f % 16)
loads (Ep0Dma x) e = false
loads (Wait n) e = false
loads Callback e = false

abbrev pub loading : Ans Answer → ℕ → Bool
loading a e = hands_out (λ q. loads q e) a

-- "Load: what the Rust's tail passes waits no more": the one being sent may pass; all others wait on, and none is
-- queued
pub record PassesOn (p p' : InPage) : Type 0 where
  pub waiting : (p'.waiting ≡ p.waiting) ⊎ ((p.sending ≡ true) × (p'.waiting ≡ tail p.waiting))
  pub queued : p'.queued ≡ p.queued

-- one waits, and the first is being sent, from address x
abbrev pub SentFrom : ℕ → InPage → Type 0
SentFrom x p = (0 < length p.waiting) × (p.sending ≡ true) × (p.source ≡ x) × (p.load ≡ true)

-- an IN is enabled or disabled
abbrev pub enabling : Op → Bool
enabling (slotted (SetEnabled In e on)) = true
enabling (slotted (SetEnabled Out e on)) = false
enabling (slotted (PollRead e k)) = false
enabling (slotted (BeginWrite e bytes)) = false
enabling (slotted (PollWrite e bytes)) = false
enabling (slotted (PollDataOut k)) = false
enabling (slotted (BeginDataIn bytes first last)) = false
enabling interrupt = false
enabling (other o) = false
enabling (aside o) = false

-- none waits, and none is being sent
abbrev pub NoneLeft : InPage → Type 0
NoneLeft p = (p.waiting ≡ []) × (p.sending ≡ false)

-- a call that rows 1, 2, 3, 15 or 16 stop, or a question
abbrev pub keeps_out : Pending Answer Pages → Op → Bool
keeps_out idle o = false
keeps_out (busy i w k) o = cond (cond i (calls.aside o) false) false true

abbrev pub not_going : Pending Answer Pages → ℕ → Bool
not_going idle v = true
not_going (busy i w k) v = over calls w v

abbrev pub stopped : Call Config Op → Machine Answer Pages → Buf → Bool
stopped (start g) n b = cond (eqb (start_row g b) zero) false true
stopped (begin o) n b = cond (cond (calls.slots o) (misfit calls book.driver n.st b) false) true
    (keeps_out n.under_way_lem o)
stopped (continue v) n b = cond (misfit calls book.driver n.st b) true (not_going n.under_way_lem v)
stopped (question q) n b = true

-- the row by which a call is refused; 0: by none
abbrev pub refused_by : Answer → ℕ
refused_by (Refused r) = r
refused_by (End r w) = 0
refused_by NotYet = 0
refused_by (Done bytes) = 0
refused_by (Shown bytes s) = 0

abbrev pub row_of : Ans Answer → ℕ
row_of (ended z) = refused_by z
row_of (handed q) = 0
row_of (told k) = 0

-- the first row that an open, close or queue meets, of 4 (before EP0's start), 5 (no such endpoint), 9 (disabled), 10
-- (longer
-- than a slot), 11 (not isochronous), 12 (none waits), 13 (2 wait) and 14 (none is open); 0: none
abbrev pub aside_row : Pages → Aside → ℕ
aside_row t (Open e) = cond (eqb t.kept.globals.stage 2)
    (cond (is_allocated t.kept.allocator Out e)
    (cond (not (iso_of t Out e)) 11 (cond (some (bytes_of (t.outs e).waiting)) 0 12)) 5) 4
aside_row t (Close e) = cond (eqb t.kept.globals.stage 2)
    (cond (is_allocated t.kept.allocator Out e) (cond (t.outs e).opened 0 14) 5) 4
aside_row t (Queue e bytes) = cond (eqb t.kept.globals.stage 2)
    (cond (is_allocated t.kept.allocator In e)
    (cond (enables.is_on t.kept.globals.ep_config In e)
    (cond (ltb t.kept.allocator.size (length bytes)) 10
    (cond (not (iso_of t In e)) 11 (cond (ltb (length (t.ins e).waiting) 2) 0 13))) 9) 5) 4

-- an allocation, at any time; and before EP0's start, from which on the stage is 2, all that is begun and continued
pub data BeforeStart (t : Pages) : Call Config Op → Type 0 where
  allocation : (d : Dir) (kind address maximum interval : ℕ)
      → BeforeStart t (begin (other (Allocate d kind address maximum interval)))
  allocations : (bytes : List ℕ) → BeforeStart t (begin (other (AllocateAll bytes)))
  begun : (o : Op) → t.kept.globals.stage ≢ 2 → BeforeStart t (begin o)
  continued : (v : ℕ) → t.kept.globals.stage ≢ 2 → BeforeStart t (continue v)

-- the length of a slot
abbrev pub slot_size : Pages → ℕ
slot_size t = t.kept.allocator.size

-- the first of those waiting on IN e is being sent: from the call that hands out its slot's transmit address on, up to
-- the one in which the tail passes it, its endpoint is reset or given by an allocation, or a start-up is accepted
-- (Book: sent_in; passed_in, empty_in, fresh_pages)
abbrev pub BeingSent : Pages → ℕ → Type 0
BeingSent t e = (t.ins e).sending ≡ true

-- what one call makes of the packet being sent on IN e: it is being sent still, from the same slot, and what was shown
-- of it stands; or the tail has passed it; or its endpoint was reset or given by an allocation, or a start-up was
-- accepted
pub data Sends (e : ℕ) (t t' : Pages) : Type 0 where
  still : BeingSent t' e → (t'.ins e).source ≡ (t.ins e).source → (t'.ins e).shown ≡ (t.ins e).shown → slot_size t'
      ≡ slot_size t → Sends e t t'
  passed_by : (bytes : List ℕ) → (t'.ins e).passed ≡ (t.ins e).passed ++ (bytes ∷ []) → Sends e t t'
  emptied : EmptiedIn (t'.ins e) → Sends e t t'

-- all bytes of the slot at that address are in b as they stood when it was handed out
abbrev pub Unwritten : Pages → Buf → Type 0
Unwritten t b = (e : ℕ) → BeingSent t e → Same (t.ins e).source ((t.ins e).source + slot_size t) (t.ins e).shown b

-- an address that is handed out has a slot's length of lent bytes from it on
abbrev pub LiesIn : Access → Buf → Pages → Type 0
LiesIn (Read r e) b t = Unit {0}
LiesIn (Write r e v) b t = Unit {0}
LiesIn (Receive e x) b t = x + slot_size t ≤ length b
LiesIn (Transmit e x) b t = x + slot_size t ≤ length b
LiesIn (Ep0Dma x) b t = x + slot_size t ≤ length b
LiesIn (Wait n) b t = Unit {0}
LiesIn Callback b t = Unit {0}

abbrev pub Inside : Ans Answer → Buf → Pages → Type 0
Inside (ended a) b t = Unit {0}
Inside (handed q) b t = LiesIn q b t
Inside (told n) b t = Unit {0}

-- what a call that ends at once ends with: a row's refusal, or what its own answer is
pub data EndsWith : Op → Answer → Type 0 where
  by_row : {o : Op} (r : ℕ) → EndsWith o (Refused r)
  opens : {e : ℕ} (bytes : List ℕ) (stamp : ℕ) → EndsWith (aside (Open e)) (Shown bytes stamp)
  closes : {e : ℕ} → EndsWith (aside (Close e)) ok
  queues : {e : ℕ} {bytes : List ℕ} → EndsWith (aside (Queue e bytes)) ok
  waits : {e k : ℕ} → EndsWith (slotted (PollRead e k)) NotYet
  gives : {e k : ℕ} (bytes : List ℕ) → EndsWith (slotted (PollRead e k)) (Done bytes)

abbrev pub AtOnce : Op → Ans Answer → Type 0
AtOnce o a = (z : Answer) × (a ≡ ended z) × EndsWith o z

-- a call c, lent a slot buffer; the book before it; its answer, the driver's state, the slot buffer and the book after
-- it
pub record Sentences (c : Call Config Op) (lent : Buf) (n : Machine Answer Pages) (a : Ans Answer) (d : Driver)
    (b : Buf) (t' : Pages) : Type 0 where
  -- "the packets read in its stretch, then those queued, are exactly that stretch's admitted arrivals, in order": bytes
  -- and stamps as at admission
  pub read_then_waiting : (e : ℕ) → bytes_of (t'.outs e).read ++ ring_bytes d b e ≡ bytes_of (t'.outs e).admitted
  pub read_then_stamps : (e : ℕ) → stamps_of (t'.outs e).read ++ ring_stamps d e ≡ stamps_of (t'.outs e).admitted
  -- "At most 15 wait"
  pub at_most_15 : (e : ℕ) → length (ring_bytes d b e) ≤ 15
  -- a length is capped at the endpoint's maximum
  pub capped : (e : ℕ) (earlier later : List Packet) (q : Packet) → (t'.outs e).waiting ≡ earlier ++ (q ∷ later)
      → length q.bytes ≤ (t'.kept.plain Out e).max_len
  -- an open packet is the first of them
  pub open_waits : (e : ℕ) → (t'.outs e).opened ≡ true → 0 < length (ring_bytes d b e)
  -- "an arrival is turned away exactly when 15 do"
  pub decided : (e : ℕ) → Decides c n a e → Decided lent (n.st.outs e) (t'.outs e)
  -- "An arrival is an enabled isochronous OUT endpoint": at a receive address of any other no packet changes. One that
  -- is enabled is isochronous, so that overruns answers its count, and allocated, so that the chip may store in its
  -- slot
  pub disabled_leaves : (e v : ℕ) → c ≡ continue v → in_interrupt n.under_way_lem ≡ true → receiving n.st e ≡ false
      → SamePackets (n.st.outs e) (t'.outs e)
  -- and one that is isochronous and enabled receives
  pub enabled_receives : (e : ℕ) → iso_of t' Out e ≡ true
      → enables.is_on t'.kept.globals.ep_config Out e ≡ true → receiving t' e ≡ true
  pub enabled_is : (e : ℕ) → receiving t' e ≡ true
      → (iso_of t' Out e ≡ true) × (bit_is_set (allocated_ins t'.kept.allocator Out) (e % 16) ≡ true)
  -- "the armed slot is that of the endpoint's last receive address": the address itself; so EP0's buffer
  pub slot_told_lem : (e x : ℕ) → a ≡ handed (Receive e x) → (t'.outs e).slot ≡ x
  pub ep0_told : (x : ℕ) → a ≡ handed (Ep0Dma x) → x ≡ t'.kept.globals.ep0_buf
  -- and it changes at such an address alone: of an interrupt's continue `unmoved` says so; of another's, but for the
  -- release of a bus reset's flag; of a begin, but for those before EP0's start
  pub unmoved_slot : (e v : ℕ) → c ≡ continue v → in_interrupt n.under_way_lem ≡ false → releasing a ≡ false
      → addressed a e ≡ false
      → t'.outs e ≡ n.st.outs e
  pub begin_slot : (o : Op) (e : ℕ) → c ≡ begin o → (BeforeStart n.st (begin o) → ⊥) → addressed a e ≡ false
      → (t'.outs e).slot ≡ (n.st.outs e).slot
  -- "Close with one open, or a read's poll that takes a packet: the first waiting is read": open, close, queue and that
  -- poll end at once, with an answer of which `Compared` speaks or that leaves the pages. An enabling that ends at once
  -- is refused, else it resets
  pub asides_end : (o : Aside) → c ≡ begin (aside o) → AtOnce (aside o) a
  -- "rows 12, 13 and 14 continue by the book", and 4, 5, 9 to 11 before them: which row refuses one that rows 1 and 3
  -- do not stop, and that none does
  pub asides_rows : (o : Aside) → c ≡ begin (aside o) → stopped c n lent ≡ false → row_of a ≡ aside_row n.st o
  pub polls_end : (e k : ℕ) → c ≡ begin (slotted (PollRead e k)) → AtOnce (slotted (PollRead e k)) a
  pub enabling_ends : (dir : Dir) (e : ℕ) (on : Bool) (z : Answer)
      → c ≡ begin (slotted (SetEnabled dir e on)) → a ≡ ended z → (r : ℕ) × (z ≡ Refused r)
  -- "All else, refusals too: no change": a continue of an interrupt changes the page of an OUT at its receive address
  -- alone, one of another operation no packet of an OUT
  pub unmoved : (e v : ℕ) → c ≡ continue v → in_interrupt n.under_way_lem ≡ true → addressed a e ≡ false → t'.outs e
      ≡ n.st.outs e
  pub unmoved_out : (e v : ℕ) → c ≡ continue v → in_interrupt n.under_way_lem ≡ false → releasing a ≡ false
      → SamePackets (n.st.outs e) (t'.outs e)
  -- a continue changes the page of an IN at a load alone, where no packet but the one being sent ceases to wait
  pub unmoved_in : (e v : ℕ) → c ≡ continue v → emptying n.under_way_lem a ≡ false → loading a e ≡ false → t'.ins e
      ≡ n.st.ins e
  pub load_passes : (e v : ℕ) → c ≡ continue v → emptying n.under_way_lem a ≡ false → PassesOn (n.st.ins e) (t'.ins e)
  -- "or the length 0 where none is left": with a length 0 the page stays, as with an empty packet's own, or none is
  -- left
  pub length_0 : (e v : ℕ) → c ≡ continue v → emptying n.under_way_lem a ≡ false → a ≡ handed (Write EpTLen e 0)
      → (t'.ins e ≡ n.st.ins e) ⊎ NoneLeft (t'.ins e)
  -- the begin of an advance changes none
  pub advance_begins : (e f : ℕ) → c ≡ begin (other (Advance e)) → t'.ins f ≡ n.st.ins f
  -- an allocation changes no packet of any endpoint, nor does any call but a start-up before EP0's start
  pub early_leaves : BeforeStart n.st c → (e : ℕ) → SamePackets (n.st.outs e) (t'.outs e)
      × (t'.ins e ≡ n.st.ins e)
  -- a call that any row refuses leaves the pages of all endpoints; so does a poll that is not done yet
  pub refusal_leaves : (r : ℕ) → a ≡ ended (Refused r) → (e : ℕ) → (t'.outs e ≡ n.st.outs e) × (t'.ins e ≡ n.st.ins e)
  pub not_yet_leaves : a ≡ ended NotYet → (e : ℕ) → (t'.outs e ≡ n.st.outs e) × (t'.ins e ≡ n.st.ins e)
  -- a question and a call that rows 1, 2, 3, 15 or 16 stop leave the book; so does an open, close or queue that any row
  -- refuses
  pub stopped_leaves : stopped c n lent ≡ true → t' ≡ n.st
  pub refused_leaves : (o : Aside) (r : ℕ) → c ≡ begin (aside o) → a ≡ ended (Refused r) → t' ≡ n.st
  -- "overruns": the count of Compared is that of the arrivals turned away since the start-up
  pub counted : (e : ℕ) → Counted c lent a e (n.st.outs e) (t'.outs e)
  -- "Start-up: none wait, counts 0", none is open, and every stretch begins anew
  pub starts_anew : (g : Config) → c ≡ start g → start_row g lent ≡ zero → (e : ℕ)
      → ((t'.outs e).lost ≡ 0) × ((t'.outs e).waiting ≡ []) × ((t'.outs e).opened ≡ false)
      × ((t'.outs e).admitted ≡ []) × ((t'.outs e).read ≡ []) × EmptiedIn (t'.ins e)
  -- "Reset: none wait on that endpoint": an endpoint that is enabled or disabled, in the call that hands out the first
  -- access
  pub enabling_resets : (dir : Dir) (e : ℕ) (on : Bool) (q : Access) → c ≡ begin (slotted (SetEnabled dir e on)) → a
      ≡ handed q → Emptied dir e n.st t'
  -- every endpoint, in the call in which a bus reset releases its flag; so would a begin that did
  pub bus_reset_empties : (v : ℕ) → c ≡ continue v → in_interrupt n.under_way_lem ≡ false → releasing a ≡ true
      → (dir : Dir) (e : ℕ) → Emptied dir e n.st t'
  pub begin_empties : (o : Op) → c ≡ begin o → releasing a ≡ true → (dir : Dir) (e : ℕ) → Emptied dir e n.st t'
  -- IN: "at most 2 wait"
  pub at_most_2 : (e : ℕ) → length (t'.ins e).waiting ≤ 2
  -- "each reaches the chip at most once and in order": those handed to the chip are a beginning of those queued
  pub sent_in_order : (e : ℕ) → (later : List (List ℕ)) × ((t'.ins e).sent ++ later ≡ (t'.ins e).queued)
  pub passed_then_waiting : (e : ℕ) → (t'.ins e).passed ++ (t'.ins e).waiting ≡ (t'.ins e).queued
  pub sent_is : (e : ℕ) → (t'.ins e).sent ≡ (t'.ins e).passed
      ++ cond (t'.ins e).sending (front (t'.ins e).waiting) []
  -- "a slot is being sent from the call of iso_in_load that hands out its address": where an interrupt goes on and
  -- hands out a transmit address, or any other operation does after EP0's start, one waits, and the first is being
  -- sent, from that address; a begin's likewise, but of an
  -- IN that is enabled or disabled: its own, and its page is empty then
  pub load_sends : (e x v : ℕ) → c ≡ continue v → (in_interrupt n.under_way_lem ≡ false → n.st.kept.globals.stage ≡ 2) → a ≡ handed (Transmit e x)
      → SentFrom x (t'.ins e)
  -- "On IN the tail moves in the same call that hands out the next transmit address, then past the packets before that
  -- one": the one that was being sent waits no more, all others do
  pub load_moves : (e x v : ℕ) → c ≡ continue v → (in_interrupt n.under_way_lem ≡ false → n.st.kept.globals.stage ≡ 2)
      → a ≡ handed (Transmit e x)
      → (t'.ins e).waiting ≡ cond (n.st.ins e).sending (tail (n.st.ins e).waiting) (n.st.ins e).waiting
  pub begin_sends : (o : Op) (e x : ℕ) → c ≡ begin o → enabling o ≡ false → n.st.kept.globals.stage ≡ 2 → a
      ≡ handed (Transmit e x)
      → SentFrom x (t'.ins e)
  pub enabling_places : (e f x : ℕ) (on : Bool) → c ≡ begin (slotted (SetEnabled In f on)) → a ≡ handed (Transmit e x) → e % 16 ≡ f % 16
  -- "until the tail passes it, a reset or a start-up": nothing else ends a sending. A transmit address that is a load's
  -- is that of the slot being sent
  pub sending_ends : (e : ℕ) → BeingSent n.st e → Sends e n.st t'
  pub load_tells : (e x : ℕ) → a ≡ handed (Transmit e x) → (t'.ins e).load ≡ true → BeingSent t' e
      × ((t'.ins e).source ≡ x)
  -- "no slot being sent is written", whatever the chip stores, where it may, before the next call
  pub unwritten : (b' : Buf) → Chip t' b b' → Unwritten t' b'
  -- demand 1: no address that is handed out reaches outside the lent buffer
  pub inside : Inside a b t'

pub record AfterCall (c : Call Config Op) (lent : Buf) (n : Machine Answer Pages) (a : Ans Answer) (d : Driver)
    (b : Buf) (t' : Pages) : Type 0 where
  pub compared : Compared c n.st a d b t'
  pub sentences : Sentences c lent n a d b t'

-- "Length: the one of this interrupt, else by the marks": of an arrival that joins those waiting in call m, by what the
-- operation under way was brought, this call's number too (Lengths.antt)
abbrev pub LengthIs : CallRecord → Machine Answer Pages → Known → Type 0
LengthIs m n k = (e : ℕ) → Decides m.event.call n m.answer e → (q : Packet)
    → ((book_after m n).1.st.outs e).waiting ≡ (n.st.outs e).waiting ++ (q ∷ [])
    → length q.bytes ≡ length_at k.readings m.event.lent n.st e

-- "All else, refusals too: no change": call m leaves the pages of every endpoint that it does not name; k: what the
-- operation under way names. The release of a bus reset's flag empties all (`bus_reset_empties`)
abbrev pub OthersStay : CallRecord → Machine Answer Pages → Names → Type 0
OthersStay m n k = releasing m.answer ≡ false → (d : Dir) (e : ℕ) → Away (call_names m.event.call k) d e
    → SamePage d e n.st (book_after m n).1.st

-- "An arrival is ..": what is decided is one, found by an interrupt that checks, by what that interrupt was brought
-- and its calls were lent, this call's number too (Arrivals.antt)
abbrev pub ArrivalIs : CallRecord → Machine Answer Pages → Note → Type 0
ArrivalIs m n k = (e : ℕ) (d : Decides m.event.call n m.answer e)
    → (checks (brings d.brought k) ≡ true) × Arrival (brings d.brought k) n.st m.event.lent e

-- "Checks fall where the Rust's do": an interrupt that has to check and ends has looked at every enabled isochronous
-- OUT, and so has missed no arrival
abbrev pub NoneMissed : CallRecord → Machine Answer Pages → Note → Type 0
NoneMissed m n k = (v r : ℕ) (ws : List ℕ) → m.event.call ≡ continue v → in_interrupt n.under_way_lem ≡ true
    → m.answer ≡ ended (End r ws) → due (brings v k) ≡ true → (e : ℕ) → e < 16 → receiving n.st e ≡ true
    → (k.looked e || looks (brings v k) n.st m.event.lent m.answer e) ≡ true

-- "Endpoint sets are walked lowest number first": what an interrupt decides is above all that it decided before, so
-- each at most once; b: one more than the last of these
abbrev pub InOrder : CallRecord → Machine Answer Pages → ℕ → Type 0
InOrder m n b = (e : ℕ) → Decides m.event.call n m.answer e → b ≤ e

-- the length x that a continue writes for IN e; own: its own transmit address was handed out just before. Then, where
-- that
-- is a load's, it is the length of the packet, and the page stays; else it is 0, "the length 0 where none is left, then
-- past all"
abbrev pub LengthWritten : Bool → ℕ → InPage → InPage → Type 0
LengthWritten true x p p' =
    (p' ≡ p) × ((bytes : List ℕ) (rest : List (List ℕ)) → p.load ≡ true → p.waiting ≡ bytes ∷ rest → x ≡ length bytes)
LengthWritten false x p p' = (x ≡ 0) × NoneLeft p'

abbrev pub LoadLength : CallRecord → Machine Answer Pages → Known → Type 0
LoadLength m n k = (e x v : ℕ) → 0 < e → m.event.call ≡ continue v → m.answer ≡ handed (Write EpTLen e x)
    → LengthWritten (sends_to k.asked e) x (n.st.ins e) ((book_after m n).1.st.ins e)

-- "Loads .. fall where the Rust's do with the kept values": an interrupt loads an IN endpoint for its own token, or
-- where it went out unseen, and at no other call; with no load the microframe of its last packet stays (Loads.antt)
abbrev pub LoadIs : CallRecord → Machine Answer Pages → Heard → Type 0
LoadIs m n k = (e v : ℕ) → e < 16 → m.event.call ≡ continue v → in_interrupt n.under_way_lem ≡ true
    → Loads (hears v k) (values_of n.st e) e (last_in n.st e) (last_in (book_after m n).1.st e)
    (loads_in k.known.asked m.answer e)

-- and an interrupt that ends has read its flags, its status and its frame, and has completed and loaded those it had to
abbrev pub NoneUnsent : CallRecord → Machine Answer Pages → Heard → Type 0
NoneUnsent m n k = (e v r : ℕ) (ws : List ℕ) → e < 16 → m.event.call ≡ continue v → in_interrupt n.under_way_lem ≡ true
    → m.answer ≡ ended (End r ws)
    → let t = (book_after m n).1.st in
    SentAll (hears v k) (values_of n.st e) e (last_in t e) t.kept.globals.sof_frame

-- which endpoints are enabled is what was last written to ep_config
abbrev pub ConfigKept : CallRecord → Machine Answer Pages → Type 0
ConfigKept m n = (v : ℕ) → m.answer ≡ handed (Write EpConfig 0 v) → (book_after m n).1.st.kept.globals.ep_config ≡ v

-- ---- the statement

-- of each call of a list that was made, with the book before it
abbrev pub AfterEach : Machine Answer Pages → List CallRecord → Type 0
AfterEach n [] = Unit {0}
AfterEach n (m ∷ ms) =
    AfterCall m.event.call m.event.lent n m.answer (view m.bytes) m.slots (book_after m n).1.st
    × AfterEach (book_after m n).1 ms

-- and the lengths, with what was brought before it
abbrev pub LengthsEach : Machine Answer Pages → Known → List CallRecord → Type 0
LengthsEach n k [] = Unit {0}
LengthsEach n k (m ∷ ms) = let l = learnt m.event.call m.answer k in LengthIs m n l
    × LengthsEach (book_after m n).1 l ms

abbrev pub OthersEach : Machine Answer Pages → Names → List CallRecord → Type 0
OthersEach n k [] = Unit {0}
OthersEach n k (m ∷ ms) = OthersStay m n k × OthersEach (book_after m n).1 (under_way m.event.call m.answer k) ms

abbrev pub ArrivalsEach : Machine Answer Pages → Note → List CallRecord → Type 0
ArrivalsEach n k [] = Unit {0}
ArrivalsEach n k (m ∷ ms) = ArrivalIs m n k × NoneMissed m n k
    × ArrivalsEach (book_after m n).1 (after m.event.call m.answer n.st m.event.lent k) ms

abbrev pub OrderEach : Machine Answer Pages → ℕ → List CallRecord → Type 0
OrderEach n b [] = Unit {0}
OrderEach n b (m ∷ ms) = InOrder m n b × OrderEach (book_after m n).1 (above m.event.call m.answer b) ms

abbrev pub WritesEach : Machine Answer Pages → Known → List CallRecord → Type 0
WritesEach n k [] = Unit {0}
WritesEach n k (m ∷ ms) =
    LoadLength m n k × ConfigKept m n × WritesEach (book_after m n).1 (learnt m.event.call m.answer k) ms

abbrev pub LoadsEach : Machine Answer Pages → Heard → List CallRecord → Type 0
LoadsEach n k [] = Unit {0}
LoadsEach n k (m ∷ ms) = LoadIs m n k × NoneUnsent m n k
    × LoadsEach (book_after m n).1 (hearing m.event.call m.answer n.st k) ms

-- which endpoints are isochronous is what the allocations of the list say: the book's flags are theirs (Allocated.antt)
abbrev pub SortsEach : Machine Answer Pages → Sorts → List CallRecord → Type 0
SortsEach n f [] = Unit {0}
SortsEach n f (m ∷ ms) =
    let g = sorts_after m.event.call m.answer n.st.kept.allocator f in
    ((d : Dir) (e : ℕ) → iso_of (book_after m n).1.st d e ≡ g d e) × SortsEach (book_after m n).1 g ms

-- the book answers the same, questions too, but for the addresses of accesses
abbrev pub AnswersEach : Machine Answer Pages → List CallRecord → Type 0
AnswersEach n [] = Unit {0}
AnswersEach n (m ∷ ms) = (blank_a m.answer ≡ blank_a (book_after m n).0) × AnswersEach (book_after m n).1 ms

-- the state's bytes xs, the slot buffer a and the book n may be any. The first call is a start-up that rows 1 and 2 do
-- not stop, and any calls follow: refused ones and start-ups too, ending anywhere, whatever the chip answers. Nor does
-- it matter what was under way before
abbrev pub Demand3 : Type 0
Demand3 = (c : Config) (b : Buf) → start_row c b ≡ zero
    → (xs : List ℕ) (a : Buf) (n : Machine Answer Pages) (first : CallRecord)
    → first.event ≡ record { call = start c; lent = b } → (ms : List CallRecord) → Calls xs a n (first ∷ ms)
    → AfterEach n (first ∷ ms) × ((k : Known) → LengthsEach n k (first ∷ ms))
    × ((k : Names) → OthersEach n k (first ∷ ms))
    × ((k : Note) → ArrivalsEach n k (first ∷ ms)) × ((k : ℕ) → OrderEach n k (first ∷ ms))
    × ((k : Known) → WritesEach n k (first ∷ ms)) × AnswersEach n (first ∷ ms)
    × ((k : Heard) → LoadsEach n k (first ∷ ms)) × ((f : Sorts) → SortsEach n f (first ∷ ms))

-- ---- no slot being sent is written, between two moments

-- the slot buffer and the book after calls
abbrev pub slots_after : Buf → List CallRecord → Buf
slots_after b [] = b
slots_after b (m ∷ ms) = slots_after m.slots ms

abbrev pub book_after_all : Machine Answer Pages → List CallRecord → Machine Answer Pages
book_after_all n [] = n
book_after_all n (m ∷ ms) = book_after_all (book_after m n).1 ms

-- calls in which the tail does not pass the packet that is being sent on IN e, and no reset, allocation or start-up
-- empties its page
abbrev pub NotEnded : ℕ → Machine Answer Pages → List CallRecord → Type 0
NotEnded e n [] = Unit {0}
NotEnded e n (m ∷ ms) =
    let p = (book_after m n).1.st.ins e in
    (p.passed ≡ (n.st.ins e).passed) × (EmptiedIn p → ⊥) × NotEnded e (book_after m n).1 ms

-- "from the call that hands out its address until the tail passes it, a reset or a start-up, all of its `size` bytes
-- stay". A list of calls cut in three: those before; the one that hands out the address x of the slot of a packet on IN
-- e; and further ones that do not end its sending. All bytes of the slot are in the buffer as the last call left it,
-- and after what the chip then stores where it may, as the one that handed out x left them
abbrev pub SlotsStay : Type 0
SlotsStay = (c : Config) (b : Buf) → start_row c b ≡ zero
    → (xs : List ℕ) (a : Buf) (n : Machine Answer Pages) (first : CallRecord)
    → first.event ≡ record { call = start c; lent = b }
    → (before : List CallRecord) (hands : CallRecord) (further : List CallRecord)
    → Calls xs a n (first ∷ (before ++ (hands ∷ further)))
    → let n' = (book_after hands (book_after_all n (first ∷ before))).1 in (e x : ℕ) → hands.answer ≡ handed (Transmit e x)
    → (n'.st.ins e).load ≡ true
    → NotEnded e n' further → (b' : Buf) → Chip (book_after_all n' further).st (slots_after hands.slots further) b'
    → Same x (x + slot_size n'.st) hands.slots b'
