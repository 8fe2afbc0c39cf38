-- Runs in which things happen, computed by the check: arrivals and a reset; packets queued, one being sent, an arrival
-- late by the marks; 15 waiting, one turned away, the first opened and read. Each meets the premise of demand 3
-- (`meets`), and so what FrontPage.antt says holds after each of its calls (`holds`)
use Rattle.std.specs.Prelude.{Bool, true, false, List, [], ◌∷◌, ◌≡◌, refl, ℕ, zero, suc, length}
use Rattle.regs.specs.declared.Dir.TheVariants.{Out, In}
use Rattle.state.specs.Driver.{Driver}
use Rattle.script.specs.Statics.{flag}
use Rattle.script.specs.Answers.{Answer}
use Rattle.script.specs.Calls.{Config, Op, interrupt, slotted, other, aside, SetEnabled, Allocate, Start, Open, Close}
use Rattle.script.specs.Calls.{Queue, start_row}
use Rattle.script.specs.Machine.{Buf, Call, start, begin, continue, question, overruns, Event, idle, Machine}
use Rattle.machine.specs.Suspended.{driver_of, drive}
use Rattle.proof_book.specs.Pages.{Pages}
use Rattle.proof_book.specs.Book.{fresh_pages}
use Rattle.proof_book.specs.FrontPage.{book_step}
use Rattle.proof_book.specs.MachineRuns.{Premise, AfterEvents}
use Rattle.proof_book.proofs.FrontPageLaws.{machine-demand-3}
use Rattle.proof_book.specs.Inputs.{Input, event_of, events_of, lawful}
use Rattle.proof_book.specs.Computing.{computing}

-- ---- what is done

abbrev pub does : Call Config Op → Input
does c = record { stored = []; call = c; tell = false }

abbrev brings : ℕ → Input
brings v = does (continue v)

abbrev stores : List ℕ → Call Config Op → Input
stores bytes c = record { stored = bytes; call = c; tell = false }

-- a question, after which the book is told
abbrev pub asks : Input
asks = record { stored = []; call = question (overruns 1); tell = true }

-- n continues that bring 0; those after the operation's end are refused by row 15
abbrev pub continues : ℕ → List Input → List Input
continues zero is = is
continues (suc n) is = brings 0 ∷ continues n is

-- size 64, which EP0 needs; 16 slots for OUT 1, 2 for IN 2, one for EP0
abbrev pub config : Config
config = record { size = 64; count = 19; callback = false }

-- start-up; OUT 1 and IN 2 (address 0x82), isochronous, of at most 8 bytes; EP0
abbrev pub allocated : List Input → List Input
allocated is =
    continues 8 (does (begin (other (Allocate Out 1 1 8 1))) ∷
    continues 3 (does (begin (other (Allocate In 1 130 8 4))) ∷
    continues 3 (does (begin (other (Start 64))) ∷ continues 6 is)))

-- both enabled
abbrev setting : List Input → List Input
setting is = allocated (does (begin (slotted (SetEnabled Out 1 true))) ∷
    continues 20 (does (begin (slotted (SetEnabled In 2 true))) ∷ continues 7 is))

-- an interrupt with a packet in OUT 1's slot: frame 8; a transfer; the SIE free; status OUT 1, tog_ok; its length;
-- frame 8
abbrev arrival : List Input → List Input
arrival is = stores (1 ∷ 2 ∷ 3 ∷ 4 ∷ []) (begin interrupt) ∷ brings 8 ∷ brings 2 ∷ brings 1 ∷ brings 65 ∷ brings 4
    ∷ brings 0 ∷ brings 8 ∷ brings 0 ∷ is

abbrev pub arrivals : ℕ → List Input → List Input
arrivals zero is = is
arrivals (suc n) is = arrival (arrivals n is)

-- one for IN 2, which loads its next packet, while a packet of 5 bytes is in OUT 1's slot: its length is by the marks
abbrev pub late_arrival : List Input → List Input
late_arrival is =
    stores (1 ∷ 2 ∷ 3 ∷ 4 ∷ 5 ∷ []) (begin interrupt) ∷ brings 8 ∷ brings 2 ∷ brings 1 ∷ brings 34 ∷ brings 0 ∷ brings 0
    ∷ brings 8 ∷
    brings 0 ∷ brings 0 ∷ brings 34 ∷ brings 0 ∷ is

-- two arrivals, and OUT 1 enabled once more, which is a reset
abbrev pub arrivals_reset : List Input
arrivals_reset = setting (arrivals 2 (asks ∷ does (begin (slotted (SetEnabled Out 1 true))) ∷ continues 20 (asks ∷ [])))

-- 15 arrivals, one more, the first opened and closed
abbrev pub arrivals_read : List Input
arrivals_read = setting (arrivals 15 (asks ∷ arrivals 1 (asks ∷ does (begin (aside (Open 1))) ∷ asks
    ∷ does (begin (aside (Close 1))) ∷ asks ∷ [])))

-- three packets queued, of which row 13 refuses the last; a load, and a late arrival
abbrev pub queued_late : List Input
queued_late = setting (
    does (begin (aside (Queue 2 (7 ∷ 7 ∷ [])))) ∷ does (begin (aside (Queue 2 (8 ∷ [])))) ∷
    does (begin (aside (Queue 2 (9 ∷ [])))) ∷ asks ∷ late_arrival (asks ∷ []))

-- ---- what the book is told after the questions

-- of OUT 1: waiting, admitted, read, turned away, open; of IN 2: waiting, handed to the chip, being sent
abbrev pub told : Pages → List ℕ
told t =
    let p = t.outs 1 in
    let q = t.ins 2 in
    length p.waiting ∷ length p.admitted ∷ length p.read ∷ p.lost ∷ flag p.opened ∷ length q.waiting
    ∷ length q.sent ∷ flag q.sending ∷ []

abbrev pub noting : Bool → List ℕ → List (List ℕ) → List (List ℕ)
noting true x xs = x ∷ xs
noting false x xs = xs

abbrev pub tellings : List Input → Machine Answer Driver → Machine Answer Pages → List (List ℕ)
tellings [] m n = []
tellings (i ∷ is) m n =
    let e = event_of i m n in
    let x = drive e.call m e.lent in
    let y = book_step x.0 e.call n e.lent in
    noting i.tell (told y.1.st) (tellings is x.1 y.1)

-- ---- before it

abbrev zeros : ℕ → List ℕ
zeros zero = []
zeros (suc n) = 0 ∷ zeros n

abbrev pub buffer : Buf
buffer = zeros 1216

abbrev pub driver : Machine Answer Driver
driver = record { under_way_lem = idle; st = driver_of.fresh config; buf = [] }

abbrev pub pages : Machine Answer Pages
pages = record { under_way_lem = idle; st = fresh_pages config; buf = [] }

abbrev pub first : Event Config Op
first = record { call = start config; lent = buffer }

abbrev pub started_driver : Machine Answer Driver
started_driver = (drive (start config) driver buffer).1

abbrev pub started_pages : Machine Answer Pages
started_pages = (book_step (drive (start config) driver buffer).0 (start config) pages buffer).1

pub accepted : start_row config buffer ≡ zero
unfolding computing
accepted = refl

-- whatever is done then
pub meets : (is : List Input) → Premise (first ∷ events_of is started_driver started_pages) driver pages
meets is = (tt, lawful is started_driver started_pages)

pub holds : (is : List Input) → AfterEvents (first ∷ events_of is started_driver started_pages) driver pages
holds is = machine-demand-3 config buffer accepted (events_of is started_driver started_pages) driver pages (meets is)

-- ---- what happens

pub data Run : Type 0 where
  reset late overrun : Run

abbrev pub inputs_of : Run → List Input
inputs_of reset = arrivals_reset
inputs_of late = queued_late
inputs_of overrun = arrivals_read

abbrev pub tellings_of : Run → List (List ℕ)
-- two arrivals; none wait
tellings_of reset = (2 ∷ 2 ∷ 0 ∷ 0 ∷ 0 ∷ 0 ∷ 0 ∷ 0 ∷ []) ∷ (0 ∷ 0 ∷ 0 ∷ 0 ∷ 0 ∷ 0 ∷ 0 ∷ 0 ∷ []) ∷ []
-- two wait on IN 2; one of them is being sent, and a late packet waits on OUT 1
tellings_of late = (0 ∷ 0 ∷ 0 ∷ 0 ∷ 0 ∷ 2 ∷ 0 ∷ 0 ∷ []) ∷ (1 ∷ 1 ∷ 0 ∷ 0 ∷ 0 ∷ 2 ∷ 1 ∷ 1 ∷ []) ∷ []
-- 15 wait; one is turned away; the first is open; it is read
tellings_of overrun =
    (15 ∷ 15 ∷ 0 ∷ 0 ∷ 0 ∷ 0 ∷ 0 ∷ 0 ∷ []) ∷ (15 ∷ 15 ∷ 0 ∷ 1 ∷ 0 ∷ 0 ∷ 0 ∷ 0 ∷ [])
    ∷ (15 ∷ 15 ∷ 0 ∷ 1 ∷ 1 ∷ 0 ∷ 0 ∷ 0 ∷ [])
    ∷ (14 ∷ 15 ∷ 1 ∷ 1 ∷ 0 ∷ 0 ∷ 0 ∷ 0 ∷ []) ∷ []

pub happens : (r : Run) → tellings (inputs_of r) started_driver started_pages ≡ tellings_of r
unfolding computing
happens reset = refl
happens late = refl
happens overrun = refl
