-- Laws on the definitions of ControlStages.antt
use Rattle.std.proofs.Common.{inl, inr, sym, ◌∙◌}
use Rattle.std.specs.Prelude.{List, [], ◌∷◌, ◌≡◌, refl, ℕ, zero, Bool, true, false, cond, length, ◌++◌, suc}
use Rattle.state.specs.Driver.{Driver}
use Rattle.script.specs.Tree as tree
use Rattle.script.specs.Script.{run}
use Rattle.script.specs.EveryLaws as ways-laws
use Rattle.script.proofs.AddressCallsLaws.{address-writes}
use Rattle.script.specs.Answers.{Answer, Refused}
use Rattle.script.specs.Calls.{Config, calls, start_row, Op, interrupt, slotted, other, aside, Slotted, SetEnabled}
use Rattle.script.specs.Calls.{PollRead, BeginWrite, PollWrite, PollDataOut, BeginDataIn, Other, Allocate, AllocateAll}
use Rattle.script.specs.Calls.{Start, BusPoll, BusEnable, BusDisable, Microframe, SetStalled, IsStalled, SetPaced}
use Rattle.script.specs.Calls.{Advance, BeginRead, BeginSetup, PollSetup, PollDataIn, BeginAccept, PollAccept}
use Rattle.script.specs.Calls.{BeginReject, BeginDataOut, BeginAcceptSetAddress, code}
use Rattle.script.specs.Machine.{Buf, Event, Machine, start, started}
use Rattle.machine.specs.Suspended.{driver_of}
use Rattle.script_ops.specs.Rings.{St}
use Rattle.script_ops.specs.Concrete.{concrete}
use Rattle.proof_usb20.specs.Log.{Log, before, opens, closes, Armed, EndsByReason, Allowed, Loads, Spares, unlent}
use Rattle.proof_usb20.specs.Observer.{started_by, All}
use Rattle.proof_usb20.specs.ExemptLaws.{differ}
use Rattle.proof_usb20.specs.Watch.{at_end, at_ask, Fitted, AtFirst, SparedAfter}
use Rattle.proof_usb20.specs.WatchLaws.{watch-more, first_any, after_any}
use Rattle.state.specs.Fresh.{fresh_driver}
use Rattle.proof_usb20.specs.Ep0.{Watch, View, view, Between, Ends, R, Law}
use Rattle.proof_usb20.proofs.QuietLaws.{Any}
use Rattle.proof_usb20.proofs.RequestLaws.{Left, kept-base, law-new}
use Rattle.proof_usb20.specs.RunsLaws.{Laws, Ups, from_start}
use Rattle.proof_usb20.specs.BesidesLaws.{aside-wakes}
use Rattle.proof_book.specs.FrontPage.{CallRecord}
use Rattle.proof_book.specs.CodeReadings.{Steps}
use Rattle.proof_book.specs.Computing.{computing}
use Rattle.proof_usb20.specs.CodeRuns.{CodeAll}
use Rattle.proof_usb20.specs.CodeRunsLaws.{code-from-start}
use Rattle.proof_usb20.proofs.StagesLaws.{law-data-out, law-data-in, law-accept, law-accept-address, law-reject}
use Rattle.proof_usb20.proofs.StagesLaws.{law-setup, loads-data-in, spares-data-in}
use Rattle.proof_usb20.proofs.PollsLaws.{law-poll-setup, law-poll-data-out, law-poll-data-in, law-poll-accept}
use Rattle.proof_usb20.proofs.ServingLaws.{law-interrupt}
use Rattle.proof_usb20.proofs.SwitchingLaws.{law-set-enabled}
use Rattle.proof_usb20.proofs.TasksLaws.{law-begin-read, law-poll-read, law-begin-write, law-poll-write}
use Rattle.proof_usb20.proofs.TasksLaws.{law_allocate}
use Rattle.proof_usb20.proofs.TasksLaws.{law_allocate_all, law_start, law-bus-enable, law-bus-disable}
use Rattle.proof_usb20.proofs.TasksLaws.{law-microframe}
use Rattle.proof_usb20.proofs.TasksLaws.{law-is-stalled, law-set-paced, law-advance, law-aside, law-set-stalled}
use Rattle.proof_usb20.proofs.TasksLaws.{law_bus_poll, aside-view}
use Rattle.regs.specs.declared.Access.{Access}
use Rattle.regs.specs.declared.Access.TheVariants.{Read, Write, Receive, Transmit, Ep0Dma, Wait, Callback}
use Rattle.regs.specs.declared.Reg.TheVariants.{IntFg, IntSt, MisSt, RxLen, FrameNo, EpRxCtrl, EpTxCtrl}
use Rattle.script.specs.Every.{same_reg}
use Rattle.script.specs.Answers.{End, NotYet, Done, Shown}
use Rattle.ring.specs.Copies.{over, bytes_at}
use Rattle.script.specs.Machine.{Call, begin, continue, Ans, ended, handed, told, idle}
use Rattle.machine.specs.Suspended.{drive}
use Rattle.proof_usb20.specs.Observer.{Watched, Under, at_rest, doing, starting, serves, noted}
use Rattle.proof_usb20.specs.ControlStages.{control}
use Rattle.proof_book.specs.Sorting.{Sorting}

of-slotted : (o : Slotted) → Law (slotted o)
of-slotted (SetEnabled d e on) = law-set-enabled d e on
of-slotted (PollRead e n) = law-poll-read e n
of-slotted (BeginWrite e bs) = law-begin-write e bs
of-slotted (PollWrite e bs) = law-poll-write e bs
of-slotted (PollDataOut n) = law-poll-data-out n
of-slotted (BeginDataIn bs first last) = law-data-in bs first last

of_other : (o : Other) → Law (other o)
of_other (Allocate d kind address maximum interval) = law_allocate d kind address maximum interval
of_other (AllocateAll bytes) = law_allocate_all bytes
of_other (Start maximum) = law_start maximum
of_other BusPoll = law_bus_poll
of_other BusEnable = law-bus-enable
of_other BusDisable = law-bus-disable
of_other Microframe = law-microframe
of_other (SetStalled d e on) = law-set-stalled d e on
of_other (IsStalled d e) = law-is-stalled d e
of_other (SetPaced e on) = law-set-paced e on
of_other (Advance e) = law-advance e
of_other (BeginRead e n) = law-begin-read e n
of_other BeginSetup = law-setup
of_other PollSetup = law-poll-setup
of_other PollDataIn = law-poll-data-in
of_other BeginAccept = law-accept
of_other PollAccept = law-poll-accept
of_other BeginReject = law-reject
of_other (BeginDataOut n first) = law-data-out n first
of_other (BeginAcceptSetAddress a) = law-accept-address a

law-of : (o : Op) (w : Log) (s : St) → R w (view s.0) → Sorting s.0 → (calls.slots o ≡ true → Fitted s)
    → Watch Between (Allowed o) (Ends o) (opens o s.1 w) (run concrete (code o) s)
law-of interrupt w s r z f = law-interrupt w s r z
law-of (slotted o) w s r z f = of-slotted o w s r z
law-of (other o) w s r z f = of_other o w s r z
law-of (aside o) w s r z f = law-aside o w s r z

stands : (w : Log) (x : View) → R w x → Armed w
stands w x (k, inl e) h = differ (sym h ∙ e)
stands w x (k, inr r) h = (r.out.shows, r.inn.shows, r.size)

-- before the first setup packet: no request, and EP0 is not started
fresh : (c : Config) → R before (view (driver_of.fresh c))
unfolding fresh_driver
fresh c = (
  record { says = refl; started = refl; maximum = λ h. differ h; slot = λ h. differ h; inside = λ h. differ h },
  inl refl,
)

new : (c : Config) (b : Buf) → Ups control (λ s. R before (view s.0)) (run concrete (calls.starts c)
    (driver_of.fresh c, b))
new c b = ups ((law-new c).goes before (driver_of.fresh c, b))
  where
    ups : {w : Log} {o : tree.Out St Answer}
        → Watch Between Any (λ x _ t. Left before (driver_of.fresh c, b) x t) w o
        → Ups control (λ s. R before (view s.0)) o
    ups (at_end l) = at_end (kept-base (fresh c).0 refl refl refl l.1, inl refl)
    ups (at_ask _ k) = at_ask tt (λ v t _ h. ups (k v t tt h))

-- row 1
refused-1 : (o : Op) → calls.slots o ≡ true → (b : Buf) (w : Log) (x : View) → R w x
    → R (closes o (Refused 1) (opens o b w)) x
refused-1 interrupt h b w x r = r
refused-1 (slotted o) h b w x r = r
refused-1 (other o) h b w x r = r
refused-1 (aside o) h b w x r = r

fair_1 : (o : Op) → calls.slots o ≡ true → (w : Log) → EndsByReason o (Refused 1) w
fair_1 interrupt h w = tt
fair_1 (slotted (SetEnabled d e on)) h w = tt
fair_1 (slotted (PollRead e n)) h w = tt
fair_1 (slotted (BeginWrite e bs)) h w = tt
fair_1 (slotted (PollWrite e bs)) h w = tt
fair_1 (slotted (PollDataOut n)) h w = (unlent refl, tt, tt)
fair_1 (slotted (BeginDataIn bs first last)) h w = unlent refl
fair_1 (other o) h w = differ h
fair_1 (aside o) h w = tt

-- the slot buffer
loads : (o : Op) (w : Log) (s : St) → R w (view s.0) → (calls.slots o ≡ true → Fitted s)
    → AtFirst (Loads o (opens o s.1 w)) (run concrete (code o) s)
loads interrupt w s r f = first_any (λ _. tt) (run concrete (code interrupt) s)
loads (slotted (SetEnabled d e on)) w s r f = first_any (λ _. tt) (run concrete (code (slotted (SetEnabled d e on))) s)
loads (slotted (PollRead e n)) w s r f = first_any (λ _. tt) (run concrete (code (slotted (PollRead e n))) s)
loads (slotted (BeginWrite e bs)) w s r f = first_any (λ _. tt) (run concrete (code (slotted (BeginWrite e bs))) s)
loads (slotted (PollWrite e bs)) w s r f = first_any (λ _. tt) (run concrete (code (slotted (PollWrite e bs))) s)
loads (slotted (PollDataOut n)) w s r f = first_any (λ _. tt) (run concrete (code (slotted (PollDataOut n))) s)
loads (slotted (BeginDataIn bs first last)) w s r f = loads-data-in w s bs r.0 (f refl) first last
loads (other o) w s r f = first_any (λ _. tt) (run concrete (code (other o)) s)
loads (aside o) w s r f = first_any (λ _. tt) (run concrete (code (aside o)) s)

spares : (o : Op) (s : St) → SparedAfter (Spares o) (run concrete (code o) s)
spares interrupt s = after_any (λ _ _. tt) (run concrete (code interrupt) s)
spares (slotted (SetEnabled d e on)) s = after_any (λ _ _. tt) (run concrete (code (slotted (SetEnabled d e on))) s)
spares (slotted (PollRead e n)) s = after_any (λ _ _. tt) (run concrete (code (slotted (PollRead e n))) s)
spares (slotted (BeginWrite e bs)) s = after_any (λ _ _. tt) (run concrete (code (slotted (BeginWrite e bs))) s)
spares (slotted (PollWrite e bs)) s = after_any (λ _ _. tt) (run concrete (code (slotted (PollWrite e bs))) s)
spares (slotted (PollDataOut n)) s = after_any (λ _ _. tt) (run concrete (code (slotted (PollDataOut n))) s)
spares (slotted (BeginDataIn bs first last)) s = spares-data-in bs first last s
spares (other o) s = after_any (λ _ _. tt) (run concrete (code (other o)) s)
spares (aside o) s = after_any (λ _ _. tt) (run concrete (code (aside o)) s)

pub laws : Laws control R
laws = record {
  stands = stands;
  call = λ o w s r z f. watch-more (law-of o w s r z f) (λ x a t p. (p.0, λ _. p.1));
  asks = λ o s. ways-laws.only-run concrete (code o) (address-writes o) tt s;
  besides = λ o d b a t z h. (aside-view o d b a t z h, aside-wakes o d b a t h);
  new = new;
  unlent = refused-1;
  fair_1 = fair_1;
  loads = loads;
  spares = spares;
}

-- after each call: EP0's control words as last written say what USB 2.0's pipe says, a packet IN that is ready has its
-- length, a poll is done exactly after the completion, "not yet" exactly before it, a call is refused for its reason
-- alone, and the address is written after the status stage alone; except where the log is exempt (Log.antt). Whatever
-- the chip answers
pub control-stages : (c : Config) (b : Buf) → start_row c b ≡ zero
    → (es : List (Event Config Op)) (m : Machine Answer Driver)
    → let y = started calls driver_of (λ s. s) c zero m b in
    All control es y.1 (started_by control y.0)
control-stages c b row es m = from_start control laws c b row es m

-- of the Rattle code: any bytes, a start-up that rows 1 and 2 do not stop, and then any calls, each as its contract
-- says
pub code-control-stages : (c : Config) (b : Buf) → start_row c b ≡ zero → (xs : List ℕ) (a : Buf) (first : CallRecord)
    → first.event ≡ record { call = start c; lent = b } → (ms : List CallRecord)
    → Steps xs a (first ∷ ms) → CodeAll control ms (started_by control first.answer)
code-control-stages c b row xs a first e ms h = code-from-start control laws c b row xs a first e ms h

-- ---- nothing of an ordinary transfer is exempt: calls with readings, computed by the check

-- an operation; what is read if it is an interrupt: the flags, whether the bus is free, the status, the length; what
-- the chip has stored in EP0's slot before it
pub record Does : Type 0 where
  pub op : Op
  pub flags : ℕ
  pub free : ℕ
  pub status : ℕ
  pub length : ℕ
  pub stored : List ℕ

abbrev does : Op → Does
does o = record { op = o; flags = 0; free = 1; status = 0; length = 0; stored = [] }

abbrev serving : ℕ → ℕ → ℕ → Does
serving f b s = record { op = interrupt; flags = f; free = b; status = s; length = 0; stored = [] }

-- a packet OUT of these bytes
abbrev taking : List ℕ → Does
taking bytes = record { op = interrupt; flags = 2; free = 1; status = 64; length = length bytes; stored = bytes }

-- EP0's control words read back as they were written, the frame is 8
abbrev reading : Does → Log → Access → ℕ
reading x w (Read r e) = cond (same_reg r EpRxCtrl) w.rx.last
    (cond (same_reg r EpTxCtrl) w.tx.last
    (cond (same_reg r IntFg) x.flags (cond (same_reg r MisSt) x.free (cond (same_reg r IntSt) x.status
    (cond (same_reg r RxLen) x.length (cond (same_reg r FrameNo) 8 0))))))
reading x w (Write r e v) = 0
reading x w (Receive e y) = 0
reading x w (Transmit e y) = 0
reading x w (Ep0Dma y) = 0
reading x w (Wait n) = 0
reading x w Callback = 0

pub record Play : Type 0 where
  pub machine : Machine Answer Driver
  pub seen : Watched control
  pub answer : Ans Answer

abbrev called : Call Config Op → Play → Play
called c p =
    let y = drive c p.machine p.machine.buf in
    record {
      machine = y.1;
      seen = noted control c p.machine.buf y.1.buf y.0 (serves y.1.under_way_lem) p.seen;
      answer = y.0;
    }

-- so many continues at most
abbrev on : ℕ → Does → Under → Play → Play
on zero x u p = p
on (suc n) x at_rest p = p
on (suc n) x (doing o q l) p = let r = called (continue (reading x p.seen.log q)) p in on n x r.seen.under r
on (suc n) x starting p = let r = called (continue 0) p in on n x r.seen.under r

abbrev stores : List ℕ → Play → Play
stores bytes p = record {
  machine = record { under_way_lem = p.machine.under_way_lem; st = p.machine.st; buf = over bytes p.machine.buf };
  seen = p.seen;
  answer = p.answer;
}

abbrev done : Does → Play → Play
done x p = let r = called (begin x.op) (stores x.stored p) in on 16 x r.seen.under r

-- whether the log is exempt after each of the operations, and the last answer
abbrev pub exempts : List Does → Play → List Bool
exempts [] p = []
exempts (x ∷ xs) p = let r = done x p in r.seen.log.exempt ∷ exempts xs r

abbrev pub last : List Does → Play → Ans Answer
last [] p = p.answer
last (x ∷ xs) p = last xs (done x p)

-- the bytes that each poll gives which is done; EP0's slot at the end, as many bytes as its length says
abbrev bytes_in : Ans Answer → List (List ℕ)
bytes_in (ended (Refused n)) = []
bytes_in (ended (End n ws)) = []
bytes_in (ended NotYet) = []
bytes_in (ended (Done bytes)) = bytes ∷ []
bytes_in (ended (Shown bytes stamp)) = []
bytes_in (handed q) = []
bytes_in (told n) = []

abbrev pub given : List Does → Play → List (List ℕ)
given [] p = []
given (x ∷ xs) p = let r = done x p in bytes_in r.answer ++ given xs r

abbrev pub in_slot : List Does → Play → List ℕ
in_slot [] p = bytes_at p.machine.buf p.seen.log.slot p.seen.log.len
in_slot (x ∷ xs) p = in_slot xs (done x p)

abbrev zeros : ℕ → List ℕ
zeros zero = []
zeros (suc n) = 0 ∷ zeros n

abbrev config : Config
config = record { size = 64; count = 1; callback = false }

-- start-up, and EP0's start; eight bytes in EP0's slot
abbrev pub up : Play
up =
    let y = drive (start config) (record { under_way_lem = idle; st = driver_of.fresh config; buf = [] })
    (1 ∷ 2 ∷ 3 ∷ 4 ∷ 5 ∷ 6 ∷ 7 ∷ 8 ∷ zeros 56) in
    let p : Play = record { machine = y.1; seen = started_by control y.0; answer = y.0 } in
    done (does (other (Start 64))) (on 16 (does (other (Start 64))) p.seen.under p)

-- a setup packet, and its poll
abbrev setting : List Does → List Does
setting xs = serving 32 1 0 ∷ does (other BeginSetup) ∷ does (other PollSetup) ∷ xs

pub data Transfer : Type 0 where
  setup-alone control-read slow-read control-write hidden-write set-address : Transfer

-- the status is of IN 0, or of OUT 0 with tog_ok; of the hidden packet OUT no interrupt tells, but
-- the status stage's token IN while the bus is busy
abbrev pub steps : Transfer → List Does
steps setup-alone = setting []
steps control-read = setting
    (does (slotted (BeginDataIn (11 ∷ 12 ∷ []) true true)) ∷ serving 2 1 32 ∷ does
    (other PollDataIn) ∷ serving 2 1 64 ∷ does (other PollDataIn) ∷ [])
-- while the function takes its time, interrupts of other endpoints show the host's IN 0, answered with NAK
steps slow-read = serving 32 1 0 ∷ does (other BeginSetup) ∷ serving 2 1 32 ∷ does
    (other PollSetup) ∷ serving 2 1 32 ∷ does
    (slotted (BeginDataIn (11 ∷ 12 ∷ []) true true)) ∷ serving 2 1 32 ∷ does
    (other PollDataIn) ∷ serving 2 1 64 ∷ does (other PollDataIn) ∷ []
steps control-write = setting
    (does (other (BeginDataOut 64 true)) ∷ taking (7 ∷ 8 ∷ 9 ∷ []) ∷ does
    (slotted (PollDataOut 64)) ∷ does (other BeginAccept) ∷ serving 2 1 32 ∷ does (other PollAccept) ∷ [])
steps hidden-write = setting
    (does (other (BeginDataOut 64 true)) ∷ serving 2 0 32 ∷ does
    (slotted (PollDataOut 64)) ∷ does (other BeginAccept) ∷ serving 2 1 32 ∷ does (other PollAccept) ∷ [])
steps set-address = setting (does (other (BeginAcceptSetAddress 5)) ∷ serving 2 1 32 ∷ does (other PollAccept) ∷ [])

abbrev pub none_of : List Does → List Bool
none_of [] = []
none_of (x ∷ xs) = false ∷ none_of xs

abbrev pub answer_of : Transfer → Ans Answer
answer_of setup-alone = ended (Done (1 ∷ 2 ∷ 3 ∷ 4 ∷ 5 ∷ 6 ∷ 7 ∷ 8 ∷ []))
answer_of control-read = ended (Done [])
answer_of slow-read = ended (Done [])
answer_of control-write = ended (Done [])
answer_of hidden-write = ended (Done [])
answer_of set-address = ended (End 0 [])

abbrev eight : List ℕ
eight = 1 ∷ 2 ∷ 3 ∷ 4 ∷ 5 ∷ 6 ∷ 7 ∷ 8 ∷ []

-- of the hidden packet the length is its begin's, and the bytes are those that stand in the slot
abbrev pub given_by : Transfer → List (List ℕ)
given_by setup-alone = eight ∷ []
given_by control-read = eight ∷ [] ∷ []
given_by slow-read = eight ∷ [] ∷ []
given_by control-write = eight ∷ (7 ∷ 8 ∷ 9 ∷ []) ∷ [] ∷ []
given_by hidden-write = eight ∷ (eight ++ zeros 56) ∷ [] ∷ []
given_by set-address = eight ∷ []

abbrev pub sent_by : Transfer → List ℕ
sent_by setup-alone = []
sent_by control-read = 11 ∷ 12 ∷ []
sent_by slow-read = 11 ∷ 12 ∷ []
sent_by control-write = []
sent_by hidden-write = []
sent_by set-address = []

-- never exempt, and its last poll is done; a setup's poll gives the bytes of EP0's slot, a data_out's those of the
-- packet, and those of a data_in lie in the slot to the transfer's end
pub ordinary-run : (t : Transfer) → (exempts (steps t) up ≡ none_of (steps t)) × (last (steps t) up ≡ answer_of t)
    × (given (steps t) up ≡ given_by t) × (in_slot (steps t) up ≡ sent_by t)
unfolding computing
ordinary-run setup-alone = (refl, refl, refl, refl)
ordinary-run control-read = (refl, refl, refl, refl)
ordinary-run slow-read = (refl, refl, refl, refl)
ordinary-run control-write = (refl, refl, refl, refl)
ordinary-run hidden-write = (refl, refl, refl, refl)
ordinary-run set-address = (refl, refl, refl, refl)
