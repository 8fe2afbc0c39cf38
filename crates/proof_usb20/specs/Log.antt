-- The pipe by what can be seen of the driver from outside: the calls and their answers, the accesses and the numbers
-- brought for them, the slot buffer. The function's choices are calls, the bus's events are what an interrupt's
-- readings show of endpoint 0. It knows nothing of the driver's state.
use Rattle.std.specs.Prelude.{Bool, true, false, not, cond, ◌&&◌, ◌||◌, List, [], ◌∷◌, ◌⊎◌, ◌≡◌, ℕ, ◌%◌, ◌<◌, eqb, ltb, length}
use Rattle.regs.specs.declared.Access.{Access}
use Rattle.regs.specs.declared.Access.TheVariants.{Read, Write, Receive, Transmit, Ep0Dma, Wait, Callback}
use Rattle.regs.specs.declared.Reg.{Reg}
use Rattle.regs.specs.declared.Reg.TheVariants.{DevAd, IntFg, IntSt, MisSt, RxLen, FrameNo, EpTLen, EpRxCtrl, EpTxCtrl}
use Rattle.regs.specs.declared.Dir.TheVariants.{Out, In}
use Rattle.regs.specs.declared.Token as tokens
use Rattle.regs.specs.declared.Token.TheVariants as tok
use Rattle.regs.specs.ControlWord as word
use Rattle.regs.specs.ControlWord.{response, toggle}
use Rattle.regs.specs.Flags.{transfer, setup_act, SETUP_ACT}
use Rattle.regs.specs.Status as status
use Rattle.regs.specs.Status.{endpoint, tog_ok}
use Rattle.regs.specs.MisStatus.{sie_free}
use Rattle.ring.specs.Copies.{bytes_at}
use Rattle.script.specs.Machine.{Buf}
use Rattle.script.specs.Answers.{Answer, Refused, End, NotYet, Done, Shown}
use Rattle.script.specs.Calls.{Op, interrupt, slotted, other, aside, Slotted, SetEnabled, PollRead, BeginWrite}
use Rattle.script.specs.Calls.{PollWrite, PollDataOut, BeginDataIn, Other, Allocate, AllocateAll, Start, BusPoll}
use Rattle.script.specs.Calls.{BusEnable, BusDisable, Microframe, SetStalled, IsStalled, SetPaced, Advance, BeginRead}
use Rattle.script.specs.Calls.{BeginSetup, PollSetup, PollDataIn, BeginAccept, PollAccept, BeginReject, BeginDataOut}
use Rattle.script.specs.Calls.{BeginAcceptSetAddress}
use Rattle.script.specs.Kinds as kinds
use Rattle.script.specs.Every.{same_reg}
use Rattle.script.specs.AddressWrites.{Writes}
use Rattle.script.specs.TogglesLaws.{number}
use Rattle.proof_usb20.specs.Pipe.{Answers, naks, stalls, acks, Half, renewed, is_ready, is_stall, Pipe, half}
use Rattle.proof_usb20.specs.Pipe.{Event}
use Rattle.proof_usb20.specs.Pipe.{setup, packet, token, after, Choice, takes, gives, confirms, rejects}
use Rattle.proof_usb20.specs.Pipe.{chosen, orderly, Awaited, nothing, awaited_by, over, taken, given, confirmed}
use Rattle.proof_usb20.specs.Pipe.{Setting, keeps, sets}

-- ---- the log

-- how far an interrupt's readings are: none of them concerns endpoint 0, its flags are to come, they are read, the
-- bus's state (`true`: busy), the status that it shows and the length, the flag found taken by the release so that the
-- status is read again
pub data Phase : Type 0 where
  off entered flagged : Phase
  timed : Bool → Phase
  shows : Bool → ℕ → ℕ → Phase
  again : ℕ → Phase

-- a control word of EP0: as it was last written; and, since the last setup packet or the last packet that was the first
-- of its stage: `read_back`, it was read as it was last written; `in_step`, no packet was shown that was not ready
pub record Ep0Word : Type 0 where
  pub last : ℕ
  pub read_back : Bool
  pub in_step : Bool

-- the begin that no poll has ended yet, with a data_out's length
pub data Request : Type 0 where
  empty_request for-setup for-data-in for-status : Request
  for_data_out : ℕ → Request

-- the setup packet that no poll has given to the function yet, by its eight bytes
pub data SetupPacket : Type 0 where
  no_packet : SetupPacket
  waits : List ℕ → SetupPacket

abbrev pub is_waiting : SetupPacket → Bool
is_waiting no_packet = false
is_waiting (waits bytes) = true

-- EP0's control words and its transmit length as they were last written; `got`: the length of the last packet OUT;
-- `slot`: the address of EP0's slot, as it was last handed out; `lent`: the slot buffer as it was lent to the last
-- begin;
-- `untaken`: the setup packet that no poll has given to the function yet; `exempt`: something has happened since the
-- last setup packet of which USB 2.0 says nothing, or otherwise than the Rust (below)
pub record Log : Type 0 where
  pub rx : Ep0Word
  pub tx : Ep0Word
  pub len : ℕ
  pub got : ℕ
  pub slot : ℕ
  pub lent : Buf
  pub pipe : Pipe
  pub awaits : Awaited
  pub untaken : SetupPacket
  pub exempt : Bool
  pub started : Bool  -- EP0's start has ended
  pub request : Request
  pub phase : Phase
  pub setup_seen : Bool
  pub wrote : Setting  -- the address that the call under way wrote to dev_ad, or none
  pub eight : List ℕ  -- EP0's slot in the call that cleared the setup flag, of the interrupt under way

-- by its parts, in their order
abbrev log_of : Ep0Word → Ep0Word → ℕ → ℕ → ℕ → Buf → Pipe → Awaited → SetupPacket → Bool → Bool → Request → Phase
    → Bool → Setting → List ℕ → Log
log_of rx tx n got slot lent p a untaken exempt started request phase seen setting eight = record {
  rx = rx;
  tx = tx;
  len = n;
  got = got;
  slot = slot;
  lent = lent;
  pipe = p;
  awaits = a;
  untaken = untaken;
  exempt = exempt;
  started = started;
  request = request;
  phase = phase;
  setup_seen = seen;
  wrote = setting;
  eight = eight;
}

abbrev unwritten : Ep0Word
unwritten = record { last = 0; read_back = false; in_step = false }

abbrev pub before : Log
before = log_of unwritten unwritten 0 0 0 [] (record { out = renewed; inn = renewed; size = 0 }) nothing no_packet true
    false empty_request off false keeps []

-- EP0's words, and its lengths
abbrev pub with_words : Ep0Word → Ep0Word → ℕ → ℕ → Log → Log
with_words rx tx n got w = log_of rx tx n got w.slot w.lent w.pipe w.awaits w.untaken w.exempt
    w.started w.request
    w.phase w.setup_seen w.wrote w.eight

-- the pipe, what is waited for, the setup packet that is untaken, and whether the log is exempt
abbrev pub with_pipe : Pipe → Awaited → SetupPacket → Bool → Log → Log
with_pipe p a untaken exempt w = log_of w.rx w.tx w.len w.got w.slot w.lent p a untaken exempt
    w.started w.request
    w.phase w.setup_seen w.wrote w.eight

-- the calls: whether EP0 is started, and the request
abbrev pub with_calls : Bool → Request → Log → Log
with_calls started q w = log_of w.rx w.tx w.len w.got w.slot w.lent w.pipe w.awaits w.untaken
    w.exempt started q
    w.phase w.setup_seen w.wrote w.eight

-- what was seen of the call under way
abbrev pub with_sight : Phase → Bool → Setting → List ℕ → Log → Log
with_sight p s a l w = log_of w.rx w.tx w.len w.got w.slot w.lent w.pipe w.awaits w.untaken
    w.exempt w.started
    w.request p s a l

-- EP0's slot, and the buffer
abbrev pub with_slots : ℕ → Buf → Log → Log
with_slots slot lent w = log_of w.rx w.tx w.len w.got slot lent w.pipe w.awaits w.untaken w.exempt
    w.started w.request w.phase w.setup_seen w.wrote w.eight

abbrev pub with_rx : Ep0Word → Log → Log
with_rx v w = with_words v w.tx w.len w.got w

abbrev pub with_tx : Ep0Word → Log → Log
with_tx v w = with_words w.rx v w.len w.got w

abbrev pub with_len : ℕ → Log → Log
with_len n w = with_words w.rx w.tx n w.got w

abbrev pub with_got : ℕ → Log → Log
with_got n w = with_words w.rx w.tx w.len n w

abbrev pub with_request : Request → Log → Log
with_request q w = with_calls w.started q w

abbrev pub with_phase : Phase → Log → Log
with_phase p w = with_sight p w.setup_seen w.wrote w.eight w

abbrev pub with_flags : ℕ → Log → Log
with_flags v w = with_sight (cond (transfer v) flagged off) (setup_act v) w.wrote w.eight w

abbrev pub with_wrote : Setting → Log → Log
with_wrote a w = with_sight w.phase w.setup_seen a w.eight w

abbrev pub with_eight : List ℕ → Log → Log
with_eight l w = with_sight w.phase w.setup_seen w.wrote l w

abbrev pub with_awaits : Awaited → Log → Log
with_awaits a w = with_pipe w.pipe a w.untaken w.exempt w

abbrev pub with_taken : Log → Log
with_taken w = with_pipe w.pipe w.awaits no_packet w.exempt w

-- ---- control words

abbrev pub written_as : ℕ → Ep0Word → Ep0Word
written_as v c = record { last = v; read_back = c.read_back; in_step = c.in_step }

-- the chip may show it otherwise than it was written
abbrev pub word_read_as : ℕ → Ep0Word → Ep0Word
word_read_as v c = record { last = c.last; read_back = c.read_back && eqb v c.last; in_step = c.in_step }

-- a packet was shown, which was ready or not
abbrev pub shown_as : Bool → Ep0Word → Ep0Word
shown_as ready c = record { last = c.last; read_back = c.read_back; in_step = c.in_step && ready }

-- `outright`: it was written without regard to what was read
abbrev pub anew : Bool → Ep0Word → Ep0Word
anew outright c = record { last = c.last; read_back = outright || c.read_back; in_step = outright || c.in_step }

-- ---- the bus's events

-- a packet that was not ready: the status shows the host's latest token, also one that was answered with NAK
abbrev pub shown_by : Event → Log → Log
shown_by setup w = w
shown_by (packet Out) w = with_rx (shown_as (is_ready w.pipe.out.answers) w.rx) w
shown_by (packet In) w = with_tx (shown_as (is_ready w.pipe.inn.answers) w.tx) w
shown_by (token d) w = w

abbrev pub is_stage : Request → Bool
is_stage empty_request = false
is_stage for-setup = false
is_stage for-data-in = true
is_stage for-status = true
is_stage (for_data_out m) = true

abbrev pub is_nothing : Awaited → Bool
is_nothing nothing = true
is_nothing taken = false
is_nothing (given last) = false
is_nothing (confirmed s) = false

-- a stage's request that a setup packet has ended, and no poll yet
abbrev pub stale : Log → Bool
stale w = is_stage w.request && is_nothing w.awaits

-- such a packet takes a STALL back, or answers the poll of a request that a setup packet has ended
-- DIFFERENCES c: exempt; a token completes a stage over a halt, or takes a reject's STALL back
-- DIFFERENCES f: exempt; a packet that was not ready answers the poll of a request that a setup packet has ended. Else
-- its PID alone is unknown (`in_step`)
abbrev pub breaks : Event → Log → Bool
breaks setup w = false
breaks (packet d) w = not (is_ready (half d w.pipe).answers) && (is_stall (half d w.pipe).answers || stale w)
breaks (token d) w = false

abbrev pub happens : Event → Log → Log
happens e w = with_pipe (after e w.pipe) w.awaits w.untaken (w.exempt || breaks e w) (shown_by e w)

-- a setup packet ends what the function waits for, and all exemption; both words are written outright
abbrev pub set_up : Log → Log
set_up w = with_pipe (after setup w.pipe) nothing (waits w.eight) false
    (with_rx (anew true w.rx) (with_tx (anew true w.tx) w))

-- what the status shows of endpoint 0: a transaction that is complete, if the bus was free; the token in any case
-- DIFFERENCES k: claimed; a SOF shows no stage, so the stage that it hides is not over, and the address is not written
-- DIFFERENCES l: claimed; an IN that is shown while a packet is ready counts as sent, as the Rust takes it
-- DIFFERENCES m: claimed; as l, packet by packet
-- DIFFERENCES n: claimed; as k, of an OUT
-- DIFFERENCES p: claimed; an OUT without tog_ok is no packet
abbrev pub of_token : tokens.Token → Bool → Bool → ℕ → Log → Log
of_token tok.Out busy ok n w = happens (token Out) (cond (not busy && ok) (with_got n (happens (packet Out) w)) w)
of_token tok.In busy ok n w = happens (token In) (cond busy w (happens (packet In) w))
of_token tok.Sof busy ok n w = w
of_token tok.Setup busy ok n w = w

abbrev pub seen : Bool → ℕ → ℕ → Log → Log
seen busy st n w = cond (eqb (endpoint st) 0) (of_token (status.token st) busy (tog_ok st) n w) w

abbrev pub reads : Phase → Reg → ℕ → Log → Log
reads off r v w = w
reads entered r v w = cond (same_reg r IntFg) (with_flags v w) w
reads flagged r v w = cond (same_reg r MisSt) (with_phase (timed (not (sie_free v))) w) w
reads (timed b) r v w = cond (same_reg r IntSt) (with_phase (shows b v 0) w) w
reads (shows b st n) r v w = cond (same_reg r RxLen) (with_phase (shows b st v) w)
    (cond (same_reg r IntFg) (cond (transfer v) w (with_phase (again n) w))
    (cond (same_reg r FrameNo) (seen b st n (with_phase off w)) w))
reads (again n) r v w = cond (same_reg r IntSt) (with_phase (shows false v n) w) w

abbrev pub compared : Reg → ℕ → ℕ → Log → Log
compared r e v w = cond (same_reg r EpRxCtrl) (cond (eqb e 0) (with_rx (word_read_as v w.rx) w) w)
    (cond (same_reg r EpTxCtrl) (cond (eqb e 0) (with_tx (word_read_as v w.tx) w) w) w)

-- the call that clears the setup flag: the setup packet is the first eight bytes of EP0's slot then
abbrev pub clears : Buf → ℕ → Log → Log
clears b v w = cond (eqb v SETUP_ACT) (with_eight (bytes_at b w.slot 8) w) w

abbrev pub writes : Buf → Reg → ℕ → ℕ → Log → Log
writes b r e v w = cond (same_reg r EpRxCtrl) (cond (eqb e 0) (with_rx (written_as v w.rx) w) w)
    (cond (same_reg r EpTxCtrl) (cond (eqb e 0) (with_tx (written_as v w.tx) w) w)
    (cond (same_reg r EpTLen) (cond (eqb e 0) (with_len v w) w)
    (cond (same_reg r DevAd) (with_wrote (sets v) w) (cond (same_reg r IntFg) (clears b v w) w))))

-- an access, and the number brought for it: whatever the chip answers. b: the slot buffer as the call left it that
-- handed the access out
abbrev pub saw : Log → Access → ℕ → Buf → Log
saw w (Read r e) v b = reads w.phase r v (compared r e v w)
saw w (Write r e v) x b = writes b r e v w
saw w (Receive e y) x b = w
saw w (Transmit e y) x b = w
saw w (Ep0Dma y) x b = with_slots y w.lent w
saw w (Wait n) x b = w
saw w Callback x b = w

-- ---- the function's choices

-- the words of a stage's first packet, of the closing OUT and of an accept are written outright
abbrev pub outright : Choice → Log → Log
outright (takes first) w = with_rx (anew first w.rx) w
outright (gives n first last) w = with_rx (anew last w.rx) (with_tx (anew first w.tx) w)
outright (confirms s) w = with_tx (anew true w.tx) w
outright rejects w = w

-- DIFFERENCES d: exempt; a stage begun without `first` right after the setup packet is out of order (`orderly`)
-- DIFFERENCES h: exempt; so is a status stage over a data packet that is still ready
abbrev pub choose : Choice → Log → Log
choose c w = with_pipe (chosen c w.pipe) (awaited_by c) w.untaken (w.exempt || not (orderly c w.pipe))
    (outright c w)

abbrev pub exempted : Log → Log
exempted w = with_pipe w.pipe w.awaits w.untaken true w

-- an operation begins: it has written no address
abbrev pub afresh : Buf → Log → Log
afresh b w = with_phase off (with_wrote keeps (with_slots w.slot b w))

abbrev pub opens : Op → Buf → Log → Log
opens interrupt b w = with_sight entered false keeps [] (with_slots w.slot b w)
opens (slotted o) b w = afresh b w
opens (other o) b w = afresh b w
opens (aside o) b w = afresh b w

-- it ends with a result: a begin is the function's choice, and notes a request. A data_out of m bytes has m until its
-- packet is seen, and the closing OUT none
-- DIFFERENCES a: exempt; a halt of EP0 set or cleared by a call
-- DIFFERENCES b: exempt; as a
-- DIFFERENCES e: exempt; a bus reset (result 2). EP0's start exempts too: no setup packet has come
abbrev pub ends_other : Other → ℕ → Log → Log
ends_other (Allocate d kind address maximum interval) n w = w
ends_other (AllocateAll bytes) n w = w
ends_other (Start maximum) n w = exempted (with_calls true w.request w)
ends_other BusPoll n w = cond (eqb n 2) (exempted w) w
ends_other BusEnable n w = w
ends_other BusDisable n w = w
ends_other Microframe n w = w
ends_other (SetStalled d e on) n w = cond (eqb e 0) (exempted w) w
ends_other (IsStalled d e) n w = w
ends_other (SetPaced e on) n w = w
ends_other (Advance e) n w = w
ends_other (BeginRead e m) n w = w
ends_other BeginSetup n w = with_awaits nothing (with_request for-setup w)
ends_other PollSetup n w = w
ends_other PollDataIn n w = w
ends_other BeginAccept n w = choose (confirms keeps) (with_request for-status w)
ends_other PollAccept n w = with_awaits nothing (with_request empty_request w)
ends_other BeginReject n w = choose rejects (with_request empty_request w)
ends_other (BeginDataOut m first) n w = choose (takes first) (with_got m (with_request (for_data_out m) w))
ends_other (BeginAcceptSetAddress a) n w = choose (confirms (sets (a % 128))) (with_request for-status w)

-- the closing OUT is made ready with the last packet
abbrev pub closing_got : Bool → Log → ℕ
closing_got last w = cond last 0 w.got

abbrev pub ends_slotted : Slotted → Log → Log
ends_slotted (SetEnabled d e on) w = w
ends_slotted (PollRead e n) w = w
ends_slotted (BeginWrite e bs) w = w
ends_slotted (PollWrite e bs) w = w
ends_slotted (PollDataOut n) w = w
ends_slotted (BeginDataIn bs first last) w =
    choose (gives (length bs) first last) (with_got (closing_got last w) (with_request for-data-in w))

-- DIFFERENCES j: claimed; of a setup packet and a transfer in one interrupt the transfer is served first
abbrev pub ends : Op → ℕ → Log → Log
ends interrupt n w = cond w.setup_seen (set_up w) w
ends (slotted o) n w = ends_slotted o w
ends (other o) n w = ends_other o n w
ends (aside o) n w = w

-- a poll of EP0
pub data Poll : Type 0 where
  none begins poll_setup pollOut poll_in pollStatus : Poll

abbrev stage_poll : kinds.Poll → Poll
stage_poll (kinds.request d e) = none
stage_poll kinds.setup = poll_setup
stage_poll kinds.data-out = pollOut
stage_poll kinds.data-in = poll_in
stage_poll kinds.status = pollStatus

abbrev part_poll : kinds.Part → Poll
part_poll kinds.apart = none
part_poll kinds.begins = begins
part_poll (kinds.polls p) = stage_poll p
part_poll (kinds.turns d e on) = none

abbrev pub poll_of : Op → Poll
poll_of o = part_poll (kinds.part_of o)

-- its request is over, and so is what it waited for; of a setup's poll the log is u
abbrev pub over_by : Log → Poll → Log → Log
over_by u none w = w
over_by u begins w = w
over_by u poll_setup w = u
over_by u pollOut w = with_awaits nothing (with_request empty_request w)
over_by u poll_in w = with_awaits nothing (with_request empty_request w)
over_by u pollStatus w = with_awaits nothing (with_request empty_request w)

abbrev pub settled : Poll → Log → Log
settled p w = over_by w p w

-- a poll is done: it has taken what it waited for
abbrev pub done : Poll → Log → Log
done p w = over_by (with_taken (with_request empty_request w)) p w

-- a poll's refusals 9 and 10 end its request
abbrev pub closes : Op → Answer → Log → Log
closes o (Refused n) w = cond (eqb n 9 || eqb n 10) (settled (poll_of o) w) w
closes o (End n ws) w = ends o n w
closes o NotYet w = w
closes o (Done bytes) w = done (poll_of o) w
closes o (Shown bytes stamp) w = w

-- ---- what is claimed of EP0's words

-- of what a control word says: the pipe's answer, and its PID. NAK after a packet, and the PID of a packet that is not
-- the first, were made from what was read
abbrev pub Shows : Ep0Word → Half → Answers → Type 0
Shows c h naks = c.read_back ≡ true → response c.last ≡ word.NAK
Shows c h stalls = response c.last ≡ word.STALL
Shows c h (acks s) = (response c.last ≡ word.ACK)
    × (c.read_back && c.in_step ≡ true → toggle c.last ≡ number h.bit)

-- EP0 is armed as the pipe says; a packet IN that is ready has its length
abbrev pub Armed : Log → Type 0
Armed w = w.exempt ≡ false → Shows w.rx w.pipe.out w.pipe.out.answers
    × Shows w.tx w.pipe.inn w.pipe.inn.answers × (is_ready w.pipe.inn.answers ≡ true
    → w.len ≡ w.pipe.size)

-- ---- what is claimed of an answer

-- the poll asks after what is waited for
abbrev pub asks_after : Poll → Awaited → Bool
asks_after none a = false
asks_after begins a = false
asks_after poll_setup a = false
asks_after pollOut nothing = false
asks_after pollOut taken = true
asks_after pollOut (given last) = false
asks_after pollOut (confirmed s) = false
asks_after poll_in nothing = false
asks_after poll_in taken = false
asks_after poll_in (given last) = true
asks_after poll_in (confirmed s) = false
asks_after pollStatus nothing = false
asks_after pollStatus taken = false
asks_after pollStatus (given last) = false
asks_after pollStatus (confirmed s) = true

abbrev pub Complete : Poll → Bool → Log → Type 0
Complete q b w = w.exempt ≡ false → asks_after q w.awaits && over w.awaits w.pipe ≡ b

-- a setup packet came that the function has not taken, or none
abbrev pub Untaken : Bool → Log → Type 0
Untaken b w = w.exempt ≡ false → is_waiting w.untaken ≡ b

-- these are bytes: a lent buffer has no others
abbrev pub Octets : List ℕ → Type 0
Octets [] = Unit {0}
Octets (x ∷ xs) = (x < 256) × Octets xs

-- the bytes of the setup packet that is untaken
abbrev pub IsPacket : List ℕ → SetupPacket → Type 0
IsPacket bytes no_packet = Unit {0}
IsPacket bytes (waits eight) = Octets eight → bytes ≡ eight

-- a request of the poll's sort was begun
abbrev pub begun : Poll → Request → Bool
begun none q = false
begun begins q = false
begun poll_setup empty_request = false
begun poll_setup for-setup = true
begun poll_setup for-data-in = false
begun poll_setup for-status = false
begun poll_setup (for_data_out m) = false
begun pollOut empty_request = false
begun pollOut for-setup = false
begun pollOut for-data-in = false
begun pollOut for-status = false
begun pollOut (for_data_out m) = true
begun poll_in empty_request = false
begun poll_in for-setup = false
begun poll_in for-data-in = true
begun poll_in for-status = false
begun poll_in (for_data_out m) = false
begun pollStatus empty_request = false
begun pollStatus for-setup = false
begun pollStatus for-data-in = false
begun pollStatus for-status = true
begun pollStatus (for_data_out m) = false

-- why a call is refused, by its row: the slot buffer (`lent`: it brings one), EP0 is not started, a setup packet has
-- ended the transfer, a length, no request of its sort. By no other row
pub data Refuses (lent : Bool) (w : Log) (Setup Length Unbegun : Type 0) : ℕ → Type 0 where
  unlent : lent ≡ true → Refuses lent w Setup Length Unbegun 1
  unstarted : w.started ≡ false → Refuses lent w Setup Length Unbegun 4
  ended : Setup → Refuses lent w Setup Length Unbegun 9
  misfits : Length → Refuses lent w Setup Length Unbegun 10
  unbegun : Unbegun → Refuses lent w Setup Length Unbegun 15

-- a begin, or a reject: whether a setup packet, or a length, may refuse it
abbrev pub Begins : Bool → Type 0 → Type 0 → Answer → Log → Type 0
Begins lent Setup Length (Refused n) w = Refuses lent w Setup Length ⊥ n
Begins lent Setup Length (End n ws) w = Unit {0}
Begins lent Setup Length NotYet w = ⊥
Begins lent Setup Length (Done bytes) w = ⊥
Begins lent Setup Length (Shown bytes stamp) w = ⊥

-- above EP0's maximum
abbrev pub Above64 : ℕ → Type 0
Above64 m = ltb 64 m ≡ true

-- of a stage's poll that is not done: not yet, so the stage is not over and no setup packet has ended it; or refused
abbrev pub Unfinished : Poll → Bool → Type 0 → Answer → Log → Type 0
Unfinished q lent Length (Refused n) w = Refuses lent w (Untaken true w) Length (begun q w.request ≡ false) n
Unfinished q lent Length (End n ws) w = Unit {0}
Unfinished q lent Length NotYet w = Complete q false w × Untaken false w
Unfinished q lent Length (Done bytes) w = Unit {0}
Unfinished q lent Length (Shown bytes stamp) w = ⊥

-- of one that is: the stage is over
abbrev pub Completes : Poll → Answer → Log → Type 0
Completes q (Refused n) w = Unit {0}
Completes q (End n ws) w = Complete q true w
Completes q NotYet w = Unit {0}
Completes q (Done bytes) w = Complete q true w
Completes q (Shown bytes stamp) w = Unit {0}

-- another length than its begin's
abbrev pub other_length : ℕ → Request → Bool
other_length n empty_request = false
other_length n for-setup = false
other_length n for-data-in = false
other_length n for-status = false
other_length n (for_data_out m) = not (eqb m n)

-- a data_out's poll: another length than its begin's, or a packet that is longer; a data_in's: data in the closing OUT
abbrev pub TooLong : ℕ → Log → Type 0
TooLong n w = (other_length n w.request ≡ true) ⊎ (Complete pollOut true w × (w.exempt ≡ false
    → ltb n w.got ≡ true))

abbrev pub NotEmpty : Log → Type 0
NotEmpty w = Complete poll_in true w × (w.exempt ≡ false → eqb w.got 0 ≡ false)

-- of an accept's poll that is done: it has written the address of the Set Address that was accepted, or none (9.4.6)
abbrev pub Wrote : Answer → Log → Type 0
Wrote (Refused n) w = Unit {0}
Wrote (End n ws) w = w.exempt ≡ false → w.awaits ≡ confirmed w.wrote
Wrote NotYet w = Unit {0}
Wrote (Done bytes) w = w.exempt ≡ false → w.awaits ≡ confirmed w.wrote
Wrote (Shown bytes stamp) w = Unit {0}

-- a setup's poll gives a packet exactly if there is one, and that has eight bytes (8.5.3): those of EP0's slot in the
-- call that cleared the flag
abbrev pub GivesSetup : Answer → Log → Type 0
GivesSetup (Refused n) w = Refuses false w ⊥ ⊥ (begun poll_setup w.request ≡ false) n
GivesSetup (End n ws) w = ⊥
GivesSetup NotYet w = Untaken false w
GivesSetup (Done bytes) w = Untaken true w × (length bytes ≡ 8) × (w.exempt ≡ false → IsPacket bytes w.untaken)
GivesSetup (Shown bytes stamp) w = ⊥

-- a data_out's poll that is done gives the packet: as many bytes of EP0's slot, as it is lent to that poll
abbrev pub GivesPacket : Answer → Log → Type 0
GivesPacket (Refused n) w = Unit {0}
GivesPacket (End n ws) w = ⊥
GivesPacket NotYet w = Unit {0}
GivesPacket (Done bytes) w = w.exempt ≡ false → bytes ≡ bytes_at w.lent w.slot w.got
GivesPacket (Shown bytes stamp) w = Unit {0}

abbrev pub SlottedEndsByReason : Slotted → Answer → Log → Type 0
SlottedEndsByReason (SetEnabled d e on) a w = Unit {0}
SlottedEndsByReason (PollRead e n) a w = Unit {0}
SlottedEndsByReason (BeginWrite e bs) a w = Unit {0}
SlottedEndsByReason (PollWrite e bs) a w = Unit {0}
SlottedEndsByReason (PollDataOut n) a w = Unfinished pollOut true (TooLong n w) a w × Completes pollOut a w
    × GivesPacket a w
SlottedEndsByReason (BeginDataIn bs first last) a w = Begins true (Untaken true w) (Above64 (length bs)) a w

abbrev pub OtherEndsByReason : Other → Answer → Log → Type 0
OtherEndsByReason (Allocate d kind address maximum interval) a w = Unit {0}
OtherEndsByReason (AllocateAll bytes) a w = Unit {0}
OtherEndsByReason (Start maximum) a w = Unit {0}
OtherEndsByReason BusPoll a w = Unit {0}
OtherEndsByReason BusEnable a w = Unit {0}
OtherEndsByReason BusDisable a w = Unit {0}
OtherEndsByReason Microframe a w = Unit {0}
OtherEndsByReason (SetStalled d e on) a w = Unit {0}
OtherEndsByReason (IsStalled d e) a w = Unit {0}
OtherEndsByReason (SetPaced e on) a w = Unit {0}
OtherEndsByReason (Advance e) a w = Unit {0}
OtherEndsByReason (BeginRead e n) a w = Unit {0}
OtherEndsByReason BeginSetup a w = Begins false ⊥ ⊥ a w
OtherEndsByReason PollSetup a w = GivesSetup a w
OtherEndsByReason PollDataIn a w = Unfinished poll_in false (NotEmpty w) a w × Completes poll_in a w
OtherEndsByReason BeginAccept a w = Begins false (Untaken true w) ⊥ a w
OtherEndsByReason PollAccept a w = Unfinished pollStatus false ⊥ a w × Completes pollStatus a w × Wrote a w
OtherEndsByReason BeginReject a w = Begins false ⊥ ⊥ a w
OtherEndsByReason (BeginDataOut m first) a w = Begins false (Untaken true w) (Above64 m) a w
OtherEndsByReason (BeginAcceptSetAddress b) a w = Begins false (Untaken true w) ⊥ a w

-- an interrupt that ends has read its flags; with the transfer flag, whether the bus is free, the status and the frame
abbrev pub Looked : Answer → Log → Type 0
Looked (Refused n) w = Unit {0}
Looked (End n ws) w = w.phase ≡ off
Looked NotYet w = Unit {0}
Looked (Done bytes) w = Unit {0}
Looked (Shown bytes stamp) w = Unit {0}

abbrev pub EndsByReason : Op → Answer → Log → Type 0
EndsByReason interrupt a w = Looked a w
EndsByReason (slotted o) a w = SlottedEndsByReason o a w
EndsByReason (other o) a w = OtherEndsByReason o a w
EndsByReason (aside o) a w = Unit {0}

-- the address of the Set Address that was accepted
abbrev pub Accepted : Awaited → ℕ → Type 0
Accepted nothing v = ⊥
Accepted taken v = ⊥
Accepted (given last) v = ⊥
Accepted (confirmed keeps) v = ⊥
Accepted (confirmed (sets a)) v = v ≡ a

-- and an accept's hands out no access before the completion, and no write of dev_ad but of the accepted address: the
-- address changes after the status stage (9.4.6)
abbrev pub AllowedTo : Poll → Log → Access → Type 0
AllowedTo none w q = Unit {0}
AllowedTo begins w q = Unit {0}
AllowedTo poll_setup w q = Unit {0}
AllowedTo pollOut w q = Unit {0}
AllowedTo poll_in w q = Unit {0}
AllowedTo pollStatus w q = Complete pollStatus true w × (w.exempt ≡ false → Writes (Accepted w.awaits) q)

abbrev pub Allowed : Op → Log → Access → Type 0
Allowed o w q = AllowedTo (poll_of o) w q

-- ---- what is claimed of the slot buffer

-- the packet of a data_in lies in EP0's slot, as its begin leaves it
abbrev pub LoadsSlotted : Slotted → Log → Buf → Type 0
LoadsSlotted (SetEnabled d e on) w b = Unit {0}
LoadsSlotted (PollRead e n) w b = Unit {0}
LoadsSlotted (BeginWrite e bs) w b = Unit {0}
LoadsSlotted (PollWrite e bs) w b = Unit {0}
LoadsSlotted (PollDataOut n) w b = Unit {0}
LoadsSlotted (BeginDataIn bs first last) w b = bytes_at b w.slot (length bs) ≡ bs

abbrev pub Loads : Op → Log → Buf → Type 0
Loads interrupt w b = Unit {0}
Loads (slotted o) w b = LoadsSlotted o w b
Loads (other o) w b = Unit {0}
Loads (aside o) w b = Unit {0}

-- each later call of it leaves the slot buffer as it is lent it: up to where its length is handed out, and after that
abbrev pub SparesSlotted : Slotted → Buf → Buf → Type 0
SparesSlotted (SetEnabled d e on) b l = Unit {0}
SparesSlotted (PollRead e n) b l = Unit {0}
SparesSlotted (BeginWrite e bs) b l = Unit {0}
SparesSlotted (PollWrite e bs) b l = Unit {0}
SparesSlotted (PollDataOut n) b l = Unit {0}
SparesSlotted (BeginDataIn bs first last) b l = l ≡ b

abbrev pub Spares : Op → Buf → Buf → Type 0
Spares interrupt b l = Unit {0}
Spares (slotted o) b l = SparesSlotted o b l
Spares (other o) b l = Unit {0}
Spares (aside o) b l = Unit {0}
