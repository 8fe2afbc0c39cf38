-- The control pipe (control.rs 26-185): one request, each stage a begin and a poll
use Rattle.std.specs.Prelude.{Bool, true, false, cond, List, [], ◌∷◌, ◌++◌, ℕ, ◌/◌, ◌%◌, eqb, ltb, length}
use Rattle.regs.specs.declared.Reg.TheVariants.{DevAd, EpTLen, EpRxCtrl, EpTxCtrl}
use Rattle.regs.specs.declared.Dir.{Dir}
use Rattle.regs.specs.declared.Dir.TheVariants.{Out, In}
use Rattle.regs.specs.Registers.{ctrl_of}
use Rattle.regs.specs.ControlWord.{ACK, DATA1, word_of, ack, stall, status}
use Rattle.state.specs.declared.Control.{Control}
use Rattle.state.specs.declared.Globals.{Globals}
use Rattle.script.specs.Cells.{globals-cell, ep-cell, control-cell}
use Rattle.script.specs.Script.{Script, ret, done, test, ◌>>=◌, ◌>>◌, write, get, put, fetch, act, when}
use Rattle.script.specs.Script.{received0, fill0}
use Rattle.script.specs.Statics.{is_on, flag, with_ready, with_armed, with_len, with_setup, modify_ep, modify_reg}
use Rattle.script.specs.Answers.{Answer, Refused, NotYet, Done, resultless, staged, unless}

-- the request: its sort, its begin's length, whether it is the last data_in, which of its waits comes next, the address
abbrev pub SETUP : ℕ
SETUP = 1

abbrev pub DATA-OUT : ℕ
DATA-OUT = 2

abbrev pub DATA-IN : ℕ
DATA-IN = 3

abbrev pub ACCEPT : ℕ
ACCEPT = 4

abbrev pub request_of : ℕ → ℕ → Control
request_of sort n = record { sort = sort; length = n; last = 0; wait = 0; sets_address = 0; address = 0 }

abbrev pub empty_control : Control
empty_control = request_of 0 0

-- data_in: its two waits, the second for the closing OUT
abbrev pub data_in_of : ℕ → ℕ → ℕ → Control
data_in_of n last wait = record { sort = DATA-IN; length = n; last = last; wait = wait; sets_address = 0; address = 0 }

abbrev pub address_of : ℕ → Control
address_of a = record { sort = ACCEPT; length = 0; last = 0; wait = 0; sets_address = 1; address = a }

abbrev pub ends_control : {i : Bool} → Answer → Script i Answer
ends_control a = do
  put control-cell empty_control
  ret a

-- row 9: a setup waits
abbrev pub unless_setup : {i : Bool} → Script i Answer → Script i Answer
unless_setup p = do
  g ← get globals-cell
  unless (is_on g.setup_ready) 9 p

-- row 10: above EP0's maximum
abbrev pub within_maximum : {i : Bool} → ℕ → Script i Answer → Script i Answer
within_maximum n p = do
  g ← get globals-cell
  unless (ltb g.ep0_max n) 10 p

-- row 15: the request is of this sort
abbrev pub requested : {i : Bool} → ℕ → (Control → Script i Answer) → Script i Answer
requested sort p = do
  c ← get control-cell
  test (eqb c.sort sort) (p c) (ret (Refused 15))

-- `complete`, 48-61, where the stage is not ready: a new setup packet ends it
abbrev pub aborted_else : {i : Bool} → Script i Answer → Script i Answer
aborted_else p = do
  g ← get globals-cell
  test (is_on g.setup_ready) (ends_control (Refused 9)) p

-- a stage's first packet is DATA1; the interrupt flips the toggle after each
abbrev pub acks : {i : Bool} → Dir → Bool → Script i Unit
acks d true = write (ctrl_of d) 0 (word_of ACK DATA1 false)
acks d false = modify_reg (ctrl_of d) 0 ack

-- ---- `setup`, 70-80

abbrev pub begin_setup : {i : Bool} → Script i Answer
begin_setup = staged 2 (do
  put control-cell (request_of SETUP 0)
  resultless done)

-- lowest byte first
abbrev pub word_bytes : ℕ → List ℕ
word_bytes w = w % 256 ∷ w / 256 % 256 ∷ w / 65536 % 256 ∷ w / 16777216 % 256 ∷ []

unfoldable pub setup_bytes : Globals → List ℕ
setup_bytes g = word_bytes g.setup_low ++ word_bytes g.setup_high

abbrev pub poll_setup : {i : Bool} → Script i Answer
poll_setup = staged 2 (requested SETUP (λ c. do
  g ← get globals-cell
  test (is_on g.setup_ready)
      (do
        put globals-cell (with_setup 0 g.setup_low g.setup_high g)
        ends_control (Done (setup_bytes g)))
      (ret NotYet)))

-- ---- `data_out`, 82-115

abbrev pub begin_data_out : {i : Bool} → ℕ → Bool → Script i Answer
begin_data_out n first = staged 2 (within_maximum n (unless_setup (do
  put control-cell (request_of DATA-OUT n)
  resultless (do
    modify_ep Out 0 (λ s. with_armed 1 (with_len n (with_ready 0 s)))
    acks Out first))))

abbrev pub take_out : {i : Bool} → ℕ → Script i Answer
take_out n = do
  s ← get (ep-cell Out 0)
  test (is_on s.ready)
      (do
        modify_ep Out 0 (with_ready 0)
        test (ltb n s.len) (ends_control (Refused 10)) (do
          bytes ← fetch (received0 s.len)
          ends_control (Done bytes)))
      (aborted_else (ret NotYet))

abbrev pub poll_data_out : {i : Bool} → ℕ → Script i Answer
poll_data_out n = staged 2 (requested DATA-OUT (λ c. test (eqb c.length n) (take_out n) (do
  modify_ep Out 0 (with_ready 0)
  ends_control (Refused 10))))

-- ---- `data_in`, 117-161

-- the status stage (a zero-length OUT, DATA1) right away
abbrev pub closing_out : {i : Bool} → Script i Unit
closing_out = do
  modify_ep Out 0 (λ s. with_len 0 (with_ready 0 s))
  write EpRxCtrl 0 (word_of ACK DATA1 false)

abbrev pub begin_data_in : {i : Bool} → List ℕ → Bool → Bool → Script i Answer
begin_data_in bytes first last = staged 2 (within_maximum (length bytes) (unless_setup (do
  put control-cell (data_in_of (length bytes) (flag last) 1)
  resultless (do
    act (fill0 bytes)
    modify_ep In 0 (with_ready 0)
    when last closing_out
    modify_ep In 0 (with_armed 1)
    write EpTLen 0 (length bytes)
    acks In first))))

-- the second wait; `true`: it is the first poll that comes to it, and the data packet's completion is taken with it. A
-- refusal 9 takes neither
abbrev pub take_closing : {i : Bool} → Bool → Control → Script i Answer
take_closing now c = do
  s ← get (ep-cell Out 0)
  test (is_on s.ready)
      (do
        modify_ep Out 0 (with_ready 0)
        when now (modify_ep In 0 (with_ready 0))
        ends_control (cond (eqb s.len 0) (Done []) (Refused 10)))
      (aborted_else (do
        when now (do
          modify_ep In 0 (with_ready 0)
          put control-cell (data_in_of c.length c.last 2))
        ret NotYet))

abbrev pub take_in : {i : Bool} → Control → Script i Answer
take_in c = do
  s ← get (ep-cell In 0)
  test (is_on s.ready)
      (test (is_on c.last) (take_closing true c) (do
        modify_ep In 0 (with_ready 0)
        ends_control (Done [])))
      (aborted_else (ret NotYet))

abbrev pub poll_data_in : {i : Bool} → Script i Answer
poll_data_in = staged 2 (requested DATA-IN (λ c. test (eqb c.wait 2) (take_closing false c) (take_in c)))

-- ---- `accept`, `accept_set_address`, 26-44, 163-166, 179-185

abbrev pub status_in : {i : Bool} → Script i Unit
status_in = do
  modify_ep In 0 (with_ready 0)
  write EpTLen 0 0
  modify_reg EpTxCtrl 0 status

abbrev pub begin_accept : {i : Bool} → Script i Answer
begin_accept = staged 2 (unless_setup (do
  put control-cell (request_of ACCEPT 0)
  resultless status_in))

abbrev pub begin_accept_set_address : {i : Bool} → ℕ → Script i Answer
begin_accept_set_address address = staged 2 (unless_setup (do
  put control-cell (address_of (address % 256))
  resultless status_in))

-- the address changes only after the status stage completes (USB 2.0, 9.4.6)
abbrev pub poll_accept : {i : Bool} → Script i Answer
poll_accept = staged 2 (requested ACCEPT (λ c. do
  s ← get (ep-cell In 0)
  test (is_on s.ready)
      (do
        modify_ep In 0 (with_ready 0)
        put control-cell empty_control
        test (is_on c.sets_address) (resultless (write DevAd 0 (c.address % 128))) (ret (Done [])))
      (aborted_else (ret NotYet))))

-- ---- `reject`, 168-177

abbrev pub begin_reject : {i : Bool} → Script i Answer
begin_reject = staged 2 (do
  put control-cell empty_control
  resultless (do
    modify_ep Out 0 (with_armed 0)
    modify_ep In 0 (with_armed 0)
    modify_reg EpTxCtrl 0 stall
    modify_reg EpRxCtrl 0 stall))
