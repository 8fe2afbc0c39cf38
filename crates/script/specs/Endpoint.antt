-- Reads and writes (endpoint.rs 82-195), each a begin and a poll
use Rattle.std.specs.Prelude.{Bool, not, ◌||◌, List, [], ℕ, eqb, ltb, length, take}
use Rattle.regs.specs.declared.Reg.TheVariants.{EpTLen, EpRxCtrl, EpTxCtrl}
use Rattle.regs.specs.declared.Dir.{Dir}
use Rattle.regs.specs.declared.Dir.TheVariants.{Out, In}
use Rattle.regs.specs.ControlWord.{ack}
use Rattle.regs.specs.Enables as enables
use Rattle.state.specs.declared.Request.{Request}
use Rattle.script.specs.Cells.{EpCore, globals-cell, ep-cell, request-cell}
use Rattle.script.specs.Script.{Script, ret, done, test, ◌>>=◌, ◌>>◌, write, get, put, is, fetch, act}
use Rattle.script.specs.Script.{waiting, room, oldest, received, fill, take_oldest, enqueue}
use Rattle.script.specs.Statics.{is_on, with_ready, with_armed, modify_ep, modify_reg}
use Rattle.script.specs.Answers.{Answer, Refused, NotYet, Done, resultless, staged, named, unless}

abbrev pub begun : ℕ → Request
begun n = record { begun = 1; length = n }

abbrev pub empty_request : Request
empty_request = record { begun = 0; length = 0 }

-- `is_enabled`, endpoint.rs 55-60; row 9
abbrev pub enabled_else : {i : Bool} → Dir → ℕ → Script i Answer → Script i Answer → Script i Answer
enabled_else d ep q p = do
  g ← get globals-cell
  test (enables.is_on g.ep_config d ep) p q

abbrev pub ends_request : {i : Bool} → Dir → ℕ → Answer → Script i Answer
ends_request d ep a = do
  put (request-cell d ep) empty_request
  ret a

-- ---- `read`, 83-142

abbrev pub arm_read : {i : Bool} → ℕ → EpCore → Script i Unit
arm_read ep s = test (is_on s.iso) done (test (is_on s.ready) done (do
  modify_ep Out ep (with_armed 1)
  modify_reg EpRxCtrl ep ack))

abbrev pub begin_read : {i : Bool} → ℕ → ℕ → Script i Answer
begin_read ep n = staged 2 (named Out ep (enabled_else Out ep (ret (Refused 9)) (do
  s ← get (ep-cell Out ep)
  unless (ltb n s.max_len) 10 (do
    put (request-cell Out ep) (begun n)
    resultless (arm_read ep s)))))

-- row 15, and then 10: a poll brings its begin's length
abbrev pub polled : {i : Bool} → Dir → ℕ → ℕ → (EpCore → Script i Answer) → Script i Answer
polled d ep n p = do
  r ← get (request-cell d ep)
  unless (not (is_on r.begun)) 15 (test (eqb r.length n)
      (do
        s ← get (ep-cell d ep)
        p s)
      (do
        modify_ep d ep (with_ready 0)
        ends_request d ep (Refused 10)))

-- 96-113: drain the ring the interrupt fills
abbrev pub take_iso : {i : Bool} → ℕ → ℕ → Script i Answer
take_iso ep n = enabled_else Out ep (ends_request Out ep (Refused 9)) (do
  b ← is (waiting Out ep)
  test b
      (do
        bytes ← fetch (oldest ep)
        act (take_oldest ep)
        ends_request Out ep (Done (take n bytes)))
      (ret NotYet))

-- received longer than the slice or the maximum
unfoldable pub too_long : ℕ → EpCore → Bool
too_long n s = ltb n s.len || ltb s.max_len s.len

-- 125-141
abbrev pub take_ready : {i : Bool} → ℕ → ℕ → EpCore → Script i Answer
take_ready ep n s = test (is_on s.ready)
    (do
      modify_ep Out ep (with_ready 0)
      test (too_long n s) (ends_request Out ep (Refused 10)) (do
        bytes ← fetch (received ep s.len)
        ends_request Out ep (Done bytes)))
    (enabled_else Out ep (ends_request Out ep (Refused 9)) (ret NotYet))

abbrev pub poll_read : {i : Bool} → ℕ → ℕ → Script i Answer
poll_read ep n = staged 2 (named Out ep (polled Out ep n
    (λ s. test (is_on s.iso) (take_iso ep n) (take_ready ep n s))))

-- ---- `write`, 146-194

abbrev pub load_write : {i : Bool} → ℕ → List ℕ → Script i Unit
load_write ep bytes = do
  act (fill ep bytes)
  modify_ep In ep (λ s. with_armed 1 (with_ready 0 s))
  write EpTLen ep (length bytes)
  modify_reg EpTxCtrl ep ack

abbrev pub begin_write : {i : Bool} → ℕ → List ℕ → Script i Answer
begin_write ep bytes = staged 2 (named In ep (enabled_else In ep (ret (Refused 9)) (do
  s ← get (ep-cell In ep)
  unless (ltb s.max_len (length bytes)) 10 (do
    put (request-cell In ep) (begun (length bytes))
    resultless (test (is_on s.iso) done (load_write ep bytes))))))

-- 157-171
abbrev pub put_iso : {i : Bool} → ℕ → List ℕ → Script i Answer
put_iso ep bytes = enabled_else In ep (ends_request In ep (Refused 9)) (do
  b ← is (room ep (length bytes))
  test b
      (do
        act (enqueue ep bytes)
        ends_request In ep (Done []))
      (ret NotYet))

-- 182-193
abbrev pub sent_ready : {i : Bool} → ℕ → EpCore → Script i Answer
sent_ready ep s = test (is_on s.ready)
    (do
      modify_ep In ep (with_ready 0)
      ends_request In ep (Done []))
    (enabled_else In ep (ends_request In ep (Refused 9)) (ret NotYet))

abbrev pub poll_write : {i : Bool} → ℕ → List ℕ → Script i Answer
poll_write ep bytes = staged 2 (named In ep (polled In ep (length bytes)
    (λ s. test (is_on s.iso) (put_iso ep bytes) (sent_ready ep s))))
