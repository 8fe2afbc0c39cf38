-- The driver: start-up (mod.rs 886-951), allocation (953-1043, endpoint.rs 19-37), EP0's start (1144-1178), packets
-- taken and queued in place
-- (253-271, 342-395)
use Rattle.std.specs.Prelude.{Bool, false, not, List, ℕ, ◌%◌, eqb, ltb, length}
use Rattle.regs.specs.declared.Reg.TheVariants.{Ctrl, HostCtrl, EpMaxLen, EpRxCtrl, EpTxCtrl}
use Rattle.regs.specs.declared.Dir.{Dir}
use Rattle.regs.specs.declared.Dir.TheVariants.{Out, In}
use Rattle.regs.specs.ControlWord.{NAK, DATA0, word_of}
use Rattle.regs.specs.Ctrl.{CLEAR, RUN, reset_ended, PHY_SUSPENDM}
use Rattle.regs.specs.IntEn.{at_start}
use Rattle.alloc.specs.declared.Answer as alloc-answer
use Rattle.alloc.specs.declared.Answer.TheVariants as alloc
use Rattle.alloc.specs.Alloc.{allocate_of, allocate_ep0_of}
use Rattle.script.specs.Cells.{ep-cell, allocator-cell}
use Rattle.script.specs.Script.{Script, ret, test, ◌>>=◌, ◌>>◌, write, wait, get, is, look, fetch}
use Rattle.script.specs.Script.{act, hand, when, waiting, room, opened, next_stamp_lem, oldest, place, place0}
use Rattle.script.specs.Script.{open_oldest, close_oldest, enqueue, allocate, allocate0}
use Rattle.script.specs.Statics.{is_on, modify_int_en, modify_reg}
use Rattle.script.specs.Answers.{Answer, Refused, Shown, ok, operation, resultless, staged, named, unless}
use Rattle.script.specs.Endpoint.{enabled_else}

-- `Driver::new`, 907-941
abbrev pub new : {i : Bool} → Bool → Script i Unit
new callback = do
  write Ctrl 0 CLEAR
  wait 10
  modify_reg Ctrl 0 reset_ended
  write HostCtrl 0 PHY_SUSPENDM
  write Ctrl 0 RUN
  modify_int_en (λ _. at_start callback)

abbrev pub start_up : {i : Bool} → Bool → Script i Answer
start_up callback = resultless (new callback)

-- `Endpoint::new`: the number given, its maximum, its buffer
abbrev pub new_endpoint : {i : Bool} → Dir → ℕ → ℕ → ℕ → Script i ℕ
new_endpoint d kind maximum ep = do
  write EpMaxLen ep maximum
  when (not (eqb (kind % 4) 0)) (hand (place d ep))
  ret ep

abbrev pub allocated_as : {i : Bool} → Dir → ℕ → ℕ → alloc-answer.Answer → Script i Answer
allocated_as d kind maximum (alloc.Refused n) = ret (Refused n)
allocated_as d kind maximum (alloc.Given ep base slots) = operation (new_endpoint d kind maximum ep)

-- `alloc_endpoint`; a refusal changes nothing
abbrev pub alloc_endpoint : {i : Bool} → Dir → ℕ → ℕ → ℕ → ℕ → Script i Answer
alloc_endpoint d kind address maximum interval = staged 1 (do
  a ← get allocator-cell
  act (allocate d kind address maximum interval)
  allocated_as d kind maximum (allocate_of a kind address maximum d).answer)

-- `start`; the chip's maximum for EP0 is written as given, and then as 64 (EP_MAX_PACKET_SIZE)
abbrev pub start_ep0 : {i : Bool} → ℕ → Script i Unit
start_ep0 maximum = do
  hand place0
  write EpMaxLen 0 maximum
  write EpRxCtrl 0 (word_of NAK DATA0 false)
  write EpTxCtrl 0 (word_of NAK DATA0 false)
  write EpMaxLen 0 64

abbrev pub started_as : {i : Bool} → ℕ → alloc-answer.Answer → Script i Answer
started_as maximum (alloc.Refused n) = ret (Refused n)
started_as maximum (alloc.Given ep base slots) = resultless (start_ep0 maximum)

abbrev pub start : {i : Bool} → ℕ → Script i Answer
start maximum = staged 1 (do
  a ← get allocator-cell
  act (allocate0 maximum)
  started_as maximum (allocate_ep0_of a maximum).answer)

-- `iso_out_take`, parted: open shows the oldest packet
abbrev pub opening : {i : Bool} → ℕ → Script i Answer
opening ep = do
  s ← get (ep-cell Out ep)
  unless (not (is_on s.iso)) 11 (do
    b ← is (waiting Out ep)
    test b
        (do
          act (open_oldest ep)
          bytes ← fetch (oldest ep)
          stamp ← look (next_stamp_lem ep)
          ret (Shown bytes stamp))
        (ret (Refused 12)))

abbrev pub open_packet : {i : Bool} → ℕ → Script i Answer
open_packet ep = staged 2 (named Out ep (opening ep))

-- and close gives its slot back
abbrev pub closing : {i : Bool} → ℕ → Script i Answer
closing ep = do
  b ← is (opened ep)
  test b
      (do
        act (close_oldest ep)
        ret ok)
      (ret (Refused 14))

abbrev pub close_packet : {i : Bool} → ℕ → Script i Answer
close_packet ep = staged 2 (named Out ep (closing ep))

-- `iso_in_prime`
abbrev pub queueing : {i : Bool} → ℕ → List ℕ → Script i Answer
queueing ep bytes = enabled_else In ep (ret (Refused 9)) (do
  a ← get allocator-cell
  unless (ltb a.size (length bytes)) 10 (do
    s ← get (ep-cell In ep)
    unless (not (is_on s.iso)) 11 (do
      b ← is (room ep (length bytes))
      test b
          (do
            act (enqueue ep bytes)
            ret ok)
          (ret (Refused 13)))))

abbrev pub queue_packet : {i : Bool} → ℕ → List ℕ → Script i Answer
queue_packet ep bytes = staged 2 (named In ep (queueing ep bytes))
