-- What every call spends: at most the readings of the table and, where it begins an operation, fewer wake-ups than
-- there is room for. A call that is over at once has none
use Rattle.std.specs.Prelude.{Bool, true, false, cond}
use mathlib.Core.List.{List, [], ◌∷◌}
use Prim.Native.Nat.{ℕ, zero, suc, ◌<◌}
use Rattle.std.proofs.Common.{arith}
use Rattle.regs.specs.declared.Dir.{Dir}
use Rattle.regs.specs.declared.Dir.TheVariants.{Out, In}
use Rattle.alloc.specs.declared.Answer as alloc-answer
use Rattle.alloc.specs.declared.Answer.TheVariants as alloc
use Rattle.alloc.specs.Alloc.{allocate_of, allocate_ep0_of}
use Rattle.frame.specs.Laws.{completions-le}
use Rattle.state.specs.Wakes.{every_endpoint}
use Rattle.state.specs.declared.Control.{Control}
use Rattle.descriptor.specs.declared.Endpoint.{Endpoint}
use Rattle.descriptor.specs.declared.Answer as reading-answer
use Rattle.descriptor.specs.declared.Answer.TheVariants as descriptor
use Rattle.descriptor.specs.Reading.{reading_of, list_of}
use Rattle.descriptor.specs.Trial.{direction_of}
use Rattle.script.specs.Cells.{EpCore, globals-cell, control-cell, allocator-cell, ep-cell, request-cell}
use Rattle.script.specs.Cells.{paced_cell}
use Rattle.script.specs.Script.{Script, reset_ring, set_enabled_lem, fill, fill0, open_oldest, close_oldest}
use Rattle.script.specs.Script.{take_oldest}
use Rattle.script.specs.Script.{enqueue, allocate, allocate0}
use Rattle.script.specs.Statics.{is_on, wake_all}
use Rattle.script.specs.IsoIn.{iso_in_completions, iso_in_advance}
use Rattle.script.specs.Bus as bus
use Rattle.script.specs.Endpoint.{enabled_else, ends_request, arm_read, polled, take_iso, take_ready, load_write}
use Rattle.script.specs.Endpoint.{put_iso, sent_ready}
use Rattle.script.specs.Control.{ends_control, unless_setup, within_maximum, requested, aborted_else, acks}
use Rattle.script.specs.Control.{take_out}
use Rattle.script.specs.Control.{begin_data_in, take_closing, take_in, status_in}
use Rattle.script.specs.Driver.{allocated_as, started_as}
use Rattle.script.specs.AllocateAll.{allocate_each, announce, begins_at, announce_after, announce_all, allocate_read}
use Rattle.script.specs.Answers.{Answer, operation, resultless, staged, named, unless}
use Rattle.script.specs.Calls.{Slotted, SetEnabled, PollRead, BeginWrite, PollWrite, PollDataOut, BeginDataIn}
use Rattle.script.specs.Calls.{Other, Allocate, AllocateAll, Start, BusPoll, BusEnable, BusDisable, Microframe}
use Rattle.script.specs.Calls.{SetStalled, IsStalled, SetPaced, Advance, BeginRead, BeginSetup, PollSetup}
use Rattle.script.specs.Calls.{PollDataIn, BeginAccept, PollAccept, BeginReject, BeginDataOut}
use Rattle.script.specs.Calls.{BeginAcceptSetAddress, Aside, Open, Close, Queue, Op, interrupt, slotted, other}
use Rattle.script.specs.Calls.{aside, numbered, named_or_0, slotted_code, other_code, aside_code, code, Config}
use Rattle.script.specs.Calls.{starting}
use Rattle.script.specs.ReadingsMost.{slotted_most, other_most, most}
use Rattle.script.specs.Spends.{Spends, ret, either, wait, wake, begin, row}
use Rattle.script.specs.SpendsLaws.{more, free, once, woken, then-free, one-read, one-wake, no_write, no-get}
use Rattle.script.specs.SpendsLaws.{no-put, no-is}
use Rattle.script.specs.SpendsLaws.{no-look, no-fetch, no-act, no-hand, when-spends, assign, assign-write}
use Rattle.script.specs.SpendsLaws.{modify_reg-spends}
use Rattle.script.specs.SpendsInterrupt.{iso_in_complete-spends, stamped-spends}

-- ---- the checks that stand before a call spend nothing

module _ {i c : Bool} {r w : ℕ} {p : Script i Answer} where
  staged-spends : (m : ℕ) → Spends c r w p → Spends c r w (staged m p)
  staged-spends m x = free (no-get globals-cell) (λ _. either x ret)

  named-spends : (d : Dir) (e : ℕ) → Spends c r w p → Spends c r w (named d e p)
  named-spends d e x = free (no-get allocator-cell) (λ _. either x ret)

  numbered-spends : (e : ℕ) → Spends c r w p → Spends c r w (numbered e p)
  numbered-spends e x = either x ret

  named-or-0-spends : (d : Dir) (e : ℕ) → Spends c r w p → Spends c r w (named_or_0 d e p)
  named-or-0-spends d e x = either x (named-spends d e x)

  unless-spends : {b : Bool} {m : ℕ} → Spends c r w p → Spends c r w (unless b m p)
  unless-spends x = either ret x

  unless_setup-spends : Spends c r w p → Spends c r w (unless_setup p)
  unless_setup-spends x = free (no-get globals-cell) (λ _. unless-spends x)

  within_maximum-spends : (m : ℕ) → Spends c r w p → Spends c r w (within_maximum m p)
  within_maximum-spends m x = free (no-get globals-cell) (λ _. unless-spends x)

  enabled-spends : (d : Dir) (e : ℕ) {q : Script i Answer} → Spends c r w q → Spends c r w p
      → Spends c r w (enabled_else d e q p)
  enabled-spends d e y x = free (no-get globals-cell) (λ _. either x y)

module _ {i : Bool} {r w : ℕ} where
  -- an operation, with and without a result; one that wakes none
  operation-spends : (n : ℕ) → n < 64 → {p : Script i ℕ} → Spends false r n p → Spends true r w (operation p)
  operation-spends n h x = begin h (then-free x (λ _. free no-fetch (λ _. ret)))

  resultless-spends : (n : ℕ) → n < 64 → {p : Script i Unit} → Spends false r n p → Spends true r w (resultless p)
  resultless-spends n h x = operation-spends n h (then-free x (λ _. ret))

  wakes-none : {p : Script i Unit} → Spends false r 0 p → Spends true r w (resultless p)
  wakes-none x = resultless-spends 0 (omega arith) x

module _ {i c : Bool} {r w : ℕ} where
  ends-request-spends : {d : Dir} {e : ℕ} {a : Answer} → Spends {i = i} c r w (ends_request d e a)
  ends-request-spends = free (no-put (request-cell _ _)) (λ _. ret)

  ends-control-spends : {a : Answer} → Spends {i = i} c r w (ends_control a)
  ends-control-spends = free (no-put control-cell) (λ _. ret)

  requested-spends : (sort : ℕ) {p : Control → Script i Answer} → ((x : Control) → Spends c r w (p x))
      → Spends c r w (requested sort p)
  requested-spends sort x = free (no-get control-cell) (λ v. either (x v) ret)

  aborted-spends : {p : Script i Answer} → Spends c r w p → Spends c r w (aborted_else p)
  aborted-spends x = free (no-get globals-cell) (λ _. either ends-control-spends x)

  polled-spends : (d : Dir) (e m : ℕ) {p : EpCore → Script i Answer} → ((s : EpCore) → Spends c r w (p s))
      → Spends c r w (polled d e m p)
  polled-spends d e m x = free (no-get (request-cell _ _))
      (λ _. unless-spends (either (free (no-get (ep-cell _ _)) x)
      (free (assign (ep-cell _ _)) (λ _. ends-request-spends))))

-- ---- the bus

module _ {i : Bool} where
  nak_all-spends : (n e : ℕ) → Spends {i = i} false 0 0 (bus.nak_all n e)
  unfolding bus.nak_all
  nak_all-spends zero e = ret
  nak_all-spends (suc n) e = free no_write (λ _. free no_write (λ _. nak_all-spends n (suc e)))

  kept-spends : (d : Dir) (e : ℕ) (iso on : Bool) → Spends {i = i} false 0 0 (bus.kept d e iso on)
  kept-spends d e iso on = free (assign-write globals-cell)
      (λ _. free (no-act (set_enabled_lem d e on) tt) (λ _. free (no-get globals-cell) (λ _. no_write)))

  stall-spends : (d : Dir) (e : ℕ) (on : Bool) → Spends {i = i} false (cond on 1 0) 1 (bus.set_stalled d e on)
  stall-spends Out e true = once modify_reg-spends (λ _. one-wake)
  stall-spends In e true = free no_write (λ _. once modify_reg-spends (λ _. one-wake))
  stall-spends Out e false = free (no-get (ep-cell _ _))
      (λ _. free (no-put (ep-cell _ _)) (λ _. free no_write (λ _. one-wake)))
  stall-spends In e false = free (no-get (ep-cell _ _))
      (λ _. free (no-put (ep-cell _ _)) (λ _. free no_write
      (λ _. free (when-spends (assign (ep-cell _ _))) (λ _. one-wake))))

  completions-spends : (n e : ℕ) → Spends {i = i} false 0 n (iso_in_completions n e)
  unfolding iso_in_completions
  completions-spends zero e = ret
  completions-spends (suc n) e = woken (iso_in_complete-spends e) (λ _. completions-spends n e)

  -- frame_no; at most 3 wake-ups
  advance-spends : (e : ℕ) → Spends {i = i} false 1 3 (iso_in_advance e)
  advance-spends e = free (no-get globals-cell) (λ _. when-spends (either
      (once one-read (λ _. free (no-get (paced_cell _)) (λ _.
      then-free (more (completions-spends _ e) (omega arith) (completions-le _ _)) (λ _. no-put (paced_cell _)))))
      (no-put (paced_cell _))))

-- a bus reset: every endpoint is woken once
all-spends : Spends {i = false} false 0 32 wake_all
unfolding every_endpoint
all-spends = wake {w = 0} every_endpoint ret

bus_reset-spends : Spends false 0 32 bus.bus_reset
bus_reset-spends = free no_write (λ _. free no_write (λ _. free no_write
    (λ _. free (nak_all-spends 15 1) (λ _. free (row ret) (λ _. all-spends)))))

-- int_fg; where it shows a suspend, mis_st
poll-spends : Spends false 2 32 bus.poll
poll-spends = free (no-get globals-cell) (λ _. either
    (once one-read (λ _. either
    (then-free (more bus_reset-spends (omega arith) (omega arith)) (λ _. free (assign-write globals-cell) (λ _. ret)))
    (either (once one-read (λ _. free no_write (λ _. free (assign-write globals-cell) (λ _. ret)))) ret)))
    (free (no-put globals-cell) (λ _. ret)))

enabling-spends : (d : Dir) (e : ℕ) (on : Bool) → Spends false 0 1 (bus.set_enabled d e on)
enabling-spends Out e on = free (no-get (ep-cell _ _)) (λ _. free (either (row ret)
    (free (no-act (reset_ring Out e) tt) (λ _. free (assign (ep-cell _ _))
    (λ _. free no-hand (λ _. free no_write (λ _. kept-spends Out e false on))))))
    (λ _. one-wake))
enabling-spends In e on = free (no-get (ep-cell _ _)) (λ s. free
    (free (no-act (reset_ring In e) tt) (λ _. free (assign (ep-cell _ _)) (λ _. free (no-put (paced_cell _))
    (λ _. free no-hand (λ _. free no_write (λ _. free no_write (λ _. kept-spends In e (is_on s.iso) on)))))))
    (λ _. one-wake))

-- ---- control

module _ {i : Bool} where
  acks-spends : (d : Dir) (first : Bool) → Spends {i = i} false (cond first 0 1) 0 (acks d first)
  acks-spends d true = no_write
  acks-spends d false = modify_reg-spends

  take-closing-spends : (now : Bool) (x : Control) → Spends {i = i} true 0 0 (take_closing now x)
  take-closing-spends now x = free (no-get (ep-cell _ _)) (λ _. either
      (free (assign (ep-cell _ _)) (λ _. free (when-spends (assign (ep-cell _ _))) (λ _. ends-control-spends)))
      (aborted-spends (free (when-spends (free (assign (ep-cell _ _)) (λ _. no-put control-cell))) (λ _. ret))))

  take-in-spends : (x : Control) → Spends {i = i} true 0 0 (take_in x)
  take-in-spends x = free (no-get (ep-cell _ _))
      (λ _. either (either (take-closing-spends true x) (free (assign (ep-cell _ _)) (λ _. ends-control-spends)))
      (aborted-spends ret))

  take-out-spends : (n : ℕ) → Spends {i = i} true 0 0 (take_out n)
  take-out-spends n = free (no-get (ep-cell _ _)) (λ _. either
      (free (assign (ep-cell _ _)) (λ _. either ends-control-spends (free no-fetch (λ _. ends-control-spends))))
      (aborted-spends ret))

  status_in-spends : Spends {i = i} false 1 0 status_in
  status_in-spends = free (assign (ep-cell _ _)) (λ _. free no_write (λ _. modify_reg-spends))

  data_in-spends : (bs : List ℕ) (first last : Bool) → Spends {i = i} true (cond first 0 1) 0 (begin_data_in bs first last)
  data_in-spends bs first last = staged-spends 2 (within_maximum-spends _
      (unless_setup-spends (free (no-put control-cell) (λ _. wakes-none
      (free (no-act (fill0 bs) tt) (λ _. free (assign (ep-cell _ _))
      (λ _. free (when-spends (free (assign (ep-cell _ _)) (λ _. no_write))) (λ _.
      free (assign (ep-cell _ _)) (λ _. free no_write (λ _. acks-spends In first))))))))))

  -- ---- reads and writes

  take-iso-spends : (e n : ℕ) → Spends {i = i} true 0 0 (take_iso e n)
  take-iso-spends e n = enabled-spends Out e ends-request-spends (free no-is (λ _. either
      (free no-fetch (λ _. free (no-act (take_oldest e) tt) (λ _. ends-request-spends))) ret))

  take-ready-spends : (e n : ℕ) (s : EpCore) → Spends {i = i} true 0 0 (take_ready e n s)
  take-ready-spends e n s = either
      (free (assign (ep-cell _ _)) (λ _. either ends-request-spends (free no-fetch (λ _. ends-request-spends))))
      (enabled-spends Out e ends-request-spends ret)

  put-iso-spends : (e : ℕ) (bs : List ℕ) → Spends {i = i} true 0 0 (put_iso e bs)
  put-iso-spends e bs = enabled-spends In e ends-request-spends
      (free no-is (λ _. either (free (no-act (enqueue e bs) tt) (λ _. ends-request-spends)) ret))

  sent-ready-spends : (e : ℕ) (s : EpCore) → Spends {i = i} true 0 0 (sent_ready e s)
  sent-ready-spends e s = either (free (assign (ep-cell _ _)) (λ _. ends-request-spends))
      (enabled-spends In e ends-request-spends ret)

  arm-read-spends : (e : ℕ) (s : EpCore) → Spends {i = i} false 1 0 (arm_read e s)
  arm-read-spends e s = either ret (either ret (free (assign (ep-cell _ _)) (λ _. modify_reg-spends)))

  load-write-spends : (e : ℕ) (bs : List ℕ) → Spends {i = i} false 1 0 (load_write e bs)
  load-write-spends e bs = free (no-act (fill e bs) tt)
      (λ _. free (assign (ep-cell _ _)) (λ _. free no_write (λ _. modify_reg-spends)))

  -- ---- allocation and EP0's start

  allocated-spends : (d : Dir) (kind maximum : ℕ) (a : alloc-answer.Answer)
      → Spends {i = i} true 0 0 (allocated_as d kind maximum a)
  allocated-spends d kind maximum (alloc.Refused n) = ret
  allocated-spends d kind maximum (alloc.Given ep base slots) =
      operation-spends 0 (omega arith) (free no_write (λ _. free (when-spends no-hand) (λ _. ret)))

  each-spends : (es : List Endpoint) → Spends {i = i} false 0 0 (allocate_each es)
  unfolding allocate_each
  each-spends [] = ret
  each-spends (e ∷ es) = free (no-act (allocate (direction_of e.address) e.kind e.address e.maximum
      e.interval) tt) (λ _. each-spends es)

  announce-spends : (d : Dir) (e : ℕ) → Spends {i = i} false 0 0 (announce d e)
  announce-spends d e = free (no-get (ep-cell _ _)) (λ _. free no_write (λ _. free (when-spends no-hand) (λ _. ret)))

  begins_at-spends : (d : Dir) (x left e : ℕ) → Spends {i = i} false 0 0 (begins_at d x left e)
  unfolding begins_at
  begins_at-spends d x zero e = ret
  begins_at-spends d x (suc left) e =
      free (no-get allocator-cell) (λ _. free (no-get (ep-cell _ _))
      (λ _. either ret (begins_at-spends d x left (suc e))))

  after-spends : (left total : ℕ) (d : Dir) (e : ℕ) → Spends {i = i} false 0 0 (announce_after left total d e)
  unfolding announce_after
  after-spends zero total d e = ret
  after-spends (suc left) total d e = free (free (no-get allocator-cell) (λ _. free (no-get (ep-cell _ _)) (λ _. ret)))
      (λ x. free (begins_at-spends Out x 15 1) (λ o. either
      (free (begins_at-spends In x 15 1) (λ n. free (announce-spends In n) (λ _. after-spends left total In n)))
      (free (announce-spends Out o) (λ _. after-spends left total Out o))))

  announce_all-spends : (es : List Endpoint) → Spends {i = i} false 0 0 (announce_all es)
  announce_all-spends [] = ret
  announce_all-spends (e ∷ es) = free (announce-spends _ _) (λ _. after-spends _ _ _ _)

  all-given-spends : (bytes : List ℕ) (a : reading-answer.Answer) → Spends {i = i} true 0 0 (allocate_read bytes a)
  all-given-spends bytes (descriptor.Refused n) = ret
  all-given-spends bytes descriptor.Listed = free (no-get allocator-cell) (λ _. either
      (free (each-spends (list_of bytes)) (λ _. operation-spends 0 (omega arith) (announce_all-spends (list_of bytes))))
      ret)

  started-spends : (maximum : ℕ) (a : alloc-answer.Answer) → Spends {i = i} true 0 0 (started_as maximum a)
  started-spends maximum (alloc.Refused n) = ret
  started-spends maximum (alloc.Given ep base slots) =
      wakes-none (free no-hand (λ _. free no_write (λ _. free no_write (λ _. free no_write (λ _. no_write)))))

-- ---- every call

slotted-spends : (o : Slotted) → Spends true (slotted_most o) 0 (slotted_code o)
slotted-spends (SetEnabled d e on) = staged-spends 2 (named-spends d e
    (resultless-spends 1 (omega arith) (enabling-spends d e on)))
slotted-spends (PollRead e n) =
    staged-spends 2 (named-spends Out e (polled-spends Out e n
    (λ s. either (take-iso-spends e n) (take-ready-spends e n s))))
slotted-spends (BeginWrite e bs) = staged-spends 2 (named-spends In e
    (enabled-spends In e ret (free (no-get (ep-cell _ _))
    (λ _. unless-spends (free (no-put (request-cell _ _)) (λ _. wakes-none (either ret (load-write-spends e bs))))))))
slotted-spends (PollWrite e bs) =
    staged-spends 2 (named-spends In e (polled-spends In e _
    (λ s. either (put-iso-spends e bs) (sent-ready-spends e s))))
slotted-spends (PollDataOut n) =
    staged-spends 2 (requested-spends _ (λ x. either (take-out-spends n)
    (free (assign (ep-cell _ _)) (λ _. ends-control-spends))))
slotted-spends (BeginDataIn bs first last) = data_in-spends bs first last

other-spends : (o : Other) → Spends true (other_most o) 0 (other_code o)
other-spends (Allocate d kind address maximum interval) = staged-spends 1
    (free (no-get allocator-cell) (λ a. free (no-act (allocate d kind address maximum interval) tt)
    (λ _. allocated-spends d kind maximum (allocate_of a kind address maximum d).answer)))
other-spends (AllocateAll bytes) = staged-spends 1 (all-given-spends bytes (reading_of bytes).answer)
other-spends (Start maximum) = staged-spends 1
    (free (no-get allocator-cell) (λ a. free (no-act (allocate0 maximum) tt)
    (λ _. started-spends maximum (allocate_ep0_of a maximum).answer)))
other-spends BusPoll = staged-spends 2 (operation-spends 32 (omega arith) poll-spends)
other-spends BusEnable = staged-spends 2 (wakes-none modify_reg-spends)
other-spends BusDisable = staged-spends 2 (wakes-none ret)
other-spends Microframe = staged-spends 2 (operation-spends 0 (omega arith) (once one-read (λ _. ret)))
other-spends (SetStalled d e on) = staged-spends 2 (named-or-0-spends d e
    (resultless-spends 1 (omega arith) (stall-spends d e on)))
other-spends (IsStalled d e) = staged-spends 2 (named-or-0-spends d e
    (operation-spends 0 (omega arith) (once one-read (λ _. ret))))
other-spends (SetPaced e on) = staged-spends 2
    (numbered-spends e (free (free (no-get globals-cell) (λ _. free (no-put globals-cell) (λ _. no-put (paced_cell _))))
    (λ _. ret)))
other-spends (Advance e) = staged-spends 2 (numbered-spends e (resultless-spends 3 (omega arith) (advance-spends e)))
other-spends (BeginRead e n) = staged-spends 2 (named-spends Out e (enabled-spends Out e ret
    (free (no-get (ep-cell _ _)) (λ s. unless-spends (free (no-put (request-cell _ _))
    (λ _. wakes-none (arm-read-spends e s)))))))
other-spends BeginSetup = staged-spends 2 (free (no-put control-cell) (λ _. wakes-none ret))
other-spends PollSetup = staged-spends 2
    (requested-spends _ (λ x. free (no-get globals-cell)
    (λ _. either (free (no-put globals-cell) (λ _. ends-control-spends)) ret)))
other-spends PollDataIn = staged-spends 2 (requested-spends _
    (λ x. either (take-closing-spends false x) (take-in-spends x)))
other-spends BeginAccept = staged-spends 2 (unless_setup-spends
    (free (no-put control-cell) (λ _. wakes-none status_in-spends)))
other-spends PollAccept = staged-spends 2 (requested-spends _ (λ x. free (no-get (ep-cell _ _)) (λ _. either
    (free (assign (ep-cell _ _)) (λ _. free (no-put control-cell) (λ _. either (wakes-none no_write) ret)))
    (aborted-spends ret))))
other-spends BeginReject = staged-spends 2 (free (no-put control-cell) (λ _. wakes-none
    (free (assign (ep-cell _ _)) (λ _. free (assign (ep-cell _ _))
    (λ _. once modify_reg-spends (λ _. modify_reg-spends))))))
other-spends (BeginDataOut n first) = staged-spends 2 (within_maximum-spends n
    (unless_setup-spends (free (no-put control-cell) (λ _. wakes-none
    (free (assign (ep-cell _ _)) (λ _. acks-spends Out first))))))
other-spends (BeginAcceptSetAddress a) = staged-spends 2
    (unless_setup-spends (free (no-put control-cell) (λ _. wakes-none status_in-spends)))

-- these pass during an interrupt, and leave its wake-ups
pub aside-spends : {c : Bool} (o : Aside) → Spends c 0 0 (aside_code o)
aside-spends (Open e) = staged-spends 2 (named-spends Out e (free (no-get (ep-cell _ _)) (λ _. unless-spends
    (free no-is (λ _. either (free (no-act (open_oldest e) tt) (λ _. free no-fetch (λ _. free no-look (λ _. ret))))
    ret)))))
aside-spends (Close e) = staged-spends 2 (named-spends Out e
    (free no-is (λ _. either (free (no-act (close_oldest e) tt) (λ _. ret)) ret)))
aside-spends (Queue e bs) = staged-spends 2
    (named-spends In e (enabled-spends In e ret (free (no-get allocator-cell) (λ _. unless-spends
    (free (no-get (ep-cell _ _)) (λ _. unless-spends (free no-is
    (λ _. either (free (no-act (enqueue e bs) tt) (λ _. ret)) ret))))))))

pub call-spends : (o : Op) → Spends true (most o) 0 (code o)
call-spends interrupt = staged-spends 2 (resultless-spends 54 (omega arith) stamped-spends)
call-spends (slotted o) = slotted-spends o
call-spends (other o) = other-spends o
call-spends (aside o) = aside-spends o

-- start-up: ctrl
pub start-up-spends : (x : Config) → Spends true 1 0 (starting x)
start-up-spends x = wakes-none (free no_write (λ _.
    free (wait ret) (λ _. once modify_reg-spends (λ _. free no_write
    (λ _. free no_write (λ _. assign-write globals-cell))))))
