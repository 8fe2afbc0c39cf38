-- Each call's script does what Steps.antt says of its kind: the one walk over all scripts. Proofs as in StepsInterrupt
use Rattle.std.specs.Prelude.{Bool, true, false, List, [], ◌∷◌, ℕ, zero, suc, ◌%◌, length}
use Rattle.regs.specs.declared.Dir.{Dir}
use Rattle.regs.specs.declared.Dir.TheVariants.{Out, In}
use Rattle.alloc.specs.declared.Answer as alloc-answer
use Rattle.alloc.specs.declared.Answer.TheVariants as alloc
use Rattle.alloc.specs.Alloc.{allocate_of, allocate_ep0_of}
use Rattle.descriptor.specs.declared.Endpoint.{Endpoint}
use Rattle.descriptor.specs.declared.Answer as reading-answer
use Rattle.descriptor.specs.declared.Answer.TheVariants as descriptor
use Rattle.descriptor.specs.Reading.{reading_of, list_of}
use Rattle.descriptor.specs.Trial.{direction_of}
use Rattle.script.specs.Bus as bus
use Rattle.script.specs.Bus.{nak_all}
use Rattle.script.specs.Control.{status_in}
use Rattle.script.specs.Driver.{allocated_as, started_as}
use Rattle.script.specs.AllocateAll.{allocate_each, announce, begins_at, announce_after, announce_all, allocate_read}
use Rattle.script.specs.Calls.{Config, Op, interrupt, slotted, other, aside, Slotted, SetEnabled, PollRead}
use Rattle.script.specs.Calls.{BeginWrite, PollWrite, PollDataOut, BeginDataIn, Other, Allocate, AllocateAll}
use Rattle.script.specs.Calls.{Start, BusPoll, BusEnable, BusDisable, Microframe, SetStalled, IsStalled, SetPaced}
use Rattle.script.specs.Calls.{Advance, BeginRead, BeginSetup, PollSetup, PollDataIn, BeginAccept, PollAccept}
use Rattle.script.specs.Calls.{BeginReject, BeginDataOut, BeginAcceptSetAddress, Aside, Open, Close, Queue}
use Rattle.script.specs.Calls.{slotted_code, other_code, aside_code, code}
use Rattle.script.specs.Calls as the-calls
use Rattle.script.specs.Steps.{Kind, plain, turning, resetting, giving, starting, queueing, kind_of, Steps}
use Rattle.script.specs.StepsInterrupt.{placed, of-stamped, of-advance}
use Rattle.script.proofs.StepsRequests.{of-poll-read, of-poll-write, of-begin-read, of-begin-write}
use Rattle.script.proofs.StepsRequests.{of-begin-data-out}
use Rattle.script.proofs.StepsRequests.{behind, unless, noted, asked, operated, resultless}
use Rattle.script.proofs.StepsRequests.{of-poll-data-out, of-begin-data-in, of-poll-data-in}

of-enabled : (d : Dir) (e : ℕ) (on : Bool) → Steps turning (bus.set_enabled d e on)
of-enabled Out e on = (
  λ _. tt,
  λ _. (
    (
      tt,
      (
        tt,
        λ _. (
          (λ _. tt, λ _. tt),
          λ _. (
            (λ _. tt, tt),
            λ _. (
              (tt, tt),
              λ _. (
                (λ _. tt, λ _. (tt, λ _. (tt, tt))),
                λ _.
                    (tt, λ _. (λ _. tt, λ _. (tt, tt))),
              ),
            ),
          ),
        ),
      ),
    ),
    λ _. tt,
  ),
)
of-enabled In e on = (
  λ _. tt,
  λ _. (
    (
      tt,
      λ _. (
        (λ _. tt, λ _. tt),
        λ _. (
          tt,
          λ _. (
            (λ _. tt, tt),
            λ _. (
              (tt, tt),
              λ _. (
                (tt, tt),
                λ _. (
                  (λ _. tt, λ _. (tt, λ _. (tt, tt))),
                  λ _.
                      (tt, λ _. (λ _. tt, λ _. (tt, tt))),
                ),
              ),
            ),
          ),
        ),
      ),
    ),
    λ _. tt,
  ),
)

of-stalled : (d : Dir) (e : ℕ) (on : Bool) → Steps plain (bus.set_stalled {i = false} d e on)
of-stalled Out e true = (((tt, λ _. tt), λ _. (tt, tt)), λ _. tt)
of-stalled In e true = ((tt, tt), λ _. (((tt, λ _. tt), λ _. (tt, tt)), λ _. tt))
of-stalled Out e false = (λ _. tt, λ _. (tt, λ _. ((tt, tt), λ _. tt)))
of-stalled In e false = (λ _. tt, λ _. (tt, λ _. ((tt, tt), λ _. (((λ _. tt, λ _. tt), tt), λ _. tt))))

of-place : (d : Dir) (kind maximum : ℕ) (a : alloc-answer.Answer)
    → Steps giving (allocated_as {i = false} d kind maximum a)
of-place d kind maximum (alloc.Refused n) = tt
of-place d kind maximum (alloc.Given ep base slots) = operated
    ((tt, tt), λ _. (((placed giving d ep, tt), tt), λ _. tt))

of-each : (es : List Endpoint) → Steps giving (allocate_each {i = false} es)
unfolding allocate_each
of-each [] = tt
of-each (e ∷ es) = (tt, λ _. of-each es)

of-announce : (d : Dir) (e : ℕ) → Steps giving (announce {i = false} d e)
of-announce d e = (λ _. tt, λ _. ((tt, tt), λ _. (((placed giving d e, tt), tt), λ _. tt)))

of-begins-at : (d : Dir) (x left e : ℕ) → Steps giving (begins_at {i = false} d x left e)
unfolding begins_at
of-begins-at d x zero e = tt
of-begins-at d x (suc left) e = (λ _. tt, λ _. (λ _. tt, λ _. (tt, of-begins-at d x left (suc e))))

of-after : (left total : ℕ) (d : Dir) (e : ℕ) → Steps giving (announce_after {i = false} left total d e)
unfolding announce_after
of-after zero total d e = tt
of-after (suc left) total d e = (
  (λ _. tt, λ _. (λ _. tt, λ _. tt)),
  λ x. (
    of-begins-at Out x 15 1,
    λ o. (
      (of-begins-at In x 15 1, λ n. (of-announce In n, λ _. of-after left total In n)),
      (of-announce Out o, λ _. of-after left total Out o),
    ),
  ),
)

of-announce-all : (es : List Endpoint) → Steps giving (announce_all {i = false} es)
of-announce-all [] = tt
of-announce-all (e ∷ es) = (
  of-announce (direction_of e.address) (e.address % 128),
  λ _. of-after (length es) (suc (length es)) (direction_of e.address) (e.address % 128),
)

of-all : (bytes : List ℕ) (a : reading-answer.Answer) → Steps giving (allocate_read {i = false} bytes a)
of-all bytes (descriptor.Refused n) = tt
of-all bytes descriptor.Listed = (
  λ _. tt,
  λ _. (
    (
      of-each (list_of bytes),
      λ _. operated
          (of-announce-all (list_of bytes)),
    ),
    tt,
  ),
)

of-started : (maximum : ℕ) (a : alloc-answer.Answer) → Steps starting (started_as {i = false} maximum a)
of-started maximum (alloc.Refused n) = tt
of-started maximum (alloc.Given ep base slots) = resultless
    ((λ _. tt, tt), λ _. ((tt, tt), λ _. ((tt, tt), λ _. ((tt, tt), λ _. (tt, tt)))))

of-nak-all : (n e : ℕ) → Steps resetting (nak_all {i = false} n e)
unfolding nak_all
of-nak-all zero e = tt
of-nak-all (suc n) e = ((tt, tt), λ _. ((tt, tt), λ _. of-nak-all n (suc e)))

of-bus-poll : Steps resetting bus.poll
of-bus-poll = (
  λ _. tt,
  λ _. (
    (
      (tt, λ _. tt),
      λ _. (
        (
          ((tt, tt), λ _. ((tt, tt), λ _. ((tt, tt), λ _. (of-nak-all 15 1, λ _. (tt, λ _. tt))))),
          λ _. ((λ _. tt, λ _. (tt, λ _. (tt, tt))), λ _. tt),
        ),
        (((tt, λ _. tt), λ _. ((tt, tt), λ _. ((λ _. tt, λ _. (tt, λ _. (tt, tt))), λ _. tt))), tt),
      ),
    ),
    (tt, λ _. tt),
  ),
)

of-status-in : Steps plain (status_in {i = false})
of-status-in = ((λ _. tt, λ _. tt), λ _. ((tt, tt), λ _. ((tt, λ _. tt), λ _. (tt, tt))))

of-slotted : (o : Slotted) → Steps (kind_of (slotted o)) (slotted_code o)
of-slotted (SetEnabled d e on) = behind (behind (resultless (of-enabled d e on)))
of-slotted (PollRead e n) = of-poll-read e n
of-slotted (BeginWrite e bs) = of-begin-write e bs
of-slotted (PollWrite e bs) = of-poll-write e bs
of-slotted (PollDataOut n) = of-poll-data-out n
of-slotted (BeginDataIn bs first last) = of-begin-data-in bs first last

of_other : (o : Other) → Steps (kind_of (other o)) (other_code o)
of_other (Allocate d kind address maximum interval) =
    behind (λ _. tt, λ a. (tt, λ _. of-place d kind maximum (allocate_of a kind address maximum d).answer))
of_other (AllocateAll bytes) = behind (of-all bytes (reading_of bytes).answer)
of_other (Start maximum) = behind (λ _. tt, λ a. (tt, λ _. of-started maximum (allocate_ep0_of a maximum).answer))
of_other BusPoll = behind (operated of-bus-poll)
of_other BusEnable = behind (resultless ((tt, λ _. tt), λ _. (tt, tt)))
of_other BusDisable = behind (resultless tt)
of_other Microframe = behind (operated ((tt, λ _. tt), λ _. tt))
of_other (SetStalled d e on) = behind (let x = resultless (of-stalled d e on) in (x, behind x))
of_other (IsStalled d e) = behind (operated ((tt, λ _. tt), λ _. tt), behind (operated ((tt, λ _. tt), λ _. tt)))
of_other (SetPaced e on) = behind (((λ _. tt, λ _. (tt, λ _. tt)), λ _. tt), tt)
of_other (Advance e) = behind (resultless (of-advance false e), tt)
of_other (BeginRead e n) = of-begin-read e n
of_other BeginSetup = behind (noted (resultless tt))
of_other PollSetup = behind (asked (λ c. (λ _. tt, λ _. ((tt, λ _. (tt, λ _. tt)), tt))))
of_other PollDataIn = of-poll-data-in
of_other BeginAccept = behind (unless (noted (resultless of-status-in)))
of_other PollAccept = behind (asked (λ c. (
  λ _. tt,
  λ _. (
    ((λ _. tt, λ _. tt), λ _. (tt, λ _. (resultless (tt, tt), tt))),
    (λ _. tt, λ _. ((tt, λ _. tt), tt)),
  ),
)))
of_other BeginReject = behind (noted (resultless (
  (λ _. tt, λ _. tt),
  λ _. (
    (λ _. tt, λ _. tt),
    λ _.
        (((tt, λ _. tt), λ _. (tt, tt)), λ _. ((tt, λ _. tt), λ _. (tt, tt))),
  ),
)))
of_other (BeginDataOut n first) = of-begin-data-out n first
of_other (BeginAcceptSetAddress a) = behind (unless (noted (resultless of-status-in)))

of-aside : (o : Aside) → Steps queueing (aside_code o)
of-aside (Open e) = behind (behind
    (λ _. tt, λ _. (tt, (λ _. tt, λ _. ((tt, λ _. (λ _. tt, λ _. (λ _. tt, λ _. tt))), tt)))))
of-aside (Close e) = behind (behind (λ _. tt, λ _. ((tt, λ _. tt), tt)))
of-aside (Queue e bs) = behind (behind
    (λ _. tt, λ _. ((λ _. tt, λ _. (tt, (λ _. tt, λ _. (tt, (λ _. tt, λ _. ((tt, λ _. tt), tt)))))), tt)))

pub call-steps : (o : Op) → Steps (kind_of o) (code o)
call-steps interrupt = (λ _. tt, λ _. (resultless (of-stamped true), tt))
call-steps (slotted o) = of-slotted o
call-steps (other o) = of_other o
call-steps (aside o) = of-aside o

-- start-up does what any call may
pub start-up-steps : (k : Kind) (c : Config) → Steps k (the-calls.starting c)
start-up-steps k c = resultless (
  (tt, tt),
  λ _. (
    (tt, tt),
    λ _. (
      ((tt, λ _. tt), λ _. (tt, tt)),
      λ _.
          ((tt, tt), λ _. ((tt, tt), λ _. (λ _. tt, λ _. (tt, λ _. (tt, tt))))),
    ),
  ),
)
