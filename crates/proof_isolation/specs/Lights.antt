-- The others' opens, closes and queues, the questions and the chip's stores: what each does to the state, and of what
-- its answer is made. An interrupt's operations leave both, except another endpoint's arrival or completion
use Rattle.std.specs.Prelude.{Bool, true, false, not, cond, ◌&&◌, List, [], ℕ, length, eqb, ltb}
use Rattle.regs.specs.Enables as enables
use Rattle.regs.specs.declared.Dir.TheVariants.{Out, In}
use Rattle.state.specs.declared.EpState.{EpState}
use Rattle.state.specs.declared.Allocator.{Allocator}
use Rattle.state.specs.Driver.{Driver, ep_on, with_on}
use Rattle.ring.specs.Slot.{has_waiting}
use Rattle.ring.specs.Out.{opened_of, closed_of}
use Rattle.script.specs.Statics.{is_on}
use Rattle.script.specs.Answers.{Answer, Refused, Shown, ok, is_allocated}
use Rattle.script.specs.Machine.{Ans, ended, told}
use Rattle.answer.specs.Questions.{question_of}
use Rattle.script_ops.specs.Rings.{St, waiting_on, room_on, opened_on, next_stamp, oldest_on, enqueue_on}
use Rattle.proof_isolation.specs.Stores.{patched}
use Rattle.proof_isolation.specs.Late.{Light, opens, closes, queues, asks_of, stored}

-- ---- what it does to the state

-- the record of the endpoint that is opened, closed
abbrev pub opening : EpState → EpState
opening r = cond (has_waiting r) (opened_of r) r

abbrev pub closing : EpState → EpState
closing r = cond (is_on r.«open») (closed_of r) r

-- OUT e's record changed
abbrev pub change_of : (EpState → EpState) → ℕ → Driver → Driver
change_of g e d = with_on d Out e (g (ep_on d Out e))

abbrev pub done_by : Light → St → St
done_by (opens e) s = (change_of opening e s.0, s.1)
done_by (closes e) s = (change_of closing e s.0, s.1)
done_by (queues e bs) s = enqueue_on e bs s
done_by (asks_of q) s = s
done_by (stored p) s = (s.0, patched p s.1)

-- ---- of what its answer is made

pub record AnswerParts : Type 0 where
  pub stage : ℕ
  pub allocator : Allocator
  pub iso : ℕ
  pub any : Bool
  pub bytes : List ℕ
  pub number : ℕ

abbrev pub seen : Light → St → AnswerParts
seen (opens e) s = record {
  stage = s.0.globals.stage;
  allocator = s.0.allocator;
  iso = (ep_on s.0 Out e).iso;
  any = waiting_on s.0 Out e;
  bytes = oldest_on s.0 e s.1;
  number = next_stamp s.0 e;
}
seen (closes e) s = record {
  stage = s.0.globals.stage;
  allocator = s.0.allocator;
  iso = 0;
  any = opened_on s.0 e;
  bytes = [];
  number = 0;
}
seen (queues e bs) s = record {
  stage = s.0.globals.stage;
  allocator = s.0.allocator;
  iso = (ep_on s.0 In e).iso;
  any = room_on s.0 e (length bs);
  bytes = [];
  number = s.0.globals.ep_config;
}
seen (asks_of q) s = record {
  stage = s.0.globals.stage;
  allocator = s.0.allocator;
  iso = 0;
  any = false;
  bytes = [];
  number = question_of q s.0;
}
seen (stored p) s = record {
  stage = s.0.globals.stage;
  allocator = s.0.allocator;
  iso = 0;
  any = false;
  bytes = [];
  number = 0;
}

-- ---- its answer, and whether it changes anything

abbrev pub open_answer : ℕ → AnswerParts → Answer
open_answer e z = cond (eqb z.stage 2)
    (cond (is_allocated z.allocator Out e) (cond (not (is_on z.iso)) (Refused 11)
    (cond z.any (Shown z.bytes z.number) (Refused 12))) (Refused 5))
    (Refused 4)

abbrev pub close_answer : ℕ → AnswerParts → Answer
close_answer e z = cond (eqb z.stage 2) (cond (is_allocated z.allocator Out e) (cond z.any ok (Refused 14))
    (Refused 5)) (Refused 4)

-- what a queue is answered past rows 4, 5, 9 and 10
abbrev pub queued_answer : AnswerParts → Answer
queued_answer z = cond (not (is_on z.iso)) (Refused 11) (cond z.any ok (Refused 13))

abbrev pub queue_answer : ℕ → ℕ → AnswerParts → Answer
queue_answer e n z = cond (eqb z.stage 2)
    (cond (is_allocated z.allocator In e)
    (cond (enables.is_on z.number In e) (cond (ltb z.allocator.size n) (Refused 10) (queued_answer z)) (Refused 9))
    (Refused 5))
    (Refused 4)

abbrev pub answered : Light → AnswerParts → Ans Answer
answered (opens e) z = ended (open_answer e z)
answered (closes e) z = ended (close_answer e z)
answered (queues e bs) z = ended (queue_answer e (length bs) z)
answered (asks_of q) z = told z.number
answered (stored p) z = told 0

abbrev pub taken : Light → AnswerParts → Bool
taken (opens e) z = eqb z.stage 2 && (is_allocated z.allocator Out e && (not (not (is_on z.iso)) && z.any))
taken (closes e) z = eqb z.stage 2 && (is_allocated z.allocator Out e && z.any)
taken (queues e bs) z = eqb z.stage 2 && (is_allocated z.allocator In e && (enables.is_on z.number In e
    && (not (ltb z.allocator.size (length bs)) && (not (not (is_on z.iso)) && z.any))))
taken (asks_of q) z = false
taken (stored p) z = true

abbrev pub done_at : Light → St → St
done_at o s = cond (taken o (seen o s)) (done_by o s) s
