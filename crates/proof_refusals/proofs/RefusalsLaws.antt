-- A refusal changes nothing but what document 01 names: of every call on the machine that lent bytes are, and of the
-- code, each of whose calls is a step of it
use Rattle.std.specs.Prelude.{Bool, true, false, cond, List, ◌≡◌, refl, ℕ, zero, suc}
use Rattle.std.proofs.Common.{inr, ap, subst, sym, ◌∙◌}
use Rattle.state.specs.Driver.{Driver}
use Rattle.state.specs.State.{view, saved}
use Rattle.state.specs.Fresh as fresh
use Rattle.script.specs.Tree.{Out, ends, asks, bind_out}
use Rattle.script.specs.Script.{ret, ◌>>◌, run, no_wakes}
use Rattle.script.specs.Statics.{flag}
use Rattle.script.specs.Driver.{new}
use Rattle.script.specs.Answers.{Answer, Refused, End, NotYet, Done, Shown}
use Rattle.script.specs.Calls.{Config, Op, calls, start_row, passes, irq, code}
use Rattle.script.specs.Machine.{Buf, Call, start, begin, continue, question, Pending, idle, busy, Machine, Awaits, Ans}
use Rattle.script.specs.Machine.{ended}
use Rattle.script.specs.Machine.{during_interrupt, begun, continued, started, stay, over}
use Rattle.script_ops.specs.Rings.{St}
use Rattle.script_ops.specs.Concrete.{concrete}
use Rattle.driver.specs.Points as driver
use Rattle.bus.specs.Points as bus
use Rattle.control.specs.Points as control
use Rattle.endpoint.specs.Points as endpoint
use Rattle.isochronous.specs.Advance as advance
use Rattle.interrupt.specs.Points as handler
use Rattle.machine.specs.declared.Suspended.{Suspended}
use Rattle.machine.specs.declared.Suspended.TheVariants as under
use Rattle.machine.specs.Suspended.{decode, finish, way_of, machine_at, machine_of, driver_of, drive, halts_as, slots_fit}
use Rattle.proof_book.specs.FrontPage.{CallRecord, CallStep}
use Rattle.proof_refusals.specs.Left.{Poll, poll_of, left_by, left, buffers_row}
use Rattle.proof_refusals.specs.Outcomes.{AnswerLeaves, OutLeaves}
use Rattle.proof_refusals.proofs.Scripts.{code-leaves}
use Rattle.proof_refusals.specs.Refusals.{Called, machine_in, AnsIs, Is}

chosen : (f : ℕ → Machine Answer Driver) (c : Bool) (x y : Called) → Is f x → Is f y → Is f (cond c x y)
chosen f true x y h g = h
chosen f false x y h g = g

-- ---- begins and polls

ends_is : (w : Pending Answer Driver) (x : Poll) (d : Driver) (b : Buf) (a : Answer) (t : St)
    → AnswerLeaves x (d, b) a t → Is (λ n. machine_in w (left_by x n d) b) (ended a, machine_in w t.0 t.1)
ends_is w x d b (Refused n) t h = ap (λ (u : St). machine_in w u.0 u.1) h
ends_is w x d b (End n v) t h = h
ends_is w x d b NotYet t h = tt
ends_is w x d b (Done bs) t h = tt
ends_is w x d b (Shown bs k) t h = tt

halt-is : (i : Bool) (x : Poll) (d : Driver) (b : Buf) (o : Out St Answer) → OutLeaves x (d, b) o
    → Is (λ n. machine_in idle (left_by x n d) b) (halts_as i o)
halt-is i x d b (ends a t) h = ends_is idle x d b a t h
halt-is i x d b (asks q t k) h = tt

beside-is : (w : Pending Answer Driver) (x : Poll) (d : Driver) (b : Buf) (o : Out St Answer)
    → OutLeaves x (d, b) o → Is (λ n. machine_in w (left_by x n d) b) (during_interrupt calls driver_of (machine_in w d b) o)
beside-is w x d b (ends a t) h = ends_is w x d b a t h
beside-is w x d b (asks q t k) h = refl

begun-is : (o : Op) (w : Pending Answer Driver) (d : Driver) (a b : Buf)
    → Is (λ n. machine_in w (left_by (poll_of o) n d) b) (begun calls driver_of (λ s. s) o (machine_in w d a) w b)
begun-is o idle d a b = halt-is (irq o) (poll_of o) d b (run concrete (code o) (d, b)) (code-leaves o (d, b)).leaves
begun-is o (busy i q k) d a b = chosen (λ n. machine_in (busy i q k) (left_by (poll_of o) n d) b) (cond i (passes o) false)
    (during_interrupt calls driver_of (machine_in (busy i q k) d b) (run concrete (code o) (d, b)))
    (stay calls driver_of 3 (machine_in (busy i q k) d b))
    (beside-is (busy i q k) (poll_of o) d b (run concrete (code o) (d, b)) (code-leaves o (d, b)).leaves) refl

-- row 1, or the call
begin-is : (o : Op) (w : Pending Answer Driver) (d : Driver) (a b : Buf) (misfits : Bool)
    → Is (λ n. machine_in w (left_by (poll_of o) n d) (cond misfits a b))
    (cond misfits (stay calls driver_of 1 (machine_in w d a)) (begun calls driver_of (λ s. s) o (machine_in w d a) w b))
begin-is o w d a b true = refl
begin-is o w d a b false = begun-is o w d a b

-- ---- continue

-- an operation under way ends with no refusal
finishes : (f : ℕ → Machine Answer Driver) (i : Bool) (o : Out St ℕ)
    → Is f (halts_as i (bind_out o (λ n t. run concrete (finish n) t)))
finishes f i (ends n t) = inr refl
finishes f i (asks q t k) = tt

busy-is : (v : ℕ) (i : Bool) (q : Awaits) (r : ℕ → St → Out St ℕ) (d : Driver) (a b : Buf)
    → let w : Pending Answer Driver = busy i q (λ v t. bind_out (r v t) (λ n u. run concrete (finish n) u)) in
    Is (λ n. machine_in w d b) (continued calls driver_of (λ s. s) v (machine_in w d a) w b)
busy-is v i q r d a b =
    let w : Pending Answer Driver = busy i q (λ v t. bind_out (r v t) (λ n u. run concrete (finish n) u)) in
    chosen (λ n. machine_in w d b) (over calls q v)
    (stay calls driver_of 16 (machine_in w d b)) (halts_as i (bind_out (r v (d, b)) (λ n u. run concrete (finish n) u)))
    refl (finishes (λ n. machine_in w d b) i (r v (d, b)))

goes_on_lem : (v : ℕ) (u : Suspended) (d : Driver) (a b : Buf)
    → Is (λ n. machine_at u d b) (continued calls driver_of (λ s. s) v (machine_at u d a) (way_of u) b)
goes_on_lem v under.Idle d a b = refl
goes_on_lem v (under.Driver p) d a b = busy-is v false (driver.awaits_at p) (λ v t. run concrete (driver.denote p v) t) d a b
goes_on_lem v (under.Bus p) d a b = busy-is v false (bus.awaits_at p) (λ v t. bus.denote p v t) d a b
goes_on_lem v (under.Control p) d a b = busy-is v false (control.awaits_at p) (λ v t. run concrete (control.denote p v) t) d
    a b
goes_on_lem v (under.Endpoint p) d a b = busy-is v false (endpoint.awaits_at p) (λ v t. run concrete (endpoint.denote p v) t)
    d a b
goes_on_lem v (under.Advance p) d a b = busy-is v false (advance.awaits_at p) (λ v t. advance.denote p v t) d a b
goes_on_lem v (under.Interrupt p) d a b = busy-is v true (handler.awaits_at p) (λ v t. handler.denote p v t) d a b

go-is : (v : ℕ) (u : Suspended) (d : Driver) (a b : Buf) (misfits : Bool)
    → Is (λ n. machine_at u d (cond misfits a b))
    (cond misfits (stay calls driver_of 1 (machine_at u d a))
    (continued calls driver_of (λ s. s) v (machine_at u d a) (way_of u) b))
go-is v u d a b true = refl
go-is v u d a b false = goes_on_lem v u d a b

-- ---- start-up

start_is : (c : Config) (row : ℕ) (m : Machine Answer Driver) (b : Buf)
    → Is (λ n. m) (started calls driver_of (λ s. s) c row m b)
start_is c zero m b = finishes (λ n. m) false (run {i = false} concrete (do
  new c.callback
  ret {A = ℕ} 0) (concrete.act no_wakes (fresh.fresh_driver c.size c.count (flag c.callback), b)))
start_is c (suc n) m b = refl

-- ---- every call

pub call-is : (c : Call Config Op) (u : Suspended) (d : Driver) (a b : Buf)
    → Is (λ n. machine_at u (left c n d) (cond (buffers_row c d b) a b)) (drive c (machine_at u d a) b)
unfolding slots_fit
call-is (start c) u d a b = start_is c (start_row c b) (machine_at u d a) b
call-is (begin o) u d a b = begin-is o (way_of u) d a b (buffers_row (begin o) d b)
call-is (continue v) u d a b = go-is v u d a b (buffers_row (continue v) d b)
call-is (question q) u d a b = tt

-- the state is as it was, or as `left` says; what is under way is as it was; the slot buffer is the one lent, or the
-- run's own
pub refusal : (c : Call Config Op) (u : Suspended) (d : Driver) (a b : Buf) (n : ℕ) → (drive c (machine_at u d a) b).0
    ≡ ended (Refused n)
    → (drive c (machine_at u d a) b).1 ≡ machine_at u (left c n d) (cond (buffers_row c d b) a b)
refusal c u d a b n q =
    subst (λ (x : Ans Answer). AnsIs (λ n. machine_at u (left c n d) (cond (buffers_row c d b) a b)) x
    (drive c (machine_at u d a) b).1) q
    (call-is c u d a b)

-- of the code: a call that did as its contract says, and answered refusal n
pub code-refusal : (xs : List ℕ) (a : Buf) (m : CallRecord) → CallStep xs a m → (n : ℕ) → m.answer ≡ ended (Refused n)
    → machine_of m.bytes m.slots ≡ machine_at (decode (saved xs)) (left m.event.call n (view xs))
    (cond (buffers_row m.event.call (view xs) m.event.lent) a m.event.lent)
code-refusal xs a m did n q = ap (λ (x : Called). x.1) did
    ∙ refusal m.event.call (decode (saved xs)) (view xs) a m.event.lent n (sym (ap (λ (x : Called). x.0) did)
    ∙ q)
