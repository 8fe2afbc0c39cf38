-- Each call's script: what a refusal by it leaves
use Rattle.std.specs.Prelude.{Bool, true, false, cond, List, ◌≡◌, refl, ℕ, eqb}
use Rattle.std.proofs.Common.{ap, sym, ◌∙◌, inl}
use Rattle.regs.specs.declared.Dir.{Dir}
use Rattle.regs.specs.declared.Dir.TheVariants.{Out, In}
use Rattle.state.specs.Driver.{Driver, ep_on, with_allocator}
use Rattle.alloc.specs.declared.Answer as alloc-answer
use Rattle.alloc.specs.declared.Answer.TheVariants as alloc
use Rattle.alloc.specs.Alloc.{allocate_of, allocate_ep0_of}
use Rattle.alloc.specs.Run as run
use Rattle.alloc.proofs.RowsLaws.{keeps}
use Rattle.descriptor.specs.declared.Answer as reading-answer
use Rattle.descriptor.specs.declared.Answer.TheVariants as reading
use Rattle.descriptor.specs.Reading.{reading_of}
use Rattle.script.specs.Script.{ret}
use Rattle.script.specs.Answers.{Refused}
use Rattle.script.specs.Driver.{allocated_as, started_as}
use Rattle.script.specs.AllocateAll.{allocate_read}
use Rattle.script.specs.Calls.{Op, interrupt, slotted, other, aside, code, Slotted, SetEnabled, PollRead, BeginWrite}
use Rattle.script.specs.Calls.{PollWrite, PollDataOut, BeginDataIn, slotted_code, Other, Allocate, AllocateAll, Start}
use Rattle.script.specs.Calls.{BusPoll, BusEnable, BusDisable, Microframe, SetStalled, IsStalled, SetPaced, Advance}
use Rattle.script.specs.Calls.{BeginRead, BeginSetup, PollSetup, PollDataIn, BeginAccept, PollAccept, BeginReject}
use Rattle.script.specs.Calls.{BeginDataOut, BeginAcceptSetAddress, other_code, Aside, Open, Close, Queue, aside_code}
use Rattle.script_ops.specs.Rings.{St}
use Rattle.script_ops.specs.Records.{given_to, allocated_on, started_with, allocated_ep0}
use Rattle.proof_refusals.specs.Left.{none, data-in, poll_of, request_ended, unready, left_by}
use Rattle.proof_refusals.specs.Outcomes.{LeavesByRow, tests, each, picks, after, whatever, refuses, answers}
use Rattle.proof_refusals.specs.Outcomes.{begins}

-- ---- calls that bring the slots

pub slotted-leaves : (o : Slotted) (s : St) → LeavesByRow (poll_of (slotted o)) s s (slotted_code o)
slotted-leaves (SetEnabled d e on) s = after refl (each (after refl (each begins (refuses refl))) (refuses refl))
slotted-leaves (PollRead e n) s = after refl (each (after refl
    (each (after refl (each (refuses refl) (each (after refl (each
    (after refl (each (after refl (each (after refl (after refl (after refl (answers tt)))) (answers tt)))
    (after refl (refuses refl))))
    (each (after refl (each (after refl (refuses refl)) (after refl (after refl (answers tt)))))
    (after refl (each (answers tt) (after refl (refuses refl)))))))
    (after refl (after refl (refuses refl)))))) (refuses refl))) (refuses refl))
slotted-leaves (BeginWrite e bs) s = after refl
    (each (after refl (each (after refl (each (after refl (each (refuses refl) (after refl begins))) (refuses refl)))
    (refuses refl)))
    (refuses refl))
slotted-leaves (PollWrite e bs) s = after refl (each (after refl
    (each (after refl (each (refuses refl) (each (after refl (each
    (after refl (each (after refl (each (after refl (after refl (answers tt))) (answers tt)))
    (after refl (refuses refl))))
    (each (after refl (after refl (answers tt))) (after refl (each (answers tt) (after refl (refuses refl)))))))
    (after refl (after refl (refuses refl)))))) (refuses refl))) (refuses refl))
slotted-leaves (PollDataOut n) s = after refl (each (after refl (each (each (after refl (each
    (after refl (each (after refl (refuses refl)) (after refl (after refl (answers tt)))))
    (after refl (each (after refl (refuses refl)) (answers tt)))))
    (after refl (after refl (refuses refl)))) (refuses refl))) (refuses refl))
slotted-leaves (BeginDataIn bs first last) s =
    after refl (each (after refl (each (refuses refl) (after refl (each (refuses refl) (after refl begins)))))
    (refuses refl))

-- ---- allocations

-- no poll: nothing changes, whatever the number
pub unpolled : (n : ℕ) (d : Driver) → left_by none n d ≡ d
unpolled n d = same (eqb n 9) (eqb n 10)
  where
    same : (x y : Bool) → cond x d (cond y d d) ≡ d
    same true y = refl
    same false true = refl
    same false false = refl

refused-here : (n : ℕ) (s : St) → s ≡ (left_by none n s.0, s.1)
refused-here n s = ap (λ (d : Driver). (d, s.1)) (sym (unpolled n s.0))

refuses-here : {s : St} {n : ℕ} → LeavesByRow none s s {i = false} (ret (Refused n))
refuses-here {s} {n} = refuses (refused-here n s)

allocated-leaves : {s t : St} (d : Dir) (kind maximum : ℕ) (x : alloc-answer.Answer)
    → ((n : ℕ) → x ≡ alloc.Refused n → t ≡ s) → LeavesByRow none s t {i = false} (allocated_as d kind maximum x)
allocated-leaves {s} d kind maximum (alloc.Refused n) h = refuses (h n refl ∙ refused-here n s)
allocated-leaves d kind maximum (alloc.Given ep base slots) h = begins

started-leaves : {s t : St} (maximum : ℕ) (x : alloc-answer.Answer)
    → ((n : ℕ) → x ≡ alloc.Refused n → t ≡ s) → LeavesByRow none s t {i = false} (started_as maximum x)
started-leaves {s} maximum (alloc.Refused n) h = refuses (h n refl ∙ refused-here n s)
started-leaves maximum (alloc.Given ep base slots) h = begins

allocation-kept : (d : Driver) (dir : Dir) (kind address maximum interval n : ℕ)
    → (allocate_of d.allocator kind address maximum dir).answer ≡ alloc.Refused n
    → allocated_on d dir kind address maximum interval ≡ d
unfolding allocated_on given_to
allocation-kept d dir kind address maximum interval n q =
    ap (λ (x : alloc-answer.Answer). given_to dir kind maximum interval x
    (with_allocator d (allocate_of d.allocator kind address maximum dir).after)) q
    ∙ ap (with_allocator d) (keeps d.allocator (run.endpoint kind address maximum dir) n q)

start-kept : (d : Driver) (maximum n : ℕ) → (allocate_ep0_of d.allocator maximum).answer ≡ alloc.Refused n
    → allocated_ep0 d maximum ≡ d
unfolding allocated_ep0 started_with
start-kept d maximum n q =
    ap (λ (x : alloc-answer.Answer). started_with maximum x
    (with_allocator d (allocate_ep0_of d.allocator maximum).after)) q
    ∙ ap (with_allocator d) (keeps d.allocator (run.ep0 maximum) n q)

read-leaves : (s : St) (bytes : List ℕ) (x : reading-answer.Answer)
    → LeavesByRow none s s {i = false} (allocate_read bytes x)
read-leaves s bytes (reading.Refused n) = refuses-here
read-leaves s bytes reading.Listed = after refl (each (whatever (λ _ _. begins)) refuses-here)

-- ---- the others

pub other-leaves : (o : Other) (s : St) → LeavesByRow (poll_of (other o)) s s (other_code o)
other-leaves (Allocate d kind address maximum interval) s = after refl (each
    (after refl (after refl (allocated-leaves d kind maximum
    (allocate_of s.0.allocator kind address maximum d).answer
    (λ n q. ap (λ (x : Driver). (x, s.1)) (allocation-kept s.0 d kind address maximum interval n q)))))
    (refuses refl))
other-leaves (AllocateAll bytes) s = after refl (each (read-leaves s bytes (reading_of bytes).answer) (refuses refl))
other-leaves (Start maximum) s = after refl (each
    (after refl (after refl (started-leaves maximum (allocate_ep0_of s.0.allocator maximum).answer
    (λ n q. ap (λ (x : Driver). (x, s.1)) (start-kept s.0 maximum n q)))))
    (refuses refl))
other-leaves BusPoll s = after refl (each begins (refuses refl))
other-leaves BusEnable s = after refl (each begins (refuses refl))
other-leaves BusDisable s = after refl (each begins (refuses refl))
other-leaves Microframe s = after refl (each begins (refuses refl))
other-leaves (SetStalled d e on) s = after refl (each (each begins (after refl (each begins (refuses refl))))
    (refuses refl))
other-leaves (IsStalled d e) s = after refl (each (each begins (after refl (each begins (refuses refl))))
    (refuses refl))
other-leaves (SetPaced e on) s = after refl (each (each (whatever (λ _ _. answers (inl refl))) (refuses refl))
    (refuses refl))
other-leaves (Advance e) s = after refl (each (each begins (refuses refl)) (refuses refl))
other-leaves (BeginRead e n) s = after refl
    (each (after refl (each (after refl (each (after refl (each (refuses refl) (after refl begins))) (refuses refl)))
    (refuses refl)))
    (refuses refl))
other-leaves BeginSetup s = after refl (each (after refl begins) (refuses refl))
other-leaves PollSetup s = after refl
    (each (after refl (each (after refl (each (after refl (after refl (answers tt))) (answers tt))) (refuses refl)))
    (refuses refl))
other-leaves PollDataIn s = after refl (each (after refl (each (tests
    (λ w. after refl (each
    (after refl (after refl (after refl (picks (eqb (ep_on s.0 Out 0).len 0) (answers tt)
    (refuses (ap cleared (sym w)))))))
    (after refl (each (after refl (refuses refl)) (after refl (answers tt))))))
    (λ w. after refl (each
    (each
    (after refl (each
    (after refl (after refl (after refl (picks (eqb (ep_on s.0 Out 0).len 0) (answers tt)
    (refuses (ap cleared (sym w)))))))
    (after refl (each (after refl (refuses refl)) (after refl (answers tt))))))
    (after refl (after refl (answers tt))))
    (after refl (each (after refl (refuses refl)) (answers tt))))))
    (refuses refl))) (refuses refl))
  where
    cleared : Bool → St
    cleared x = (request_ended data-in (cond x (unready Out 0 s.0) (unready In 0 (unready Out 0 s.0))), s.1)
other-leaves BeginAccept s = after refl (each (after refl (each (refuses refl) (after refl begins))) (refuses refl))
other-leaves PollAccept s = after refl (each (after refl (each (after refl (each
    (after refl (after refl (each begins (answers tt))))
    (after refl (each (after refl (refuses refl)) (answers tt)))))
    (refuses refl))) (refuses refl))
other-leaves BeginReject s = after refl (each (after refl begins) (refuses refl))
other-leaves (BeginDataOut n first) s =
    after refl (each (after refl (each (refuses refl) (after refl (each (refuses refl) (after refl begins)))))
    (refuses refl))
other-leaves (BeginAcceptSetAddress a) s = after refl (each (after refl (each (refuses refl) (after refl begins)))
    (refuses refl))

pub aside-leaves : (o : Aside) (s : St) → LeavesByRow none s s (aside_code o)
aside-leaves (Open e) s = after refl (each (after refl (each (after refl (each (refuses refl)
    (after refl (each (after refl (after refl (after refl (answers tt)))) (refuses refl))))) (refuses refl)))
    (refuses refl))
aside-leaves (Close e) s = after refl
    (each (after refl (each (after refl (each (after refl (answers (inl refl))) (refuses refl))) (refuses refl)))
    (refuses refl))
aside-leaves (Queue e bs) s = after refl (each (after refl (each (after refl (each (after refl (each (refuses refl)
    (after refl (each (refuses refl) (after refl (each (after refl (answers (inl refl))) (refuses refl)))))))
    (refuses refl))) (refuses refl))) (refuses refl))

pub code-leaves : (o : Op) (s : St) → LeavesByRow (poll_of o) s s (code o)
code-leaves interrupt s = after refl (each begins (refuses refl))
code-leaves (slotted o) s = slotted-leaves o s
code-leaves (other o) s = other-leaves o s
code-leaves (aside o) s = aside-leaves o s
