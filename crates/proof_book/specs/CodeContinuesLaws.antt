-- An interrupt ends, of the Rattle code: whatever calls are made, each as its contract says, it takes at most 4,154
-- continues
use Rattle.std.specs.Prelude.{cond, List, [], ◌∷◌, ◌≡◌, refl, ℕ, ◌+◌, ◌≤◌}
use Rattle.std.proofs.Common.{sym, subst, ap, ◌∙◌}
use Rattle.state.specs.Driver.{Driver}
use Rattle.script.specs.Answers.{Answer}
use Rattle.script.specs.Calls.{Config, Op, interrupt}
use Rattle.script.specs.Machine.{Buf, Event, Machine, Ans, begin, idle}
use Rattle.machine.specs.Suspended.{drive, machine_of}
use Rattle.proof_book.specs.FrontPage.{CallRecord}
use Rattle.proof_book.specs.Served.{serving}
use Rattle.proof_book.specs.CodeReadings.{Steps, events}
use Rattle.proof_book.specs.Continues.{continues, interrupt_continues, made_continues}
use Rattle.proof_book.specs.InterruptEndsLaws.{interrupt-ends}

same-continues : (ms : List CallRecord) (xs : List ℕ) (a : Buf) → Steps xs a ms → made_continues xs a ms
    ≡ interrupt_continues (events ms) (machine_of xs a)
unfolding made_continues interrupt_continues
same-continues [] xs a h = refl
same-continues (m ∷ ms) xs a h =
    let c = continues m.event.call (machine_of xs a) m.event.lent in
    ap (λ (n : ℕ). cond (serving (machine_of xs a).under_way_lem) (c + n) 0)
    (same-continues ms m.bytes m.slots h.1 ∙ ap
    (λ (x : Ans Answer × Machine Answer Driver). interrupt_continues (events ms) x.1) h.0)

-- from any bytes of the state, where nothing is under way: an interrupt, and any calls after it
pub code-4154 : (xs : List ℕ) (a : Buf) → (machine_of xs a).under_way_lem ≡ idle → (i : CallRecord) (slots : Buf) → i.event
    ≡ record { call = begin interrupt; lent = slots }
    → (fs : List CallRecord) → Steps xs a (i ∷ fs) → made_continues i.bytes i.slots fs ≤ 4154
code-4154 xs a w i slots is fs h =
    rw (same-continues fs i.bytes i.slots h.1)
    (subst (λ (x : Ans Answer × Machine Answer Driver). interrupt_continues (events fs) x.1 ≤ 4154) (sym h.0)
    (subst (λ (v : Event Config Op). interrupt_continues (events fs) (drive v.call (machine_of xs a) v.lent).1
    ≤ 4154) (sym is)
    (interrupt-ends (machine_of xs a) w slots (events fs))))
