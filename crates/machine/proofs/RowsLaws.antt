-- Laws on the definitions of Rows.antt
use Rattle.std.specs.Prelude.{Bool, true, false, not, cond, ◌≡◌, refl, ℕ, eqb}
use Rattle.std.proofs.Common.{true≢false, ap, sym, ◌∙◌}
use Rattle.regs.specs.declared.Dir.{Dir}
use Rattle.state.specs.Driver.{Driver}
use Rattle.script.specs.Tree.{Out, ends}
use Rattle.script.specs.Script.{Script, run}
use Rattle.script.specs.Answers.{Answer, Refused, resultless, staged, named, is_number, is_allocated}
use Rattle.script.specs.Handler.{stamped_interrupt}
use Rattle.script.specs.Calls.{Other, other, other_code, Slotted, slotted, slotted_code, Aside, aside, aside_code}
use Rattle.script.specs.Calls.{aside_slots, interrupt, interrupt_code, calls, numbered}
use Rattle.script.specs.Machine.{Buf, Pending, idle, busy, Machine, ended, begin, during_interrupt}
use Rattle.script_ops.specs.Rings.{St}
use Rattle.script_ops.specs.Concrete.{concrete}
use Rattle.machine.specs.declared.Suspended.{Suspended}
use Rattle.machine.specs.Suspended.{way_of, machine_at, driver_of, drive, halts_as, halts, slots_fit}
use Rattle.answer.specs.Goes.{StepResult}
use Rattle.machine.specs.Rows.{idle_way, is_idle, stop_of, pass_way, may_pass}

pub back : {A : Type 0} {x y z : A} → z ≡ y → x ≡ y → x ≡ z
back p q = q ∙ sym p

-- the run's way is whatever it is
abbrev machine_in : Pending Answer Driver → Driver → Buf → Machine Answer Driver
machine_in w d b = record { under_way_lem = w; st = d; buf = b }

-- what it comes to
abbrev beside_in : Pending Answer Driver → Driver → Buf → Out St Answer → StepResult
beside_in idle d b o = halts o
beside_in (busy i q k) d b o = during_interrupt calls driver_of (machine_in (busy i q k) d b) o

abbrev pub besides : Suspended → Driver → Buf → Out St Answer → StepResult
besides u d b o = beside_in (way_of u) d b o

pub idle-way : (u : Suspended) → is_idle u ≡ true → way_of u ≡ idle
unfolding is_idle
idle-way u h = of-idle (way_of u) h
  where
    of-idle : (w : Pending Answer Driver) → idle_way w ≡ true → w ≡ idle
    of-idle idle h = refl
    of-idle (busy i q k) h = absurd (true≢false (sym h))

-- a call that ends at once where nothing is under way
pub ends-idle : (u : Suspended) (d : Driver) (b : Buf) (a : Answer) → is_idle u ≡ true → (ended a, machine_at u d b)
    ≡ halts (ends a (d, b))
ends-idle u d b a h = ap (λ (w : Pending Answer Driver). (ended a, machine_in w d b)) (idle-way u h)

-- ---- row 3 alone

other-in : (o : Other) (w : Pending Answer Driver) (d : Driver) (a b : Buf)
    → drive (begin (other o)) (machine_in w d a) b
    ≡ cond (idle_way w) (halts (run concrete (other_code o) (d, b))) (ended (Refused 3), machine_in w d b)
other-in o idle d a b = refl
other-in o (busy true q k) d a b = refl
other-in o (busy false q k) d a b = refl

pub other-idle : (o : Other) (u : Suspended) (d : Driver) (a b : Buf) → drive (begin (other o)) (machine_at u d a) b
    ≡ cond (is_idle u) (halts (run concrete (other_code o) (d, b))) (ended (Refused 3), machine_at u d b)
unfolding is_idle
other-idle o u d a b = other-in o (way_of u) d a b

turned : {A : Type 0} (x : Bool) (y z : A) → cond (not x) y z ≡ cond x z y
turned true y z = refl
turned false y z = refl

slotted-in : (o : Slotted) (w : Pending Answer Driver) (d : Driver) (a b : Buf)
    → drive (begin (slotted o)) (machine_in w d a) b ≡ cond (not (slots_fit d b)) (ended (Refused 1), machine_in w d a)
    (cond (idle_way w) (halts (run concrete (slotted_code o) (d, b))) (ended (Refused 3), machine_in w d b))
unfolding slots_fit
slotted-in o idle d a b = refl
slotted-in o (busy true q k) d a b = refl
slotted-in o (busy false q k) d a b = refl

-- with row 1 before it
pub slotted-idle : (o : Slotted) (u : Suspended) (d : Driver) (a b : Buf)
    → drive (begin (slotted o)) (machine_at u d a) b
    ≡ cond (slots_fit d b) (cond (is_idle u) (halts (run concrete (slotted_code o) (d, b)))
    (ended (Refused 3), machine_at u d b))
    (ended (Refused 1), machine_at u d a)
unfolding is_idle
slotted-idle o u d a b = slotted-in o (way_of u) d a b ∙ turned (slots_fit d b) _ _

-- of packets in place: row 1 where the call brings the slots, row 3 unless an interrupt is under way
aside-in : (o : Aside) (w : Pending Answer Driver) (d : Driver) (a b : Buf)
    → drive (begin (aside o)) (machine_in w d a) b
    ≡ cond (cond (aside_slots o) (not (slots_fit d b)) false) (ended (Refused 1), machine_in w d a)
    (cond (pass_way w) (beside_in w d b (run concrete (aside_code o) (d, b))) (ended (Refused 3), machine_in w d b))
unfolding slots_fit
aside-in o idle d a b = refl
aside-in o (busy true q k) d a b = refl
aside-in o (busy false q k) d a b = refl

pub aside-call : (o : Aside) (u : Suspended) (d : Driver) (a b : Buf) → drive (begin (aside o)) (machine_at u d a) b
    ≡ cond (cond (aside_slots o) (not (slots_fit d b)) false) (ended (Refused 1), machine_at u d a)
    (cond (may_pass u) (besides u d b (run concrete (aside_code o) (d, b))) (ended (Refused 3), machine_at u d b))
unfolding may_pass
aside-call o u d a b = aside-in o (way_of u) d a b

ends-beside : (w : Pending Answer Driver) (d after : Driver) (b c : Buf) (x : Answer)
    → beside_in w d b (ends x (after, c)) ≡ (ended x, machine_in w after c)
ends-beside idle d after b c x = refl
ends-beside (busy i q k) d after b c x = refl

-- what is under way stays so
pub besides-ends : (u : Suspended) (d after : Driver) (b c : Buf) (x : Answer) → besides u d b (ends x (after, c))
    ≡ (ended x, machine_at u after c)
besides-ends u d after b c x = ends-beside (way_of u) d after b c x

-- ---- rows 3 and 4

abbrev pub past : ℕ → Suspended → Driver → Buf → Script false Answer → StepResult
past k u d b p = cond (eqb (stop_of (is_idle u) k d.globals.stage) 0) (halts (run concrete p (d, b))) (
  ended (Refused (stop_of (is_idle u) k d.globals.stage)),
  machine_at u d b,
)

-- no row: it is the script's run
pub passed : (k : ℕ) (u : Suspended) (d : Driver) (b : Buf) (p : Script false Answer)
    → eqb (stop_of (is_idle u) k d.globals.stage) 0 ≡ true → past k u d b p ≡ halts (run concrete p (d, b))
passed k u d b p h = ap (λ (x : Bool). cond x (halts (run concrete p (d, b)))
    (ended (Refused (stop_of (is_idle u) k d.globals.stage)), machine_at u d b)) h

idle-of : (x : Bool) (k stage : ℕ) → eqb (stop_of x k stage) 0 ≡ true → x ≡ true
unfolding stop_of
idle-of true k stage h = refl
idle-of false k stage h = absurd (true≢false (sym h))

pub passed-idle : (k : ℕ) (u : Suspended) (d : Driver) → eqb (stop_of (is_idle u) k d.globals.stage) 0 ≡ true
    → way_of u ≡ idle
passed-idle k u d h = idle-way u (idle-of (is_idle u) k d.globals.stage h)

-- no row stops it
abbrev pub Passes : ℕ → Suspended → Driver → Type 0
Passes k u d = eqb (stop_of (is_idle u) k d.globals.stage) 0 ≡ true

-- an answer of a call that ends at once: nothing was under way, nothing is
pub answered-idle : (k : ℕ) (u : Suspended) (d after : Driver) (b : Buf) (a : Answer)
    → Passes k u d → (ended a, machine_at u after b) ≡ halts (ends a (after, b))
answered-idle k u d after b a h = ap (λ (w : Pending Answer Driver).
    (ended a, record { under_way_lem = w; st = after; buf = b })) (passed-idle k u d h)

-- by whether it is idle (x) and at the stage (y)
staged-past : (i x y : Bool) (u : Suspended) (o : Out St Answer) (d : Driver) (b : Buf)
    → is_idle u ≡ x → cond x (halts_as i (cond y o (ends (Refused 4) (d, b)))) (ended (Refused 3), machine_at u d b)
    ≡ cond (eqb (cond x (cond y 0 4) 3) 0) (halts_as i o) (ended (Refused (cond x (cond y 0 4) 3)), machine_at u d b)
staged-past i true true u o d b h = refl
staged-past i true false u o d b h = ap (λ (w : Pending Answer Driver). (ended (Refused 4), machine_in w d b))
    (sym (idle-way u h))
staged-past i false y u o d b h = refl

abbrev idled : Suspended → Driver → Buf → Out St Answer → StepResult
idled u d b o = cond (is_idle u) (halts o) (ended (Refused 3), machine_at u d b)

past_of : (k : ℕ) (p : Script false Answer) (u : Suspended) (d : Driver) (b : Buf)
    → idled u d b (run concrete (staged k p) (d, b)) ≡ past k u d b p
unfolding stop_of
past_of k p u d b = staged-past false (is_idle u) (eqb d.globals.stage k) u (run concrete p (d, b)) d b refl

pub other-call : (o : Other) (k : ℕ) (p : Script false Answer) (u : Suspended) (d : Driver) (a b : Buf)
    → run concrete (other_code o) (d, b) ≡ run concrete (staged k p) (d, b)
    → drive (begin (other o)) (machine_at u d a) b ≡ past k u d b p
other-call o k p u d a b h = other-idle o u d a b ∙ (ap (idled u d b) h ∙ past_of k p u d b)

pub slotted-call : (o : Slotted) (k : ℕ) (p : Script false Answer) (u : Suspended) (d : Driver) (a b : Buf)
    → run concrete (slotted_code o) (d, b) ≡ run concrete (staged k p) (d, b)
    → drive (begin (slotted o)) (machine_at u d a) b ≡ cond (slots_fit d b) (past k u d b p)
    (ended (Refused 1), machine_at u d a)
slotted-call o k p u d a b h = slotted-idle o u d a b
    ∙ ap (λ (x : StepResult). cond (slots_fit d b) x (ended (Refused 1), machine_at u d a))
    (ap (idled u d b) h ∙ past_of k p u d b)

-- of an interrupt
interrupt-in : (w : Pending Answer Driver) (d : Driver) (a b : Buf) → drive (begin interrupt) (machine_in w d a) b
    ≡ cond (idle_way w) (halts_as true (run concrete interrupt_code (d, b))) (ended (Refused 3), machine_in w d b)
interrupt-in idle d a b = refl
interrupt-in (busy true q k) d a b = refl
interrupt-in (busy false q k) d a b = refl

interrupt-idle : (u : Suspended) (d : Driver) (a b : Buf) → drive (begin interrupt) (machine_at u d a) b
    ≡ cond (is_idle u) (halts_as true (run concrete interrupt_code (d, b))) (ended (Refused 3), machine_at u d b)
unfolding is_idle
interrupt-idle u d a b = interrupt-in (way_of u) d a b

abbrev pub past_interrupt : Suspended → Driver → Buf → StepResult
past_interrupt u d b = cond (eqb (stop_of (is_idle u) 2 d.globals.stage) 0)
    (halts_as true (run {i = true} concrete (resultless stamped_interrupt) (d, b))) (
      ended (Refused (stop_of (is_idle u) 2 d.globals.stage)),
      machine_at u d b,
    )

pub interrupt-call : (u : Suspended) (d : Driver) (a b : Buf) → drive (begin interrupt) (machine_at u d a) b
    ≡ past_interrupt u d b
unfolding stop_of
interrupt-call u d a b = interrupt-idle u d a b ∙ staged-past true
    (is_idle u) (eqb d.globals.stage 2) u (run {i = true} concrete (resultless stamped_interrupt) (d, b)) d b refl

-- ---- row 5 behind them, which leaves what is under way as it was

abbrev pub rowed : Bool → Suspended → Driver → Buf → Script false Answer → StepResult
rowed y u d b p = cond (eqb (stop_of (is_idle u) 2 d.globals.stage) 0)
    (cond y (halts (run concrete p (d, b))) (ended (Refused 5), machine_at u d b)) (
      ended (Refused (stop_of (is_idle u) 2 d.globals.stage)),
      machine_at u d b,
    )

-- no row: it is the script's run
pub accepted : (y : Bool) (u : Suspended) (d : Driver) (b : Buf) (p : Script false Answer)
    → eqb (stop_of (is_idle u) 2 d.globals.stage) 0 ≡ true → y ≡ true → rowed y u d b p
    ≡ halts (run concrete p (d, b))
accepted y u d b p h g = ap (λ (x : Bool). cond x (cond y (halts (run concrete p (d, b)))
    (ended (Refused 5), machine_at u d b)) (
      ended (Refused (stop_of (is_idle u) 2 d.globals.stage)),
      machine_at u d b,
    )) h ∙ ap (λ (x : Bool). cond x (halts (run concrete p (d, b))) (ended (Refused 5), machine_at u d b)) g

row_of : (x y z : Bool) (u : Suspended) (o : Out St Answer) (d : Driver) (b : Buf) (r : StepResult)
    → is_idle u ≡ x → cond (eqb (cond x (cond z 0 4) 3) 0) (halts (cond y o (ends (Refused 5) (d, b)))) r
    ≡ cond (eqb (cond x (cond z 0 4) 3) 0) (cond y (halts o) (ended (Refused 5), machine_at u d b)) r
row_of x true z u o d b r h = refl
row_of true false true u o d b r h = ap (λ (w : Pending Answer Driver). (ended (Refused 5), machine_in w d b))
    (sym (idle-way u h))
row_of true false false u o d b r h = refl
row_of false false z u o d b r h = refl

pub past_row : (y : Bool) (o : Out St Answer) (u : Suspended) (d : Driver) (b : Buf) (r : StepResult)
    → cond (eqb (stop_of (is_idle u) 2 d.globals.stage) 0) (halts (cond y o (ends (Refused 5) (d, b)))) r
    ≡ cond (eqb (stop_of (is_idle u) 2 d.globals.stage) 0) (cond y (halts o) (ended (Refused 5), machine_at u d b)) r
unfolding stop_of
past_row y o u d b r = row_of (is_idle u) y (eqb d.globals.stage 2) u o d b r refl

pub numbered-call : (o : Other) (e : ℕ) (p : Script false Answer) (u : Suspended) (d : Driver) (a b : Buf)
    → run concrete (other_code o) (d, b) ≡ run concrete (staged 2 (numbered e p)) (d, b)
    → drive (begin (other o)) (machine_at u d a) b ≡ rowed (is_number e) u d b p
numbered-call o e p u d a b h = other-call o 2 (numbered e p) u d a b h
    ∙ past_row (is_number e) (run concrete p (d, b)) u d b _

pub named-call : (o : Slotted) (dir : Dir) (e : ℕ) (p : Script false Answer) (u : Suspended) (d : Driver) (a b : Buf)
    → run concrete (slotted_code o) (d, b) ≡ run concrete (staged 2 (named dir e p)) (d, b)
    → drive (begin (slotted o)) (machine_at u d a) b
    ≡ cond (slots_fit d b) (rowed (is_allocated d.allocator dir e) u d b p) (ended (Refused 1), machine_at u d a)
named-call o dir e p u d a b h = slotted-call o 2 (named dir e p) u d a b h
    ∙ ap (λ (x : StepResult). cond (slots_fit d b) x (ended (Refused 1), machine_at u d a))
    (past_row (is_allocated d.allocator dir e) (run concrete p (d, b)) u d b _)
