-- After every list of calls from an accepted start-up a data_out's length is within EP0's maximum
use Rattle.std.specs.Prelude.{Bool, true, false, List, [], ◌∷◌, ◌≡◌, refl, ℕ, zero, suc, ◌≤◌, eqb, ltb}
use Rattle.std.proofs.Common.{ap, sym, ◌∙◌, arith, eqb-true, ltb-false}
use Rattle.state.specs.declared.Control.{Control}
use Rattle.state.specs.Fresh.{fresh_driver}
use Rattle.state.specs.Driver.{Driver}
use Rattle.regs.specs.declared.Dir.TheVariants.{Out}
use Rattle.alloc.specs.declared.Answer as alloc-answer
use Rattle.alloc.specs.declared.Answer.TheVariants as alloc
use Rattle.alloc.specs.Alloc.{allocate_ep0_of}
use Rattle.script.specs.Cells.{control-cell, allocator-cell}
use Rattle.script.specs.Script.{Script, run, bind, test, ret, get, put, act, ◌>>◌, allocate0}
use Rattle.script.specs.Statics.{is_on, with_ready, with_armed, with_len, modify_ep}
use Rattle.script.specs.Answers.{Answer, Refused, resultless, unless}
use Rattle.script.specs.Control.{DATA-OUT, request_of, unless_setup, within_maximum, acks, begin_data_out}
use Rattle.script.specs.Driver.{started_as}
use Rattle.script.specs.Driver as driver
use Rattle.script.specs.Machine.{Buf, Event, start, Machine, started}
use Rattle.script.specs.Calls.{Config, Op, other, BeginRead, code, calls, start_row}
use Rattle.script.specs.Calls as the-calls
use Rattle.script.specs.Steps.{plain, reading, kind_of, Steps}
use Rattle.script.proofs.StepsRequests.{of-acks}
use Rattle.script.proofs.StepsCalls.{call-steps, start-up-steps}
use Rattle.script.specs.StepsKinds.{Begins, a_read, a_data_out, ep0, none, begins}
use Rattle.script.specs.StepsRuns.{Holds, end}
use Rattle.script.specs.StepsRunsLaws.{holds-run}
use Rattle.script.specs.MachineKept.{LentKeeps, MachineKeeps, Preserves}
use Rattle.script.specs.MachineKeptLaws.{start-kept, call_kept}
use Rattle.script_ops.specs.Records.{started_with, allocated_ep0}
use Rattle.script_ops.specs.Rings.{St}
use Rattle.script_ops.specs.Concrete.{concrete, put_on, act_on}
use Rattle.machine.specs.Suspended.{driver_of}
use Rattle.proof_book.specs.Always.{after}
use Rattle.proof_isolation.specs.EqualExcept.{Bounded}
use Rattle.proof_isolation.specs.BoundingLaws.{bounds-keep}

-- EP0's start, which sets its maximum: before it there is no data_out
ep0-control : (maximum : ℕ) (a : alloc-answer.Answer) (d : Driver) → (started_with maximum a d).control ≡ d.control
unfolding started_with
ep0-control maximum (alloc.Refused n) d = refl
ep0-control maximum (alloc.Given e base slots) d = refl

ep0-steps : (maximum : ℕ) (a : alloc-answer.Answer) → Steps plain (started_as {i = false} maximum a)
ep0-steps maximum (alloc.Refused n) = tt
ep0-steps maximum (alloc.Given e base slots) = (
  tt,
  λ _. (
    (((λ _. tt, tt), λ _. ((tt, tt), λ _. ((tt, tt), λ _. ((tt, tt), λ _. (tt, tt))))), λ _. tt),
    λ _.
        (λ _. tt, λ _. tt),
  ),
)

-- EP0's start (row 4): before it no data_out is begun
begin-ep0 : (maximum : ℕ) (s : St) → Bounded s.0 → Holds (LentKeeps Bounded)
    (run {i = false} concrete (driver.start maximum) s)
unfolding allocated_ep0
begin-ep0 maximum s b = by s b (eqb s.0.globals.stage 1) refl
  where
    by : (s : St) → Bounded s.0 → (u : Bool) → eqb s.0.globals.stage 1 ≡ u
        → Holds (LentKeeps Bounded)
        (run {i = false} concrete
        (test u (bind (get allocator-cell) (λ a. act (allocate0 maximum) >> started_as maximum
        (allocate_ep0_of a maximum).answer))
        (ret (Refused 4))) s)
    by s b true h = holds-run (bounds-keep plain refl refl)
        (started_as {i = false} maximum (allocate_ep0_of s.0.allocator maximum).answer)
        (ep0-steps maximum (allocate_ep0_of s.0.allocator maximum).answer) (act_on (allocate0 maximum) s)
        (λ z. absurd (omega (
          arith,
          eqb-true s.0.globals.stage 1 h,
          (b (sym (ap (λ (v : Control). v.sort) (ep0-control maximum (allocate_ep0_of s.0.allocator maximum).answer
              _)) ∙ z)).0,
        )))
    by s b false h = end b

-- a data_out's begin (rows 4, 10 and 9), and what follows its request
abbrev arms : ℕ → Bool → Script false Answer
arms n first = resultless (modify_ep Out 0 (λ s. with_armed 1 (with_len n (with_ready 0 s))) >> acks Out first)

arm-steps : (n : ℕ) (first : Bool) → Steps plain (arms n first)
arm-steps n first = (tt, λ _. ((((λ _. tt, λ _. tt), λ _. of-acks plain Out first), λ _. tt), λ _. (λ _. tt, λ _. tt)))

begin-out : (n : ℕ) (first : Bool) (s : St) → Bounded s.0
    → Holds (LentKeeps Bounded) (run {i = false} concrete (begin_data_out n first) s)
begin-out n first s b = staged_by s b (eqb s.0.globals.stage 2) refl
  where
    setup-by : (s : St) → Bounded s.0 → s.0.globals.stage ≡ 2 → n ≤ s.0.globals.ep0_max → (u : Bool)
        → Holds (LentKeeps Bounded) (run {i = false} concrete
        (unless u 9 (put control-cell (request_of DATA-OUT n) >> arms n first)) s)
    setup-by s b h k true = end b
    setup-by s b h k false =
        holds-run (bounds-keep plain refl refl) (arms n first) (arm-steps n first)
        (put_on control-cell (request_of DATA-OUT n) s) (λ _. (h, k))

    within_by : (s : St) → Bounded s.0 → s.0.globals.stage ≡ 2 → (u : Bool) → ltb s.0.globals.ep0_max n ≡ u
        → Holds (LentKeeps Bounded) (run {i = false} concrete
        (unless u 10 (unless_setup (put control-cell (request_of DATA-OUT n) >> arms n first))) s)
    within_by s b h true w = end b
    within_by s b h false w = setup-by s b h (ltb-false s.0.globals.ep0_max n w)
        (is_on s.0.globals.setup_ready)

    staged_by : (s : St) → Bounded s.0 → (u : Bool) → eqb s.0.globals.stage 2 ≡ u → Holds (LentKeeps Bounded)
        (run {i = false} concrete
        (test u (within_maximum n (unless_setup (put control-cell (request_of DATA-OUT n) >> arms n first)))
        (ret (Refused 4))) s)
    staged_by s b true h = within_by s b (eqb-true s.0.globals.stage 2 h) (ltb s.0.globals.ep0_max n) refl
    staged_by s b false h = end b

-- ---- every call

keeps-bounds : {o : Op} → Begins o → (s : St) → Bounded s.0 → Holds (LentKeeps Bounded) (run concrete (code o) s)
keeps-bounds (a_read e n) s b = holds-run (bounds-keep reading refl refl) (code (other (BeginRead e n)))
    (call-steps (other (BeginRead e n))) s b
keeps-bounds (a_data_out n first) s b = begin-out n first s b
keeps-bounds (ep0 maximum) s b = begin-ep0 maximum s b
keeps-bounds (none o h) s b = holds-run (bounds-keep (kind_of o) h.no_data_out h.no_start) (code o) (call-steps o)
    s b

fresh-bounded : (c : Config) → Bounded (driver_of.fresh c)
unfolding fresh_driver
fresh-bounded c z = absurd (omega (arith, z))

preserved : Preserves Bounded calls driver_of
preserved = record {
  calls = λ o s b. keeps-bounds (begins o) s b;
  starts = λ c s b. holds-run (bounds-keep plain refl refl) (the-calls.starting c) (start-up-steps plain c) s b;
  fresh = λ c b row. fresh-bounded c;
}

always : (es : List (Event Config Op)) (m : Machine Answer Driver) → MachineKeeps Bounded m
    → MachineKeeps Bounded (after calls driver_of es m)
always [] m k = k
always (e ∷ es) m k = always es _ (call_kept preserved e.call m k e.lent)

-- after every list of calls from an accepted start-up, from whatever was before
pub after-bounded : (c : Config) (b : Buf) → start_row c b ≡ zero
    → (es : List (Event Config Op)) (m : Machine Answer Driver)
    → Bounded (after calls driver_of (record { call = start c; lent = b } ∷ es) m).st
after-bounded c b row es m = by (start_row c b) row
  where
    by : (n : ℕ) → n ≡ zero → Bounded (after calls driver_of es (started calls driver_of (λ s. s) c n m b).1).st
    by zero e = (always es _ (start-kept preserved c m b row)).state
    by (suc n) e = absurd (omega (arith, e))
