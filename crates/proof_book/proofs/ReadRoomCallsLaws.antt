-- After every list of calls from an accepted start-up a read that is begun has room for a packet of its endpoint's
-- maximum
use Rattle.std.specs.Prelude.{Bool, true, false, ◌&&◌, ◌≡◌, refl, ℕ, zero, ◌%◌, eqb, ltb}
use Rattle.std.proofs.Common.{true≢false, ap, sym, ◌∙◌, arith, ltb-true, ltb-false}
use Rattle.bits.specs.Bit.{bit_is_set}
use Rattle.state.specs.declared.Request.{Request}
use Rattle.state.specs.Driver.{Driver, ep_on}
use Rattle.regs.specs.Enables as enables
use Rattle.alloc.specs.Alloc.{taken_ins, allocated_ins}
use Rattle.alloc.specs.Sound.{Sound}
use Rattle.regs.specs.declared.Dir.TheVariants.{Out}
use Rattle.script.specs.Cells.{EpCore, ep-cell, request-cell}
use Rattle.script.specs.Script.{run, bind, test, ret, get, put, ◌>>◌}
use Rattle.script.specs.Statics.{is_on}
use Rattle.script.specs.Answers.{Answer, Refused, resultless, unless, named, is_number, is_allocated}
use Rattle.script.specs.Endpoint.{begun, enabled_else, arm_read, begin_read}
use Rattle.script.specs.Machine.{Buf, Call, Machine, started}
use Rattle.script.specs.Calls.{Config, Op, other, BeginDataOut, Start, code, calls, start_row}
use Rattle.script.specs.Calls as the-calls
use Rattle.script.specs.Steps.{plain, receiving, starting, kind_of, Steps}
use Rattle.script.proofs.StepsCalls.{call-steps, start-up-steps}
use Rattle.script.specs.StepsKinds.{Begins, a_read, a_data_out, ep0, none, begins}
use Rattle.script.specs.StepsRuns.{Holds, end}
use Rattle.script.specs.StepsRunsLaws.{holds-run}
use Rattle.script.specs.MachineKept.{LentKeeps, Preserves}
use Rattle.script.specs.MachineKept as machine
use Rattle.script.specs.MachineKeptLaws as machine-laws
use Rattle.script_ops.specs.Records.{plain_of}
use Rattle.script_ops.specs.Rings.{St}
use Rattle.script_ops.specs.Concrete.{concrete, put_on}
use Rattle.machine.specs.Suspended.{driver_of, drive}
use Rattle.proof_book.proofs.StartUpLaws.{fresh_kept}
use Rattle.proof_book.specs.HeldLaws.{left, right}
use Rattle.proof_book.specs.ReadRoomLaws.{ReadRoom, put-out, off}
use Rattle.proof_book.specs.ReadRoomScriptsLaws.{room-keeps}

-- ---- the begin of a read

-- what follows its request
arms : (e : ℕ) (p : EpCore) → Steps plain (resultless {i = false} (arm_read e p))
arms e p = (
  tt,
  λ _. (
    ((tt, (tt, ((λ _. tt, λ _. tt), λ _. ((tt, λ _. tt), λ _. (tt, tt))))), λ _. tt),
    λ _.
        (λ _. tt, λ _. tt),
  ),
)

-- a number that is allocated is taken
named-taken : (e : ℕ) (d : Driver) → Sound d.allocator → is_allocated d.allocator Out e ≡ true
    → bit_is_set (taken_ins d.allocator Out) (e % 16) ≡ true
unfolding is_allocated is_number allocated_ins
named-taken e d s h =
    let x = left (ltb 0 e && ltb e 16) (bit_is_set d.allocator.allocated_out e) h in
    let y = ltb-true e 16 (right (ltb 0 e) (ltb e 16) x) in
    let z : e % 16 ≡ e = omega (arith, y) in
    rw z (s.taken Out e ∙ right (ltb 0 e && ltb e 16) (bit_is_set d.allocator.allocated_out e) h)

-- a read's begin (rows 4, 5, 9 and 10)
begin-read : (e n : ℕ) (s : St) → ReadRoom s.0 → Holds (LentKeeps ReadRoom)
    (run {i = false} concrete (begin_read e n) s)
begin-read e n s b = staged_by s b (eqb s.0.globals.stage 2)
  where
    most-by : (s : St) → ReadRoom s.0 → bit_is_set (taken_ins s.0.allocator Out) (e % 16) ≡ true → (u : Bool)
        → ltb n (ep_on s.0 Out e).max_len ≡ u
        → Holds (LentKeeps ReadRoom)
        (run {i = false} concrete (unless u 10 (put (request-cell Out e) (begun n) >> resultless
        (arm_read e (plain_of (ep_on s.0 Out e))))) s)
    most-by s b t true h = end b
    most-by s b t false h =
        let p = plain_of (ep_on s.0 Out e) in
        holds-run (room-keeps plain refl) (resultless {i = false} (arm_read e p)) (arms e p)
        (put_on (request-cell Out e) (begun n) s)
        (put-out e (begun n) (λ _. (t, ltb-false n (ep_on s.0 Out e).max_len h)) b)

    enabled_by : (s : St) → ReadRoom s.0 → bit_is_set (taken_ins s.0.allocator Out) (e % 16) ≡ true → (u : Bool)
        → Holds (LentKeeps ReadRoom)
        (run {i = false} concrete (test u (bind (get (ep-cell Out e))
        (λ p. unless (ltb n p.max_len) 10 (put (request-cell Out e) (begun n) >> resultless (arm_read e p))))
        (ret (Refused 9))) s)
    enabled_by s b t true = most-by s b t (ltb n (ep_on s.0 Out e).max_len) refl
    enabled_by s b t false = end b

    named_by : (s : St) → ReadRoom s.0 → (u : Bool) → is_allocated s.0.allocator Out e ≡ u
        → Holds (LentKeeps ReadRoom)
        (run {i = false} concrete (test u (enabled_else Out e (ret (Refused 9)) (bind (get (ep-cell Out e))
        (λ p. unless (ltb n p.max_len) 10 (put (request-cell Out e) (begun n) >> resultless (arm_read e p)))))
        (ret (Refused 5))) s)
    named_by s b true h = enabled_by s b (named-taken e s.0 b.sound h)
        (enables.is_on s.0.globals.ep_config Out e)
    named_by s b false h = end b

    staged_by : (s : St) → ReadRoom s.0 → (u : Bool)
        → Holds (LentKeeps ReadRoom)
        (run {i = false} concrete (test u (named Out e (enabled_else Out e (ret (Refused 9)) (bind (get (ep-cell Out e))
        (λ p. unless (ltb n p.max_len) 10 (put (request-cell Out e) (begun n) >> resultless (arm_read e p))))))
        (ret (Refused 4))) s)
    staged_by s b true = named_by s b (is_allocated s.0.allocator Out e) refl
    staged_by s b false = end b

-- ---- every call

keeps-room : {o : Op} → Begins o → (s : St) → ReadRoom s.0 → Holds (LentKeeps ReadRoom) (run concrete (code o) s)
keeps-room (a_read e n) s b = begin-read e n s b
keeps-room (a_data_out n first) s b =
    holds-run (room-keeps receiving refl) (code (other (BeginDataOut n first)))
    (call-steps (other (BeginDataOut n first))) s b
keeps-room (ep0 maximum) s b = holds-run (room-keeps starting refl) (code (other (Start maximum)))
    (call-steps (other (Start maximum))) s b
keeps-room (none o h) s b = holds-run (room-keeps (kind_of o) h.no_read) (code o) (call-steps o) s b

-- a start-up that no row stops: no read is begun
fresh-room : (c : Config) (b : Buf) → start_row c b ≡ zero → ReadRoom (driver_of.fresh c)
fresh-room c b row =
    let r = fresh_kept c b row in
    record {
      sound = r.sound;
      reads = λ e h. absurd (true≢false
          (sym h ∙ ap (λ (q : Request). is_on q.begun) (r.same.requests Out e) ∙ off));
    }

preserved : Preserves ReadRoom calls driver_of
preserved = record {
  calls = λ o s b. keeps-room (begins o) s b;
  starts = λ c s b. holds-run (room-keeps plain refl) (the-calls.starting c) (start-up-steps plain c) s b;
  fresh = fresh-room;
}

-- at each call, and in what is under way
abbrev pub RoomKept : Machine Answer Driver → Type 0
RoomKept m = machine.MachineKeeps ReadRoom m

pub start-kept : (c : Config) (m : Machine Answer Driver) (b : Buf) → start_row c b ≡ zero
    → RoomKept (started calls driver_of (λ s. s) c zero m b).1
start-kept c m b row = machine-laws.start-kept preserved c m b row

pub steps : (c : Call Config Op) (m : Machine Answer Driver) → RoomKept m → (b : Buf) → RoomKept (drive c m b).1
steps c m k b = machine-laws.call_kept preserved c m k b
