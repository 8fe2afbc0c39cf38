-- Each of the four runs as it would alone, but for the enablings that were turned down: to the driver these are as a
-- question. So demand 3 holds of each
-- (proof_book/proofs/Demand3Laws.antt speaks of every list of calls), and where none was turned down the driver's calls
-- are those of the Rust
use Rattle.std.specs.Prelude.{Bool, true, false, cond, List, [], ◌∷◌, ◌≡◌, refl, ℕ, ◌%◌, eqb}
use Rattle.std.proofs.Common.{ap, sym, ◌∙◌, eqb-true}
use Rattle.state.specs.Driver.{Driver}
use Rattle.script.specs.Answers.{Answer, Refused}
use Rattle.script.specs.Calls.{Config, Op, calls}
use Rattle.script.specs.Machine.{Buf, Call, question, pending, Event, Machine, ended, lent_to}
use Rattle.machine.specs.Suspended.{driver_of, drive}
use Rattle.answer.specs.Goes.{StepResult}
use Rattle.proof_book.specs.Always as alone
use Rattle.calls.specs.Sharing.{sort_of, time_after, turned_down, settled, shared_call}
use Rattle.proof_bus_time.specs.Four.{Four, Turn, next, after}

-- was it turned down?
abbrev pub is_turned_down : Turn → Four → Bool
is_turned_down x f = let m = f.driver (x.who % 4) in
    turned_down x.who (sort_of x.event.call) (drive x.event.call m x.event.lent).0 m.st f.time

-- the call as the driver gets it
abbrev pub passed_on : Turn → Four → Event Config Op
passed_on x f = record { call = cond (is_turned_down x f) (question (pending 0)) x.event.call; lent = x.event.lent }

-- those of driver i
abbrev pub own : ℕ → List Turn → Four → List (Event Config Op)
own i [] f = []
own i (x ∷ xs) f = cond (eqb i (x.who % 4)) (passed_on x f ∷ own i xs (next x f)) (own i xs (next x f))

one-call : (i : ℕ) (c : Call Config Op) (m : Machine Answer Driver) (t : List ℕ) (b : Buf) → let z
    = turned_down i (sort_of c) (drive c m b).0 m.st t in
    (shared_call i c m t b).0.1 ≡ (drive (cond z (question (pending 0)) c) m b).1
unfolding settled
one-call i c m t b = by (turned_down i (sort_of c) (drive c m b).0 m.st t)
  where
    outcome : Bool → StepResult × List ℕ
    outcome z = cond z ((ended (Refused 19), lent_to calls driver_of m b), t)
        (drive c m b, time_after i (sort_of c) (drive c m b).0 m.st t)

    by : (z : Bool) → (outcome z).0.1 ≡ (drive (cond z (question (pending 0)) c) m b).1
    by true = refl
    by false = refl

abbrev ran : List (Event Config Op) → Machine Answer Driver → Machine Answer Driver
ran es m = alone.after calls driver_of es m

pub own-run : (xs : List Turn) (f : Four) (i : ℕ) → (after xs f).driver i ≡ ran (own i xs f) (f.driver i)
own-run [] f i = refl
own-run (x ∷ xs) f i = own-run xs (next x f) i ∙ by (eqb i (x.who % 4)) refl
  where
    m : Machine Answer Driver
    m = (shared_call x.who x.event.call (f.driver (x.who % 4)) f.time x.event.lent).0.1

    by : (b : Bool) → eqb i (x.who % 4) ≡ b → ran (own i xs (next x f)) (cond b m (f.driver i))
        ≡ ran (cond b (passed_on x f ∷ own i xs (next x f)) (own i xs (next x f))) (f.driver i)
    by false h = refl
    by true h = ap (ran (own i xs (next x f)))
        (one-call x.who x.event.call (f.driver (x.who % 4)) f.time x.event.lent
        ∙ ap (λ (k : ℕ). (drive (passed_on x f).call (f.driver k) x.event.lent).1)
        (sym (eqb-true i (x.who % 4) h)))
