-- Laws on the definitions of Code.antt
use Rattle.std.specs.Prelude.{Bool, true, false, cond, List, [], ◌∷◌, ◌≡◌, refl, ℕ, ◌%◌, ◌≤◌, ◌<◌, eqb, replicate}
use Rattle.std.proofs.Common.{ap, subst, sym, ◌∙◌}
use Rattle.state.specs.State.{view, saved}
use Rattle.state.specs.Driver.{Driver}
use Rattle.script.specs.Answers.{Answer}
use Rattle.script.specs.Calls.{Config, Op}
use Rattle.script.specs.Machine.{Buf, Call, Machine, idle, Ans, ended, handed, told}
use Rattle.machine.specs.Suspended.{decode, drive, machine_of}
use Rattle.answer.specs.Goes.{StepResult}
use Rattle.bus_time.specs.Time.{is_in_use, uncharged}
use Rattle.calls.specs.Sharing.{Sort, apart, sort_of, time_after, settled, shared_call}
use Rattle.proof_bus_time.specs.Four.{Four, Turn, called, next, after}
use Rattle.proof_bus_time.specs.History.{history, time_by}
use Rattle.proof_bus_time.proofs.LimitLaws.{limit}
use Rattle.proof_bus_time.proofs.HistoriesLaws.{in-use-is}
use Rattle.proof_bus_time.specs.Enabled.{enabled_time, counted_time, AtFirst, FourAtFirst}
use Rattle.proof_bus_time.specs.Charged.{charged_time}
use Rattle.proof_bus_time.proofs.NowLaws.{in-use-now, in-use-at-rest, in-use-charged}
use Rattle.proof_bus_time.specs.Code.{LentFour, four_of, TurnMade, CallStep, left, Run, turns, last}

-- the calls that do not bring the record (all but start-up, an enabling and continue) leave it, and so every charge:
-- such a call, whose contract is the
-- driver's own step, is a step with the record
pub leaves-record : (i : ℕ) (c : Call Config Op) (m : Machine Answer Driver) (time : List ℕ) (b : Buf)
    → sort_of c ≡ apart → shared_call i c m time b ≡ (drive c m b, time)
unfolding settled
leaves-record i c m time b h = ap (λ (x : Sort). settled i x m time b (drive c m b)) h
    ∙ ap (λ (t : List ℕ). (drive c m b, t)) (by (drive c m b).0)
  where
    by : (a : Ans Answer) → time_after i apart a m.st time ≡ time
    by (ended a) = refl
    by (handed q) = refl
    by (told n) = refl

pub did-without : (l : LentFour) (x : Turn) (answer : Ans Answer) (bytes : List ℕ) (slots : Buf)
    → sort_of x.event.call ≡ apart
    → (answer, machine_of bytes slots) ≡ drive x.event.call ((four_of l).driver (x.who % 4)) x.event.lent
    → CallStep l (record { turn = x; answer = answer; bytes = bytes; slots = slots; time = l.time })
did-without l x answer bytes slots h did =
    ap (λ (z : StepResult). (z, l.time)) did
    ∙ sym (leaves-record x.who x.event.call ((four_of l).driver (x.who % 4)) l.time x.event.lent h)

step : (l : LentFour) (m : TurnMade) → CallStep l m → four_of (left l m) ≡ next m.turn (four_of l)
step l m h = λ i. record { driver = λ j. drivers j i; time = ap (λ (x : StepResult × List ℕ). x.1) h i }
  where
    by : (b : Bool) (j : ℕ) → machine_of (cond b m.bytes (l.bytes j)) (cond b m.slots (l.slots j))
        ≡ cond b (called m.turn (four_of l)).0.1 (machine_of (l.bytes j) (l.slots j))
    by true j = ap (λ (x : StepResult × List ℕ). x.0.1) h
    by false j = refl

    drivers : (j : ℕ) → (four_of (left l m)).driver j ≡ (next m.turn (four_of l)).driver j
    drivers j = by (eqb j (m.turn.who % 4)) j

made_after : (ms : List TurnMade) (l : LentFour) → Run l ms → four_of (last l ms) ≡ after (turns ms) (four_of l)
made_after [] l r = refl
made_after (m ∷ ms) l r = made_after ms (left l m) r.1 ∙ ap (after (turns ms)) (step l m r.0)

module _ (ms : List TurnMade) (l : LentFour) (run : Run l ms) (none : l.time ≡ uncharged) where
  time-after : (last l ms).time ≡ (after (turns ms) (four_of l)).time
  time-after = ap (λ (f : Four). f.time) (made_after ms l run)

  pub code-limit : is_in_use (last l ms).time ≤ 6000
  code-limit = rw time-after (limit (turns ms) (four_of l) none)

  pub code-in-use : is_in_use (last l ms).time ≡ time_by (history (turns ms) (four_of l))
  code-in-use = ap is_in_use time-after ∙ in-use-is (turns ms) (four_of l) none

-- ---- the endpoints now enabled

-- a state of zero bytes, as it is lent before the first start-up
pub zeros-at-first : (b : Buf) → AtFirst (machine_of (replicate 2999 0) b)
unfolding view saved decode
zeros-at-first b = record { idles = refl; none = refl }

module _ (ms : List TurnMade) (l : LentFour) (run : Run l ms) (first : FourAtFirst (four_of l)) where
  made : four_of (last l ms) ≡ after (turns ms) (four_of l)
  made = made_after ms l run

  pub code-in-use-now : is_in_use (last l ms).time ≡ counted_time (four_of (last l ms)).driver
      (history (turns ms) (four_of l))
  code-in-use-now = subst (λ (f : Four). is_in_use f.time ≡ counted_time f.driver (history (turns ms) (four_of l)))
      (sym made) (in-use-now (turns ms) (four_of l) first)

  -- with nothing under way in the four states
  pub code-in-use-at-rest : ((i : ℕ) → i < 4 → ((four_of (last l ms)).driver i).under_way_lem ≡ idle)
      → is_in_use (last l ms).time ≡ enabled_time (λ i. view ((last l ms).bytes i))
  code-in-use-at-rest =
      subst (λ (f : Four). ((i : ℕ) → i < 4 → (f.driver i).under_way_lem ≡ idle) → is_in_use f.time
      ≡ enabled_time (λ i. (f.driver i).st))
      (sym made) (in-use-at-rest (turns ms) (four_of l) first)

  -- by the calls alone
  pub code-in-use-charged : is_in_use (last l ms).time ≡ charged_time (history (turns ms) (four_of l))
  code-in-use-charged =
      subst (λ (f : Four). is_in_use f.time ≡ charged_time (history (turns ms) (four_of l))) (sym made)
      (in-use-charged (turns ms) (four_of l) first)
