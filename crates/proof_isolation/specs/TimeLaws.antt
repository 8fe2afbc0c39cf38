-- The bus time that up to four drivers share (request Seven): a call that answers the same in both runs does the same
-- to the record and is turned down in both or in none
use Rattle.std.specs.Prelude.{Bool, true, false, ◌&&◌, ◌≡◌, refl, ℕ, set}
use Rattle.std.proofs.Math.Bool.{cond}
use mathlib.Core.List.{List}
use Rattle.std.proofs.Math.Path.{ap}
use Rattle.std.proofs.Common.{sym}
use Rattle.regs.specs.declared.Dir.{Dir}
use Rattle.state.specs.Driver.{Driver}
use Rattle.script.specs.Cells.{EpCore}
use Rattle.script.specs.Answers.{Answer, Refused}
use Rattle.script.specs.Calls.{Config, Op, calls}
use Rattle.script.specs.Simulates.{Phase}
use Rattle.script.specs.Machine.{Buf, Call, Ans, ended, handed, told, Machine, lent_to}
use Rattle.script_ops.specs.Rings.{St}
use Rattle.machine.specs.Suspended.{driver_of, drive}
use Rattle.answer.specs.Goes.{StepResult}
use Rattle.bus_time.specs.Time.{charge_of, entry_of, passes}
use Rattle.calls.specs.Sharing.{Sort, enabling, starting, going, apart, charge_on, is_handed, sort_of, time_after}
use Rattle.calls.specs.Sharing.{turned_down, settled, shared_call}
use Rattle.proof_isolation.specs.LikesLaws.{and-false}
use Rattle.proof_isolation.specs.EqualExcept.{Channel, LowEquiv}
use Rattle.proof_isolation.specs.ButsLaws.{stays-any}
use Rattle.proof_isolation.specs.Schedule.{shared}

-- of driver i
module _ (i : ℕ) {c : Channel} {φ : Phase} {s t : St} (l : LowEquiv c φ s t) where
  -- what an endpoint is charged, the channel too
  pub same_charge : (dir : Dir) (e : ℕ) → charge_on s.0 dir e ≡ charge_on t.0 dir e
  unfolding charge_on
  same_charge dir e = ap (λ (p : EpCore). charge_of p.kind p.max_len) (sym (stays-any l.but dir e).plain)

  -- the record after a call
  pub same-record : (x : Sort) (a : Ans Answer) (r : List ℕ) → time_after i x a s.0 r ≡ time_after i x a t.0 r
  same-record x (ended a) r = refl
  same-record (enabling dir e) (handed q) r = ap (λ k. set r (entry_of i dir e) k) (same_charge dir e)
  same-record starting (handed q) r = refl
  same-record going (handed q) r = refl
  same-record apart (handed q) r = refl
  same-record x (told n) r = refl

  -- row 19
  pub same-turned-down : (x : Sort) (a : Ans Answer) (r : List ℕ) → turned_down i x a s.0 r
      ≡ turned_down i x a t.0 r
  same-turned-down (enabling dir e) a r = ap (λ k. is_handed a && passes r (entry_of i dir e) k) (same_charge dir e)
  same-turned-down starting a r = refl
  same-turned-down going a r = refl
  same-turned-down apart a r = refl

-- ---- a run's calls

and-true : (b : Bool) → (b && true) ≡ b
and-true true = refl
and-true false = refl

module _ (n : ℕ) (d : Call Config Op) (m : Machine Answer Driver) (t : List ℕ) (b : Buf) where
  -- of a driver that shares the bus time they are those of request Seven
  pub as-shared : shared true n d m t b ≡ shared_call n d m t b
  unfolding settled
  as-shared = ap (λ x. cond {A = StepResult × List ℕ} x ((ended (Refused 19), lent_to calls driver_of m b), t) (
    drive d m b,
    time_after n (sort_of d) (drive d m b).0 m.st t,
  )) (and-true (turned_down n (sort_of d) (drive d m b).0 m.st t))

  -- of one that does not, the driver's
  pub as-driver : (shared false n d m t b).0 ≡ drive d m b
  as-driver = ap (λ x. (cond {A = StepResult × List ℕ} x ((ended (Refused 19), lent_to calls driver_of m b), t) (
    drive d m b,
    time_after n (sort_of d) (drive d m b).0 m.st t,
  )).0) (and-false (turned_down n (sort_of d) (drive d m b).0 m.st t))
