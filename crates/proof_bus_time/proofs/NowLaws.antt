-- "The charge is always that of the endpoints now enabled, each counted once": after every list of calls of four
-- drivers, from an uncharged record
use Rattle.std.specs.Prelude.{Bool, true, false, cond, ◌&&◌, ◌||◌, List, ◌≡◌, refl, ℕ, zero, suc, ◌+◌, ◌*◌, ◌<◌, get_or}
use Rattle.std.proofs.Common.{ap, subst, sym, ◌∙◌, mod-eq_of_lt, arith}
use Rattle.regs.specs.declared.Dir.{Dir}
use Rattle.regs.specs.declared.Dir.TheVariants.{Out, In}
use Rattle.regs.specs.Enables.{place}
use Rattle.state.specs.Driver.{Driver}
use Rattle.script.specs.Answers.{Answer}
use Rattle.script.specs.Machine.{Pending, idle}
use Rattle.bus_time.specs.Time.{is_in_use}
use Rattle.calls.specs.Sharing.{charge_on}
use Rattle.proof_bus_time.specs.Four.{Four, Turn, after}
use Rattle.proof_bus_time.specs.History.{history, sum, time_by}
use Rattle.proof_bus_time.specs.Limit.{Within}
use Rattle.proof_bus_time.proofs.LimitLaws.{uncharged-within}
use Rattle.proof_bus_time.proofs.HistoriesLaws.{sum-as, sum-from, by-drivers, zeros, in-use-is}
use Rattle.proof_bus_time.specs.Enabled.{is_enabled, sum_of, enabled_time, last_begun, is_busy, is_enabling}
use Rattle.proof_bus_time.specs.Enabled.{counted_time, FourAtFirst}
use Rattle.proof_bus_time.specs.Charged.{neither, charged_from, charged, charged_time}
use Rattle.proof_bus_time.proofs.CourseLaws.{course_due, runs_all, charged_all, at_first}

-- the charge of an endpoint: its own where it is enabled now or being enabled, else none
pub charge-now : (xs : List Turn) (f : Four) → FourAtFirst f → (i : ℕ) → i < 4 → (dir : Dir) (e : ℕ) → let m
    = (after xs f).driver i in
    get_or (after xs f).time (i * 32 + place dir e) 0 ≡ cond (is_enabled m.st dir e
    || is_enabling i m (history xs f) dir e) (charge_on m.st dir e) 0
charge-now xs f z i li dir e =
    let m = (after xs f).driver i in
    course_due dir e i li m.under_way_lem m.st _ (last_begun i (place dir e) (history xs f) false) _
    (runs_all dir e i li xs f false neither (subst Within (sym z.time) uncharged-within) (at_first dir e i li f z))

-- with nothing under way: of the endpoints now enabled, each by the kind and maximum that the state has now
pub charge-at-rest : (xs : List Turn) (f : Four) → FourAtFirst f
    → (i : ℕ) → i < 4 → ((after xs f).driver i).under_way_lem ≡ idle → (dir : Dir) (e : ℕ) → let d
    = ((after xs f).driver i).st in
    get_or (after xs f).time (i * 32 + place dir e) 0 ≡ cond (is_enabled d dir e) (charge_on d dir e) 0
charge-at-rest xs f z i li h dir e = charge-now xs f z i li dir e
    ∙ ap (λ (b : Bool). cond b (charge_on ((after xs f).driver i).st dir e) 0)
    (rests (is_enabled ((after xs f).driver i).st dir e))
  where
    rests : (b : Bool) → (b || is_enabling i ((after xs f).driver i) (history xs f) dir e) ≡ b
    rests true = refl
    rests false = ap (λ (w : Pending Answer Driver). is_busy w && last_begun i (place dir e) (history xs f) false) h

-- ---- the time in use

sum_both : (f g : ℕ → ℕ) (n : ℕ) → sum (λ k. f k + g k) n ≡ sum f n + sum g n
unfolding sum
sum_both f g zero = refl
sum_both f g (suc n) = omega (arith, sum_both f g n)

-- by bits, and by numbers and directions
halves : (f : ℕ → ℕ) → sum f 32 ≡ sum (λ e. f (place In e) + f (place Out e)) 16
halves f =
    sum-from f 16 16 ∙ (sym (sum_both f (λ e. f (16 + e)) 16)
    ∙ sum-as _ _ 16 (λ e l. ap (λ (n : ℕ). f n + f (16 + n)) (sym (mod-eq_of_lt l))))

by-endpoints : (t : List ℕ) → is_in_use t ≡ sum_of (λ i dir e. get_or t (i * 32 + place dir e) 0)
by-endpoints t = by-drivers t ∙ sum-as _ _ 4 (λ i _. halves (λ bit. get_or t (i * 32 + bit) 0))

sums-as : (f g : ℕ → Dir → ℕ → ℕ) → ((i : ℕ) → i < 4 → (dir : Dir) (e : ℕ) → f i dir e ≡ g i dir e) → sum_of f ≡ sum_of g
sums-as f g h = sum-as _ _ 4 (λ i li. sum-as _ _ 16 (λ e _. omega (arith, h i li In e, h i li Out e)))

-- always: the charge of the endpoints now enabled or being enabled
pub in-use-now : (xs : List Turn) (f : Four) → FourAtFirst f → is_in_use (after xs f).time
    ≡ counted_time (after xs f).driver (history xs f)
in-use-now xs f z = by-endpoints (after xs f).time ∙ sums-as _ _ (λ i li dir e. charge-now xs f z i li dir e)

-- with nothing under way: of those now enabled
pub in-use-at-rest : (xs : List Turn) (f : Four) → FourAtFirst f
    → ((i : ℕ) → i < 4 → ((after xs f).driver i).under_way_lem ≡ idle)
    → is_in_use (after xs f).time ≡ enabled_time (λ i. ((after xs f).driver i).st)
in-use-at-rest xs f z h = by-endpoints (after xs f).time
    ∙ sums-as _ _ (λ i li dir e. charge-at-rest xs f z i li (h i li) dir e)

-- so what the history works out is the charge of the endpoints now enabled or being enabled
pub history-is-now : (xs : List Turn) (f : Four) → FourAtFirst f → time_by (history xs f)
    ≡ counted_time (after xs f).driver (history xs f)
history-is-now xs f z = sym (in-use-is xs f z.time) ∙ in-use-now xs f z

-- ---- "worked out from the history of enables, disables, resets and start-ups"

-- of each endpoint, after every list of calls of four drivers
pub charge-is : (xs : List Turn) (f : Four) → FourAtFirst f → (i : ℕ) → i < 4 → (dir : Dir) (e : ℕ)
    → get_or (after xs f).time (i * 32 + place dir e) 0 ≡ charged i dir e (history xs f)
charge-is xs f z i li dir e =
    charged_all dir e i li xs f false neither (subst Within (sym z.time) uncharged-within) (at_first dir e i li f z)
    ∙ ap (charged_from i dir e (history xs f) neither) (ap (λ (t : List ℕ). get_or t (i * 32 + place dir e) 0) z.time
    ∙ zeros 128 (i * 32 + place dir e))

-- the time in use
pub in-use-charged : (xs : List Turn) (f : Four) → FourAtFirst f → is_in_use (after xs f).time ≡ charged_time (history xs f)
in-use-charged xs f z = by-endpoints (after xs f).time ∙ sums-as _ _ (λ i li dir e. charge-is xs f z i li dir e)
