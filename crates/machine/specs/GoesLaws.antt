-- Laws on the definitions of Goes.antt
use Rattle.std.specs.Prelude.{Bool, true, false, not, cond, ◌≡◌, refl, ℕ}
use Rattle.std.proofs.Common.{ap, ◌∙◌}
use Rattle.state.specs.Driver.{Driver}
use Rattle.script.specs.Tree.{Out}
use Rattle.script.specs.Answers.{Answer, Refused}
use Rattle.script.specs.Calls.{calls}
use Rattle.script.specs.Machine.{Buf, Awaits, over, Pending, idle, busy, Machine, ended, continue, continued}
use Rattle.script_ops.specs.Rings.{St}
use Rattle.machine.specs.declared.Suspended.{Suspended}
use Rattle.machine.specs.Suspended.{way_of, machine_at, driver_of, drive, halts_as, resumed, slots_fit}
use Rattle.answer.specs.Goes.{StepResult}

-- ---- row 16

-- it stays awaited
abbrev pub stayed : Suspended → Driver → Buf → StepResult
stayed u d b = (ended (Refused 16), machine_at u d b)

abbrev waiting : Bool → Awaits → (ℕ → St → Out St Answer) → Driver → Buf → Machine Answer Driver
waiting i q k d b = record { under_way_lem = busy i q k; st = d; buf = b }

abbrev goes : Bool → Awaits → (ℕ → St → Out St Answer) → ℕ → Driver → Buf → Bool → StepResult
goes i q k v d b x = cond x (ended (Refused 16), waiting i q k d b) (halts_as i (k v (d, b)))

-- what was read fits: the operation goes on with it
pub gone : (i : Bool) (q : Awaits) (k : ℕ → St → Out St Answer) (v : ℕ) (d : Driver) (b : Buf) → over calls q v ≡ false
    → continued calls driver_of (λ s. s) v (waiting i q k d b) (busy i q k) b ≡ halts_as i (k v (d, b))
gone i q k v d b h = ap (goes i q k v d b) h

pub stays : (i : Bool) (q : Awaits) (k : ℕ → St → Out St Answer) (v : ℕ) (d : Driver) (b : Buf) → over calls q v ≡ true
    → continued calls driver_of (λ s. s) v (waiting i q k d b) (busy i q k) b ≡ (ended (Refused 16), waiting i q k d b)
stays i q k v d b h = ap (goes i q k v d b) h

-- ---- row 1

abbrev gone_in : ℕ → Pending Answer Driver → Driver → Buf → Buf → StepResult
gone_in v w d a b = continued calls driver_of (λ s. s) v (record { under_way_lem = w; st = d; buf = a }) w b

goes_in : (v : ℕ) (w : Pending Answer Driver) (d : Driver) (a b : Buf) → gone_in v w d a b ≡ gone_in v w d b b
goes_in v idle d a b = refl
goes_in v (busy i q k) d a b = refl

turned : {A : Type 0} (x : Bool) (y z : A) → cond (not x) y z ≡ cond x z y
turned true y z = refl
turned false y z = refl

pub proceeds : (v : ℕ) (u : Suspended) (d : Driver) (a b : Buf)
    → drive (continue v) (machine_at u d a) b ≡ cond (slots_fit d b) (resumed v u d b)
    (ended (Refused 1), machine_at u d a)
unfolding slots_fit
proceeds v u d a b = turned (slots_fit d b) (ended (Refused 1), machine_at u d a) (gone_in v (way_of u) d a b)
    ∙ ap (λ (x : StepResult). cond (slots_fit d b) x (ended (Refused 1), machine_at u d a)) (goes_in v (way_of u) d a b)
