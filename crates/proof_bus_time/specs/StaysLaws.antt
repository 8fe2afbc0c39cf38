-- What an allocation gave each endpoint (its flag, its kind and its maximum), the stage and the kept ep_config: which
-- operations of a script leave them
use Rattle.std.specs.Prelude.{Bool, true, false, not, cond, ◌&&◌, ◌||◌, ◌≡◌, refl, ℕ, suc, ltb}
use Rattle.std.proofs.Common.{true≢false, subst, sym, ◌∙◌}
use Rattle.bits.specs.Bit.{with_bit}
use Rattle.regs.specs.declared.Dir.{Dir}
use Rattle.regs.specs.declared.Dir.TheVariants.{Out, In}
use Rattle.regs.specs.Enables as enables
use Rattle.state.specs.declared.Globals.{Globals}
use Rattle.state.specs.Driver.{Driver, ep_on, with_on}
use Rattle.alloc.specs.declared.Answer.{Answer}
use Rattle.alloc.specs.declared.Answer.TheVariants.{Refused, Given}
use Rattle.alloc.specs.Alloc.{is_iso}
use Rattle.script.specs.Cells.{Cell, Val}
use Rattle.script.specs.Script.{Act}
use Rattle.script.specs.Script.{DmaStep}
use Rattle.script.specs.Script.{switch, bus_reset_lem}
use Rattle.script.specs.TransferKinds.{allocates}
use Rattle.script.specs.Statics.{is_on}
use Rattle.script_ops.specs.Records.{iso_out, configured, enabled_on, iso_added, with_sets, record_given, sets_given, given_to}
use Rattle.script_ops.specs.Records.{allocated_on, started_with, allocated_ep0}
use Rattle.script_ops.specs.Rings.{St}
use Rattle.script_ops.specs.Rings.{config_step, switch_step, reset_step}
use Rattle.script_ops.specs.Concrete.{concrete}
use Rattle.proof_book.specs.LeavesLaws.{RingsOnly, turns, act-leaves, by-act, hand-leaves, given_of, GivenStays}
use Rattle.proof_book.specs.LeavesLaws.{RequestsStay, given_stays, rings-stay}
use Rattle.proof_book.specs.LeavesLaws.{put-given, turns_row, row_stays}

-- ---- what stays

abbrev pub config_of : Driver → ℕ
config_of d = d.globals.ep_config

-- all that was given stays, and the stage; the kept ep_config becomes w
pub record Turns (w : ℕ) (d d' : Driver) : Type 0 where
  pub given : (dir : Dir) (e : ℕ) → given_of (ep_on d' dir e) ≡ given_of (ep_on d dir e)
  pub stage : d'.globals.stage ≡ d.globals.stage
  pub config : config_of d' ≡ w

-- and it stays too
abbrev pub Stays : Driver → Driver → Type 0
Stays d d' = Turns (config_of d) d d'

pub still : {w : ℕ} {d x y : Driver} → Turns w d x → Stays x y → Turns w d y
still p q = record {
  given = λ dir e. q.given dir e ∙ p.given dir e;
  stage = q.stage ∙ p.stage;
  config = q.config
      ∙ p.config;
}

-- a change of other records than the endpoints'
others : {w : ℕ} (d d' : Driver) → d'.eps ≡ d.eps → d'.globals.stage ≡ d.globals.stage → config_of d' ≡ w
    → Turns w d d'
unfolding ep_on
others d d' p s c = record { given = λ dir e. rw p refl; stage = s; config = c }

pub stays : (d : Driver) → Stays d d
stays d = others d d refl refl refl

of-given : {d d' : Driver} → GivenStays false d d' → Stays d d'
of-given p = record { given = p.each; stage = λ i. (p.rest i).0; config = λ i. (p.rest i).3 }

of-rings : {d d' : Driver} → RingsOnly false d d' → Stays d d'
of-rings p = of-given (given_stays false (rings-stay false p))

-- ---- each operation

pub put_stays : (c : Cell) (v : Val c) (s : St) → Stays s.0 (concrete.put c v s).0
put_stays c v s = of-given (put-given c v s)

-- which acts a script may have that leaves all this; `giving`: allocations too
abbrev pub allowed : Bool → Act → Bool
allowed giving q = not (turns q) && (not (allocates q) || giving)

neither : (a b : Bool) → (not a && (not b || false)) ≡ true → (a ≡ false) × (b ≡ false)
neither true b h = absurd (true≢false (sym h))
neither false true h = absurd (true≢false (sym h))
neither false false h = (refl, refl)

pub act_stays : (q : Act) → allowed false q ≡ true → (s : St) → Stays s.0 (concrete.act q s).0
act_stays q h s =
    let n = neither (turns q) (allocates q) h in
    of-rings (subst (λ (t : Bool). RingsOnly t s.0 (concrete.act q s).0) n.0 (act-leaves q n.1 s))

pub hand-stays : (q : DmaStep) (s : St) → Stays s.0 (concrete.hand q s).1.0
hand-stays q s = of-rings (hand-leaves q s)

-- ---- rows, but for the steps that write ep_config

pub switch-stays : (e : ℕ) (on : Bool) (n : ℕ) (s : St) → Stays s.0 (switch_step e on (suc n) s).1.0
switch-stays e on n s = of-given (given_stays false (row_stays (switch e on) (suc n) s))

pub reset-stays : (s : St) → Stays s.0 (reset_step 0 s).1.0 × Stays s.0 (reset_step 1 s).1.0
    × Stays s.0 (reset_step 2 s).1.0
reset-stays s = (by 0 refl, by 1 refl, by 2 refl)
  where
    by : (n : ℕ) → turns_row bus_reset_lem n ≡ false → Stays s.0 (reset_step n s).1.0
    by n h = of-given (given_stays false (subst (λ (t : Bool). RequestsStay t s.0 (reset_step n s).1.0) h
        (row_stays bus_reset_lem n s)))

-- ---- what turns ep_config

pub reset-turns : (s : St) → Turns 0 s.0 (reset_step 3 s).1.0
reset-turns s = others s.0 _ refl refl refl

-- the word with an endpoint's bit
abbrev pub turned : Driver → Dir → ℕ → Bool → ℕ
turned d dir e on = with_bit (config_of d) (enables.place dir e) on

pub enabled-turns : (d : Driver) (dir : Dir) (e : ℕ) (on : Bool) → iso_out d dir e ≡ false
    → Turns (turned d dir e on) d (enabled_on d dir e on)
unfolding enabled_on configured enables.with_on
enabled-turns d dir e on h = rw h (others d _ refl refl refl)

pub row-turns : (d : Driver) (e : ℕ) (on : Bool) → is_on (ep_on d Out e).iso ≡ true
    → Turns (turned d Out e on) d (config_step e on d).1
unfolding config_step enables.with_on
row-turns d e on h = others d _ refl refl (rw h refl)

-- ---- an allocation leaves the kept ep_config

sets-config : (dir : Dir) (kind interval e : ℕ) (g : Globals) → (with_sets dir kind interval e g).ep_config
    ≡ g.ep_config
unfolding with_sets
sets-config dir kind interval e g = by (is_iso kind) dir
  where
    often : (b : Bool) (x y : Globals) → x.ep_config ≡ y.ep_config → (cond b x y).ep_config ≡ y.ep_config
    often true x y h = h
    often false x y h = refl

    by : (b : Bool) (dir : Dir) → (cond b (iso_added dir interval e g) g).ep_config ≡ g.ep_config
    by false dir = refl
    by true Out = refl
    by true In = often (ltb interval 2) _ g refl

given-config : (dir : Dir) (kind maximum interval : ℕ) (a : Answer) (d : Driver)
    → config_of (given_to dir kind maximum interval a d) ≡ config_of d
unfolding given_to sets_given record_given with_on
given-config dir kind maximum interval (Refused n) d = refl
given-config dir kind maximum interval (Given e base slots) d = sets-config dir kind interval e d.globals

started-config : (maximum : ℕ) (a : Answer) (d : Driver) → config_of (started_with maximum a d) ≡ config_of d
unfolding started_with
started-config maximum (Refused n) d = refl
started-config maximum (Given e base slots) d = refl

config-of : {d d' : Driver} → RingsOnly false d d' → config_of d' ≡ config_of d
config-of p = λ i. (p.rest i).0.ep_config

unturned : (a b : Bool) → (not a && b) ≡ true → a ≡ false
unturned true b h = absurd (true≢false (sym h))
unturned false b h = refl

pub gives-config : (q : Act) → allowed true q ≡ true → (s : St) → config_of (concrete.act q s).0 ≡ config_of s.0
unfolding allocated_on allocated_ep0
gives-config q h s = by-act {K = λ q d. turns q ≡ false → config_of d ≡ config_of s.0} s
    (λ q d p z. config-of (subst (λ (t : Bool). RingsOnly t s.0 d) z p))
    (λ dir kind address maximum interval _. given-config dir kind maximum interval _ _)
    (λ maximum _. started-config maximum _ _) q
    (unturned (turns q) (not (allocates q) || true) h)
