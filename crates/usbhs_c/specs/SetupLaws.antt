-- Laws on the definitions of Setup.antt
use Rattle.std.specs.Prelude.{Bool, true, false, cond, List, [], ◌∷◌, ◌++◌, ◌≡◌, refl, ℕ, zero, suc, ◌<◌, eqb, length, take, drop}
use Rattle.std.proofs.Common.{sym, ap, subst, ◌∙◌, arith}
use Rattle.ring.specs.Copies.{over}
use Rattle.state.specs.declared.Globals.{Globals}
use Rattle.state.specs.Driver.{Driver}
use Rattle.script.specs.Tree.{ends}
use Rattle.script.specs.Statics.{is_on}
use Rattle.script.specs.Answers.{Answer, Refused, End, NotYet, Done, Shown}
use Rattle.script.specs.Control.{SETUP, word_bytes, setup_bytes}
use Rattle.script.specs.Calls.{other, PollSetup}
use Rattle.script.specs.Machine.{Buf, Machine, Ans, ended, handed, told, begin}
use Rattle.machine.specs.declared.Suspended.{Suspended}
use Rattle.answer.specs.declared.Step.{Step}
use Rattle.answer.specs.declared.Step.TheVariants as step
use Rattle.machine.specs.Suspended.{machine_at, drive, halts, answer_of}
use Rattle.answer.specs.Goes.{StepResult}
use Rattle.machine.specs.Rows.{is_idle}
use Rattle.machine.proofs.RowsLaws.{other-idle}
use Rattle.usbhs_c.specs.Setup.{NoSlice}

abbrev none : List ℕ
none = []

pub take-nil : (n : ℕ) → take n none ≡ none
take-nil zero = refl
take-nil (suc n) = refl

pub drop-nil : (n : ℕ) → drop n none ≡ none
drop-nil zero = refl
drop-nil (suc n) = refl

drop_all : (xs : List ℕ) → drop (length xs) xs ≡ []
drop_all [] = refl
drop_all (x ∷ xs) = drop_all xs

-- the packet's 8 bytes are all of the caller's
pub over-all : (low high : ℕ) (xs : List ℕ) → length xs ≡ 8 → word_bytes low ++ word_bytes high
    ≡ over (word_bytes low ++ word_bytes high) xs
over-all low high xs h = ap (λ (t : List ℕ). (word_bytes low ++ word_bytes high) ++ t)
    (sym (ap (λ (n : ℕ). drop n xs) (sym h) ∙ drop_all xs))

-- the first of a pair by another name
pub told-by : {A B : Type 0} {x y : A} {z : B} {w : A × B} → x ≡ y → (y, z) ≡ w → (x, z) ≡ w
told-by {z = z} p q = ap (λ x. (x, z)) p ∙ q

-- ---- setup's poll brings its packet as two words, never as bytes of a slice: it is lent none

-- bytes that an answer brings begin with a byte
abbrev ByteFirst : Ans Answer → Type 0
ByteFirst (ended (Done [])) = ⊥
ByteFirst (ended (Done (x ∷ xs))) = x < 256
ByteFirst (ended (Refused n)) = Unit {0}
ByteFirst (ended (End n w)) = Unit {0}
ByteFirst (ended NotYet) = Unit {0}
ByteFirst (ended (Shown bytes stamp)) = Unit {0}
ByteFirst (handed q) = Unit {0}
ByteFirst (told n) = Unit {0}

-- where nothing is under way (x), EP0 is started (y), setup was begun (z) and a packet is there (w)
by_rows : (x y z w : Bool) (g : Globals) (s1 s2 s3 s4 : Driver × Buf) (m : Machine Answer Driver)
    → ByteFirst
    (cond x (halts (cond y (cond z (cond w (ends (Done (setup_bytes g)) s1) (ends NotYet s2)) (ends (Refused 15) s3))
    (ends (Refused 4) s4)))
    (ended (Refused 3), m)).0
unfolding setup_bytes
by_rows true true true true g s1 s2 s3 s4 m = omega arith
by_rows true true true false g s1 s2 s3 s4 m = tt
by_rows true true false w g s1 s2 s3 s4 m = tt
by_rows true false z w g s1 s2 s3 s4 m = tt
by_rows false y z w g s1 s2 s3 s4 m = tt

setup-first : (u : Suspended) (d : Driver) (a b : Buf)
    → ByteFirst (drive (begin (other PollSetup)) (machine_at u d a) b).0
setup-first u d a b =
    subst (λ (c : StepResult). ByteFirst c.0) (sym (other-idle PollSetup u d a b))
    (by_rows (is_idle u) (eqb d.globals.stage 2) (eqb d.control.sort SETUP) (is_on d.globals.setup_ready)
    d.globals _ _ _ _ _)

no-slice : (t : Step) (x : Driver) → ByteFirst (answer_of t [] x) → NoSlice t
no-slice (step.Refused n) x h = tt
no-slice (step.Asks q) x h = tt
no-slice (step.Ends n w) x h = tt
no-slice step.NotYet x h = tt
no-slice (step.Done zero) x h = h
no-slice (step.Done (suc n)) x h = omega arith
no-slice (step.Setup low high) x h = tt
no-slice (step.Shown at n stamp) x h = tt

pub setup-no-slice : (t : Step) (x : Driver) (u : Suspended) (d : Driver) (a b : Buf)
    → answer_of t [] x ≡ (drive (begin (other PollSetup)) (machine_at u d a) b).0 → NoSlice t
setup-no-slice t x u d a b e = no-slice t x (subst ByteFirst (sym e) (setup-first u d a b))
