-- What a call comes to and what it answers, whatever is under way
use Rattle.std.specs.Prelude.{Bool, false, List, [], ◌∷◌, ◌++◌, ◌≡◌, refl, ℕ, zero, suc, ◌*◌, ◌≤◌, length, take}
use Rattle.std.proofs.Common.{ap, arith}
use Rattle.ring.specs.Copies.{bytes_at}
use Rattle.state.specs.Driver.{Driver}
use Rattle.state.specs.Fresh as fresh
use Rattle.script.specs.Tree.{Out}
use Rattle.script.specs.Script.{Script, ret, ◌>>=◌, fetch, gathered}
use Rattle.script.specs.Statics.{flag}
use Rattle.script.specs.Answers.{Answer, Refused, End, NotYet, Done, Shown}
use Rattle.script.specs.Control.{word_bytes}
use Rattle.script.specs.Calls.{Config, Op, calls}
use Rattle.script.specs.Machine as machine
use Rattle.script.specs.Machine.{Buf, Machine, Ans, ended, handed, call, Call, halt}
use Rattle.script_ops.specs.Rings.{St}
use Rattle.script_ops.specs.Concrete.{concrete}
use Rattle.script_ops.specs.Answers.{front}
pub use Rattle.script_ops.specs.Numbers.{with_tag}
use Rattle.answer.specs.declared.Step.{Step}
use Rattle.answer.specs.declared.Step.TheVariants as step
use Rattle.answer.specs.Questions.{question_of}

abbrev pub finish : ℕ → Script false Answer
finish n = do
  w ← fetch gathered
  ret (End n w)

abbrev pub driver_of : machine.Instance Config Driver
driver_of = record {
  ops = concrete;
  fresh = λ c. fresh.fresh_driver c.size c.count (flag c.callback);
  size = λ d. d.allocator.count * d.allocator.size;
  question = question_of;
}

-- a start-up's inputs
abbrev pub config_of : ℕ → ℕ → Bool → Config
config_of size count callback = record { size = size; count = count; callback = callback }

-- what a call comes to
abbrev pub drive : Call Config Op → Machine Answer Driver → Buf → Ans Answer × Machine Answer Driver
drive c m b = call calls driver_of (λ s. s) c m b

-- where a run stops: at an access or at its end; `true`: an interrupt's
abbrev pub halts_as : Bool → Out St Answer → Ans Answer × Machine Answer Driver
halts_as i o = halt calls driver_of (λ s. s) i o

abbrev pub halts : Out St Answer → Ans Answer × Machine Answer Driver
halts o = halts_as false o

-- with the bytes that the call was lent: those of a poll's slice that it filled, or the slots in which a packet is
-- shown; and with the state that it left, which has the wake-ups: k of them, from the front of the state's room for 64
abbrev pub answer_of : Step → List ℕ → Driver → Ans Answer
answer_of (step.Refused n) out d = ended (Refused n)
answer_of (step.Asks q) out d = handed q
answer_of (step.Ends n k) out d = ended (End n (front k d.wakes.codes))
answer_of step.NotYet out d = ended NotYet
answer_of (step.Done n) out d = ended (Done (front n out))
answer_of (step.Setup low high) out d = ended (Done (word_bytes low ++ word_bytes high))
answer_of (step.Shown at n stamp) out d = ended (Shown (bytes_at out at n) stamp)

-- a number that is none of 1 to n, as the last arm of a match has it
abbrev pub NoneOf : ℕ → ℕ → Type 0
NoneOf zero k = Unit {0}
NoneOf (suc n) k = NoneOf n k × (k ≡ suc n → ⊥)

-- what has two parts, three, four or five
pub parts2 : {A B C : Type 0} (f : A → B → C) {a x : A} {b y : B} → a ≡ x → b ≡ y → f a b ≡ f x y
parts2 f p q = λ i. f (p i) (q i)

pub parts3 : {A B C D : Type 0} (f : A → B → C → D) {a x : A} {b y : B} {c z : C} → a ≡ x → b ≡ y → c ≡ z → f a b c
    ≡ f x y z
parts3 f p q r = λ i. f (p i) (q i) (r i)

pub parts4 : {A B C D E : Type 0} (f : A → B → C → D → E) {a x : A} {b y : B} {c z : C} {d w : D}
    → a ≡ x → b ≡ y → c ≡ z → d ≡ w → f a b c d ≡ f x y z w
parts4 f p q r s = λ i. f (p i) (q i) (r i) (s i)

pub parts5 : {A B C D E F : Type 0} (f : A → B → C → D → E → F) {a x : A} {b y : B} {c z : C} {d w : D} {e v : E}
    → a ≡ x → b ≡ y → c ≡ z → d ≡ w → e ≡ v → f a b c d e ≡ f x y z w v
parts5 f p q r s t = λ i. f (p i) (q i) (r i) (s i) (t i)

-- no more than there is room for
pub length_most : (n : ℕ) (cs : List ℕ) → length cs ≤ n → length (take n cs) ≡ length cs
length_most zero [] h = refl
length_most zero (c ∷ cs) h = absurd (omega (arith, h))
length_most (suc n) [] h = refl
length_most (suc n) (c ∷ cs) h = ap suc (length_most n cs (omega (arith, h)))

-- so many from the front are the first of the room
pub front-take : (n : ℕ) (cs : List ℕ) → front (length (take n cs)) cs ≡ take n cs
front-take zero cs = refl
front-take (suc n) [] = refl
front-take (suc n) (c ∷ cs) = ap (λ (x : List ℕ). c ∷ x) (front-take n cs)
