-- What a refusal leaves, and which wake-ups an end gives, of a call that is left to its script: a rule for each form
-- that the scripts have
use Rattle.std.specs.Prelude.{Bool, true, false, cond, ◌≡◌, refl, ◌⊎◌, List, [], ℕ}
use Rattle.std.proofs.Common.{subst, sym, inr}
use Rattle.state.specs.Driver.{Driver}
use Rattle.state.specs.Wakes.{listed}
use Rattle.script.specs.Tree.{Out, ends, asks, bind_out}
use Rattle.script.specs.Script.{Script, ret, bind, test, run, no_wakes, gathered}
use Rattle.script.specs.Answers.{Answer, Refused, End, NotYet, Done, Shown, operation}
use Rattle.script_ops.specs.Rings.{St}
use Rattle.script_ops.specs.Concrete.{concrete}
use Rattle.proof_refusals.specs.Left.{Poll, left_by}

-- the wake-ups of an end are those that the state has, or none where the call is over at once
abbrev pub Listed : List ℕ → Driver → Type 0
Listed w d = (w ≡ []) ⊎ (w ≡ listed d.wakes)

abbrev pub AnswerLeaves : Poll → St → Answer → St → Type 0
AnswerLeaves x s (Refused n) t = t ≡ (left_by x n s.0, s.1)
AnswerLeaves x s (End n w) t = Listed w t.0
AnswerLeaves x s NotYet t = Unit {0}
AnswerLeaves x s (Done bs) t = Unit {0}
AnswerLeaves x s (Shown bs k) t = Unit {0}

abbrev pub OutLeaves : Poll → St → Out St Answer → Type 0
OutLeaves x s (ends a t) = AnswerLeaves x s a t
OutLeaves x s (asks q t k) = Unit {0}

-- the script's run from t, where it ends at once with refusal n, leaves of the state s what `left_by` says, and the
-- buffer of s
pub record LeavesByRow (x : Poll) (s t : St) {i : Bool} (p : Script i Answer) : Type 0 where
  pub leaves : OutLeaves x s (run concrete p t)

module _ {x : Poll} {s t : St} {i : Bool} where
  pub refuses : {n : ℕ} → t ≡ (left_by x n s.0, s.1) → LeavesByRow x s t {i = i} (ret (Refused n))
  refuses q = record { leaves = q }

  -- any other answer
  pub answers : {a : Answer} → AnswerLeaves x s a t → LeavesByRow x s t {i = i} (ret a)
  answers h = record { leaves = h }

  pub tests : {b : Bool} {p q : Script i Answer} → (b ≡ true → LeavesByRow x s t p) → (b ≡ false → LeavesByRow x s t q)
      → LeavesByRow x s t (test b p q)
  tests {b} h g = by_cases b h g
    where
      by_cases : (b : Bool) {p q : Script i Answer} → (b ≡ true → LeavesByRow x s t p)
          → (b ≡ false → LeavesByRow x s t q) → LeavesByRow x s t (test b p q)
      by_cases true h g = record { leaves = (h refl).leaves }
      by_cases false h g = record { leaves = (g refl).leaves }

  pub each : {b : Bool} {p q : Script i Answer} → LeavesByRow x s t p → LeavesByRow x s t q
      → LeavesByRow x s t (test b p q)
  each h g = tests (λ _. h) (λ _. g)

  -- steps without an access
  pub after : {A : Type 0} {p : Script i A} {k : A → Script i Answer} {a : A} {u : St}
      → run concrete p t ≡ ends a u → LeavesByRow x s u (k a) → LeavesByRow x s t (bind p k)
  after {k = k} q h = record {
    leaves = subst (λ o. OutLeaves x s (bind_out o (λ a u. run concrete (k a) u))) (sym q)
        h.leaves;
  }

  pub picks : (b : Bool) {y z : Answer} → LeavesByRow x s t {i = i} (ret y) → LeavesByRow x s t {i = i} (ret z)
      → LeavesByRow x s t {i = i} (ret (cond b y z))
  picks true h g = h
  picks false h g = g

  -- steps, whatever they do, after which no way refuses
  pub whatever : {A : Type 0} {p : Script i A} {k : A → Script i Answer} → ((a : A) (u : St) → LeavesByRow x s u (k a))
      → LeavesByRow x s t (bind p k)
  whatever {A} {p} {k} h = record { leaves = gone (run concrete p t) }
    where
      gone : (o : Out St A) → OutLeaves x s (bind_out o (λ a u. run concrete (k a) u))
      gone (ends a u) = (h a u).leaves
      gone (asks q u l) = tt

  -- an operation that has begun ends with no refusal
  pub begins : {p : Script i ℕ} → LeavesByRow x s t (operation p)
  begins {p} = record { leaves = ended (run concrete p (concrete.act no_wakes t)) }
    where
      ended : (o : Out St ℕ) → OutLeaves x s (bind_out o (λ n u. ends (End n (concrete.fetch gathered u)) u))
      ended (ends n u) = inr refl
      ended (asks q u k) = tt
