-- "The end of an operation now gives the wake-ups as a list": an end's count is the list's length, whatever bytes the
-- state has. Assumes nothing.
use Rattle.std.specs.Prelude.{◌≡◌, List, [], ◌∷◌, ℕ, zero, suc, ◌≤◌, length, take}
use Rattle.std.proofs.Common.{sym, ap, ◌∙◌, arith}
use Rattle.state.specs.Driver.{Driver}
use Rattle.state.specs.State.{view}
use Rattle.state.specs.Wakes.{listed}
use Rattle.state.specs.Laws.{view-codes}
use Rattle.script.specs.Answers.{Answer, Refused, End, NotYet, Done, Shown}
use Rattle.script.specs.Machine.{Ans, ended, handed, told}
use Rattle.endpoint.specs.Front.{front_length}
use Rattle.answer.specs.declared.Step.TheVariants as step
use Rattle.machine.specs.Suspended.{answer_of}
pub use Rattle.answer.specs.Answering.{length_most, front-take}

take-few : (n : ℕ) (cs : List ℕ) → length (take n cs) ≤ length cs
take-few zero cs = omega arith
take-few (suc n) [] = omega arith
take-few (suc n) (c ∷ cs) = omega (arith, take-few n cs)

-- the state's list has at most 64, for any bytes
pub listed-few : (xs : List ℕ) → length (listed (view xs).wakes) ≤ 64
unfolding listed
listed-few xs = omega (arith, take-few (view xs).wakes.count (view xs).wakes.codes, view-codes xs)

wakes_in : Ans Answer → List ℕ
wakes_in (ended (End n ws)) = ws
wakes_in (ended (Refused n)) = []
wakes_in (ended NotYet) = []
wakes_in (ended (Done bytes)) = []
wakes_in (ended (Shown bytes stamp)) = []
wakes_in (handed q) = []
wakes_in (told n) = []

-- an end that is the machine's: its count is the length of the machine's list
pub count-is : (n k m : ℕ) (out ws : List ℕ) (d : Driver) → answer_of (step.Ends n k) out d ≡ ended (End m ws) → k
    ≡ length ws
unfolding wakes_in
count-is n k m out ws d e = sym (front_length k d.wakes.codes) ∙ ap (λ (a : Ans Answer). length (wakes_in a)) e
