-- Laws on the definitions of Keeps.antt
use Rattle.std.specs.Prelude.{List, ◌≡◌, ℕ}
use Rattle.std.proofs.Common.{ap, subst, sym, ◌∙◌}
use Rattle.state.specs.declared.Saved.{Saved}
use Rattle.state.specs.Driver.{Driver}
use Rattle.state.specs.State.{saved}
use Rattle.script.specs.Answers.{Answer, Refused, NotYet, Done, Shown}
use Rattle.script.specs.Machine.{Ans}
use Rattle.answer.specs.declared.Step.{Step}
use Rattle.answer.specs.declared.Step.TheVariants as step
use Rattle.machine.specs.declared.Suspended.{Suspended}
use Rattle.machine.specs.Suspended.{encode, decode, answer_of, Canonical, SavedByAnswer}
use Rattle.machine.specs.SuspendedLaws.{decode-encode}
use Rattle.machine.specs.Keeps.{KeptBy}

-- the encoding of a point is the encoding of what it is read back as
encoded : (u : Suspended) (x : Saved) → x ≡ encode u → x ≡ encode (decode x)
encoded u x e = e ∙ ap encode (sym (ap decode e ∙ decode-encode u))

pub canonical : (u : Suspended) (xs : List ℕ) → saved xs ≡ encode u → Canonical xs
canonical u xs e = encoded u (saved xs) e

-- what was saved before, where the state changed first and what is saved did not
pub kept_from_lem : (r : Step) (xs ys zs : List ℕ) → saved ys ≡ saved xs → SavedByAnswer r ys zs → SavedByAnswer r xs zs
kept_from_lem (step.Refused n) xs ys zs e h = h ∙ e
kept_from_lem (step.Asks q) xs ys zs e h = h
kept_from_lem (step.Ends n k) xs ys zs e h = h
kept_from_lem step.NotYet xs ys zs e h = h ∙ e
kept_from_lem (step.Done n) xs ys zs e h = h ∙ e
kept_from_lem (step.Setup low high) xs ys zs e h = h ∙ e
kept_from_lem (step.Shown at n stamp) xs ys zs e h = h ∙ e

-- by the answer of the machine of calls it is the same
kept-alike : (r : Step) (out : List ℕ) (d : Driver) (xs ys : List ℕ)
    → (SavedByAnswer r xs ys → KeptBy (answer_of r out d) xs ys)
    × (KeptBy (answer_of r out d) xs ys → SavedByAnswer r xs ys)
kept-alike (step.Refused n) out d xs ys = (λ h. h, λ h. h)
kept-alike (step.Asks q) out d xs ys = (λ h. h, λ h. h)
kept-alike (step.Ends n k) out d xs ys = (λ h. h, λ h. h)
kept-alike step.NotYet out d xs ys = (λ h. h, λ h. h)
kept-alike (step.Done n) out d xs ys = (λ h. h, λ h. h)
kept-alike (step.Setup low high) out d xs ys = (λ h. h, λ h. h)
kept-alike (step.Shown at n stamp) out d xs ys = (λ h. h, λ h. h)

pub kept_by : (r : Step) (out : List ℕ) (d : Driver) (xs ys : List ℕ) → SavedByAnswer r xs ys
    → KeptBy (answer_of r out d) xs ys
kept_by r out d xs ys h = (kept-alike r out d xs ys).0 h

-- two answers that the machine of calls does not tell apart
pub kept-told : (r t : Step) (out out' : List ℕ) (d : Driver) (xs ys : List ℕ)
    → answer_of t out' d ≡ answer_of r out d → SavedByAnswer r xs ys → SavedByAnswer t xs ys
kept-told r t out out' d xs ys e h =
    (kept-alike t out' d xs ys).1 (subst (λ (a : Ans Answer). KeptBy a xs ys) (sym e) (kept_by r out d xs ys h))
