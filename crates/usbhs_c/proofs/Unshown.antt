-- Answers that bring neither a packet in its slot nor bytes. Assumes nothing.
use mathlib.Core.List.{List, [], ◌∷◌}
use mathlib.Core.Path.{◌≡◌, refl}
use Prim.Native.Nat.{ℕ}
use denote.Enum.Declared.{tag_of}
use types.Run.{OneOf, miss}
use Rattle.state.specs.Driver.{Driver}
use Rattle.answer.specs.declared.Step.{Step}
use Rattle.answer.specs.declared.Step.TheVariants as step
use Rattle.machine.specs.Suspended.{answer_of, lent_by}
use Rattle.answer.specs.contracts.Step as declared
use Rattle.usbhs_c.specs.Stamp.{stamp_by}

-- all but `Shown`, the last
abbrev others : List ℕ
others = 0 ∷ 1 ∷ 2 ∷ 3 ∷ 4 ∷ 5 ∷ []

pub unshown : (t : Step) → OneOf others (tag_of declared.the_type t) → (old : ℕ) (b : List ℕ) (d : Driver) → old
    ≡ stamp_by (answer_of t b d) old
unshown (step.Refused n) h old b d = refl
unshown (step.Asks q) h old b d = refl
unshown (step.Ends n w) h old b d = refl
unshown step.NotYet h old b d = refl
unshown (step.Done n) h old b d = refl
unshown (step.Setup low high) h old b d = refl
unshown (step.Shown at n stamp) h old b d = absurd (miss others 6 tt h)

-- all before `Done`
abbrev bare : List ℕ
bare = 0 ∷ 1 ∷ 2 ∷ 3 ∷ []

-- an answer that says nothing of the caller's bytes, and leaves them
pub record Bare (t : Step) (out : List ℕ) (d : Driver) : Type 0 where
  pub same : answer_of t out d ≡ answer_of t [] d
  pub stays : out ≡ lent_by (answer_of t [] d) out

pub bare-answer : (t : Step) → OneOf bare (tag_of declared.the_type t) → (out : List ℕ) (d : Driver) → Bare t out d
bare-answer (step.Refused n) h out d = record { same = refl; stays = refl }
bare-answer (step.Asks q) h out d = record { same = refl; stays = refl }
bare-answer (step.Ends n w) h out d = record { same = refl; stays = refl }
bare-answer step.NotYet h out d = record { same = refl; stays = refl }
bare-answer (step.Done n) h out d = absurd (miss bare 4 tt h)
bare-answer (step.Setup low high) h out d = absurd (miss bare 5 tt h)
bare-answer (step.Shown at n stamp) h out d = absurd (miss bare 6 tt h)
