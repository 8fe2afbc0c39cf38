-- Of an answer that hands out no access the record of bus time stays. Assumes nothing.
use mathlib.Core.Bool.{false, true≢false}
use mathlib.Core.List.{List, [], ◌∷◌}
use mathlib.Core.Path.{◌≡◌, refl}
use Prim.Native.Nat.{ℕ}
use denote.Enum.Declared.{tag_of}
use types.Run.{OneOf, miss}
use Rattle.regs.specs.declared.Access.{Access}
use Rattle.regs.specs.declared.Access.TheVariants.{Read, Write, Receive, Transmit, Ep0Dma, Wait, Callback}
use Rattle.regs.specs.contracts.Access as declared-access
use Rattle.state.specs.Driver.{Driver}
use Rattle.script.specs.Answers.{Answer}
use Rattle.script.specs.Machine.{Ans, ended, handed, told}
use Rattle.answer.specs.declared.Step.{Step}
use Rattle.answer.specs.declared.Step.TheVariants as step
use Rattle.machine.specs.Suspended.{answer_of}
use Rattle.answer.specs.contracts.Step as declared-step
use Rattle.calls.specs.Sharing.{Sort, is_handed, written, time_after}
use Rattle.calls.specs.Charging.{charged_at}

-- all but `Asks`, the second
abbrev others : List ℕ
others = 0 ∷ 2 ∷ 3 ∷ 4 ∷ 5 ∷ 6 ∷ []

pub unasked : (t : Step) (x : Driver) → OneOf others (tag_of declared-step.the_type t) → is_handed (answer_of t [] x)
    ≡ false
unasked (step.Refused n) x h = refl
unasked (step.Asks q) x h = absurd (miss others 1 tt h)
unasked (step.Ends n w) x h = refl
unasked step.NotYet x h = refl
unasked (step.Done n) x h = refl
unasked (step.Setup low high) x h = refl
unasked (step.Shown at n stamp) x h = refl

module _ (t : List ℕ) where
  pub uncharged : (a : Ans Answer) → is_handed a ≡ false → (at c : ℕ) → t ≡ charged_at a at c t
  uncharged (ended a) h at c = refl
  uncharged (handed q) h at c = absurd (true≢false h)
  uncharged (told n) h at c = refl

  pub unmoved : (a : Ans Answer) → is_handed a ≡ false → (i : ℕ) (x : Sort) (d : Driver) → t ≡ time_after i x a d t
  unmoved (ended a) h i x d = refl
  unmoved (handed q) h i x d = absurd (true≢false h)
  unmoved (told n) h i x d = refl

  -- nor does an access that is no write change it: all but `Write`, the second
  pub unwritten : (q : Access) → OneOf others (tag_of declared-access.the_type q) → (i : ℕ) → t ≡ written i q t
  unwritten (Read r e) h i = refl
  unwritten (Write r e x) h i = absurd (miss others 1 tt h)
  unwritten (Receive e x) h i = refl
  unwritten (Transmit e x) h i = refl
  unwritten (Ep0Dma x) h i = refl
  unwritten (Wait n) h i = refl
  unwritten Callback h i = refl
