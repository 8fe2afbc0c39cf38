-- The answer follows from the maxima, the charges and how many there are: what stood in the flags does not matter, so a
-- list asked again answers the same. Assumes nothing.
use Rattle.std.specs.Prelude.{◌≡◌, refl, Bool, true, false, cond, List, ℕ, length, get_or}
use Rattle.std.proofs.Common.{ap, ◌∙◌, arith}
use Rattle.std.proofs.Math.Decide.{dec_lt}
use Rattle.channels.specs.declared.Channel.{Channel}
use Rattle.channels.specs.Channels.{none, maximum, charge, flagged}
use Rattle.channels.specs.Answers.{is_refused, choice_in, answer_of, list_after}
use Rattle.channels.specs.ChannelsLaws.{length-flagged, flagged-each, flagged-behind}

pub alike : (cs ds : List Channel) (is_in_use budget : ℕ) → length ds ≡ length cs → maximum ds ≡ maximum cs → charge ds
    ≡ charge cs
    → answer_of ds is_in_use budget ≡ answer_of cs is_in_use budget
unfolding answer_of
alike cs ds is_in_use budget l m c = rw (l, m, c)

module _ (cs : List Channel) (w : ℕ) where
  abbrev ds : List Channel
  ds = flagged cs w (length cs)

  -- what a marking leaves of a channel
  stays : {A : Type 0} (f : Channel → A) → ((k : ℕ) (c : Channel)
      → f (record { maximum = c.maximum; charge = c.charge; chosen = k }) ≡ f c)
      → (i : ℕ) → f (get_or ds i none) ≡ f (get_or cs i none)
  stays f h i = elim (dec_lt i (length cs)) [
    | yes g ↦ ap f (flagged-each cs w (length cs) (omega arith) i g) ∙ h _ _
    | no g ↦ ap f (flagged-behind cs w (length cs) i (omega arith))
  ]

  pub maxima-stay : maximum ds ≡ maximum cs
  maxima-stay = λ x i. stays (λ (c : Channel). c.maximum) (λ k c. refl) i x

  pub charges-stay : charge ds ≡ charge cs
  charges-stay = λ x i. stays (λ (c : Channel). c.charge) (λ k c. refl) i x

pub again : (cs : List Channel) (is_in_use budget inUse' budget' : ℕ)
    → answer_of (list_after cs inUse' budget') is_in_use budget ≡ answer_of cs is_in_use budget
unfolding list_after
again cs is_in_use budget inUse' budget' = go (is_refused (length cs) budget')
  where
    w : ℕ
    w = (choice_in cs inUse' budget').set

    go : (r : Bool) → answer_of (cond r cs (flagged cs (choice_in cs inUse' budget').set (length cs))) is_in_use budget
        ≡ answer_of cs is_in_use budget
    go true = refl
    go false = alike cs (flagged cs (choice_in cs inUse' budget').set (length cs)) is_in_use budget
        (length-flagged cs _ (length cs)) (maxima-stay cs _) (charges-stay cs _)
