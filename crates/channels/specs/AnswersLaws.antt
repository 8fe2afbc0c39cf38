-- Laws on the definitions of Answers.antt. Assumes nothing.
use Rattle.std.specs.Prelude.{◌≡◌, true, false, List, ℕ, ◌≤◌, length, Ok, Err}
use Rattle.std.proofs.Common.{◌∙◌}
use Rattle.channels.specs.declared.Channel.{Channel}
use Rattle.channels.specs.declared.Choice.{Choice}
use Rattle.channels.specs.declared.Refusal.TheVariants.{Channels}
use Rattle.channels.specs.Channels.{flagged}
use Rattle.channels.specs.Arrays.{listed, lists_of}
use Rattle.channels.specs.ArraysLaws.{maxima-read, charges-read}
use Rattle.channels.specs.Sets.{choice_of}
use Rattle.channels.specs.Answers.{is_refused, choice_in, answer_of, list_after}

module _ (ys : List Channel) (u g : ℕ) where
  pub turned_down_lem : is_refused (length ys) g ≡ true → (Err Channels ≡ answer_of ys u g) × (ys ≡ list_after ys u g)
  unfolding answer_of list_after
  turned_down_lem h = (rw h, rw h)

  -- what is chosen by the two arrays, and the list marked so
  pub chosen_is : is_refused (length ys) g ≡ false → length ys ≤ 16 → (r : Choice)
      → r ≡ choice_of (listed (lists_of ys (length ys)).maxima) (listed (lists_of ys (length ys)).charges) (length ys) u
      g
      → (zs : List Channel) → zs ≡ flagged ys r.set (length ys) → (Ok r ≡ answer_of ys u g) × (zs ≡ list_after ys u g)
  unfolding answer_of list_after
  chosen_is h few r e zs l =
      let d : r ≡ choice_in ys u g = e ∙ rw (maxima-read ys few, charges-read ys few) in
      (rw (d, h), l ∙ rw (d, h))
