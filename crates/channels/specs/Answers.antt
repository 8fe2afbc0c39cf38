-- Request Ten's answer, and the lent list after it.
use Rattle.std.specs.Prelude.{Bool, cond, ◌||◌, List, ℕ, eqb, ltb, length, Result, Ok, Err}
use Rattle.channels.specs.declared.Channel.{Channel}
use Rattle.channels.specs.declared.Choice.{Choice}
use Rattle.channels.specs.declared.Refusal.{Refusal}
use Rattle.channels.specs.declared.Refusal.TheVariants.{Channels}
use Rattle.channels.specs.Channels.{maximum, charge, flagged}
use Rattle.channels.specs.Sets.{choice_of}

-- row 20: a budget of 0, more than 16 channels
unfoldable pub is_refused : ℕ → ℕ → Bool
is_refused n budget = eqb budget 0 || ltb 16 n

-- the choice among the channels of the list
abbrev pub choice_in : List Channel → ℕ → ℕ → Choice
choice_in cs is_in_use budget = choice_of (maximum cs) (charge cs) (length cs) is_in_use budget

unfoldable pub answer_of : List Channel → ℕ → ℕ → Result Choice Refusal
answer_of cs is_in_use budget = cond (is_refused (length cs) budget) (Err Channels) (Ok (choice_in cs is_in_use budget))

-- a refusal writes no flag; else all are written
unfoldable pub list_after : List Channel → ℕ → ℕ → List Channel
list_after cs is_in_use budget = cond (is_refused (length cs) budget) cs
    (flagged cs (choice_in cs is_in_use budget).set (length cs))
