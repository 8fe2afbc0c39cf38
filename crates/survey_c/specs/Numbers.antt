-- The best set of channels and the arrivals between visits: the word, and what the caller's rooms hold then. A refusal
-- leaves them.
use Rattle.std.specs.Prelude.{◌≡◌, List, [], ◌∷◌, ℕ, Result, Ok, Err}
use Rattle.channels.specs.declared.Channel.{Channel}
use Rattle.channels.specs.declared.Choice.{Choice}
use Rattle.channels.specs.declared.Refusal as channels
use Rattle.channels.specs.Rows as channel_rows
use Rattle.channels.specs.Answers.{answer_of, list_after}
use Rattle.visits.specs.declared.Reached.{Reached}
use Rattle.visits.specs.declared.Bounds.{Bounds}
use Rattle.visits.specs.declared.Refusal as visits
use Rattle.visits.specs.Rows as visit_rows
use Rattle.survey_c.specs.Words.{refused_word, end_word}

-- the chosen set is the result
abbrev pub best_word : Result Choice channels.Refusal → ℕ
best_word (Err refusal) = refused_word (channel_rows.row_of refusal)
best_word (Ok c) = end_word c.set

abbrev pub total_by : Result Choice channels.Refusal → ℕ → ℕ
total_by (Err refusal) old = old
total_by (Ok c) old = c.total

abbrev pub figure_by : Result Choice channels.Refusal → ℕ → ℕ
figure_by (Err refusal) old = old
figure_by (Ok c) old = c.figure

abbrev pub looked_by : Result Choice channels.Refusal → ℕ → ℕ
looked_by (Err refusal) old = old
looked_by (Ok c) old = c.looked

-- the word, the list and the three rooms after a call, by the list, the time in use, the budget and what stood in the
-- rooms
pub record BestSet (list : List Channel) (is_in_use budget total figure looked word : ℕ) (list' : List Channel)
    (total' figure' looked' : ℕ) : Type 0 where
  pub says : word ≡ best_word (answer_of list is_in_use budget)
  pub marks : list' ≡ list_after list is_in_use budget
  pub totals : total' ≡ total_by (answer_of list is_in_use budget) total
  pub bounds : figure' ≡ figure_by (answer_of list is_in_use budget) figure
  pub looks : looked' ≡ looked_by (answer_of list is_in_use budget) looked

abbrev pub bounds_word : Result Bounds visits.Refusal → ℕ
bounds_word (Err refusal) = refused_word (visit_rows.row_of refusal)
bounds_word (Ok bounds) = end_word 0

-- the number, and "a first arrival after the visit and a steady distance that reach it"
abbrev pub numbers_of : Reached → List ℕ
numbers_of r = r.arrivals ∷ r.first ∷ r.distance ∷ []

abbrev pub least_by : Result Bounds visits.Refusal → List ℕ → List ℕ
least_by (Err refusal) old = old
least_by (Ok bounds) old = numbers_of bounds.least

abbrev pub greatest_by : Result Bounds visits.Refusal → List ℕ → List ℕ
greatest_by (Err refusal) old = old
greatest_by (Ok bounds) old = numbers_of bounds.greatest
