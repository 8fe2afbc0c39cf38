-- The recorder as six numbers, the calls' words, and what the caller's numbers are then. A refusal leaves them.
use Rattle.std.specs.Prelude.{List, [], ◌∷◌, ℕ, ◌%◌, get_or, Result, Ok, Err}
use Rattle.recorder.specs.declared.recorder.Recorder.{Recorder}
use Rattle.card.specs.declared.refusal.Refusal.{Refusal}
use Rattle.card.specs.Rows.{row_of}
use Rattle.survey_c.specs.Words.{refused_word, end_word}

-- number, used, first, from, left, survey; the second and third count modulo 65,536
unfoldable pub recorder_in : List ℕ → Recorder
recorder_in s = record {
  number = get_or s 0 0;
  used = get_or s 1 0 % 65536;
  first = get_or s 2 0 % 65536;
  from = get_or s 3 0;
  left = get_or s 4 0;
  survey = get_or s 5 0;
}

unfoldable pub recorder_numbers : Recorder → List ℕ
recorder_numbers r = r.number ∷ r.used ∷ r.first ∷ r.from ∷ r.left ∷ r.survey ∷ []

-- how many blocks are left to be stored
abbrev pub recorded_word : Result Recorder Refusal → ℕ
recorded_word (Ok r) = end_word r.left
recorded_word (Err why) = refused_word (row_of why)

abbrev pub recorder_by : Result Recorder Refusal → List ℕ → List ℕ
recorder_by (Ok r) old = recorder_numbers r
recorder_by (Err why) old = old
