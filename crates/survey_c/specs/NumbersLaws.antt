-- The chosen set is read back from its word: bits 8-23 have room for it. Assumes nothing.
use Rattle.std.specs.Prelude.{◌≡◌, List, ℕ, ◌/◌, ◌%◌, ◌^◌, ◌≤◌, ◌<◌, length}
use Rattle.std.proofs.Common.{arith, pow_mono}
use Rattle.channels.specs.declared.Channel.{Channel}
use Rattle.channels.specs.Answers.{choice_in, answer_of}
use Rattle.channels.specs.Promises.{accepted}
use Rattle.survey_c.specs.Words.{end_word}
use Rattle.survey_c.specs.Numbers.{best_word}

end-parts : (n : ℕ) → (end_word n % 2 ^ 4 ≡ 5) × (end_word n / 2 ^ 8 ≡ n)
end-parts n = (omega arith, omega arith)

module _ (cs : List Channel) (is_in_use budget : ℕ) (some : 0 < budget) (few : length cs ≤ 16) where
  pub set-lt : (choice_in cs is_in_use budget).set < 2 ^ 16
  set-lt =
      let p = (accepted cs is_in_use budget some few).promise in
      omega (arith, p.looked, p.best.among, pow_mono few)

  pub best-read : (best_word (answer_of cs is_in_use budget) % 2 ^ 4 ≡ 5)
      × (best_word (answer_of cs is_in_use budget) / 2 ^ 8 ≡ (choice_in cs is_in_use budget).set)
  best-read = rw (accepted cs is_in_use budget some few).answer (end-parts (choice_in cs is_in_use budget).set)
