-- Three channels worked out: maxima 100, 100, 150, charges 3,000, 3,000, 5,000.
use Rattle.std.specs.Prelude.{◌≡◌, refl, List, [], ◌∷◌, ℕ, Ok, Err}
use Rattle.bits.specs.Bit.{bit_is_set}
use Rattle.channels.specs.declared.Channel.{Channel}
use Rattle.channels.specs.declared.Refusal.TheVariants.{Channels}
use Rattle.channels.specs.Channels.{flagged}
use Rattle.channels.specs.Sets.{total, sum, fits, look, best_of, figure, choice_of}
use Rattle.channels.specs.Answers.{is_refused, answer_of, list_after}

abbrev three : ℕ → ℕ → ℕ → List Channel
three a b c =
    record { maximum = 100; charge = 3000; chosen = a } ∷ record { maximum = 100; charge = 3000; chosen = b }
    ∷ record { maximum = 150; charge = 5000; chosen = c } ∷ []

-- all sets: the first two fill 6,000 exactly. Three sets: of two equal ones the earlier. One byte-time less, or none
-- left, or no channel.
pub table :
    (answer_of (three 7 8 9) 0 8 ≡ Ok (record { set = 3; total = 200; figure = 200; looked = 8 }))
    × (list_after (three 7 8 9) 0 8 ≡ three 1 1 0)
    × (answer_of (three 7 8 9) 0 3 ≡ Ok (record { set = 1; total = 100; figure = 350; looked = 3 }))
    × (list_after (three 7 8 9) 0 3 ≡ three 1 0 0)
    × (answer_of (three 7 8 9) 1 9 ≡ Ok (record { set = 4; total = 150; figure = 150; looked = 8 }))
    × (answer_of (three 7 8 9) 7000 9 ≡ Ok (record { set = 0; total = 0; figure = 0; looked = 8 }))
    × (list_after (three 7 8 9) 7000 9 ≡ three 0 0 0)
    × (answer_of [] 0 1 ≡ Ok (record { set = 0; total = 0; figure = 0; looked = 1 }))
    × (answer_of (three 7 8 9) 0 0 ≡ Err Channels)
    × (list_after (three 7 8 9) 0 0 ≡ three 7 8 9)
unfolding bit_is_set flagged total sum fits look best_of figure choice_of is_refused answer_of list_after
table = (refl, refl, refl, refl, refl, refl, refl, refl, refl, refl)
