-- From the definitions of reading and writing: what a rewriting answers. Assumes nothing.
use Rattle.std.proofs.Math.Path.{◌≡◌, refl}
use Rattle.std.proofs.Common.{sym, true≢false, arith}
use Rattle.std.specs.Prelude.{Bool, not, ◌||◌, List, ℕ}
use Rattle.std.proofs.Math.Bool.{true, false, cond, or-true}
use Rattle.descriptor.specs.declared.Endpoints.{Endpoints}
use Rattle.descriptor.specs.declared.Reading.{Reading}
use Rattle.descriptor.specs.declared.Answer.TheVariants as answer
use Rattle.descriptor.specs.declared.Written.TheVariants.{Refused}
use Rattle.descriptor.specs.Row.{is_configuration}
use Rattle.descriptor.specs.Reading.{in_order, two_types, refused_by, reading_of}
use Rattle.descriptor.specs.Writing.{is_short, written_of, room_after}
use Rattle.descriptor.specs.Rewriting.{list_in, rewritten_of, room_rewritten}

abbrev reads : Bool → Bool → Endpoints → Reading
reads k t l = cond (not k) (refused_by 17) (cond t (refused_by 18) (record { answer = answer.Listed; list = l }))

module _ (s room : List ℕ) where
  -- 17, whatever the types are
  pub no-descriptor : is_configuration s ≡ false → (Refused 17 ≡ rewritten_of s room) × (room ≡ room_rewritten s room)
  unfolding rewritten_of room_rewritten
  no-descriptor h = (rw h, rw h)

  pub short-room : is_short (list_in s) room ≡ true → (Refused 17 ≡ rewritten_of s room) × (room ≡ room_rewritten s room)
  unfolding rewritten_of room_rewritten
  short-room h = (rw (h, or-true (not (is_configuration s))), rw (h, or-true (not (is_configuration s))))

  module _ (conf : is_configuration s ≡ true) (long : is_short (list_in s) room ≡ false) where
    pub refused-by : (row : ℕ) → (reading_of s).answer ≡ answer.Refused row → (Refused row ≡ rewritten_of s room)
        × (room ≡ room_rewritten s room)
    unfolding reading_of rewritten_of room_rewritten
    refused-by row h = go (is_configuration s) (two_types (in_order s)) (is_short (list_in s) room) conf long h
      where
        go : (k t z : Bool) → k ≡ true → z ≡ false → (reads k t (list_in s)).answer ≡ answer.Refused row
            → (Refused row ≡ cond (not k || z) (Refused 17) (cond t (Refused 18) (written_of (list_in s) room)))
            × (room ≡ cond (not k || z) room (cond t room (room_after (list_in s) room)))
        go false t z e l h = absurd (true≢false (sym e))
        go true t true e l h = absurd (true≢false l)
        go true true false e l h = (let n : 18 ≡ row = cc in rw n, refl)
        go true false false e l h = let z : ◌≡◌ {A = ℕ} 0 1 = cc in absurd (omega arith)

    pub written-by : (reading_of s).answer ≡ answer.Listed
        → ((reading_of s).list ≡ list_in s) × (written_of (list_in s) room ≡ rewritten_of s room)
        × (room_after (list_in s) room ≡ room_rewritten s room)
    unfolding reading_of rewritten_of room_rewritten
    written-by h = go (is_configuration s) (two_types (in_order s)) (is_short (list_in s) room) conf long h
      where
        go : (k t z : Bool) → k ≡ true → z ≡ false → (reads k t (list_in s)).answer ≡ answer.Listed
            → ((reads k t (list_in s)).list ≡ list_in s)
            × (written_of (list_in s) room ≡ cond (not k || z) (Refused 17)
            (cond t (Refused 18) (written_of (list_in s) room)))
            × (room_after (list_in s) room ≡ cond (not k || z) room (cond t room (room_after (list_in s) room)))
        go false t z e l h = absurd (true≢false (sym e))
        go true t true e l h = absurd (true≢false l)
        go true true false e l h = let z : ◌≡◌ {A = ℕ} 0 1 = cc in absurd (omega arith)
        go true false false e l h = (refl, refl, refl)
