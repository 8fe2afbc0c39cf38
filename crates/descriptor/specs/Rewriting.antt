-- A configuration descriptor read, and its list written out: "Both come ... 17 first". A room too short for the list
-- answers 17 also where one address has two transfer types: how many endpoints the list has does not hang on their
-- types.
use Rattle.std.specs.Prelude.{Bool, cond, not, ◌||◌, List, ℕ}
use Rattle.descriptor.specs.declared.Endpoints.{Endpoints}
use Rattle.descriptor.specs.declared.Written.{Written}
use Rattle.descriptor.specs.declared.Written.TheVariants.{Refused}
use Rattle.descriptor.specs.Row.{is_configuration}
use Rattle.descriptor.specs.Endpoints.{of_list}
use Rattle.descriptor.specs.Reading.{in_order, list_of, two_types}
use Rattle.descriptor.specs.Writing.{is_short, written_of, room_after}

abbrev pub list_in : List ℕ → Endpoints
list_in s = of_list (list_of s)

-- every way to 17 of the two
abbrev pub seventeen : List ℕ → List ℕ → Bool
seventeen s room = not (is_configuration s) || is_short (list_in s) room

unfoldable pub rewritten_of : List ℕ → List ℕ → Written
rewritten_of s room = cond (seventeen s room) (Refused 17)
    (cond (two_types (in_order s)) (Refused 18) (written_of (list_in s) room))

-- a refusal leaves the room
unfoldable pub room_rewritten : List ℕ → List ℕ → List ℕ
room_rewritten s room = cond (seventeen s room) room (cond (two_types (in_order s)) room (room_after (list_in s) room))
