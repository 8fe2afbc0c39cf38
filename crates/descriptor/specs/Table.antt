-- Configuration descriptors worked out.
use Rattle.std.specs.Prelude.{◌≡◌, refl, List, [], ◌∷◌, ◌++◌, ℕ}
use Rattle.descriptor.specs.declared.Answer.TheVariants.{Refused, Listed}
use Rattle.descriptor.specs.Row.{least, whole, is_clear, allowed, entered, is_row, total_of, is_configuration}
use Rattle.descriptor.specs.Row.{endpoint_of, setting_of, is_meant}
use Rattle.descriptor.specs.Row.{endpoints_of}
use Rattle.descriptor.specs.Endpoints.{merged, noted, gathered}
use Rattle.descriptor.specs.Reading.{list_of, clashes, two_types, reading_of}
use Rattle.descriptor.specs.Writing.{endpoints, written}

-- a configuration of so many bytes, an interface's alternate setting, an endpoint, a descriptor of a class
abbrev conf : ℕ → List ℕ
conf total = 9 ∷ 2 ∷ total ∷ 0 ∷ 1 ∷ 1 ∷ 0 ∷ 0x80 ∷ 50 ∷ []

abbrev face : ℕ → List ℕ
face setting = 9 ∷ 4 ∷ 0 ∷ setting ∷ 2 ∷ 255 ∷ 0 ∷ 0 ∷ 0 ∷ []

abbrev end : ℕ → ℕ → ℕ → ℕ → ℕ → List ℕ
end address attributes lo hi interval = 7 ∷ 5 ∷ address ∷ attributes ∷ lo ∷ hi ∷ interval ∷ []

abbrev class : List ℕ
class = 3 ∷ 0x24 ∷ 7 ∷ []

-- Setting 1 stands before setting 0, and 0x82 in both. Bits 11-12 of a maximum and bits 2-7 of the attributes are
-- dropped.
abbrev two : List ℕ
two = conf 58 ++ face 1 ++ end 0x82 2 0 2 9 ++ end 0x03 3 8 0 1 ++ class ++ face 0 ++ end 0x81 0x25 0 0x1A 4
    ++ end 0x82 2 64 0 2

pub listed :
    (list_of two
    ≡ record { address = 0x81; kind = 1; maximum = 512; interval = 4 }
    ∷ record { address = 0x82; kind = 2; maximum = 512; interval = 2 }
    ∷ record { address = 0x03; kind = 3; maximum = 8; interval = 1 }
    ∷ [])
    × ((reading_of two).answer ≡ Listed)
    × (written (record { address = 0x81; kind = 1; maximum = 512; interval = 4 } ∷ [])
    ≡ 9 ∷ 2 ∷ 25 ∷ 0 ∷ 1 ∷ 0 ∷ 0 ∷ 0 ∷ 0 ∷ 9 ∷ 4 ∷ 0 ∷ 0 ∷ 1 ∷ 0 ∷ 0 ∷ 0 ∷ 0 ∷ 7 ∷ 5 ∷ 0x81 ∷ 1 ∷ 0 ∷ 2 ∷ 4 ∷ [])
unfolding least whole is_clear allowed entered is_row total_of is_configuration
    endpoint_of setting_of is_meant endpoints_of merged noted gathered clashes two_types reading_of endpoints written
listed = (refl, refl, refl)

-- No bytes; a total length that is not theirs; a length byte of 1, below its kind's, past the end; a second
-- configuration; an endpoint before every interface; address bits 4-6; two types, alone and before a broken descriptor.
-- Number 0 is no error here.
pub errors :
    ((reading_of []).answer ≡ Refused 17)
    × ((reading_of (conf 10)).answer ≡ Refused 17)
    × ((reading_of (conf 11 ++ 1 ∷ 0 ∷ [])).answer ≡ Refused 17)
    × ((reading_of (conf 17 ++ 8 ∷ 4 ∷ 0 ∷ 0 ∷ 0 ∷ 0 ∷ 0 ∷ 0 ∷ [])).answer ≡ Refused 17)
    × ((reading_of (conf 12 ++ 4 ∷ 0x24 ∷ 7 ∷ [])).answer ≡ Refused 17)
    × ((reading_of (conf 18 ++ conf 18)).answer ≡ Refused 17)
    × ((reading_of (conf 16 ++ end 0x81 2 64 0 0)).answer ≡ Refused 17)
    × ((reading_of (conf 25 ++ face 0 ++ end 0x91 2 64 0 0)).answer ≡ Refused 17)
    × ((reading_of (conf 32 ++ face 0 ++ end 0x81 2 64 0 0 ++ end 0x81 3 64 0 0)).answer ≡ Refused 18)
    × ((reading_of (conf 33 ++ face 0 ++ end 0x81 2 64 0 0 ++ end 0x81 3 64 0 0 ++ 2 ∷ [])).answer ≡ Refused 17)
    × ((reading_of (conf 25 ++ face 0 ++ end 0x80 0 64 0 0)).answer ≡ Listed)
unfolding least whole is_clear allowed entered is_row
    total_of is_configuration endpoint_of setting_of is_meant endpoints_of merged noted gathered clashes two_types reading_of
errors = (refl, refl, refl, refl, refl, refl, refl, refl, refl, refl, refl)
