-- A list written as a configuration descriptor: one interface, alternate setting 0, and its endpoints. Every byte that
-- this leaves open is 0.
use Rattle.std.specs.Prelude.{Bool, cond, List, [], ◌∷◌, ◌++◌, ℕ, zero, suc, ◌+◌, ◌*◌, ◌/◌, ◌%◌, min, ltb, length, get_or, take, drop}
use Rattle.descriptor.specs.declared.Endpoint.{Endpoint}
use Rattle.descriptor.specs.declared.Endpoints.{Endpoints}
use Rattle.descriptor.specs.declared.Written.{Written}
use Rattle.descriptor.specs.declared.Written.TheVariants.{Refused, Bytes}
use Rattle.descriptor.specs.Endpoints.{none}

abbrev pub low : ℕ → ℕ
low x = x % 256

abbrev pub high : ℕ → ℕ
high x = x / 256 % 256

abbrev pub total_for : ℕ → ℕ
total_for n = 18 + n * 7

-- of n endpoints: length, kind, wTotalLength, bNumInterfaces
abbrev pub configuration : ℕ → List ℕ
configuration n = 9 ∷ 2 ∷ low (total_for n) ∷ high (total_for n) ∷ 1 ∷ 0 ∷ 0 ∷ 0 ∷ 0 ∷ []

-- length, kind, bInterfaceNumber, bAlternateSetting, bNumEndpoints
abbrev pub interface : ℕ → List ℕ
interface n = 9 ∷ 4 ∷ 0 ∷ 0 ∷ n ∷ 0 ∷ 0 ∷ 0 ∷ 0 ∷ []

abbrev pub endpoint : Endpoint → List ℕ
endpoint e = 7 ∷ 5 ∷ e.address ∷ e.kind ∷ low e.maximum ∷ high e.maximum ∷ e.interval ∷ []

unfoldable pub endpoints : List Endpoint → List ℕ
endpoints [] = []
endpoints (e ∷ es) = endpoint e ++ endpoints es

unfoldable pub written : List Endpoint → List ℕ
written es = configuration (length es) ++ interface (length es) ++ endpoints es

-- ---- in lent room

-- d from byte `at` on, and every other byte as it was
abbrev pub laid : List ℕ → ℕ → List ℕ → List ℕ
laid room at d = take at room ++ d ++ drop (at + length d) room

-- the first n entries
unfoldable pub up_to : ℕ → List Endpoint → List Endpoint
up_to zero es = []
up_to (suc n) es = up_to n es ++ (get_or es n none ∷ [])

-- a count above 32 is taken for 32
abbrev pub count_of : Endpoints → ℕ
count_of l = min l.count 32

abbrev pub stored : Endpoints → List Endpoint
stored l = up_to (count_of l) l.entries

-- too short a room, and it stays as it was
abbrev pub is_short : Endpoints → List ℕ → Bool
is_short l room = ltb (length room) (total_for (count_of l))

unfoldable pub written_of : Endpoints → List ℕ → Written
written_of l room = cond (is_short l room) (Refused 17) (Bytes (total_for (count_of l)))

unfoldable pub room_after : Endpoints → List ℕ → List ℕ
room_after l room = cond (is_short l room) room (written (stored l) ++ drop (total_for (count_of l)) room)
