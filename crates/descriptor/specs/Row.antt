-- A configuration descriptor (USB 2.0, 9.6.3): descriptors one after the other. Byte 0 of each is its length, byte 1
-- its kind. A row is the bytes from one of them on to the end.
use Rattle.std.specs.Prelude.{Bool, true, false, cond, not, ◌&&◌, ◌||◌, List, [], ◌∷◌, ℕ, zero, suc, ◌+◌, ◌*◌, ◌/◌, ◌%◌, eqb, leb, length, get_or, drop}
use Rattle.descriptor.specs.declared.Endpoint.{Endpoint}

-- ---- the first descriptor of a row

abbrev pub length_of : List ℕ → ℕ
length_of d = get_or d 0 0

-- 2 a configuration, 4 an interface, 5 an endpoint (USB 2.0, table 9-5)
abbrev pub kind_of : List ℕ → ℕ
kind_of d = get_or d 1 0

-- the row that is left after it: it is skipped by its length byte
abbrev pub next : List ℕ → List ℕ
next d = drop (length_of d) d

-- the least length byte of a kind
unfoldable pub least : ℕ → ℕ
least kind = cond (eqb kind 2) 9 (cond (eqb kind 4) 9 (cond (eqb kind 5) 7 2))

-- its length byte is not below its kind's length and does not run past the end
unfoldable pub whole : List ℕ → Bool
whole d = leb 2 (length d) && leb (least (kind_of d)) (length_of d) && leb (length_of d) (length d)

-- bits 4-6 of an endpoint's address
unfoldable pub is_clear : ℕ → Bool
is_clear address = eqb (address / 16 % 8) 0

-- no second configuration descriptor; an endpoint only inside an interface, and with these bits clear
unfoldable pub allowed : Bool → List ℕ → Bool
allowed inside d = cond (eqb (kind_of d) 2) false (cond (eqb (kind_of d) 5) (inside && is_clear (get_or d 2 0)) true)

-- every interface leads into one
unfoldable pub entered : Bool → List ℕ → Bool
entered inside d = inside || eqb (kind_of d) 4

-- ---- error 17

-- all of a row's descriptors, of which there are at most n
unfoldable pub is_row : ℕ → Bool → List ℕ → Bool
is_row zero inside d = eqb (length d) 0
is_row (suc n) inside [] = true
is_row (suc n) inside (b ∷ d) =
    whole (b ∷ d) && allowed inside (b ∷ d) && is_row n (entered inside (b ∷ d)) (next (b ∷ d))

-- wTotalLength
unfoldable pub total_of : List ℕ → ℕ
total_of s = get_or s 2 0 + get_or s 3 0 * 256

-- no error 17: at most 4,096 bytes that begin with a configuration descriptor, are as many as its total length, and go
-- on as a row
unfoldable pub is_configuration : List ℕ → Bool
is_configuration s =
    leb (length s) 4096 && whole s && eqb (kind_of s) 2 && eqb (total_of s) (length s) && is_row (length s) false (next s)

-- ---- its endpoints

-- an endpoint's descriptor (USB 2.0, 9.6.6)
unfoldable pub endpoint_of : List ℕ → Endpoint
endpoint_of d = record {
  address = get_or d 2 0;
  kind = get_or d 3 0 % 4;
  maximum = (get_or d 4 0 + get_or d 5 0 * 256) % 2048;
  interval = get_or d 6 0;
}

-- the alternate setting: that of the last interface
unfoldable pub setting_of : ℕ → List ℕ → ℕ
setting_of setting d = cond (eqb (kind_of d) 4) (get_or d 3 0) setting

-- an endpoint, and its setting is 0 or not, as is asked
unfoldable pub is_meant : Bool → ℕ → List ℕ → Bool
is_meant zeroth setting d = eqb (kind_of d) 5 && cond zeroth (eqb setting 0) (not (eqb setting 0))

-- these of a row, in order of appearance
unfoldable pub endpoints_of : ℕ → Bool → ℕ → List ℕ → List Endpoint
endpoints_of zero zeroth setting d = []
endpoints_of (suc n) zeroth setting [] = []
endpoints_of (suc n) zeroth setting (b ∷ d) =
    let left = endpoints_of n zeroth (setting_of setting (b ∷ d)) (next (b ∷ d)) in
    cond (is_meant zeroth (setting_of setting (b ∷ d)) (b ∷ d)) (endpoint_of (b ∷ d) ∷ left) left
