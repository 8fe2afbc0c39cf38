-- Laws on the definitions of Crc.antt
use Rattle.std.specs.Prelude.{◌≡◌, ℕ, ◌/◌, ◌%◌, List, [], ◌∷◌, refl}
use Rattle.card.specs.Crc.{bits_of, bits_of_bytes, number_of, generator, ones, added, stepped, remainder, crc_bits}
use Rattle.card.specs.Crc.{data_crc}

-- "123456789"
abbrev pub digits : List ℕ
digits = 49 ∷ 50 ∷ 51 ∷ 52 ∷ 53 ∷ 54 ∷ 55 ∷ 56 ∷ 57 ∷ []

pub check-value : data_crc digits ≡ 0xB4C8
unfolding data_crc crc_bits remainder stepped added ones generator number_of bits_of_bytes bits_of
check-value = refl

-- the bytes that the bus carries
pub check-bytes : ◌≡◌ {A = List ℕ} (data_crc digits % 256 ∷ data_crc digits / 256 ∷ []) (0xC8 ∷ 0xB4 ∷ [])
check-bytes = rw check-value
