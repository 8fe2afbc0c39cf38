-- What a reader sees of a stream of bytes.
use Rattle.std.specs.Prelude.{ℕ, ◌+◌, ◌*◌, ◌/◌, ◌%◌, Bool, ◌&&◌, List, length, take, drop, ◌==◌, nat_lt, slice_index}
use Rattle.card.specs.Crc.{data_crc}
use Rattle.card.specs.Reading.{View}

-- byte i of block k
abbrev pub byte_in : List ℕ → ℕ → ℕ → ℕ
byte_in s k i = slice_index s (k * 512 + i)

-- two bytes, and four, lowest first
abbrev pub pair_at : List ℕ → ℕ → ℕ → ℕ
pair_at s k i = byte_in s k i + byte_in s k (i + 1) * 256

abbrev pub number_at : List ℕ → ℕ → ℕ
number_at s k = byte_in s k 0 + byte_in s k 1 * 256 + byte_in s k 2 * 65536 + byte_in s k 3 * 16777216

abbrev pub block_at : List ℕ → ℕ → List ℕ
block_at s k = take 512 (drop (k * 512) s)

-- does the check of block k hold?
unfoldable pub checked : List ℕ → ℕ → Bool
checked s k = pair_at s k 510 == data_crc (take 510 (drop (k * 512) s))

-- is its number its place?
unfoldable pub placed : List ℕ → ℕ → Bool
placed s k = number_at s k == k % 4294967296

-- a good block is one of the stream's, its check holds, and its number is its place modulo 2^32
unfoldable pub good_block : List ℕ → ℕ → Bool
good_block s k = nat_lt k (length s / 512) && (placed s k && checked s k)

unfoldable pub data_byte : List ℕ → ℕ → ℕ
data_byte s d = byte_in s (d / 504) (6 + d % 504)

abbrev pub view : List ℕ → View
view s = record { blocks = length s / 512; good = good_block s; byte = data_byte s; named = λ k. pair_at s k 4 }
