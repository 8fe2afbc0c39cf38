-- Packets as a stream of blocks of 512 bytes.
use Rattle.std.specs.Prelude.{ℕ, zero, suc, ◌+◌, ◌*◌, ◌/◌, ◌%◌, List, [], ◌∷◌, ◌++◌, length, drop}
use Rattle.card.specs.Crc.{data_crc}
use Rattle.card.specs.Packet.{Packet, le16, data_of}
use Rattle.card.specs.Reading.{block_end}
use Rattle.card.specs.Kept.{first_in}

-- a number modulo 2^32 in four bytes, lowest first
abbrev pub le32 : ℕ → List ℕ
le32 x = x % 256 ∷ x / 256 % 256 ∷ x / 65536 % 256 ∷ x / 16777216 % 256 ∷ []

-- the first n bytes; where there are fewer, zeros follow
unfoldable pub filled : ℕ → List ℕ → List ℕ
filled zero l = []
filled (suc n) [] = 0 ∷ filled n []
filled (suc n) (x ∷ l) = x ∷ filled n l

-- the block's number, the offset of the first packet that begins in it, packet data: bytes 0 to 509
unfoldable pub body : ℕ → ℕ → List ℕ → List ℕ
body number first data-part = le32 number ++ (le16 first ++ data-part)

-- the check behind them
unfoldable pub sealed : List ℕ → List ℕ
sealed b = b ++ le16 (data_crc b)

-- block k of the stream of these packets
unfoldable pub block_of : List Packet → ℕ → List ℕ
block_of ps k = sealed (body k (first_in k 0 ps) (filled 504 (drop (k * 504) (data_of ps))))

unfoldable pub blocks_from : List Packet → ℕ → ℕ → List ℕ
blocks_from ps k zero = []
blocks_from ps k (suc n) = block_of ps k ++ blocks_from ps (k + 1) n

-- as many blocks as the packets need
abbrev pub block_count : List Packet → ℕ
block_count ps = block_end (length (data_of ps))

unfoldable pub stream : List Packet → List ℕ
stream ps = blocks_from ps 0 (block_count ps)
