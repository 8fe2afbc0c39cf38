-- Packets, and their bytes one behind the other.
use Rattle.std.specs.Prelude.{ℕ, ◌+◌, ◌/◌, ◌%◌, ◌<◌, ◌≤◌, List, [], ◌∷◌, ◌++◌, length}

pub record Packet : Type 0 where
  pub endpoint : ℕ
  pub bytes : List ℕ

abbrev pub packet_of : ℕ → List ℕ → Packet
packet_of endpoint bytes = record { endpoint = endpoint; bytes = bytes }

-- a packet that may be written
pub record Writable (p : Packet) : Type 0 where
  pub numbered : 0 < p.endpoint
  pub small : p.endpoint ≤ 15
  pub short : length p.bytes ≤ 1024

pub data All : List Packet → Type 0 where
  none : All []
  more : {p : Packet} {ps : List Packet} → Writable p → All ps → All (p ∷ ps)

-- two bytes, lowest first
abbrev pub le16 : ℕ → List ℕ
le16 x = x % 256 ∷ x / 256 ∷ []

-- two bytes of length, one byte of endpoint, its bytes
abbrev pub packet_bytes : Packet → List ℕ
packet_bytes p = length p.bytes % 256 ∷ length p.bytes / 256 ∷ p.endpoint ∷ p.bytes

-- how many bytes that is
abbrev pub size : Packet → ℕ
size p = 3 + length p.bytes

-- packets run on one behind the other
unfoldable pub data_of : List Packet → List ℕ
data_of [] = []
data_of (p ∷ ps) = packet_bytes p ++ data_of ps
