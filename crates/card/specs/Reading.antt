-- What a reader gives, in the words of the request. Places of packet data are counted over all blocks, 504 bytes in
-- each.
use Rattle.std.specs.Prelude.{ℕ, zero, suc, ◌+◌, ◌-◌, ◌*◌, ◌/◌, min, Bool, cond, ◌&&◌, List, [], ◌∷◌, ◌==◌, nat_le, nat_lt, Option, Some, None}
use Rattle.card.specs.Packet.{Packet}
use Rattle.card.specs.declared.stream.Step.{Step}
use Rattle.card.specs.declared.stream.Step.TheVariants.{Ends, Goes, Gives}
use Rattle.card.specs.declared.stream.Found.{Found}

-- what a reader sees of a stream: how many blocks, which are good, the packet data, the begin that a block names
pub record View : Type 0 where
  pub blocks : ℕ
  pub good : ℕ → Bool
  pub byte : ℕ → ℕ
  pub named : ℕ → ℕ

abbrev pub total : View → ℕ
total v = v.blocks * 504

-- is a packet begin named by block k, a good one? A named begin outside 6 to 509 is none.
abbrev pub begins : View → ℕ → Bool
begins v k = v.good k && (nat_le 6 (v.named k) && nat_le (v.named k) 509)

-- the next packet begin that is named by a good block, from block k on, n blocks; behind them if there is none
unfoldable pub seek : View → ℕ → ℕ → ℕ
seek v k zero = k * 504
seek v k (suc n) = cond (begins v k) (k * 504 + (v.named k - 6)) (seek v (k + 1) n)

abbrev pub seek_from : View → ℕ → ℕ
seek_from v k = seek v k (v.blocks - k)

-- the first of n blocks from k on that is not good; the block behind them if all are
unfoldable pub clean_to : View → ℕ → ℕ → ℕ
clean_to v k zero = k
clean_to v k (suc n) = cond (v.good k) (clean_to v (k + 1) n) k

-- the number of blocks that the places before e lie in
abbrev pub block_end : ℕ → ℕ
block_end e = (e + 503) / 504

-- the first block that is not good, of those with the places from d up to e
abbrev pub clean_up_to : View → ℕ → ℕ → ℕ
clean_up_to v d e = clean_to v (d / 504) (block_end e - d / 504)

-- what the places from d up to e hold, if their blocks are good; else the packet is cut, and the reader goes on behind
-- the first that is not
unfoldable pub intact : View → ℕ → ℕ → Step → Step
intact v d e s = cond (nat_lt (clean_up_to v d e) (block_end e)) (Goes (seek_from v (clean_up_to v d e + 1))) s

abbrev pub length_at : View → ℕ → ℕ
length_at v d = v.byte d + v.byte (d + 1) * 256

abbrev pub endpoint_at : View → ℕ → ℕ
endpoint_at v d = v.byte (d + 2)

-- a packet of n bytes that begins at d; one that runs past the stream's end is dropped
unfoldable pub packet_at : View → ℕ → ℕ → Step
packet_at v d n =
    intact v d (min (d + 3 + n) (total v))
    (cond (nat_lt (total v) (d + 3 + n)) Ends (Gives (endpoint_at v d) n))

-- endpoint 0 marks the filler, which runs to the stream's end
unfoldable pub begin_at : View → ℕ → Step
begin_at v d = cond (endpoint_at v d == 0) Ends (packet_at v d (length_at v d))

-- at the packet begin d; fewer than three bytes left at the stream's end are filler too
unfoldable pub step_at : View → ℕ → Step
step_at v d = cond (nat_lt (total v) (d + 3)) Ends (intact v d (d + 3) (begin_at v d))

unfoldable pub bytes_from : View → ℕ → ℕ → List ℕ
bytes_from v d zero = []
bytes_from v d (suc n) = v.byte d ∷ bytes_from v (d + 1) n

-- the packet of n bytes that begins at d
abbrev pub packet_from : View → ℕ → ℕ → ℕ → Packet
packet_from v d endpoint n = record { endpoint = endpoint; bytes = bytes_from v (d + 3) n }

-- the packets from the begin d on, in at most n steps
unfoldable pub read_from : View → ℕ → ℕ → List Packet
read_from v zero d = []
read_from v (suc n) d = elim (step_at v d) [
  | Ends ↦ []
  | Goes e ↦ read_from v n e
  | Gives endpoint len ↦ packet_from v d endpoint len ∷ read_from v n (d + 3 + len)
]

-- Each step leads further, so there are no more steps than places. The reader starts as it goes on, at the next named
-- begin.
unfoldable pub read_all : View → List Packet
read_all v = read_from v (total v) (seek_from v 0)

-- ---- one packet at a time

-- the next packet from the begin d on, in at most n steps
unfoldable pub find : View → ℕ → ℕ → Option Found
find v zero d = None
find v (suc n) d = elim (step_at v d) [
  | Ends ↦ None
  | Goes e ↦ find v n e
  | Gives endpoint len ↦ Some (record { at = d; endpoint = endpoint; len = len })
]

-- what at most n calls give, each from where the one before ended
unfoldable pub in_turn : View → ℕ → ℕ → List Packet
in_turn v zero d = []
in_turn v (suc n) d = elim (find v (total v) d) [
  | Some f ↦ packet_from v f.at f.endpoint f.len ∷ in_turn v n (f.at + 3 + f.len)
  | None ↦ []
]
