-- The control word of an endpoint's direction, 8 bits: 0-1 response, 2-3 toggle, 4 automatic. A change of a field
-- leaves the other bits as they were read (`modify`); a word made anew has all others 0 (`write`). Assumes nothing.
use Rattle.std.specs.Prelude.{Bool, ℕ, ◌+◌, ◌-◌, ◌*◌, ◌/◌, ◌%◌, eqb}
use Rattle.bits.specs.Bit.{bit_is_set, digit, pick}

-- responses; 1 is also the source's TX_RES_ISO
abbrev pub ACK : ℕ
ACK = 0

abbrev pub NYET : ℕ
NYET = 1

abbrev pub NAK : ℕ
NAK = 2

abbrev pub STALL : ℕ
STALL = 3

-- toggles
abbrev pub DATA0 : ℕ
DATA0 = 0

abbrev pub DATA1 : ℕ
DATA1 = 1

-- the fields
unfoldable pub response : ℕ → ℕ
response w = w % 4

unfoldable pub toggle : ℕ → ℕ
toggle w = w / 4 % 4

unfoldable pub automatic : ℕ → Bool
automatic w = bit_is_set w 4

-- the word with a field changed
unfoldable pub with_response : ℕ → ℕ → ℕ
with_response w r = w - response w + r % 4

unfoldable pub with_toggle : ℕ → ℕ → ℕ
with_toggle w t = w - toggle w * 4 + t % 4 * 4

-- a word made of its fields
unfoldable pub word_of : ℕ → ℕ → Bool → ℕ
word_of r t a = r % 4 + t % 4 * 4 + digit a * 16

-- the responses set
unfoldable pub ack : ℕ → ℕ
ack w = with_response w ACK

unfoldable pub nak : ℕ → ℕ
nak w = with_response w NAK

unfoldable pub stall : ℕ → ℕ
stall w = with_response w STALL

-- DATA0 becomes DATA1, anything else DATA0
unfoldable pub flip : ℕ → ℕ
flip w = with_toggle w (pick (eqb (toggle w) DATA0) DATA1 DATA0)

-- both in one change, the toggle as it was read
unfoldable pub nakflip : ℕ → ℕ
nakflip w = flip (nak w)

-- the status stage's word: DATA1, ACK
unfoldable pub status : ℕ → ℕ
status w = ack (with_toggle w DATA1)

unfoldable pub is_data1 : ℕ → Bool
is_data1 w = eqb (toggle w) DATA1

unfoldable pub is_stalled : ℕ → Bool
is_stalled w = eqb (response w) STALL
