-- A call's answer as one word of 64 bits: the kind in bits 0-3, then each number at the bit that include/usbhs.h says
use Rattle.std.specs.Prelude.{◌≡◌, ℕ, ◌+◌, ◌*◌, ◌^◌}
use Rattle.regs.specs.declared.Access.{Access}
use Rattle.regs.specs.declared.Access.TheVariants.{Read, Write, Receive, Transmit, Ep0Dma, Wait, Callback}
use Rattle.regs.specs.Registers.{number_of}
use Rattle.answer.specs.declared.Step.{Step}
use Rattle.answer.specs.declared.Step.TheVariants.{Refused, Asks, Ends, NotYet, Done, Setup, Shown}
use Rattle.answer.specs.Parts.{step_of, spoken, AccessFits}

-- kind 1: register 8-15, endpoint 16-23
abbrev pub read_word : ℕ → ℕ → ℕ
read_word register endpoint = 1 + register * 2 ^ 8 + endpoint * 2 ^ 16

-- kind 2: register 8-15, endpoint 16-23, value 32-63
abbrev pub write_word : ℕ → ℕ → ℕ → ℕ
write_word register endpoint value = 2 + register * 2 ^ 8 + endpoint * 2 ^ 16 + value * 2 ^ 32

-- kinds 1 to 4: the access handed out; the registers 12, 15 and 16 are ep0_dma, ep_rx_dma and ep_tx_dma
unfoldable pub access_word : Access → ℕ
access_word (Read r e) = read_word (number_of r) e
access_word (Write r e x) = write_word (number_of r) e x
access_word (Receive e x) = write_word 15 e x
access_word (Transmit e x) = write_word 16 e x
access_word (Ep0Dma x) = write_word 12 0 x
access_word (Wait microseconds) = 3 + microseconds * 2 ^ 8
access_word Callback = 4

-- r is the access's word, and the access's numbers are as wide as the call's types
abbrev pub IsAccessWord : ℕ → Access → Type 0
IsAccessWord r q = (r ≡ access_word q) × AccessFits q

-- kind 5: result 8-23, how many wake-ups 24-31; their list is asked for by a call of its own
unfoldable pub end_word : ℕ → ℕ → ℕ
end_word n k = 5 + n * 2 ^ 8 + k * 2 ^ 24

-- kind 7: length 8-23
abbrev pub done_word : ℕ → ℕ
done_word n = 7 + n * 2 ^ 8

-- kind 8: length 8-23, offset into the slots 32-63; both are as wide as the state has them, so the stamp has no room
-- here
abbrev pub shown_word : ℕ → ℕ → ℕ
shown_word at n = 8 + n * 2 ^ 8 + at * 2 ^ 32

-- kind 0: the row's number 8-15; kind 6: not yet. A setup packet has no word of its own: its 8 bytes are in the
-- caller's packet
unfoldable pub word_of : Step → ℕ
word_of (Refused n) = n * 2 ^ 8
word_of (Asks q) = access_word q
word_of (Ends n k) = end_word n k
word_of NotYet = 6
word_of (Done n) = done_word n
word_of (Setup low high) = done_word 8
word_of (Shown at n stamp) = shown_word at n

-- the word is the answer's, and is read back as it
unfoldable pub Encodes : ℕ → Step → Type 0
Encodes r step = (r ≡ word_of step) × (step_of r ≡ spoken step)

-- it says an answer of which P holds
abbrev pub Worded : ℕ → (Step → Type 0) → Type 0
Worded r P = (step : Step) × Encodes r step × P step
