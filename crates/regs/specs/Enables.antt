-- The enable and kind words (ep_config, ep_type), kept and never read: bit e for IN, bit 16 + e for OUT. An endpoint's
-- number counts modulo 16.
-- Assumes nothing.
use Rattle.std.specs.Prelude.{Bool, ℕ, ◌+◌, ◌/◌, ◌%◌}
use Rattle.std.specs.Int.Bits.{bit_and}
use Rattle.bits.specs.Bit.{bit_is_set, with_bit}
use Rattle.regs.specs.declared.Dir.{Dir}
use Rattle.regs.specs.declared.Dir.TheVariants.{Out, In}

-- the place of an endpoint's direction
abbrev pub place : Dir → ℕ → ℕ
place In e = e % 16
place Out e = 16 + e % 16

-- is it on: enabled in ep_config, isochronous in ep_type?
unfoldable pub is_on : ℕ → Dir → ℕ → Bool
is_on w dir e = bit_is_set w (place dir e)

-- the word with it on or off
unfoldable pub with_on : ℕ → Dir → ℕ → Bool → ℕ
with_on w dir e on = with_bit w (place dir e) on

-- the endpoints of a mask (bit e: endpoint e) whose IN direction is on, and whose OUT direction is on
unfoldable pub in_enabled : ℕ → ℕ → ℕ
in_enabled w mask = bit_and mask (w % 65536)

unfoldable pub out_enabled : ℕ → ℕ → ℕ
out_enabled w mask = bit_and mask (w / 65536)
