-- The conversions by shifts and masks are those of the definitions. Assumes nothing.
use Rattle.std.proofs.Common.{◌≡◌, ℕ, ◌+◌, ◌*◌, ◌/◌, ◌%◌, ◌<◌, sym, ap, ◌∙◌, mod-eq_of_lt, add_comm, arith}
use lib.Bits.{bit_and, bit_or, and_mask}
use Rattle.bits.specs.Pack.{packed, packed-r}
use Rattle.frame.specs.Usb20.{frame_number, microframe, index_of, frame_of}

-- `(r & 0x7FF) << 3 | r >> 13`, of every register value
pub index-packed : (r : ℕ) → r < 65536 → bit_or (bit_and r 2047 * 8 % 65536) (r / 8192) ≡ index_of r
unfolding index_of frame_number microframe
index-packed r h =
    let l : r / 8192 < 8 = omega arith in
    packed 16 11 3 r (r / 8192) (omega arith) l ∙ ap (λ (m : ℕ). r % 2048 * 8 + m) (sym (mod-eq_of_lt l))

-- `(i >> 3) & 0x7FF | (i & 7) << 13`
pub frame-packed : (i : ℕ) → bit_or (bit_and (i / 8) 2047) (bit_and i 7 * 8192 % 65536) ≡ frame_of i
unfolding frame_of
frame-packed i =
    rw (and_mask (i / 8) 11) (packed-r 16 3 13 i (i / 8 % 2048) (omega arith) (omega arith))
    ∙ add_comm (i % 8 * 8192) (i / 8 % 2048)
