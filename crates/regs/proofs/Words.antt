-- The code's masks on a control word are the changes of its fields. Assumes nothing.
use mathlib.Core.Path.{◌≡◌, refl, ap, ◌∙◌}
use mathlib.Core.Bool.{true, false}
use Prim.Native.Nat.{ℕ, ◌+◌, ◌*◌, ◌%◌, ◌<◌}
use native.Mathlib.Omega.{arith}
use lib.Bits.{bit_and, bit_or, and_mask, or_shifted_r}
use Rattle.bits.specs.Field.{clears-field, puts-field}
use Rattle.bits.specs.Pack.{packed}
use Rattle.regs.specs.ControlWord.{response, toggle, with_response, with_toggle, word_of, ack, status}

-- `w & 0xFC | r`
pub responds : (w r : ℕ) → w < 256 → r < 4 → bit_or (bit_and w 252) r ≡ with_response w r
unfolding with_response response
responds w r l b = ap (bit_or (bit_and w 252)) (one r) ∙ puts-field 8 6 2 0 w r refl l b ∙ omega arith
  where
    one : (n : ℕ) → n ≡ n * 1
    one n = omega arith

-- `w & 0xFC`
pub acks : (w : ℕ) → w < 256 → bit_and w 252 ≡ ack w
unfolding ack with_response response
acks w l = clears-field 8 6 2 0 w refl l ∙ omega arith

-- `w & 0xF3 | t << 2`, with the toggle shifted
pub toggles : (w t : ℕ) → w < 256 → t < 4 → bit_or (bit_and w 243) (t * 4) ≡ with_toggle w t
unfolding with_toggle toggle
toggles w t l b = puts-field 8 4 2 2 w t refl l b ∙ omega arith

-- `w & 0xF3`
pub toggles-back : (w : ℕ) → w < 256 → bit_and w 243 ≡ with_toggle w 0
unfolding with_toggle toggle
toggles-back w l = clears-field 8 4 2 2 w refl l ∙ omega arith

-- `w & 0xF0 | 4`
pub status-word : (w : ℕ) → w < 256 → bit_or (bit_and w 240) 4 ≡ status w
unfolding status ack with_response with_toggle toggle response
status-word w l = puts-field 8 4 4 0 w 4 refl l (omega arith) ∙ omega arith

-- `(t & 3) << 2 | r & 3`
pub fields : (r t : ℕ) → bit_or (bit_and t 3 * 4 % 256) (bit_and r 3) ≡ t % 4 * 4 + r % 4
fields r t = rw (and_mask r 2) (packed 8 2 2 t (r % 4) (omega arith) (omega arith))

pub word-of : (r t : ℕ) → bit_or (bit_and t 3 * 4 % 256) (bit_and r 3) ≡ word_of r t false
unfolding word_of
word-of r t = fields r t ∙ omega arith

pub word-of-automatic : (r t : ℕ) → bit_or (bit_or (bit_and t 3 * 4 % 256) (bit_and r 3)) 16 ≡ word_of r t true
unfolding word_of
word-of-automatic r t = ap (λ (x : ℕ). bit_or x 16) (fields r t) ∙ or_shifted_r 1 4 (t % 4 * 4 + r % 4) (omega arith)
    ∙ omega arith
