-- Differences that go round at 2^16, taken round at 2^14. Assumes nothing.
use Rattle.std.proofs.Common.{◌≡◌, ℕ, ◌+◌, ◌-◌, ◌%◌, ◌<◌, sym, ◌∙◌, arith}
use lib.Bits.{bit_and, and_mask}
use Rattle.frame.specs.Advance.{distance}

small : (x y w : ℕ) → x < 16384 → y < 16384 → (x + y) % 16384 ≡ w → x ≡ (w + 16384 - y) % 16384
small x y w h k e = omega arith

inner : (a d : ℕ) → (d + a) % 16384 ≡ (d % 16384 + a % 16384) % 16384
inner a d = omega arith

outer : (n b : ℕ) → n % 65536 ≡ b → n % 16384 ≡ b % 16384
outer n b e = omega arith

shift : (b y : ℕ) → y < 16384 → (b % 16384 + 16384 - y) % 16384 ≡ (b + 16384 - y) % 16384
shift b y h = omega arith

-- `b.wrapping_sub(a) & 0x3FFF`
pub rounds : (a b d : ℕ) → (d + a) % 65536 ≡ b → bit_and d 16383 ≡ distance a b
unfolding distance
rounds a b d e =
    and_mask d 14
    ∙ small (d % 16384) (a % 16384) (b % 16384) (omega arith) (omega arith) (sym (inner a d) ∙ outer (d + a) b e)
    ∙ shift b (a % 16384) (omega arith)
