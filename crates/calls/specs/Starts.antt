-- A good slot buffer's size and count are 16-bit numbers
use Rattle.std.specs.Prelude.{Bool, true, false, ◌≡◌, refl, ℕ, ◌<◌, ◌≤◌, ◌*◌, eqb, leb}
use Rattle.std.proofs.Common.{true≢false, sym, arith, mul-le-mul_left, leb-true}
use Rattle.alloc.specs.Alloc.{if}
use Rattle.alloc.specs.Buffer.{good_size, good_buffer}
use Rattle.alloc.specs.BufferLaws.{each-size}

abbrev pub Small : ℕ → Type 0
Small size = (8 ≤ size) × (size ≤ 1024)

small : (size : ℕ) → good_size size ≡ true → Small size
small = each-size Small (omega arith) (omega arith) (omega arith) (omega arith) (omega arith) (omega arith)

within : (size count : ℕ) (t z : Bool) → good_size size ≡ t → if t (if z false (leb (count * size) 65536)) false ≡ true
    → Small size × (count * size ≤ 65536)
within size count true false g h = (small size g, leb-true _ _ h)
within size count true true g h = absurd (true≢false (sym h))
within size count false z g h = absurd (true≢false (sym h))

pub good-16 : (size count : ℕ) → good_buffer size count ≡ true → (size < 65536) × (count < 65536)
unfolding good_buffer
good-16 size count h =
    let w = within size count (good_size size) (eqb count 0) refl h in
    omega (arith, w, mul-le-mul_left count w.0.0)
