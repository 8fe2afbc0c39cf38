-- Readings at a point. Assumes nothing.
use Rattle.std.specs.Prelude.{◌≡◌, refl, true, ℕ, ◌^◌, ◌<◌, ◌≤◌}
use Rattle.std.proofs.Common.{ap, sym, ◌∙◌, arith, lt-ltb, ltb-true}
use Rattle.regs.specs.declared.Dir.{Dir}
use Rattle.regs.specs.declared.Dir.TheVariants.{Out, In}
use Rattle.regs.specs.Registers.{ctrl_of, width_of, fits_in}
use Rattle.bus.specs.declared.Point.{Point}
use Rattle.bus.specs.declared.Point.TheVariants as point
use Rattle.bus.specs.Points.{fits_at}

-- ---- a reading of 8 bits or less is a byte

below : (v m : ℕ) → m ≤ 256 → v < m → v < 256
below v m h k = omega arith

wider : (v w : ℕ) → 2 ^ w ≤ 256 → fits_in v w ≡ true → fits_in v 8 ≡ true
unfolding fits_in
wider v w h fits = lt-ltb v 256 (below v (2 ^ w) h (ltb-true v (2 ^ w) fits))

pub word_width : (d : Dir) → width_of (ctrl_of d) ≡ 8
word_width Out = refl
word_width In = refl

pub fits-flags : (p : Point) (v : ℕ) → p ≡ point.Flags → fits_at p v ≡ true → fits_in v 8 ≡ true
unfolding fits_at
fits-flags p v h fits = wider v 6 (omega arith) (ap (λ (q : Point). fits_at q v) (sym h) ∙ fits)

pub fits-status : (p : Point) (v : ℕ) → p ≡ point.Status → fits_at p v ≡ true → fits_in v 8 ≡ true
unfolding fits_at
fits-status p v h fits = wider v 2 (omega arith) (ap (λ (q : Point). fits_at q v) (sym h) ∙ fits)
