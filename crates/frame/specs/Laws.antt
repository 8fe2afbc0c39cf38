-- What the two conversions keep: every reading has an index below 16,384, an index comes back, and NO_FRAME never
-- results. Assumes nothing.
use Rattle.std.specs.Prelude.{◌≡◌, ℕ, ◌+◌, ◌*◌, ◌/◌, ◌%◌, ◌<◌, ◌≤◌, min, Bool, true, false, ◌≢◌}
use Rattle.std.proofs.Common.{ap₂, ◌∙◌, arith}
use Rattle.bits.specs.Bit.{pick}
use Rattle.frame.specs.Usb20.{frame_number, microframe, index_of, frame_of}
use Rattle.frame.specs.Advance.{NO_FRAME, is_none, distance, completions}

pub index-lt : (r : ℕ) → index_of r < 16384
unfolding index_of frame_number microframe
index-lt r = omega arith

-- there and back
pub index-frame : (i : ℕ) → index_of (frame_of i) ≡ i % 16384
unfolding index_of frame_of frame_number microframe
index-frame i = ap₂ (λ (f m : ℕ). f * 8 + m) (low (i / 8 % 2048) (i % 8) (omega arith))
    (high (i / 8 % 2048) (i % 8) (omega arith) (omega arith)) ∙ whole i
  where
    low : (f m : ℕ) → f < 2048 → (f + m * 8192) % 2048 ≡ f
    low f m h = omega arith

    high : (f m : ℕ) → f < 2048 → m < 8 → (f + m * 8192) / 8192 % 8 ≡ m
    high f m h k = omega arith

    whole : (n : ℕ) → n / 8 % 2048 * 8 + n % 8 ≡ n % 16384
    whole n = omega arith

pub never-none : (i : ℕ) → frame_of i ≢ NO_FRAME
unfolding frame_of
never-none i e = omega arith

pub completions-le : (last now : ℕ) → completions last now ≤ 3
unfolding completions
completions-le last now = go (is_none last)
  where
    go : (t : Bool) → pick t 1 (min (distance (index_of last) now) 3) ≤ 3
    go true = omega arith
    go false = omega arith
