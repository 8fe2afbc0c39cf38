-- Frame numbers by USB 2.0, 8.4.3: a start-of-frame token carries an 11-bit frame number, and at high speed the same
-- number stands in each of the 8 microframes of a frame. The register has the frame number in bits 0-10 and the
-- microframe in bits 13-15; bits 11 and 12 of a reading may be set and say nothing. Assumes nothing.
use Rattle.std.specs.Prelude.{ℕ, ◌+◌, ◌*◌, ◌/◌, ◌%◌, ◌^◌}

-- the register's two fields
unfoldable pub frame_number : ℕ → ℕ
frame_number r = r % 2 ^ 11

unfoldable pub microframe : ℕ → ℕ
microframe r = r / 2 ^ 13 % 2 ^ 3

-- the running microframe index: frame × 8 + microframe
unfoldable pub index_of : ℕ → ℕ
index_of r = frame_number r * 8 + microframe r

-- the register's frame number of an index, which goes round at 2,048 frames
unfoldable pub frame_of : ℕ → ℕ
frame_of i = i / 8 % 2 ^ 11 + i % 8 * 2 ^ 13
