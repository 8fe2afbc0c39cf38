-- Steps from one microframe index to another, going round at 16,384, and what a paced advance completes. Assumes
-- nothing.
use Rattle.std.specs.Prelude.{ℕ, ◌+◌, ◌-◌, ◌%◌, min, Bool, not, ◌&&◌, ◌==◌}
use Rattle.bits.specs.Bit.{pick}
use Rattle.frame.specs.Usb20.{index_of}

-- no frame number: bits 11 and 12
abbrev pub NO_FRAME : ℕ
NO_FRAME = 0x1800

unfoldable pub is_none : ℕ → Bool
is_none r = r == NO_FRAME

-- how many microframes after index a comes index b
unfoldable pub distance : ℕ → ℕ → ℕ
distance a b = (b + 16384 - a % 16384) % 16384

-- the index before
unfoldable pub previous : ℕ → ℕ
previous i = (i + 16383) % 16384

-- "completes the distance since the last, at most 3, and once if there was none"; `last` is a frame number, `now` an
-- index
unfoldable pub completions : ℕ → ℕ → ℕ
completions last now = pick (is_none last) 1 (min (distance (index_of last) now) 3)

-- was the last completion in the microframe before this frame number's?
unfoldable pub in_previous : ℕ → ℕ → Bool
in_previous last frame = not (is_none last) && index_of last == previous (index_of frame)
