-- The slot buffer that start-up is brought: document 01, rows 1 and 2.
use Rattle.std.specs.Prelude.{Bool, true, false, ℕ, ◌*◌, eqb, leb}
use Rattle.alloc.specs.Alloc.{if}

-- usb/mod.rs, validate_buffer_size, and 1,024 (request Six): a high-speed isochronous packet may carry as much (USB
-- 2.0, 5.6.3)
unfoldable pub good_size : ℕ → Bool
good_size size =
    if (eqb size 8) true (if (eqb size 16) true (if (eqb size 32) true
    (if (eqb size 64) true (if (eqb size 512) true (eqb size 1024)))))

-- row 2 does not stop the start-up: a good size, buffers at all, and no more bytes than 65,536
unfoldable pub good_buffer : ℕ → ℕ → Bool
good_buffer size count = if (good_size size) (if (eqb count 0) false (leb (count * size) 65536)) false

-- row 1 does not stop the call: the lent buffer is as long as its count of buffers of this size
unfoldable pub fits : ℕ → ℕ → ℕ → Bool
fits length size count = eqb length (count * size)
