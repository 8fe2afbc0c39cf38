-- What FindsLaws.antt speaks of. It proves: the length by the marks is the packet's, for every maximum, where its last
-- byte differs from the mark's there and marks follow.
use Rattle.std.specs.Prelude.{◌≡◌, ℕ, suc, ◌<◌, ◌≤◌, List, ◌≢◌, slice_index}
use Rattle.ring.specs.Marks.{mark_byte}

-- the last of the first n bytes, if any, differs from the mark's byte at its place
abbrev pub LastDiffers : ℕ → List ℕ → Type 0
LastDiffers n p = (k : ℕ) → n ≡ suc k → slice_index p k ≢ mark_byte k

-- the bytes from n up to the maximum are the mark's
abbrev pub MarkedAfter : ℕ → ℕ → List ℕ → Type 0
MarkedAfter n maximum p = (k : ℕ) → n ≤ k → k < maximum → slice_index p k ≡ mark_byte k
