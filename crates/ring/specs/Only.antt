-- Bytes that are the same, and bytes that may differ.
use Rattle.std.specs.Prelude.{◌≡◌, ℕ, ◌<◌, ◌≤◌, List, length, slice_index}

-- the bytes of b and of c from lo up to hi are the same
abbrev pub Same : ℕ → ℕ → List ℕ → List ℕ → Type 0
Same lo hi b c = (k : ℕ) → lo ≤ k → k < hi → slice_index c k ≡ slice_index b k

-- c is b but for bytes from lo up to hi
pub record Only (lo hi : ℕ) (b c : List ℕ) : Type 0 where
  pub long : length c ≡ length b
  pub below : (k : ℕ) → k < lo → slice_index c k ≡ slice_index b k
  pub above : (k : ℕ) → hi ≤ k → slice_index c k ≡ slice_index b k
