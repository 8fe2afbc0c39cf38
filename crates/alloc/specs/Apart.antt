-- The endpoint numbers that any list of calls was given: 1 to 15, no number twice in one direction, and no two sorts on
-- one number.
-- Assumes nothing.
use Rattle.std.specs.Prelude.{◌≡◌, Bool, ℕ, ◌+◌, ◌≤◌}
use Rattle.std.proofs.Common.{◌∙◌}
use Rattle.std.proofs.Math.Bool.{true, false}
use mathlib.Core.List.{List, [], ◌∷◌}
use Rattle.bits.specs.Bit.{bit_is_set}
use Rattle.state.specs.declared.Allocator.{Allocator}
use Rattle.regs.specs.declared.Dir.{Dir}
use Rattle.alloc.specs.Alloc.{taken_ins, nums_of, is_iso}
use Rattle.alloc.specs.Outcome.{same_dir}
use Rattle.alloc.specs.Run.{Call, endpoint, ep0, Region}
use Rattle.alloc.specs.Run.{All}

-- an endpoint's number is 1 to 15, EP0's 0
abbrev pub Numbered : Call → ℕ → Type 0
Numbered (endpoint kind address maximum dir) e = (1 ≤ e) × (e ≤ 15)
Numbered (ep0 maximum) e = e ≡ 0

-- two endpoints of one number have different directions and the same sort
abbrev pub Apart : Call → ℕ → Call → ℕ → Type 0
Apart (endpoint k _ _ d) e (endpoint l _ _ f) g = e ≡ g → (same_dir d f ≡ false) × (is_iso k ≡ is_iso l)
Apart (endpoint k _ _ d) e (ep0 m) g = Unit {0}
Apart (ep0 m) e c g = Unit {0}

abbrev pub AllApart : List Region → Type 0
AllApart [] = Unit {0}
AllApart (r ∷ rs) = All (λ q. Apart r.call r.number q.call q.number) rs × AllApart rs

-- e is taken in this direction and for this sort
abbrev pub Has : Allocator → Bool → Dir → ℕ → Type 0
Has a iso d e = (bit_is_set (taken_ins a d) e ≡ true) × (bit_is_set (nums_of a iso) e ≡ true)
