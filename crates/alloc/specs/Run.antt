-- Any list of allocations and EP0 starts: the buffers that were given lie one above the other inside the slot buffer.
-- Assumes nothing.
use Rattle.std.specs.Prelude.{◌≡◌, ◌⊎◌, List, [], ◌∷◌, ℕ, ◌+◌, ◌*◌, ◌≤◌, ◌<◌}
use Rattle.state.specs.declared.Allocator.{Allocator}
use Rattle.regs.specs.declared.Dir.{Dir}
use Rattle.alloc.specs.declared.Answer.{Answer}
use Rattle.alloc.specs.declared.Answer.TheVariants.{Refused, Given}
use Rattle.alloc.specs.declared.Allocation.{Allocation}
use Rattle.alloc.specs.Alloc.{is_iso, slots_of, with_next, refused, allocate_of, allocate_ep0_of}
use Rattle.alloc.specs.Outcome.{Gives}

-- ---- calls

-- an allocation, or EP0's start
pub data Call : Type 0 where
  endpoint : (kind address maximum : ℕ) → Dir → Call
  ep0 : (maximum : ℕ) → Call

abbrev pub called : Allocator → Call → Allocation
called a (endpoint kind address maximum dir) = allocate_of a kind address maximum dir
called a (ep0 maximum) = allocate_ep0_of a maximum

-- the buffers that it needs
abbrev pub slots_needed : Call → ℕ
slots_needed (endpoint kind address maximum dir) = slots_of (is_iso kind) dir
slots_needed (ep0 maximum) = 1

-- the rows that may refuse it
abbrev pub Refuses : Call → ℕ → Type 0
Refuses (endpoint kind address maximum dir) n = (6 ≤ n) × (n ≤ 8)
Refuses (ep0 maximum) n = (n ≡ 22) ⊎ ((n ≡ 6) ⊎ (n ≡ 8))

-- what a call does: it is refused and changes nothing, or is given buffers
pub data Step (a : Allocator) : Call → Allocation → Type 0 where
  kept : (c : Call) (n : ℕ) → Refuses c n → (n ≡ 8 → a.count < a.next + slots_needed c) → Step a c (refused n a)
  gave : (kind address maximum : ℕ) (dir : Dir) (e base n : ℕ) (b : Allocator) → maximum ≤ a.size
      → Gives a (is_iso kind) dir e base n b
      → Step a (endpoint kind address maximum dir) (record { answer = Given e base n; after = b })
  gave_ep0 : (maximum : ℕ) → maximum ≡ 64 → maximum ≤ a.size → a.next < a.count
      → Step a (ep0 maximum) (record { answer = Given 0 (a.next * a.size) 1; after = with_next a (a.next + 1) })

-- ---- the buffers that were given

pub record Region : Type 0 where
  pub call : Call
  pub number : ℕ
  pub base : ℕ
  pub slots : ℕ

abbrev pub noted : Call → Answer → List Region → List Region
noted c (Refused n) rs = rs
noted c (Given e base n) rs = record { call = c; number = e; base = base; slots = n } ∷ rs

-- in the order of the calls
unfoldable pub regions : Allocator → List Call → List Region
regions a [] = []
regions a (c ∷ cs) = noted c (called a c).answer (regions (called a c).after cs)

-- the first byte after a region
abbrev pub end : ℕ → Region → ℕ
end size r = r.base + r.slots * size

-- regions one above the other, from one offset up to another
abbrev pub Stacked : ℕ → ℕ → ℕ → List Region → Type 0
Stacked size from to [] = from ≤ to
Stacked size from to (r ∷ rs) = (from ≤ r.base) × Stacked size (end size r) to rs

abbrev pub All : (Region → Type 0) → List Region → Type 0
All P [] = Unit {0}
All P (r ∷ rs) = P r × All P rs

-- no byte is in two of them
abbrev pub Disjoint : ℕ → List Region → Type 0
Disjoint size [] = Unit {0}
Disjoint size (r ∷ rs) = All (λ q. end size r ≤ q.base) rs × Disjoint size rs
