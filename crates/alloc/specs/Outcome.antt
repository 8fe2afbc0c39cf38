-- What an allocation does, by its answer: which numbers its sets then have, which buffers are used, and that nothing
-- else changes. Assumes nothing.
use Rattle.std.specs.Prelude.{◌≡◌, Bool, not, ℕ, ◌+◌, ◌*◌, ◌≤◌, ◌<◌, eqb}
use Rattle.std.proofs.Common.{◌∙◌}
use Rattle.std.proofs.Math.Bool.{true, false}
use Rattle.bits.specs.Bit.{bit_is_set}
use Rattle.state.specs.declared.Allocator.{Allocator}
use Rattle.regs.specs.declared.Dir.{Dir}
use Rattle.regs.specs.declared.Dir.TheVariants.{Out, In}
use Rattle.alloc.specs.declared.Found.TheVariants.{Number, Nothing}
use Rattle.alloc.specs.declared.Answer.TheVariants.{Given}
use Rattle.alloc.specs.declared.Allocation.{Allocation}
use Rattle.alloc.specs.Alloc.{if, taken_ins, nums_of, allocated_ins, is_out, is_iso, number_of, slots_of}
use Rattle.alloc.specs.Alloc.{refused}

-- ---- the sets

-- the two sorts, and the two directions, are one
abbrev pub same : Bool → Bool → Bool
same s true = s
same s false = not s

abbrev pub same_dir : Dir → Dir → Bool
same_dir d Out = is_out d
same_dir d In = not (is_out d)

-- is j in the set w, after e was added where the set is the one that is meant?
abbrev pub in_added : Bool → ℕ → ℕ → ℕ → Bool
in_added here w e j = if here (if (eqb e j) true (bit_is_set w j)) (bit_is_set w j)

-- ---- what each answer says of the allocator a before and b after it

-- the number e is 1 to 15, was not taken in this direction, nor by the other sort; it is taken, and every other number
-- is as before
pub record Takes (a : Allocator) (iso : Bool) (dir : Dir) (e : ℕ) (b : Allocator) : Type 0 where
  pub low : 1 ≤ e
  pub high : e ≤ 15
  pub untaken : bit_is_set (taken_ins a dir) e ≡ false
  pub unmixed : bit_is_set (nums_of a (not iso)) e ≡ false
  pub same_size : b.size ≡ a.size
  pub same_count : b.count ≡ a.count
  pub takes : (d : Dir) (j : ℕ) → bit_is_set (taken_ins b d) j ≡ in_added (same_dir dir d) (taken_ins a d) e j
  pub sorts : (s : Bool) (j : ℕ) → bit_is_set (nums_of b s) j ≡ in_added (same iso s) (nums_of a s) e j

-- accepted: the number is taken and allocated, and the next n buffers are its own
pub record Gives (a : Allocator) (iso : Bool) (dir : Dir) (e base n : ℕ) (b : Allocator) : Type 0 where
  pub number : Takes a iso dir e b
  pub starts : base ≡ a.next * a.size
  pub slots : n ≡ slots_of iso dir
  pub fits : a.next + n ≤ a.count
  pub used : b.next ≡ a.next + n
  pub allocates : (d : Dir) (j : ℕ) → bit_is_set (allocated_ins b d) j ≡ in_added (same_dir dir d) (allocated_ins a d) e j

-- every allocation is one of these; a refusal changes nothing
pub data Outcome (a : Allocator) (kind address maximum : ℕ) (dir : Dir) : Allocation → Type 0 where
  six : a.size < maximum → Outcome a kind address maximum dir (refused 6 a)
  seven : maximum ≤ a.size → number_of a (is_iso kind) address dir ≡ Nothing
      → Outcome a kind address maximum dir (refused 7 a)
  eight : (e : ℕ) → maximum ≤ a.size → number_of a (is_iso kind) address dir ≡ Number e
      → a.count < a.next + slots_of (is_iso kind) dir → Outcome a kind address maximum dir (refused 8 a)
  given : (e base n : ℕ) (b : Allocator) → maximum ≤ a.size → number_of a (is_iso kind) address dir ≡ Number e
      → Gives a (is_iso kind) dir e base n b
      → Outcome a kind address maximum dir (record { answer = Given e base n; after = b })
