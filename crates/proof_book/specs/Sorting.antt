-- What SortingLaws.antt speaks of. It proves: from start-up on the flags and the two sets tell one sort of each
-- endpoint: an allocation gives a number from 1 to 15 that had no sort, and adds it to a set where it is isochronous
use Rattle.std.specs.Prelude.{false, ◌≡◌, ℕ, ◌%◌, length}
use Rattle.bits.specs.Bit.{bit_is_set}
use Rattle.regs.specs.declared.Dir.{Dir}
use Rattle.state.specs.Driver.{Driver, ep_on}
use Rattle.alloc.specs.Alloc.{taken_ins}
use Rattle.alloc.specs.Sound.{Sound}
use Rattle.script.specs.Statics.{is_on}
use Rattle.script.specs.TransferKinds.{TransferKinds}
use Rattle.proof_book.specs.TransferKinds.{Has}

-- an endpoint's sort is its record's flag
abbrev pub sorts_of : Driver → TransferKinds
sorts_of d dir e = is_on (ep_on d dir e).iso

pub record Sorting (d : Driver) : Type 0 where
  pub places : length d.eps ≡ 32
  pub sound : Sound d.allocator
  -- a number that is not taken has no sort yet
  pub free : (dir : Dir) (e : ℕ) → bit_is_set (taken_ins d.allocator dir) (e % 16) ≡ false → sorts_of d dir e ≡ false
  pub has : Has (sorts_of d) d
  -- room for 64 wake-ups
  pub codes : length d.wakes.codes ≡ 64
