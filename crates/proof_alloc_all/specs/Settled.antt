-- What SettledLaws.antt speaks of. It proves: states in which the buffers tell the order of the endpoints; every
-- allocation keeps them so
use Rattle.std.specs.Prelude.{true, ◌≡◌, ℕ, ◌*◌, ◌≤◌, ◌<◌}
use Rattle.bits.specs.Bit.{bit_is_set}
use Rattle.regs.specs.declared.Dir.{Dir}
use Rattle.state.specs.Driver.{Driver, ep_on}
use Rattle.state.specs.Laws.{Sized}
use Rattle.alloc.specs.Alloc.{allocated_ins}
use Rattle.alloc.specs.Sound.{Sound}

-- the allocator is sound, and the buffers of every endpoint that is allocated begin below the next free one, as after
-- every start-up and every allocation
pub record Settled (d : Driver) : Type 0 where
  pub sized : Sized d
  pub sound : Sound d.allocator
  pub some : 1 ≤ d.allocator.size
  pub below : (dir : Dir) (m : ℕ) → m ≤ 15 → bit_is_set (allocated_ins d.allocator dir) m ≡ true → (ep_on d dir m).base < d.allocator.next * d.allocator.size
