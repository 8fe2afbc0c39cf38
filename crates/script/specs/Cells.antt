-- What a script reads and assigns: the Rust's statics, the requests and the allocator, record by record. What comes
-- with start-up, an allocation or enabling (the allocator, stage, callback, ep_config, the sets of isochronous
-- endpoints, EP0's buffer and maximum) changes by operations of its own: an assignment leaves it
use Rattle.std.specs.Prelude.{Bool, ℕ, eqb}
use Rattle.regs.specs.declared.Dir.{Dir}
use Rattle.state.specs.declared.Globals.{Globals}
use Rattle.state.specs.declared.Allocator.{Allocator}
use Rattle.state.specs.declared.Request.{Request}
use Rattle.state.specs.declared.Control.{Control}

-- what the script sees of an endpoint's record: all but its ring. Of it `ready`, `len`, `armed`, `last_frame` and `tog`
-- are assigned; the others come with the allocation
pub record EpCore : Type 0 where
  pub ready : ℕ
  pub len : ℕ
  pub armed : ℕ
  pub last_frame : ℕ
  pub tog : ℕ
  pub iso : ℕ
  pub kind : ℕ
  pub base : ℕ
  pub max_len : ℕ

pub data Cell : Type 0 where
  globals-cell control-cell allocator-cell : Cell
  ep-cell request-cell : Dir → ℕ → Cell
  paced_cell : ℕ → Cell

abbrev pub Val : Cell → Type 0
Val globals-cell = Globals
Val control-cell = Control
Val allocator-cell = Allocator
Val (ep-cell d e) = EpCore
Val (request-cell d e) = Request
Val (paced_cell e) = ℕ

-- which of the six
abbrev pub cell_code : Cell → ℕ
cell_code globals-cell = 0
cell_code control-cell = 1
cell_code allocator-cell = 2
cell_code (ep-cell d e) = 3
cell_code (request-cell d e) = 4
cell_code (paced_cell e) = 5

abbrev pub same_sort : Cell → Cell → Bool
same_sort c k = eqb (cell_code c) (cell_code k)
