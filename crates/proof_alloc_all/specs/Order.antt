-- What OrderLaws.antt speaks of. It proves: allocating a descriptor's endpoints as one operation hands out what
-- allocating them one by one hands out, and leaves the same state
use Rattle.std.specs.Prelude.{List, [], ◌≡◌, ℕ, ◌*◌, length}
use Rattle.state.specs.Driver.{Driver, none_gathered}
use Rattle.descriptor.specs.declared.Endpoint.{Endpoint}
use Rattle.descriptor.specs.Reading.{list_of}
use Rattle.script.specs.Script.{run}
use Rattle.script.specs.Answers.{End}
use Rattle.script.specs.Calls.{AllocateAll, other_code}
use Rattle.script_ops.specs.Concrete.{concrete}
use Rattle.driver.specs.Each.{each_on}
use Rattle.proof_alloc_all.specs.Hands.{hands_out, ends_with, one_by_one}
use Rattle.proof_alloc_all.specs.Walk.{handed}

-- ---- one by one

pub record Stepwise (es : List Endpoint) (d : Driver) (b : List ℕ) : Type 0 where
  pub hands : (one_by_one es (d, b)).0 ≡ handed d.allocator.size (d.allocator.next * d.allocator.size) es
  pub state : none_gathered (one_by_one es (d, b)).1.0 ≡ none_gathered (each_on d es)
  pub bytes : (one_by_one es (d, b)).1.1 ≡ b

-- a descriptor without error, none of whose endpoints would be refused: all that the operation hands out is what their
-- own allocations hand out, one after the other; it ends with how many were given, and with the state that these leave
pub record InOrder (d : Driver) (b bytes : List ℕ) : Type 0 where
  pub hands : hands_out (run concrete (other_code (AllocateAll bytes)) (d, b)) ≡ (one_by_one (list_of bytes) (d, b)).0
  pub ends_so : ends_with (run concrete (other_code (AllocateAll bytes)) (d, b))
      ≡ (End (length (list_of bytes)) [], (none_gathered (one_by_one (list_of bytes) (d, b)).1.0, b))
