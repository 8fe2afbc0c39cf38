-- What WalkLaws.antt speaks of. It proves: the walk over the records announces the endpoints in the order of their
-- buffers
use Rattle.std.specs.Prelude.{List, [], ◌∷◌, ◌++◌, ℕ, ◌+◌, ◌*◌, ◌%◌}
use Rattle.regs.specs.declared.Access.{Access}
use Rattle.alloc.specs.Alloc.{is_iso, slots_of}
use Rattle.descriptor.specs.declared.Endpoint.{Endpoint}
use Rattle.descriptor.specs.Trial.{direction_of}
use Rattle.proof_alloc_all.specs.Hands.{accesses}

-- what each hands out
abbrev pub handed : ℕ → ℕ → List Endpoint → List Access
handed size x [] = []
handed size x (e ∷ es) = accesses (direction_of e.address) (e.address % 128) e.kind e.maximum x
    ++ handed size (x + slots_of (is_iso e.kind) (direction_of e.address) * size) es
