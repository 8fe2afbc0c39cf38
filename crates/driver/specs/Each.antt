-- A list's endpoints on the driver's state: allocated, and the first of them announced
use Rattle.std.specs.Prelude.{false, List, [], ◌∷◌, ◌++◌, ◌≡◌, ℕ, ◌+◌, ◌-◌, ◌%◌}
use Rattle.std.proofs.Common.{◌∙◌}
use Rattle.descriptor.specs.declared.Endpoint.{Endpoint}
use Rattle.descriptor.specs.Trial.{direction_of}
use Rattle.state.specs.Driver.{Driver}
use Rattle.script.specs.Script.{Script}
use Rattle.script.specs.AllocateAll as script
use Rattle.script_ops.specs.Records.{allocated_on}

-- ---- allocated, in the list's order

unfoldable pub one_on : Driver → Endpoint → Driver
one_on d e = allocated_on d (direction_of e.address) e.kind e.address e.maximum e.interval

unfoldable pub each_on : Driver → List Endpoint → Driver
each_on d [] = d
each_on d (e ∷ es) = each_on (one_on d e) es

-- ---- announced

abbrev pub announce_all : List Endpoint → Script false ℕ
announce_all es = script.announce_all es
