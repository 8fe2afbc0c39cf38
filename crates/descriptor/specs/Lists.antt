-- Good lists: what reading gives, and what reads back as it was written.
use Rattle.std.specs.Prelude.{◌≡◌, Bool, true, false, List, [], ◌∷◌, ℕ, ◌+◌, ◌≤◌, ◌<◌, eqb}
use Rattle.descriptor.specs.declared.Endpoint.{Endpoint}
use Rattle.descriptor.specs.declared.Endpoints.{Endpoints}
use Rattle.descriptor.specs.Row.{is_clear}
use Rattle.descriptor.specs.Endpoints.{of_list, listed}

abbrev pub one : Bool → ℕ
one true = 1
one false = 0

-- how often an address stands in a list
unfoldable pub seen : ℕ → List Endpoint → ℕ
seen a [] = 0
seen a (x ∷ xs) = one (eqb x.address a) + seen a xs

-- bits 4-6 of the address clear, kinds 0-3, a maximum of at most 2,047; the address and the interval are bytes
pub record Fine (e : Endpoint) : Type 0 where
  pub address : e.address < 256
  pub clear : is_clear e.address ≡ true
  pub kind : e.kind < 4
  pub maximum : e.maximum ≤ 2047
  pub interval : e.interval < 256

-- such endpoints, and no address stands twice
unfoldable pub Good : List Endpoint → Type 0
Good [] = Unit {0}
Good (e ∷ es) = Fine e × (seen e.address es ≡ 0) × Good es

-- a struct that has a good list, and zeros after it
pub record Tidy (l : Endpoints) : Type 0 where
  pub same : l ≡ of_list (listed l)
  pub good : Good (listed l)
