-- What ReadBackLaws.antt speaks of. It proves: reading gives good lists only, and a good list that is written reads
-- back as itself. Assumes nothing.
use Rattle.std.specs.Prelude.{◌≡◌, true, false, List, ℕ}
use Rattle.descriptor.specs.Row.{is_configuration}
use Rattle.descriptor.specs.Endpoints.{of_list}
use Rattle.descriptor.specs.Reading.{in_order, list_of, two_types, reading_of}
use Rattle.descriptor.specs.Lists.{Good}

-- what is accepted has neither error, and its list is good
pub record Accepted (s : List ℕ) : Type 0 where
  pub no_17 : is_configuration s ≡ true
  pub no_18 : two_types (in_order s) ≡ false
  pub list : (reading_of s).list ≡ of_list (list_of s)
  pub good : Good (list_of s)
