-- What the reading of a configuration descriptor answers: errors 17 and 18, the list.
use Rattle.std.specs.Prelude.{Bool, true, false, cond, not, ◌&&◌, ◌||◌, List, [], ◌∷◌, ◌++◌, ℕ, eqb, length}
use Rattle.descriptor.specs.declared.Endpoint.{Endpoint}
use Rattle.descriptor.specs.declared.Reading.{Reading}
use Rattle.descriptor.specs.declared.Answer.TheVariants.{Refused, Listed}
use Rattle.descriptor.specs.Row.{next, is_configuration, endpoints_of}
use Rattle.descriptor.specs.Endpoints.{of_list, gathered}

-- the endpoints of alternate setting 0 (true), of the others (false)
abbrev pub endpoints : Bool → List ℕ → List Endpoint
endpoints zeroth s = endpoints_of (length s) zeroth 0 (next s)

-- first those, then these
abbrev pub in_order : List ℕ → List Endpoint
in_order s = endpoints true s ++ endpoints false s

abbrev pub list_of : List ℕ → List Endpoint
list_of s = gathered [] (in_order s)

-- ---- error 18

-- one address, two transfer types
abbrev pub clash : Endpoint → Endpoint → Bool
clash e f = eqb e.address f.address && not (eqb e.kind f.kind)

unfoldable pub clashes : Endpoint → List Endpoint → Bool
clashes e [] = false
clashes e (f ∷ fs) = clash e f || clashes e fs

unfoldable pub two_types : List Endpoint → Bool
two_types [] = false
two_types (e ∷ es) = clashes e es || two_types es

-- ---- the answer, 17 before 18

abbrev pub refused_by : ℕ → Reading
refused_by n = record { answer = Refused n; list = of_list [] }

unfoldable pub reading_of : List ℕ → Reading
reading_of s =
    cond (not (is_configuration s)) (refused_by 17)
    (cond (two_types (in_order s)) (refused_by 18)
    (record { answer = Listed; list = of_list (list_of s) }))
