-- A table of records in a list of bytes. TablesLaws.antt proves: where one record is stored all others are as they
-- were, and a table whose bytes did not change is the same. Assumes nothing.
use Rattle.std.specs.Prelude.{ℕ, zero, suc, ◌+◌, ◌*◌, List, [], ◌∷◌}
use Rattle.bits.specs.Bytes.{gets}

-- f from i, n values
abbrev pub tab_from : {A : Type 0} → ℕ → ℕ → (ℕ → A) → List A
tab_from i zero f = []
tab_from i (suc n) f = f i ∷ tab_from (i + 1) n f

abbrev pub tab : {A : Type 0} → ℕ → (ℕ → A) → List A
tab n f = tab_from 0 n f

-- n records of z bytes each, from o
abbrev pub table : {A : Type 0} → List ℕ → ℕ → ℕ → ℕ → (List ℕ → A) → List A
table xs o n z f = tab n (λ k. f (gets xs (o + k * z) 0 z))
