-- Lists of endpoints in which each address stands once.
use Rattle.std.specs.Prelude.{Bool, true, cond, ◌&&◌, List, [], ◌∷◌, ◌++◌, ℕ, suc, ◌-◌, eqb, ltb, length, take, replicate}
use Rattle.descriptor.specs.declared.Endpoint.{Endpoint}
use Rattle.descriptor.specs.declared.Endpoints.{Endpoints}

-- ---- in a struct: the first entries, and zeros after them

abbrev pub none : Endpoint
none = record { address = 0; kind = 0; maximum = 0; interval = 0 }

abbrev pub of_list : List Endpoint → Endpoints
of_list es = record { entries = es ++ replicate (32 - length es) none; count = length es }

abbrev pub listed : Endpoints → List Endpoint
listed l = take l.count l.entries

-- ---- one more endpoint

abbrev pub larger : ℕ → ℕ → ℕ
larger a b = cond (ltb a b) b a

abbrev pub lesser : ℕ → ℕ → ℕ
lesser a b = cond (ltb b a) b a

-- x, whose address e has too: the largest maximum and the least interval
unfoldable pub merged : Endpoint → Endpoint → Endpoint
merged x e = record {
  address = x.address;
  kind = x.kind;
  maximum = larger x.maximum e.maximum;
  interval = lesser x.interval e.interval;
}

-- in its address's place, or at the end
unfoldable pub noted : Endpoint → List Endpoint → List Endpoint
noted e [] = e ∷ []
noted e (x ∷ xs) = cond (eqb x.address e.address) (merged x e ∷ xs) (x ∷ noted e xs)

-- all of them, one after the other
unfoldable pub gathered : List Endpoint → List Endpoint → List Endpoint
gathered list [] = list
gathered list (e ∷ es) = gathered (noted e list) es

-- ---- as the code looks for an address

-- its place, or the length
unfoldable pub place_of : ℕ → List Endpoint → ℕ
place_of a [] = 0
place_of a (x ∷ xs) = cond (eqb x.address a) 0 (suc (place_of a xs))

-- where e's address is listed, it is with e's kind
unfoldable pub agrees : Endpoint → List Endpoint → Bool
agrees e [] = true
agrees e (x ∷ xs) = cond (eqb x.address e.address) (eqb x.kind e.kind) (agrees e xs)

unfoldable pub agree : List Endpoint → List Endpoint → Bool
agree list [] = true
agree list (e ∷ es) = agrees e list && agree list es
