-- An address that is listed has the largest maximum and the least interval of all its endpoints. Assumes nothing.
use Rattle.std.specs.Prelude.{◌≡◌, Bool, ℕ, zero, suc, ◌+◌, ◌-◌, ◌<◌, min, eqb, ltb, length, get_or}
use Rattle.std.proofs.Math.Path.{refl, ap}
use Rattle.std.proofs.Common.{sym, ◌∙◌, arith, eqb-true, eq-eqb, ne_eqb, ltb-true, ltb-false}
use Rattle.std.proofs.Math.Bool.{true, false, cond}
use mathlib.Core.List.{List, [], ◌∷◌}
use Rattle.descriptor.specs.declared.Endpoint.{Endpoint}
use Rattle.descriptor.specs.Endpoints.{none, larger, lesser, merged, noted, gathered}
use Rattle.descriptor.specs.Reading.{in_order, list_of}
use Rattle.descriptor.specs.Lists.{one, seen, Good}

-- ---- over all endpoints of one address

module _ (op : ℕ → ℕ → ℕ) (f : Endpoint → ℕ) (a : ℕ) where
  -- what f gives of those whose address is a, by op from the start u on
  unfoldable pub over : ℕ → List Endpoint → ℕ
  over u [] = u
  over u (e ∷ es) = over (cond (eqb e.address a) (op u (f e)) u) es

module _ (op : ℕ → ℕ → ℕ) (f : Endpoint → ℕ) (a : ℕ) (swap : (x y z : ℕ) → op (op x y) z ≡ op (op x z) y)
    (assoc : (x y z : ℕ) → op x (op y z) ≡ op (op x y) z) (join : (x e : Endpoint) → f (merged x e)
    ≡ op (f x) (f e)) where
  over-op : (u y : ℕ) (es : List Endpoint) → over op f a (op u y) es ≡ op (over op f a u es) y
  unfolding over
  over-op u y [] = refl
  over-op u y (e ∷ es) = go (λ v. over-op v y es) (eqb e.address a)
    where
      go : ((v : ℕ) → over op f a (op v y) es ≡ op (over op f a v es) y) → (t : Bool)
          → over op f a (cond t (op (op u y) (f e)) (op u y)) es ≡ op (over op f a (cond t (op u (f e)) u) es) y
      go i true = rw (swap u y (f e)) (i (op u (f e)))
      go i false = i u

  over-noted : (u : ℕ) (e : Endpoint) (es : List Endpoint)
      → over op f a u (noted e es) ≡ cond (eqb e.address a) (op (over op f a u es) (f e)) (over op f a u es)
  unfolding over noted merged
  over-noted u e [] = refl
  over-noted u e (x ∷ xs) = go (λ v. over-noted v e xs) (eqb x.address e.address) refl
    where
      same : (t : Bool) → over op f a (cond t (op u (f (merged x e))) u) xs
          ≡ cond t (op (over op f a (cond t (op u (f x)) u) xs) (f e)) (over op f a (cond t (op u (f x)) u) xs)
      same true = rw (join x e, assoc u (f x) (f e)) (over-op (op u (f x)) (f e) xs)
      same false = refl

      go : ((v : ℕ) → over op f a v (noted e xs) ≡ cond (eqb e.address a) (op (over op f a v xs) (f e))
          (over op f a v xs)) → (t : Bool)
          → eqb x.address e.address ≡ t
          → over op f a u (cond t (merged x e ∷ xs) (x ∷ noted e xs))
          ≡ cond (eqb e.address a) (op (over op f a (cond (eqb x.address a) (op u (f x)) u) xs) (f e))
          (over op f a (cond (eqb x.address a) (op u (f x)) u) xs)
      go i true q =
          let w = over op f a (cond (eqb x.address a) (op u (f x)) u) xs in
          same (eqb x.address a) ∙ ap (λ (b : ℕ). cond (eqb b a) (op w (f e)) w)
          (eqb-true x.address e.address q)
      go i false q = i (cond (eqb x.address a) (op u (f x)) u)

  pub over-gathered : (u : ℕ) (list es : List Endpoint) → over op f a u (gathered list es)
      ≡ over op f a (over op f a u list) es
  unfolding over gathered
  over-gathered u list [] = refl
  over-gathered u list (e ∷ es) = over-gathered u (noted e list) es
      ∙ ap (λ (v : ℕ). over op f a v es) (over-noted u e list)

-- ---- larger and lesser

larger-is : (a b : ℕ) → larger a b ≡ b + (a - b)
larger-is a b = go (ltb a b) refl
  where
    go : (t : Bool) → ltb a b ≡ t → cond t b a ≡ b + (a - b)
    go true q = omega (arith, ltb-true a b q)
    go false q = omega (arith, ltb-false a b q)

lesser-is : (a b : ℕ) → lesser a b ≡ min a b
lesser-is a b = go (ltb b a) refl
  where
    go : (t : Bool) → ltb b a ≡ t → cond t b a ≡ min a b
    go true q = omega (arith, ltb-true b a q)
    go false q = omega (arith, ltb-false b a q)

larger-swap : (x y z : ℕ) → larger (larger x y) z ≡ larger (larger x z) y
larger-swap x y z = omega (arith, larger-is x y, larger-is (larger x y) z, larger-is x z, larger-is (larger x z) y)

larger-assoc : (x y z : ℕ) → larger x (larger y z) ≡ larger (larger x y) z
larger-assoc x y z = omega (arith, larger-is y z, larger-is x (larger y z), larger-is x y, larger-is (larger x y) z)

lesser-swap : (x y z : ℕ) → lesser (lesser x y) z ≡ lesser (lesser x z) y
lesser-swap x y z = omega (arith, lesser-is x y, lesser-is (lesser x y) z, lesser-is x z, lesser-is (lesser x z) y)

lesser-assoc : (x y z : ℕ) → lesser x (lesser y z) ≡ lesser (lesser x y) z
lesser-assoc x y z = omega (arith, lesser-is y z, lesser-is x (lesser y z), lesser-is x y, lesser-is (lesser x y) z)

larger-joined : (x e : Endpoint) → (merged x e).maximum ≡ larger x.maximum e.maximum
unfolding merged
larger-joined x e = refl

lesser-joined : (x e : Endpoint) → (merged x e).interval ≡ lesser x.interval e.interval
unfolding merged
lesser-joined x e = refl

-- ---- of an address, among endpoints

abbrev pub largest : ℕ → List Endpoint → ℕ
largest a es = over (λ x y. larger x y) (λ e. e.maximum) a 0 es

abbrev pub least : ℕ → List Endpoint → ℕ
least a es = over (λ x y. lesser x y) (λ e. e.interval) a 255 es

-- in the list they are as in the descriptor
pub largest-listed : (a : ℕ) (s : List ℕ) → largest a (list_of s) ≡ largest a (in_order s)
unfolding over
largest-listed a s = over-gathered (λ x y. larger x y) (λ e. e.maximum) a larger-swap larger-assoc larger-joined 0 []
    (in_order s)

pub least-listed : (a : ℕ) (s : List ℕ) → least a (list_of s) ≡ least a (in_order s)
unfolding over
least-listed a s = over-gathered (λ x y. lesser x y) (λ e. e.interval) a lesser-swap lesser-assoc lesser-joined 255 []
    (in_order s)

-- ---- and in a good list they are those of the one that has the address

over-unseen : (op : ℕ → ℕ → ℕ) (f : Endpoint → ℕ) (a u : ℕ) (es : List Endpoint) → seen a es ≡ 0 → over op f a u es ≡ u
unfolding over seen
over-unseen op f a u [] h = refl
over-unseen op f a u (x ∷ xs) h = go (λ q. over-unseen op f a u xs q) (eqb x.address a) h
  where
    go : (seen a xs ≡ 0 → over op f a u xs ≡ u) → (t : Bool) → one t + seen a xs ≡ 0
        → over op f a (cond t (op u (f x)) u) xs ≡ u
    go i true q = absurd (omega arith)
    go i false q = i (omega arith)

apart : (a : ℕ) (es : List Endpoint) (i : ℕ) → i < length es → seen a es ≡ 0 → a ≡ (get_or es i none).address → ⊥
unfolding seen
apart a [] i h s q = absurd (omega arith)
apart a (x ∷ xs) zero h s q = let z = eq-eqb x.address a (sym q) in let y : one true + seen a xs ≡ 0
    = rw z at s in omega arith
apart a (x ∷ xs) (suc i) h s q = apart a xs i (omega arith) (omega arith) q

over-one : (op : ℕ → ℕ → ℕ) (f : Endpoint → ℕ) (u : ℕ) (es : List Endpoint) (i : ℕ) → Good es → i < length es
    → over op f (get_or es i none).address u es ≡ op u (f (get_or es i none))
unfolding over Good
over-one op f u [] i g h = absurd (omega arith)
over-one op f u (x ∷ xs) zero g h = rw (eq-eqb x.address x.address refl)
    (over-unseen op f x.address (op u (f x)) xs g.1)
over-one op f u (x ∷ xs) (suc i) g h =
    rw (ne_eqb x.address (get_or xs i none).address (apart x.address xs i (omega arith) g.1))
    (over-one op f u xs i g.2 (omega arith))

pub largest-one : (es : List Endpoint) (i : ℕ) → Good es → i < length es → largest (get_or es i none).address es
    ≡ (get_or es i none).maximum
largest-one es i g h = over-one (λ x y. larger x y) (λ e. e.maximum) 0 es i g h
    ∙ (let z = larger-is 0 (get_or es i none).maximum in omega arith)

interval-byte : (es : List Endpoint) (i : ℕ) → Good es → i < length es → (get_or es i none).interval < 256
unfolding Good
interval-byte [] i g h = absurd (omega arith)
interval-byte (x ∷ xs) zero g h = g.0.interval
interval-byte (x ∷ xs) (suc i) g h = interval-byte xs i g.2 (omega arith)

pub least-one : (es : List Endpoint) (i : ℕ) → Good es → i < length es → least (get_or es i none).address es
    ≡ (get_or es i none).interval
least-one es i g h =
    over-one (λ x y. lesser x y) (λ e. e.interval) 255 es i g h
    ∙ (let z = lesser-is 255 (get_or es i none).interval in let b = interval-byte es i g h in omega arith)
