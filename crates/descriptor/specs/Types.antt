-- Error 18 as the code finds it: each endpoint's kind is held against that of its address in the list that is read.
-- Assumes nothing.
use Rattle.std.proofs.Math.Path.{◌≡◌, refl, sym}
use Rattle.std.proofs.Common.{ap, ◌∙◌, arith}
use Rattle.std.specs.Prelude.{Bool, ◌&&◌, ◌||◌, ℕ}
use Rattle.std.proofs.Math.Bool.{true, false, cond, not, and-false, and_assoc}
use mathlib.Core.List.{List, [], ◌∷◌, ◌++◌, append-nil}
use Rattle.std.proofs.Math.Dec.{eqb}
use borrow.Author.Tests.{eqb-true, eqb-false, eq-eqb, ne_eqb, not-true, not-false}
use Rattle.descriptor.specs.declared.Endpoint.{Endpoint}
use Rattle.descriptor.specs.Endpoints.{merged, noted, gathered, agrees, agree}
use Rattle.descriptor.specs.Reading.{endpoints, in_order, list_of, clashes, two_types}

-- ---- the list has the kind that an address has first

skip : (f e : Endpoint) (xs es : List Endpoint) → eqb e.address f.address ≡ false → agrees f (xs ++ e ∷ es)
    ≡ agrees f (xs ++ es)
unfolding agrees
skip f e [] es h = rw h
skip f e (x ∷ xs) es h = ap (λ (b : Bool). cond (eqb x.address f.address) (eqb x.kind f.kind) b)
    (skip f e xs es h)

agrees-noted : (f e : Endpoint) (xs es : List Endpoint) → agrees f (noted e xs ++ es) ≡ agrees f (xs ++ e ∷ es)
unfolding agrees noted merged
agrees-noted f e [] es = refl
agrees-noted f e (x ∷ xs) es = go (agrees-noted f e xs es) (eqb x.address e.address) refl
  where
    go : agrees f (noted e xs ++ es) ≡ agrees f (xs ++ e ∷ es) → (t : Bool) → eqb x.address e.address ≡ t
        → agrees f (cond t (merged x e ∷ xs) (x ∷ noted e xs) ++ es)
        ≡ cond (eqb x.address f.address) (eqb x.kind f.kind) (agrees f (xs ++ e ∷ es))
    go i true q = split (eqb x.address f.address) refl
      where
        split : (u : Bool) → eqb x.address f.address ≡ u
            → cond u (eqb x.kind f.kind) (agrees f (xs ++ es))
            ≡ cond u (eqb x.kind f.kind) (agrees f (xs ++ e ∷ es))
        split true r = refl
        split false r = sym (skip f e xs es (rw (eqb-true x.address e.address q) at r))
    go i false q = ap (λ (b : Bool). cond (eqb x.address f.address) (eqb x.kind f.kind) b) i

agrees-gathered : (f : Endpoint) (xs es : List Endpoint) → agrees f (gathered xs es) ≡ agrees f (xs ++ es)
unfolding gathered
agrees-gathered f xs [] = rw append-nil
agrees-gathered f xs (e ∷ es) = agrees-gathered f (noted e xs) es ∙ agrees-noted f e xs es

agree-gathered : (es fs : List Endpoint) → agree (gathered [] es) fs ≡ agree es fs
unfolding agree
agree-gathered es [] = refl
agree-gathered es (f ∷ fs) = rw (agrees-gathered f [] es, agree-gathered es fs)

-- ---- all agree with the first of their address exactly where there are no two types

module _ (e : Endpoint) where
  clashed : (es fs : List Endpoint) → clashes e fs ≡ true → agree (e ∷ es) fs ≡ false
  unfolding agree agrees clashes
  clashed es [] h = sym h
  clashed es (f ∷ fs) h = go (λ q. clashed es fs q) (eqb e.address f.address) (eqb e.kind f.kind) h
    where
      go : (clashes e fs ≡ true → agree (e ∷ es) fs ≡ false) → (t u : Bool) → (t && not u || clashes e fs) ≡ true
          → (cond t u (agrees f es) && agree (e ∷ es) fs) ≡ false
      go i true true q = i q
      go i true false q = refl
      go i false u q = rw (i q) (and-false (agrees f es))

  agreed : (f : Endpoint) (es : List Endpoint) → e.address ≡ f.address → e.kind ≡ f.kind → clashes e es ≡ false
      → agrees f es ≡ true
  unfolding agrees clashes
  agreed f [] a k h = refl
  agreed f (x ∷ xs) a k h = go (λ q. agreed f xs a k q) (eqb e.address x.address) (eqb e.kind x.kind) refl
      refl h
    where
      go : (clashes e xs ≡ false → agrees f xs ≡ true) → (t u : Bool) → eqb e.address x.address ≡ t
          → eqb e.kind x.kind ≡ u
          → (t && not u || clashes e xs) ≡ false → cond (eqb x.address f.address) (eqb x.kind f.kind)
          (agrees f xs) ≡ true
      go i true true p r q = rw (
        eq-eqb x.address f.address (sym (eqb-true _ _ p) ∙ a),
        eq-eqb x.kind f.kind
            (sym (eqb-true _ _ r) ∙ k),
      )
      go i true false p r q = absurd (let z : ◌≡◌ {A = ℕ} 0 1 = cc in omega arith)
      go i false u p r q = rw (ne_eqb x.address f.address (λ z. eqb-false _ _ p (a ∙ sym z))) (i q)

  agree-past : (es : List Endpoint) → clashes e es ≡ false → (fs : List Endpoint) → clashes e fs ≡ false
      → agree (e ∷ es) fs ≡ agree es fs
  unfolding agree agrees clashes
  agree-past es h [] q = refl
  agree-past es h (f ∷ fs) q = go (λ r. agree-past es h fs r) (eqb e.address f.address) (eqb e.kind f.kind)
      refl refl q
    where
      go : (clashes e fs ≡ false → agree (e ∷ es) fs ≡ agree es fs) → (t u : Bool) → eqb e.address f.address ≡ t
          → eqb e.kind f.kind ≡ u
          → (t && not u || clashes e fs) ≡ false → (cond t u (agrees f es) && agree (e ∷ es) fs)
          ≡ (agrees f es && agree es fs)
      go i true true p r q = rw (i q, agreed f es (eqb-true _ _ p) (eqb-true _ _ r) h)
      go i true false p r q = absurd (let z : ◌≡◌ {A = ℕ} 0 1 = cc in omega arith)
      go i false u p r q = rw (i q)

first-agrees : (e : Endpoint) (es : List Endpoint) → agrees e (e ∷ es) ≡ true
unfolding agrees
first-agrees e es = rw (eq-eqb e.address e.address refl, eq-eqb e.kind e.kind refl)

agree-self : (es : List Endpoint) → agree es es ≡ not (two_types es)
unfolding agree two_types
agree-self [] = refl
agree-self (e ∷ es) = rw (first-agrees e es) (go (agree-self es) (clashes e es) refl)
  where
    go : agree es es ≡ not (two_types es) → (t : Bool) → clashes e es ≡ t → agree (e ∷ es) es ≡ not (t || two_types es)
    go i true q = clashed e es es q
    go i false q = agree-past e es q es q ∙ i

-- the list's own endpoints agree with it unless one address has two types
pub types : (es : List Endpoint) → agree (gathered [] es) es ≡ not (two_types es)
types es = agree-gathered es es ∙ agree-self es

-- ---- in two parts

pub agree-append : (list es fs : List Endpoint) → agree list (es ++ fs) ≡ (agree list es && agree list fs)
unfolding agree
agree-append list [] fs = refl
agree-append list (e ∷ es) fs = rw (agree-append list es fs)
    (sym (and_assoc (agrees e list) (agree list es) (agree list fs)))

pub gathered-append : (list es fs : List Endpoint) → gathered list (es ++ fs) ≡ gathered (gathered list es) fs
unfolding gathered
gathered-append list [] fs = refl
gathered-append list (e ∷ es) fs = gathered-append (noted e list) es fs

-- ---- of what is read

module _ (s : List ℕ) where
  both : (agree (list_of s) (endpoints true s) && agree (list_of s) (endpoints false s)) ≡ not (two_types (in_order s))
  both = sym (agree-append (list_of s) (endpoints true s) (endpoints false s)) ∙ types (in_order s)

  pub two-in-first : agree (list_of s) (endpoints true s) ≡ false → two_types (in_order s) ≡ true
  two-in-first h = not-false (two_types (in_order s)) (sym (rw h at both))

  pub two-in-others : agree (list_of s) (endpoints true s) ≡ true → agree (list_of s) (endpoints false s) ≡ false
      → two_types (in_order s) ≡ true
  two-in-others g h = not-false (two_types (in_order s)) (sym (rw (g, h) at both))

  pub one_each : agree (list_of s) (endpoints true s) ≡ true → agree (list_of s) (endpoints false s) ≡ true
      → two_types (in_order s) ≡ false
  one_each g h = not-true (two_types (in_order s)) (sym (rw (g, h) at both))
