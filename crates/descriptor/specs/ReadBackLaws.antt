-- Laws on the definitions of ReadBack.antt
use Rattle.std.specs.Prelude.{◌≡◌, Bool, true, cond, not, ◌&&◌, ◌||◌, ℕ, zero, suc, ◌+◌, ◌-◌, ◌*◌, ◌%◌, ◌≤◌, ◌<◌, min, eqb, length, get_or, take, drop, replicate}
use Rattle.std.proofs.Math.Path.{refl, ap}
use Rattle.std.proofs.Common.{sym, ◌∙◌, length-append, get_or-drop, take-suc, take_at}
use Rattle.std.proofs.Math.Bool.{false}
use mathlib.Core.List.{List, [], ◌∷◌, ◌++◌, append-nil}
use native.Mathlib.Omega.{arith}
use Rattle.std.proofs.Math.Seq.{append_snoc, take-append_seam}
use borrow.Author.Tests.{eqb-true, eqb-false, eq-eqb, ne_eqb, le-leb, le-ltb}
use Rattle.descriptor.specs.declared.Endpoint.{Endpoint}
use Rattle.descriptor.specs.declared.Answer.TheVariants.{Listed}
use Rattle.descriptor.specs.Row.{length_of, kind_of, next, least, whole, allowed, entered, is_row, total_of}
use Rattle.descriptor.specs.Row.{is_configuration, endpoint_of, setting_of, is_meant, endpoints_of}
use Rattle.descriptor.specs.Endpoints.{none, of_list, merged, noted, gathered}
use Rattle.descriptor.specs.Reading.{in_order, list_of, clashes, two_types, refused_by, reading_of}
use Rattle.descriptor.specs.Writing.{low, high, total_for, interface, endpoint, endpoints, written, up_to, stored}
use Rattle.descriptor.specs.Writing.{room_after}
use Rattle.descriptor.specs.RowLaws.{clear-endpoint, step, row-none, endpoints-none, configuration-is}
use Rattle.descriptor.specs.Lists.{one, seen, Fine, Good}
use Rattle.descriptor.specs.ListsLaws.{good_none, good-noted, few}
use Rattle.descriptor.specs.WritingLaws.{length-written}
use Rattle.descriptor.specs.ReadBack.{Accepted}

-- ---- reading gives good lists

unfoldable Fines : List Endpoint → Type 0
Fines [] = Unit {0}
Fines (e ∷ es) = Fine e × Fines es

abbrev Bytes : List ℕ → Type 0
Bytes d = (j : ℕ) → get_or d j 0 < 256

fine-endpoint : (inside : Bool) (d : List ℕ) → Bytes d → allowed inside d ≡ true → kind_of d ≡ 5 → Fine (endpoint_of d)
unfolding endpoint_of
fine-endpoint inside d b h e = record {
  address = b 2;
  clear = clear-endpoint inside d h e;
  kind = omega arith;
  maximum = omega arith;
  interval = b 6;
}

fines : (n : ℕ) (inside z : Bool) (t : ℕ) (d : List ℕ) → Bytes d → is_row n inside d ≡ true → Fines (endpoints_of n z t d)
unfolding endpoints_of Fines is_meant
fines zero inside z t d b h = tt
fines (suc n) inside z t [] b h = tt
fines (suc n) inside z t (c ∷ d) b h =
    let r = c ∷ d in
    let x = step (suc n) inside r (omega arith) h in
    let y : x.left ≡ n = omega (arith, x.one) in
    go (fines n (entered inside r) z (setting_of t r) (next r)
    (λ j. rw (get_or-drop (length_of r) r j 0) (b (length_of r + j))) (rw y at x.rest))
    (λ e. fine-endpoint inside r b x.may (eqb-true _ _ e))
    (eqb (kind_of r) 5)
    (cond z (eqb (setting_of t r) 0) (not (eqb (setting_of t r) 0)))
    refl
  where
    go : Fines (endpoints_of n z (setting_of t (c ∷ d)) (next (c ∷ d)))
        → (eqb (kind_of (c ∷ d)) 5 ≡ true → Fine (endpoint_of (c ∷ d))) → (u v : Bool)
        → eqb (kind_of (c ∷ d)) 5 ≡ u
        → Fines
        (cond (u && v) (endpoint_of (c ∷ d) ∷ endpoints_of n z (setting_of t (c ∷ d)) (next (c ∷ d)))
        (endpoints_of n z (setting_of t (c ∷ d)) (next (c ∷ d))))
    go i f true true q = (f q, i)
    go i f true false q = i
    go i f false v q = i

good-gathered : (list es : List Endpoint) → Good list → Fines es → Good (gathered list es)
unfolding gathered Fines
good-gathered list [] g f = g
good-gathered list (e ∷ es) g f = good-gathered (noted e list) es (good-noted e list f.0 g) f.1

fines-append : (es fs : List Endpoint) → Fines es → Fines fs → Fines (es ++ fs)
unfolding Fines
fines-append [] fs f g = g
fines-append (e ∷ es) fs f g = (f.0, fines-append es fs f.1 g)

pub read-good : (s : List ℕ) → ((j : ℕ) → get_or s j 0 < 256) → is_configuration s ≡ true → Good (list_of s)
read-good s b h =
    let r = (configuration-is s h).row in
    let c : Bytes (next s) = λ j. rw (get_or-drop (length_of s) s j 0) (b (length_of s + j)) in
    good-gathered [] (in_order s) good_none
    (fines-append _ _ (fines (length s) false true 0 (next s) c r) (fines (length s) false false 0 (next s) c r))

pub accepted : (s : List ℕ) → ((j : ℕ) → get_or s j 0 < 256) → (reading_of s).answer ≡ Listed → Accepted s
unfolding reading_of
accepted s b h = go (is_configuration s) (two_types (in_order s)) refl refl h
  where
    go : (t u : Bool) → is_configuration s ≡ t → two_types (in_order s) ≡ u
        → (cond (not t) (refused_by 17) (cond u (refused_by 18)
        (record { answer = Listed; list = of_list (list_of s) }))).answer ≡ Listed → Accepted s
    go false u p q k = absurd (let z : ◌≡◌ {A = ℕ} 0 1 = cc in omega arith)
    go true true p q k = absurd (let z : ◌≡◌ {A = ℕ} 0 1 = cc in omega arith)
    go true false p q k = record { no_17 = p; no_18 = q; list = rw (p, q); good = read-good s b p }

-- ---- good lists gather to themselves, and no address has two types

good-fines : (es : List Endpoint) → Good es → Fines es
unfolding Good Fines
good-fines [] g = tt
good-fines (e ∷ es) g = (g.0, good-fines es g.2)

noted-unseen : (e : Endpoint) (es : List Endpoint) → seen e.address es ≡ 0 → noted e es ≡ es ++ (e ∷ [])
unfolding noted seen
noted-unseen e [] h = refl
noted-unseen e (x ∷ xs) h = go (λ q. noted-unseen e xs q) (eqb x.address e.address) h
  where
    go : (seen e.address xs ≡ 0 → noted e xs ≡ xs ++ (e ∷ [])) → (t : Bool) → one t + seen e.address xs ≡ 0
        → cond t (merged x e ∷ xs) (x ∷ noted e xs) ≡ x ∷ (xs ++ (e ∷ []))
    go i true q = absurd (omega arith)
    go i false q = ap (λ (r : List Endpoint). x ∷ r) (i (omega arith))

-- an endpoint is not among those before it
unseen : (xs : List Endpoint) (e : Endpoint) (es : List Endpoint) → Good (xs ++ e ∷ es) → seen e.address xs ≡ 0
unfolding Good seen
unseen [] e es g = refl
unseen (x ∷ xs) e es g = rw (unseen xs e es g.2, ne_eqb x.address e.address (λ q. apart xs q g.1))
  where
    apart : (xs : List Endpoint) → x.address ≡ e.address → seen x.address (xs ++ e ∷ es) ≡ 0 → ⊥
    apart [] q h = let z = eq-eqb e.address x.address (sym q) in let y : one true + seen x.address es ≡ 0
        = rw z at h in omega arith
    apart (y ∷ ys) q h = apart ys q (omega arith)

gathered-self : (xs es : List Endpoint) → Good (xs ++ es) → gathered xs es ≡ xs ++ es
unfolding gathered
gathered-self xs [] g = sym (append-nil xs)
gathered-self xs (e ∷ es) g =
    let n = noted-unseen e xs (unseen xs e es g) in
    let a = append_snoc xs e es in
    ap (λ (x : List Endpoint). gathered x es) n ∙ gathered-self (xs ++ (e ∷ [])) es (rw a g) ∙ a

no-clash : (e : Endpoint) (es : List Endpoint) → seen e.address es ≡ 0 → clashes e es ≡ false
unfolding clashes seen
no-clash e [] h = refl
no-clash e (x ∷ xs) h = go (λ q. no-clash e xs q) (eqb x.address e.address) refl h
  where
    go : (seen e.address xs ≡ 0 → clashes e xs ≡ false) → (t : Bool) → eqb x.address e.address ≡ t → one t
        + seen e.address xs ≡ 0
        → (eqb e.address x.address && not (eqb e.kind x.kind) || clashes e xs) ≡ false
    go i true p q = absurd (omega arith)
    go i false p q = rw (ne_eqb e.address x.address (λ z. eqb-false _ _ p (sym z)), i (omega arith))

good-types : (es : List Endpoint) → Good es → two_types es ≡ false
unfolding two_types Good
good-types [] g = refl
good-types (e ∷ es) g = rw (no-clash e es g.1, good-types es g.2)

-- ---- what is written, descriptor by descriptor

whole-true : (d : List ℕ) → 2 ≤ length d → least (kind_of d) ≤ length_of d → length_of d ≤ length d → whole d ≡ true
unfolding whole
whole-true d a b c = rw (le-leb _ _ a, le-leb _ _ b, le-leb _ _ c)

module _ (e : Endpoint) (d : List ℕ) (f : Fine e) where
  whole-endpoint : whole (endpoint e ++ d) ≡ true
  unfolding least
  whole-endpoint = whole-true (endpoint e ++ d) (omega arith) (omega arith) (omega arith)

  row-endpoint : (n : ℕ) → is_row (suc n) true (endpoint e ++ d) ≡ is_row n true d
  unfolding is_row allowed entered
  row-endpoint n = rw (whole-endpoint, f.clear)

  same-endpoint : endpoint_of (endpoint e ++ d) ≡ e
  unfolding endpoint_of
  same-endpoint =
      let k : e.kind % 4 ≡ e.kind = omega (arith, f.kind) in
      let m : (low e.maximum + high e.maximum * 256) % 2048 ≡ e.maximum = omega (arith, f.maximum) in
      rw (k, m)

  listed-endpoint : (n : ℕ) → endpoints_of (suc n) true 0 (endpoint e ++ d) ≡ e ∷ endpoints_of n true 0 d
  unfolding endpoints_of is_meant setting_of
  listed-endpoint n = rw same-endpoint

  other-endpoint : (n : ℕ) → endpoints_of (suc n) false 0 (endpoint e ++ d) ≡ endpoints_of n false 0 d
  unfolding endpoints_of is_meant setting_of
  other-endpoint n = refl

-- of all endpoints, with n enough
row-endpoints : (es : List Endpoint) (n : ℕ) → Fines es → length es ≤ n → is_row n true (endpoints es) ≡ true
unfolding endpoints Fines
row-endpoints [] n f h = row-none n true [] refl
row-endpoints (e ∷ es) zero f h = absurd (omega arith)
row-endpoints (e ∷ es) (suc n) f h = row-endpoint e (endpoints es) f.0 n ∙ row-endpoints es n f.1 (omega arith)

listed-endpoints : (es : List Endpoint) (n : ℕ) → Fines es → length es ≤ n → endpoints_of n true 0 (endpoints es) ≡ es
unfolding endpoints Fines
listed-endpoints [] n f h = endpoints-none n true 0 [] refl
listed-endpoints (e ∷ es) zero f h = absurd (omega arith)
listed-endpoints (e ∷ es) (suc n) f h =
    listed-endpoint e (endpoints es) f.0 n ∙ ap (λ (x : List Endpoint). e ∷ x)
    (listed-endpoints es n f.1 (omega arith))

other-endpoints : (es : List Endpoint) (n : ℕ) → Fines es → length es ≤ n → endpoints_of n false 0 (endpoints es) ≡ []
unfolding endpoints Fines
other-endpoints [] n f h = endpoints-none n false 0 [] refl
other-endpoints (e ∷ es) zero f h = absurd (omega arith)
other-endpoints (e ∷ es) (suc n) f h = other-endpoint e (endpoints es) f.0 n
    ∙ other-endpoints es n f.1 (omega arith)

-- after the interface
module _ (k : ℕ) (d : List ℕ) (n : ℕ) where
  whole-interface : whole (interface k ++ d) ≡ true
  unfolding least
  whole-interface = whole-true (interface k ++ d) (omega arith) (omega arith) (omega arith)

  row-interface : is_row (suc n) false (interface k ++ d) ≡ is_row n true d
  unfolding is_row allowed entered
  row-interface = rw whole-interface

  listed-interface : (z : Bool) → endpoints_of (suc n) z 0 (interface k ++ d) ≡ endpoints_of n z 0 d
  unfolding endpoints_of is_meant setting_of
  listed-interface z = refl

-- ---- and as a whole

module _ (es : List Endpoint) (g : Good es) where
  length-all : length (written es) ≡ suc (length (written es) - 1)
  length-all = let l = length-written es in omega arith

  total-back : total_of (written es) ≡ length (written es)
  unfolding written total_of
  total-back = let l = length-written es in let f = few es g in omega arith

  rows_back : is_row (length (written es)) false (next (written es)) ≡ true
  unfolding written
  rows_back =
      let l = length-written es in
      ap (λ (k : ℕ). is_row k false (interface (length es) ++ endpoints es)) length-all
      ∙ row-interface (length es) (endpoints es) (length (written es) - 1)
      ∙ row-endpoints es (length (written es) - 1) (good-fines es g) (omega arith)

  found_back : (z : Bool) (fs : List Endpoint) → ((n : ℕ) → length es ≤ n → endpoints_of n z 0 (endpoints es) ≡ fs)
      → endpoints_of (length (written es)) z 0 (next (written es)) ≡ fs
  unfolding written
  found_back z fs h =
      let l = length-written es in
      ap (λ (k : ℕ). endpoints_of k z 0 (interface (length es) ++ endpoints es)) length-all
      ∙ listed-interface (length es) (endpoints es) (length (written es) - 1) z
      ∙ h (length (written es) - 1) (omega arith)

  in-order-back : in_order (written es) ≡ es
  in-order-back =
      let f = good-fines es g in
      rw (found_back true es (λ n h. listed-endpoints es n f h), found_back false [] (λ n h. other-endpoints es n f h))
      (append-nil es)

  whole_back : whole (written es) ≡ true
  unfolding written least
  whole_back = whole-true (written es) (omega arith) (omega arith) (omega arith)

  kind-back : kind_of (written es) ≡ 2
  unfolding written
  kind-back = refl

  no-error-17 : is_configuration (written es) ≡ true
  unfolding is_configuration
  no-error-17 =
      let l = length-written es in
      let f = few es g in
      rw (
        le-leb (length (written es)) 4096 (omega arith),
        whole_back,
        eq-eqb (kind_of (written es)) 2 kind-back,
        eq-eqb
            _ _ total-back,
        rows_back,
      )

  -- what is written reads back as the same list
  pub reads-back : reading_of (written es) ≡ record { answer = Listed; list = of_list es }
  unfolding reading_of
  reads-back = rw (no-error-17, in-order-back, good-types es g, gathered-self [] es g)

-- ---- in the code's room

up_to-take : (n : ℕ) (es : List Endpoint) → n ≤ length es → up_to n es ≡ take n es
unfolding up_to
up_to-take zero es h = refl
up_to-take (suc n) es h = rw (up_to-take n es (omega arith)) (sym (take-suc es n none (omega arith)))

-- a list as it is handed out is what is written
pub stored_of_lem : (es : List Endpoint) → Good es → stored (of_list es) ≡ es
stored_of_lem es g =
    let f = few es g in
    let m : min (length es) 32 ≡ length es = omega arith in
    let r = replicate (32 - length es) none in
    ap (λ (k : ℕ). up_to k (es ++ r)) m ∙ up_to-take (length es) (es ++ r) (omega (arith, length-append es r))
    ∙ take-append_seam es r

pub room-reads-back : (es : List Endpoint) (room : List ℕ) → Good es → total_for (length es) ≤ length room
    → reading_of (take (total_for (length es)) (room_after (of_list es) room))
    ≡ record { answer = Listed; list = of_list es }
unfolding room_after
room-reads-back es room g h =
    let f = few es g in
    let m : min (length es) 32 ≡ length es = omega arith in
    rw (stored_of_lem es g, m, le-ltb (length room) (total_for (length es)) h)
    (rw (take_at (written es) (drop (total_for (length es)) room) (total_for (length es)) (length-written es))
    (reads-back es g))
