-- Laws on the definitions of Lists.antt
use Rattle.std.specs.Prelude.{◌≡◌, Bool, ltb, get_or, drop, replicate}
use Rattle.std.proofs.Math.Path.{refl, ap}
use Rattle.std.proofs.Common.{sym, ◌∙◌, add-one, arith, length-append, length-set, drop-cons, eqb-true, eq-eqb, ne_eqb}
use Rattle.std.proofs.Math.Bool.{true, false, cond}
use mathlib.Core.List.{List, [], ◌∷◌, ◌++◌}
use Prim.Native.Nat.{ℕ, zero, suc, ◌+◌, ◌-◌, ◌*◌, ◌/◌, ◌%◌, ◌≤◌, ◌<◌}
use Rattle.std.proofs.Math.Decide.{dec_lt}
use Rattle.std.proofs.Math.Dec.{eqb}
use Rattle.std.proofs.Math.ListN.{length, set, get_or-append}
use Rattle.std.proofs.Math.Seq.{take-append_seam, set-append_seam, append_snoc, drop-length}
use Rattle.std.proofs.lemmas.List.{set-append_left}
use Rattle.std.proofs.lemmas.Bool.{eqb-false}
use Rattle.descriptor.specs.declared.Endpoint.{Endpoint}
use Rattle.descriptor.specs.declared.Endpoints.{Endpoints}
use Rattle.descriptor.specs.Row.{is_clear}
use Rattle.descriptor.specs.Endpoints.{none, of_list, listed, merged, noted, place_of, agrees}
use Rattle.descriptor.specs.Lists.{one, seen, Fine, Good, Tidy}

-- ---- a list in a struct

pub listed_of : (es : List Endpoint) → listed (of_list es) ≡ es
listed_of es = take-append_seam es (replicate (32 - length es) none)

pub tidy_of : (es : List Endpoint) → Good es → Tidy (of_list es)
tidy_of es g = record { same = rw (listed_of es); good = rw (listed_of es) g }

pub good_none : Good []
unfolding Good
good_none = tt

-- ---- the place of an address

pub place_found : (a : ℕ) (es : List Endpoint) (i : ℕ) → i < length es → (get_or es i none).address ≡ a
    → place_of a (drop i es) ≡ 0
unfolding place_of
place_found a es i h e = rw (drop-cons es i none h, eq-eqb _ _ e)

pub place-past : (a : ℕ) (es : List Endpoint) (i : ℕ) → i < length es → ((get_or es i none).address ≡ a → ⊥)
    → place_of a (drop i es) ≡ suc (place_of a (drop (i + 1) es))
unfolding place_of
place-past a es i h e = rw (add-one, drop-cons es i none h, ne_eqb _ _ e)

pub place_end : (a : ℕ) (es : List Endpoint) → place_of a (drop (length es) es) ≡ 0
unfolding place_of
place_end a es = rw drop-length

pub place-le : (a : ℕ) (es : List Endpoint) → place_of a es ≤ length es
unfolding place_of
place-le a [] = omega arith
place-le a (x ∷ xs) = go (place-le a xs) (eqb x.address a)
  where
    go : place_of a xs ≤ length xs → (t : Bool) → cond t 0 (suc (place_of a xs)) ≤ suc (length xs)
    go i true = omega arith
    go i false = omega arith

-- ---- what is done there

module _ (e : Endpoint) where
  pub noted-found : (es : List Endpoint) → place_of e.address es < length es
      → noted e es ≡ set es (place_of e.address es) (merged (get_or es (place_of e.address es) none) e)
  unfolding noted place_of
  noted-found [] h = absurd (omega arith)
  noted-found (x ∷ xs) h = go (λ l. noted-found xs l) (eqb x.address e.address) h
    where
      go : (place_of e.address xs < length xs → noted e xs
          ≡ set xs (place_of e.address xs) (merged (get_or xs (place_of e.address xs) none) e))
          → (t : Bool) → cond t 0 (suc (place_of e.address xs)) < suc (length xs)
          → cond t (merged x e ∷ xs) (x ∷ noted e xs)
          ≡ set (x ∷ xs) (cond t 0 (suc (place_of e.address xs)))
          (merged (get_or (x ∷ xs) (cond t 0 (suc (place_of e.address xs))) none) e)
      go i true h = refl
      go i false h = ap (λ (r : List Endpoint). x ∷ r) (i (omega arith))

  pub noted-new : (es : List Endpoint) → length es ≤ place_of e.address es → noted e es ≡ es ++ (e ∷ [])
  unfolding noted place_of
  noted-new [] h = refl
  noted-new (x ∷ xs) h = go (λ l. noted-new xs l) (eqb x.address e.address) h
    where
      go : (length xs ≤ place_of e.address xs → noted e xs ≡ xs ++ (e ∷ []))
          → (t : Bool) → suc (length xs) ≤ cond t 0 (suc (place_of e.address xs))
          → cond t (merged x e ∷ xs) (x ∷ noted e xs) ≡ x ∷ (xs ++ (e ∷ []))
      go i true h = absurd (omega arith)
      go i false h = ap (λ (r : List Endpoint). x ∷ r) (i (omega arith))

  pub agrees-found : (es : List Endpoint) → place_of e.address es < length es
      → agrees e es ≡ eqb (get_or es (place_of e.address es) none).kind e.kind
  unfolding agrees place_of
  agrees-found [] h = absurd (omega arith)
  agrees-found (x ∷ xs) h = go (λ l. agrees-found xs l) (eqb x.address e.address) h
    where
      go : (place_of e.address xs < length xs → agrees e xs
          ≡ eqb (get_or xs (place_of e.address xs) none).kind e.kind)
          → (t : Bool) → cond t 0 (suc (place_of e.address xs)) < suc (length xs)
          → cond t (eqb x.kind e.kind) (agrees e xs)
          ≡ eqb (get_or (x ∷ xs) (cond t 0 (suc (place_of e.address xs))) none).kind e.kind
      go i true h = refl
      go i false h = i (omega arith)

  pub agrees-new : (es : List Endpoint) → length es ≤ place_of e.address es → agrees e es ≡ true
  unfolding agrees place_of
  agrees-new [] h = refl
  agrees-new (x ∷ xs) h = go (λ l. agrees-new xs l) (eqb x.address e.address) h
    where
      go : (length xs ≤ place_of e.address xs → agrees e xs ≡ true)
          → (t : Bool) → suc (length xs) ≤ cond t 0 (suc (place_of e.address xs))
          → cond t (eqb x.kind e.kind) (agrees e xs) ≡ true
      go i true h = absurd (omega arith)
      go i false h = i (omega arith)

-- ---- stores in the struct

pub set-of : (es : List Endpoint) (i : ℕ) (x : Endpoint) → i < length es
    → ◌≡◌ {A = Endpoints} (record { entries = set (es ++ replicate (32 - length es) none) i x; count = length es })
    (of_list (set es i x))
set-of es i x h = rw (set-append_left es (replicate (32 - length es) none) i x h, length-set es i x)

pub push-of : (es : List Endpoint) (x : Endpoint) → length es < 32
    → ◌≡◌ {A = Endpoints} (record {
      entries = set (es ++ replicate (32 - length es) none) (length es) x;
      count
          = length es + 1;
    }) (of_list (es ++ (x ∷ [])))
push-of es x h = rw (length-append es (x ∷ [])) (
    let a : 32 - length es ≡ suc (31 - length es) = omega arith in
    let b : 32 - (length es + 1) ≡ 31 - length es = omega arith in
    rw (
      a,
      b,
      set-append_seam es none (replicate (31 - length es) none) x,
      append_snoc es x
          (replicate (31 - length es) none),
    ))

-- ---- good lists stay good

fine-merged : (x e : Endpoint) → Fine x → Fine e → Fine (merged x e)
unfolding merged
fine-merged x e f g = record {
  address = f.address;
  clear = f.clear;
  kind = f.kind;
  maximum = most (ltb x.maximum e.maximum);
  interval = little (ltb e.interval x.interval);
}
  where
    most : (t : Bool) → cond t e.maximum x.maximum ≤ 2047
    most true = g.maximum
    most false = f.maximum

    little : (t : Bool) → cond t e.interval x.interval < 256
    little true = g.interval
    little false = f.interval

seen_other : (a : ℕ) (e : Endpoint) (es : List Endpoint) → (a ≡ e.address → ⊥) → seen a (noted e es) ≡ seen a es
unfolding seen noted merged
seen_other a e [] h = rw (ne_eqb e.address a (λ q. h (sym q)))
seen_other a e (x ∷ xs) h = go (seen_other a e xs h) (eqb x.address e.address)
  where
    go : seen a (noted e xs) ≡ seen a xs → (t : Bool) → seen a (cond t (merged x e ∷ xs) (x ∷ noted e xs))
        ≡ one (eqb x.address a) + seen a xs
    go i true = refl
    go i false = rw i

pub good-noted : (e : Endpoint) (es : List Endpoint) → Fine e → Good es → Good (noted e es)
unfolding Good noted seen merged
good-noted e [] f g = (f, refl, tt)
good-noted e (x ∷ xs) f g = go (good-noted e xs f g.2) (eqb x.address e.address) refl
  where
    go : Good (noted e xs) → (t : Bool) → eqb x.address e.address ≡ t
        → Good (cond t (merged x e ∷ xs) (x ∷ noted e xs))
    go i true q = (fine-merged x e g.0 f, g.1, g.2)
    go i false q = (g.0, seen_other x.address e xs (eqb-false _ _ q) ∙ g.1, i)

-- ---- at most 32: each of the addresses stands once

address_of : ℕ → ℕ
address_of v = v % 16 + v / 16 * 128

-- how many entries have one of the first k addresses
among : ℕ → List Endpoint → ℕ
among zero es = 0
among (suc k) es = among k es + seen (address_of k) es

hits : ℕ → ℕ → ℕ
hits zero a = 0
hits (suc k) a = hits k a + one (eqb a (address_of k))

among-cons : (k : ℕ) (x : Endpoint) (xs : List Endpoint) → among k (x ∷ xs) ≡ hits k x.address + among k xs
unfolding seen among hits
among-cons zero x xs = refl
among-cons (suc k) x xs = let i = among-cons k x xs in omega arith

hit : (k v a : ℕ) → v < k → a ≡ address_of v → 1 ≤ hits k a
unfolding hits
hit zero v a h e = absurd (omega arith)
hit (suc k) v a h e = elim (dec_lt v k) [
  | yes l ↦ omega (arith, hit k v a l e)
  | no l ↦ (let q : v ≡ k = omega arith in let z : a ≡ address_of k = rw (← q) e in rw (eq-eqb _ _ z) (omega arith))
]

fine-hit : (e : Endpoint) → Fine e → 1 ≤ hits 32 e.address
unfolding address_of is_clear
fine-hit e f =
    let c : e.address / 16 % 8 ≡ 0 = eqb-true _ _ f.clear in
    let h = f.address in
    hit 32 (e.address % 16 + e.address / 128 * 16) e.address (omega arith) (omega arith)

all_among : (es : List Endpoint) → Good es → length es ≤ among 32 es
unfolding Good
all_among [] g = omega arith
all_among (x ∷ xs) g = rw (among-cons 32 x xs) (omega (arith, fine-hit x g.0, all_among xs g.2))

once : (a : ℕ) (es : List Endpoint) → Good es → seen a es ≤ 1
unfolding Good seen
once a [] g = omega arith
once a (x ∷ xs) g = go (once a xs g.2) (eqb x.address a) refl
  where
    go : seen a xs ≤ 1 → (t : Bool) → eqb x.address a ≡ t → one t + seen a xs ≤ 1
    go i true q = let z = eqb-true x.address a q in let y : seen a xs ≡ 0 = rw (← z) g.1 in omega arith
    go i false q = omega arith

few-among : (k : ℕ) (es : List Endpoint) → Good es → among k es ≤ k
unfolding among
few-among zero es g = omega arith
few-among (suc k) es g = omega (arith, few-among k es g, once (address_of k) es g)

pub few : (es : List Endpoint) → Good es → length es ≤ 32
few es g = omega (arith, all_among es g, few-among 32 es g)

pub place-few : (e : Endpoint) (es : List Endpoint) → Fine e → Good es → place_of e.address es < 32
place-few e es f g = elim (dec_lt (place_of e.address es) (length es)) [
  | yes h ↦ omega (arith, few es g)
  | no h ↦ (let l = few (noted e es) (good-noted e es f g) in
      let n = noted-new e es (omega arith) in
      omega (arith, place-le e.address es, ap length n, length-append es (e ∷ []), l))
]

-- the struct's count is the list's length, at most 32
pub tidy-count : (l : Endpoints) → Tidy l → (l.count ≡ length (listed l)) × (l.count ≤ 32)
tidy-count l t =
    let e : l.count ≡ length (listed l) = ap (λ (x : Endpoints). x.count) t.same in
    (e, omega (arith, few (listed l) t.good))

-- ---- one more endpoint, in the struct

-- in its address's place
pub noted-there : (l : Endpoints) (e : Endpoint) (p : ℕ) → Tidy l → p ≡ place_of e.address (listed l) → p < l.count
    → ◌≡◌ {A = Endpoints} (record {
      entries = set l.entries p (merged (get_or l.entries p none) e);
      count
          = l.count;
    }) (of_list (noted e (listed l)))
noted-there l e p t q h =
    let es = listed l in
    let n = (tidy-count l t).0 in
    ap (λ (x : Endpoints). record {
      entries = set x.entries p (merged (get_or x.entries p none) e);
      count
          = x.count;
    }) t.same
    ∙ rw (get_or-append es (replicate (32 - length es) none) none p (omega arith))
    (set-of es p (merged (get_or es p none) e) (omega arith))
    ∙ sym (ap (λ (x : List Endpoint). of_list x) (found p q (omega arith)))
  where
    found : (p : ℕ) → p ≡ place_of e.address (listed l) → p < length (listed l) → noted e (listed l)
        ≡ set (listed l) p (merged (get_or (listed l) p none) e)
    found p q h = rw q (noted-found e (listed l) (omega arith))

-- at the end
pub noted-last : (l : Endpoints) (e : Endpoint) (p : ℕ) → Tidy l → p ≡ place_of e.address (listed l) → p < 32
    → l.count ≤ p
    → ◌≡◌ {A = Endpoints} (record { entries = set l.entries p e; count = p + 1 }) (of_list (noted e (listed l)))
noted-last l e p t q h g =
    let es = listed l in
    let n = (tidy-count l t).0 in
    let z : p ≡ length es = omega (arith, place-le e.address es) in
    ap (λ (x : Endpoints). record { entries = set x.entries p e; count = p + 1 }) t.same
    ∙ rw z (push-of es e (omega arith))
    ∙ sym (ap (λ (x : List Endpoint). of_list x) (noted-new e es (omega arith)))
