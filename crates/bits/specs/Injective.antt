-- Numbers that are read determine the bytes. Assumes nothing.
use Rattle.std.specs.Prelude.{◌≡◌, ℕ, zero, suc, ◌+◌, ◌-◌, ◌*◌, ◌/◌, ◌%◌, ◌<◌, List, [], ◌∷◌, length, take, drop, slice_index, slice_index_or, refl}
use Rattle.std.proofs.Common.{sym, ap, ◌∙◌, arith, mod-lt, div-add-mod', div-lt_iff_lt-mul}
use Rattle.bits.specs.Bytes.{gets_from, gets, number, numbers}
use Rattle.bits.specs.Runs.{Same, get_d-gets}
use Rattle.bits.specs.Tables.{table}
use Rattle.bits.specs.TablesLaws.{get_d-tab}

-- each element is a byte
abbrev pub Small : List ℕ → Type 0
Small [] = Unit {0}
Small (b ∷ bs) = (b < 256) × Small bs

abbrev pub total : List ℕ → ℕ
total [] = 0
total (w ∷ ws) = w + total ws

number-injective : (bs cs : List ℕ) → length bs ≡ length cs → Small bs → Small cs → number bs ≡ number cs → bs ≡ cs
number-injective [] [] l p q e = refl
number-injective [] (c ∷ cs) l p q e = absurd (omega arith)
number-injective (b ∷ bs) [] l p q e = absurd (omega arith)
number-injective (b ∷ bs) (c ∷ cs) l p q e =
    let h : b ≡ c = omega (arith, p.0, q.0) in
    let t : number bs ≡ number cs = omega (arith, p.0, q.0) in
    λ i. h i ∷ number-injective bs cs (omega arith) p.1 q.1 t i

small-take : (w : ℕ) (bs : List ℕ) → Small bs → Small (take w bs)
small-take zero bs h = tt
small-take (suc w) [] h = tt
small-take (suc w) (b ∷ bs) h = (h.0, small-take w bs h.1)

small-drop : (w : ℕ) (bs : List ℕ) → Small bs → Small (drop w bs)
small-drop zero bs h = h
small-drop (suc w) [] h = tt
small-drop (suc w) (b ∷ bs) h = small-drop w bs h.1

length-split : (w t : ℕ) (bs : List ℕ) → length bs ≡ w + t → (length (take w bs) ≡ w) × (length (drop w bs) ≡ t)
length-split zero t bs l = (refl, omega arith)
length-split (suc w) t [] l = absurd (omega arith)
length-split (suc w) t (b ∷ bs) l = let h = length-split w t bs (omega arith) in (ap suc h.0, h.1)

joined : (w : ℕ) (bs cs : List ℕ) → take w bs ≡ take w cs → drop w bs ≡ drop w cs → length bs ≡ length cs → bs ≡ cs
joined zero bs cs p q l = q
joined (suc w) [] [] p q l = refl
joined (suc w) [] (c ∷ cs) p q l = absurd (omega arith)
joined (suc w) (b ∷ bs) [] p q l = absurd (omega arith)
joined (suc w) (b ∷ bs) (c ∷ cs) p q l =
    λ i. ap (λ (l : List ℕ). slice_index l 0) p i ∷ joined w bs cs (ap (drop 1) p) q (omega arith) i

numbers-injective : (ws bs cs : List ℕ) → length bs ≡ total ws → length cs ≡ total ws → Small bs → Small cs
    → numbers ws bs ≡ numbers ws cs → bs ≡ cs
numbers-injective [] [] [] l m p q e = refl
numbers-injective [] [] (c ∷ cs) l m p q e = absurd (omega arith)
numbers-injective [] (b ∷ bs) cs l m p q e = absurd (omega arith)
numbers-injective (w ∷ ws) bs cs l m p q e =
    let x = length-split w (total ws) bs l in
    let y = length-split w (total ws) cs m in
    joined w bs cs
    (number-injective (take w bs) (take w cs) (x.0 ∙ sym y.0) (small-take w bs p) (small-take w cs q)
    (ap (λ (l : List ℕ). slice_index l 0) e))
    (numbers-injective ws (drop w bs) (drop w cs) x.1 y.1 (small-drop w bs p) (small-drop w cs q) (ap (drop 1) e))
    (l ∙ sym m)

length-gets_from : (xs : List ℕ) (o k i n : ℕ) → length (gets_from xs o k i n) ≡ n
length-gets_from xs o k i zero = refl
length-gets_from xs o k i (suc n) = ap suc (length-gets_from xs o k (i + 1) n)

small-gets_from : (xs : List ℕ) → ((i : ℕ) → slice_index xs i < 256) → (o k i n : ℕ) → Small (gets_from xs o k i n)
small-gets_from xs h o k i zero = tt
small-gets_from xs h o k i (suc n) = (h (o + (k + i)), small-gets_from xs h o k (i + 1) n)

-- f tells apart any two runs of n bytes
abbrev pub Tells : {A : Type 0} → ℕ → (List ℕ → A) → Type 0
Tells n f = (bs cs : List ℕ) → length bs ≡ n → length cs ≡ n → Small bs → Small cs → f bs ≡ f cs → bs ≡ cs

pub tells-number : (n : ℕ) → Tells n number
tells-number n bs cs l m p q e = number-injective bs cs (l ∙ sym m) p q e

pub tells-numbers : (ws : List ℕ) → Tells (total ws) (numbers ws)
tells-numbers ws bs cs l m p q e = numbers-injective ws bs cs l m p q e

module _ (xs ys : List ℕ) (small-xs : (i : ℕ) → slice_index xs i < 256) (small-ys : (i : ℕ) → slice_index ys i < 256) where
  pub one-tells : {A : Type 0} (f : List ℕ → A) (o n : ℕ) → Tells n f → f (gets ys o 0 n) ≡ f (gets xs o 0 n)
      → Same xs ys o (o + n)
  one-tells f o n h e i p q =
      let g : gets ys o 0 n ≡ gets xs o 0 n = h (gets ys o 0 n) (gets xs o 0 n) (length-gets_from ys o 0 0 n)
      (length-gets_from xs o 0 0 n) (small-gets_from ys small-ys o 0 0 n) (small-gets_from xs small-xs o 0 0 n) e in
      let w : o + (i - o) ≡ i = omega arith in
      ap (λ (j : ℕ). slice_index ys j) (sym w) ∙ sym (get_d-gets ys o n (i - o) (omega arith))
      ∙ ap (λ (l : List ℕ). slice_index l (i - o)) g
      ∙ get_d-gets xs o n (i - o) (omega arith) ∙ ap (λ (j : ℕ). slice_index xs j) w

  pub table-tells : {A : Type 0} (f : List ℕ → A) (o n z : ℕ) (d : A) → 0 < z → Tells z f → table ys o n z f
      ≡ table xs o n z f → Same xs ys o (o + n * z)
  table-tells f o n z d pos h e i p q =
      let k = (i - o) / z in
      let j = (i - o) % z in
      let s = div-add-mod' (i - o) z in
      let m = mod-lt (i - o) pos in
      let l : k < n = (div-lt_iff_lt-mul pos).1 (omega arith) in
      let g : f (gets ys (o + k * z) 0 z) ≡ f (gets xs (o + k * z) 0 z) =
      sym (get_d-tab (λ t. f (gets ys (o + t * z) 0 z)) n k d l) ∙ ap (λ (t : List _). slice_index_or t k d) e
      ∙ get_d-tab (λ t. f (gets xs (o + t * z) 0 z)) n k d l in
      one-tells f (o + k * z) z h g i (omega arith) (omega arith)
