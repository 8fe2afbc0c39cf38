-- The walk along a row. Assumes nothing.
use Rattle.std.specs.Prelude.{◌≡◌, refl, Bool, true, false, cond, ◌&&◌, ◌||◌, List, [], ◌∷◌, ℕ, zero, suc, ◌+◌, ◌-◌, ◌≤◌, ◌<◌, eqb, leb, length, get_or, drop}
use Rattle.std.proofs.Common.{ap, ◌∙◌, add-zero, arith, length-drop, get_or-drop, drop-drop, leb-true, eqb-true, eq-eqb}
use Rattle.descriptor.specs.Row.{length_of, kind_of, next, least, whole, is_clear, allowed, entered, is_row}
use Rattle.descriptor.specs.Row.{total_of, is_configuration, endpoint_of, setting_of, is_meant, endpoints_of}

pub both_true : (a b : Bool) → (a && b) ≡ true → (a ≡ true) × (b ≡ true)
both_true true b h = (refl, h)
both_true false b h = absurd (let z : ◌≡◌ {A = ℕ} 0 1 = cc in omega arith)

-- ---- bytes of a row that begins at `at`

pub first-at : (s : List ℕ) (at : ℕ) → get_or (drop at s) 0 0 ≡ get_or s at 0
first-at s at = get_or-drop at s 0 0 ∙ ap (λ (k : ℕ). get_or s k 0) (add-zero at)

pub next-at : (s : List ℕ) (at : ℕ) → next (drop at s) ≡ drop (at + get_or s at 0) s
next-at s at = rw (first-at s at) (drop-drop (get_or s at 0) at s)

pub whole-at : (s : List ℕ) (at : ℕ) → whole (drop at s)
    ≡ (leb 2 (length s - at) && leb (least (get_or s (at + 1) 0)) (get_or s at 0) && leb (get_or s at 0) (length s - at))
unfolding whole
whole-at s at = rw (length-drop at s, first-at s at, get_or-drop at s 1 0)

pub allowed_at : (s : List ℕ) (at : ℕ) (inside : Bool)
    → allowed inside (drop at s) ≡ cond (eqb (get_or s (at + 1) 0) 2) false
    (cond (eqb (get_or s (at + 1) 0) 5) (inside && is_clear (get_or s (at + 2) 0)) true)
unfolding allowed
allowed_at s at inside = rw (get_or-drop at s 1 0, get_or-drop at s 2 0)

pub entered_at : (s : List ℕ) (at : ℕ) (inside : Bool) → entered inside (drop at s)
    ≡ (inside || eqb (get_or s (at + 1) 0) 4)
unfolding entered
entered_at s at inside = rw (get_or-drop at s 1 0)

-- ---- a whole descriptor

pub record Whole (d : List ℕ) : Type 0 where
  pub two : 2 ≤ length d
  pub long : least (kind_of d) ≤ length_of d
  pub fits : length_of d ≤ length d

pub least-two : (k : ℕ) → 2 ≤ least k
unfolding least
least-two k = go (eqb k 2) (eqb k 4) (eqb k 5)
  where
    go : (t u v : Bool) → 2 ≤ cond t 9 (cond u 9 (cond v 7 2))
    go true u v = omega arith
    go false true v = omega arith
    go false false true = omega arith
    go false false false = omega arith

pub least-interface : (k : ℕ) → k ≡ 4 → least k ≡ 9
unfolding least
least-interface k h = rw h

pub least-endpoint : (k : ℕ) → k ≡ 5 → least k ≡ 7
unfolding least
least-endpoint k h = rw h

pub least-configuration : (k : ℕ) → k ≡ 2 → least k ≡ 9
unfolding least
least-configuration k h = rw h

pub whole_is : (d : List ℕ) → whole d ≡ true → Whole d
unfolding whole
whole_is d h =
    let a = both_true _ _ h in
    let b = both_true _ _ a.0 in
    record { two = leb-true _ _ b.0; long = leb-true _ _ b.1; fits = leb-true _ _ a.1 }

-- in the bytes from `at` on
pub record Here (s : List ℕ) (at : ℕ) : Type 0 where
  pub two : at + 2 ≤ length s
  pub moves : 2 ≤ get_or s at 0
  pub fits : at + get_or s at 0 ≤ length s
  pub interface : get_or s (at + 1) 0 ≡ 4 → at + 9 ≤ length s
  pub endpoint : get_or s (at + 1) 0 ≡ 5 → at + 7 ≤ length s

pub here : (s : List ℕ) (at : ℕ) → at ≤ length s → whole (drop at s) ≡ true → Here s at
here s at l h =
    let w = whole_is (drop at s) h in
    let f = first-at s at in
    let k = get_or-drop at s 1 0 in
    let n = length-drop at s in
    let b = w.two in
    let c = w.long in
    let d = w.fits in
    record {
      two = omega arith;
      moves = omega (arith, least-two (kind_of (drop at s)));
      fits = omega arith;
      interface = λ e. omega (arith, least-interface (kind_of (drop at s)) (k ∙ e));
      endpoint = λ e. omega (arith, least-endpoint (kind_of (drop at s)) (k ∙ e));
    }

pub clear-endpoint : (inside : Bool) (d : List ℕ) → allowed inside d ≡ true → kind_of d ≡ 5 → is_clear (get_or d 2 0) ≡ true
unfolding allowed
clear-endpoint inside d h e = (both_true inside (is_clear (get_or d 2 0)) (rw e at h)).1

-- ---- one step along a row

-- a row that has a descriptor: n is one more than what the rest needs
pub record RowStep (n : ℕ) (inside : Bool) (d : List ℕ) : Type 0 where
  pub left : ℕ
  pub one : n ≡ suc left
  pub first : whole d ≡ true
  pub may : allowed inside d ≡ true
  pub rest : is_row left (entered inside d) (next d) ≡ true

pub step : (n : ℕ) (inside : Bool) (d : List ℕ) → 0 < length d → is_row n inside d ≡ true → RowStep n inside d
unfolding is_row
step zero inside d l h = absurd (omega (arith, eqb-true (length d) 0 h))
step (suc n) inside [] l h = absurd (omega arith)
step (suc n) inside (b ∷ d) l h =
    let a = both_true _ _ h in
    let c = both_true _ _ a.0 in
    record { left = n; one = refl; first = c.0; may = c.1; rest = a.1 }

pub row-none : (n : ℕ) (inside : Bool) (d : List ℕ) → length d ≡ 0 → is_row n inside d ≡ true
unfolding is_row
row-none zero inside d l = eq-eqb (length d) 0 l
row-none (suc n) inside [] l = refl
row-none (suc n) inside (b ∷ d) l = absurd (omega arith)

pub row_more : (n : ℕ) (inside : Bool) (d : List ℕ) → 0 < length d
    → is_row (suc n) inside d ≡ (whole d && allowed inside d && is_row n (entered inside d) (next d))
unfolding is_row
row_more n inside [] l = absurd (omega arith)
row_more n inside (b ∷ d) l = refl

pub endpoints-none : (n : ℕ) (z : Bool) (t : ℕ) (d : List ℕ) → length d ≡ 0 → endpoints_of n z t d ≡ []
unfolding endpoints_of
endpoints-none zero z t d l = refl
endpoints-none (suc n) z t [] l = refl
endpoints-none (suc n) z t (b ∷ d) l = absurd (omega arith)

pub endpoints-more : (n : ℕ) (z : Bool) (t : ℕ) (d : List ℕ) → 0 < length d
    → endpoints_of (suc n) z t d
    ≡ cond (is_meant z (setting_of t d) d) (endpoint_of d ∷ endpoints_of n z (setting_of t d) (next d))
    (endpoints_of n z (setting_of t d) (next d))
unfolding endpoints_of
endpoints-more n z t [] l = absurd (omega arith)
endpoints-more n z t (b ∷ d) l = refl

-- ---- the same as the code goes, from `at` in s, with n enough for what is left

module _ (n : ℕ) (inside : Bool) (s : List ℕ) (at : ℕ) (l : at < length s) (enough : length s ≤ at + n) where
  here-more : (m : ℕ) → n ≡ suc m
      → is_row n inside (drop at s) ≡ (whole (drop at s) && allowed inside (drop at s)
      && is_row m (entered inside (drop at s)) (next (drop at s)))
  here-more m e = rw e (row_more m inside (drop at s) (omega (arith, length-drop at s)))

  pub row-broken : whole (drop at s) ≡ false → is_row n inside (drop at s) ≡ false
  row-broken w = here-more (n - 1) (omega arith) ∙ rw w

  pub row-barred : whole (drop at s) ≡ true → allowed inside (drop at s) ≡ false → is_row n inside (drop at s) ≡ false
  row-barred w a = here-more (n - 1) (omega arith) ∙ rw (w, a)

  pub row_on_lem : whole (drop at s) ≡ true → allowed inside (drop at s) ≡ true
      → is_row n inside (drop at s) ≡ is_row (n - 1) (entered inside (drop at s)) (drop (at + get_or s at 0) s)
  row_on_lem w a = here-more (n - 1) (omega arith) ∙ rw (w, a, next-at s at)

-- ---- what has no error 17

pub record Configuration (s : List ℕ) : Type 0 where
  pub few : length s ≤ 4096
  pub first : whole s ≡ true
  pub kind : kind_of s ≡ 2
  pub total : total_of s ≡ length s
  pub row : is_row (length s) false (next s) ≡ true

pub configuration-is : (s : List ℕ) → is_configuration s ≡ true → Configuration s
unfolding is_configuration
configuration-is s h =
    let a = both_true _ _ h in
    let b = both_true _ _ a.0 in
    let c = both_true _ _ b.0 in
    let d = both_true _ _ c.0 in
    record {
      few = leb-true _ _ d.0;
      first = d.1;
      kind = eqb-true _ _ c.1;
      total = eqb-true _ _ b.1;
      row
          = a.1;
    }
