-- One wake-up more stands last in the list, and as long as there are at most 64 none is lost. Assumes nothing.
use Rattle.std.specs.Prelude.{◌≡◌, ℕ, zero, suc, ◌+◌, ◌<◌, ◌≤◌, Bool, true, false, cond, List, [], ◌∷◌, ◌++◌, length, take, nat_lt, slice_set}
use Rattle.std.proofs.Common.{append-nil, sym, ◌∙◌, arith, add-one, add-zero, lt-ltb, le-ltb, length-take-le}
use Rattle.std.proofs.Math.Path.{refl, ap}
use Rattle.std.proofs.Math.ListN.{length-set}
use Rattle.std.proofs.Math.Seq.{take-suc-set, append_snoc}
use Rattle.state.specs.Wakes.{Wakes, with_count, with_codes, codes_from, none_woken, unwoken, listed, woken}
use Rattle.state.specs.Wakes.{all_woken}

-- room for 64, of which no more are taken
pub record Room (w : Wakes) : Type 0 where
  pub long : length w.codes ≡ 64
  pub within : w.count ≤ 64

pub none-room : Room none_woken
none-room = record { long = refl; within = omega arith }

pub none-listed : listed none_woken ≡ []
unfolding listed
none-listed = refl

-- an operation begins with the room that there was
pub unwoken-room : (w : Wakes) → length w.codes ≡ 64 → Room (unwoken w)
unwoken-room w h = record { long = h; within = omega arith }

pub unwoken-listed : (w : Wakes) → listed (unwoken w) ≡ []
unfolding listed
unwoken-listed w = refl

module _ (c : ℕ) (w : Wakes) where
  pub woken-room : w.count < 64 → woken c w ≡ with_count (with_codes w (slice_set w.codes w.count c)) (w.count + 1)
  unfolding woken
  woken-room h = simp (lt-ltb w.count 64 h)

  pub woken-full : 64 ≤ w.count → woken c w ≡ w
  unfolding woken
  woken-full h = simp (le-ltb w.count 64 h)

  pub woken-count : w.count < 64 → (woken c w).count ≡ w.count + 1
  woken-count h = ap (λ (v : Wakes). v.count) (woken-room h)

  pub woken-keeps : Room w → w.count < 64 → Room (woken c w)
  woken-keeps r h = rw (woken-room h) (record {
    long = length-set w.codes w.count c ∙ r.long;
    within
        = omega (arith, h);
  })

  -- "in order, repeats included"
  pub woken-listed : Room w → w.count < 64 → listed (woken c w) ≡ listed w ++ (c ∷ [])
  unfolding listed
  woken-listed r h =
      ap (λ (v : Wakes). take v.count v.codes) (woken-room h)
      ∙ ap (λ (n : ℕ). take n (slice_set w.codes w.count c)) (add-one w.count)
      ∙ take-suc-set w.codes w.count c (omega (arith, h, r.long))

  woken-long : length (woken c w).codes ≡ length w.codes
  unfolding woken
  woken-long = by (nat_lt w.count 64)
    where
      by : (b : Bool) → length (cond b (with_count (with_codes w (slice_set w.codes w.count c)) (w.count + 1)) w).codes
          ≡ length w.codes
      by true = length-set w.codes w.count c
      by false = refl

-- several
pub all-long : (cs : List ℕ) (w : Wakes) → length (all_woken cs w).codes ≡ length w.codes
all-long [] w = refl
all-long (c ∷ cs) w = all-long cs (woken c w) ∙ woken-long c w

pub all_room : (cs : List ℕ) (w : Wakes) → Room w → w.count + length cs ≤ 64 → Room (all_woken cs w)
all_room [] w r h = r
all_room (c ∷ cs) w r h =
    let l : w.count < 64 = omega (arith, h) in
    all_room cs (woken c w) (woken-keeps c w r l) (omega (arith, h, woken-count c w l))

pub all_listed : (cs : List ℕ) (w : Wakes) → Room w → w.count + length cs ≤ 64 → listed (all_woken cs w) ≡ listed w
    ++ cs
all_listed [] w r h = sym (append-nil (listed w))
all_listed (c ∷ cs) w r h =
    let l : w.count < 64 = omega (arith, h) in
    all_listed cs (woken c w) (woken-keeps c w r l) (omega (arith, h, woken-count c w l))
    ∙ ap (λ (x : List ℕ). x ++ cs) (woken-listed c w r l) ∙ append_snoc (listed w) c cs

-- as many as it says
pub listed-count : (w : Wakes) → Room w → length (listed w) ≡ w.count
unfolding listed
listed-count w r = length-take-le w.count w.codes (omega (arith, r.long, r.within))

-- a list woken after another; codes in a row, one more
pub all-woken-append : (cs ds : List ℕ) (w : Wakes) → all_woken (cs ++ ds) w ≡ all_woken ds (all_woken cs w)
all-woken-append [] ds w = refl
all-woken-append (c ∷ cs) ds w = all-woken-append cs ds (woken c w)

pub codes-next : (a n : ℕ) → codes_from a (suc n) ≡ codes_from a n ++ ((a + n) ∷ [])
codes-next a zero = ap (λ (x : ℕ). x ∷ []) (sym (add-zero a))
codes-next a (suc n) = let e : a + 1 + n ≡ a + suc n = omega arith in
    ap (λ (l : List ℕ). a ∷ l) (codes-next (a + 1) n ∙ ap (λ (x : ℕ). codes_from (a + 1) n ++ (x ∷ [])) e)
