-- The best among the first k sets: it fits, no fitting one among them has a greater total, and no fitting one before it
-- an equal one.
-- Assumes nothing.
use Rattle.std.specs.Prelude.{◌≡◌, Bool, false, cond, ltb}
use Rattle.std.proofs.Math.Path.{refl}
use Rattle.std.proofs.Common.{sym, add-one, arith}
use Rattle.std.proofs.Math.Bool.{true}
use Prim.Native.Nat.{ℕ, zero, suc, ◌+◌, ◌-◌, ◌≤◌, ◌<◌}
use Rattle.std.proofs.Math.Decide.{dec_lt}
use borrow.Author.Tests.{ltb-true, ltb-false, le-leb}
use Rattle.bits.specs.Bit.{both}
use Rattle.channels.specs.declared.sets.Found.{Found}
use Rattle.channels.specs.Sets.{total, fits, look, best_of}
use Rattle.channels.specs.SetsLaws.{empty}

-- ---- as the code goes

pub best_none : (m c : ℕ → ℕ) (n left : ℕ) → best_of m c n left 0 ≡ record { set = 0; total = 0 }
unfolding best_of
best_none m c n left = refl

pub best-more : (m c : ℕ → ℕ) (n left w : ℕ) → best_of m c n left (w + 1) ≡ look m c n left (best_of m c n left w) w
unfolding best_of
best-more m c n left w = rw add-one

-- ---- what the best is

-- w is the best of the first k sets
pub record IsBest (m c : ℕ → ℕ) (n left k w : ℕ) : Type 0 where
  pub among : w < k
  pub fit : fits c n left w ≡ true
  pub most : (v : ℕ) → v < k → fits c n left v ≡ true → total m v n ≤ total m w n
  pub first : (v : ℕ) → v < w → fits c n left v ≡ true → total m v n < total m w n

-- only one is
pub one-best : (m c : ℕ → ℕ) (n left k v w : ℕ) → IsBest m c n left k v → IsBest m c n left k w → v ≡ w
one-best m c n left k v w a b = elim (dec_lt v w) [
  | yes l ↦ absurd (omega (arith, a.most w b.among b.fit, b.first v l a.fit))
  | no l ↦ elim (dec_lt w v) [
    | yes g ↦ absurd (omega (arith, b.most v a.among a.fit, a.first w g b.fit))
    | no g ↦ omega arith
  ]
]

module _ (m c : ℕ → ℕ) (n left : ℕ) where
  -- the empty set always fits
  pub empty-fits : fits c n left 0 ≡ true
  unfolding fits
  empty-fits = le-leb (total c 0 n) left (omega (arith, empty c n))

  -- the best of the first k, with its total; of none, the empty set
  record So (k : ℕ) (b : Found) : Type 0 where
    within : b.set ≤ k - 1
    worth : b.total ≡ total m b.set n
    fit : fits c n left b.set ≡ true
    most : (v : ℕ) → v < k → fits c n left v ≡ true → total m v n ≤ b.total
    first : (v : ℕ) → v < b.set → fits c n left v ≡ true → total m v n < b.total

  -- among the first w + 1 are those before w, and w
  up_to : (P : ℕ → Type 0) (w : ℕ) → ((v : ℕ) → v < w → P v) → P w → (v : ℕ) → v < suc w → P v
  up_to P w f p v l = elim (dec_lt v w) [
    | yes g ↦ f v g
    | no g ↦ (let e : v ≡ w = omega arith in rw e p)
  ]

  so_none : So 0 (record { set = 0; total = 0 })
  so_none = record {
    within = omega arith;
    worth = sym (empty m n);
    fit = empty-fits;
    most = λ v l f. absurd (omega arith);
    first = λ v l f. absurd (omega arith);
  }

  so_look : (w : ℕ) (b : Found) → So w b → So (suc w) (look m c n left b w)
  unfolding look
  so_look w b h = go (fits c n left w) (ltb b.total (total m w n)) refl refl
    where
      kept : (fits c n left w ≡ true → total m w n ≤ b.total) → So (suc w) b
      kept h' = record {
        within = omega (arith, h.within);
        worth = h.worth;
        fit = h.fit;
        most = up_to (λ (v : ℕ). fits c n left v ≡ true → total m v n ≤ b.total) w h.most h';
        first = h.first;
      }

      go : (t u : Bool) → fits c n left w ≡ t → ltb b.total (total m w n) ≡ u
          → So (suc w) (cond (both t u) (record { set = w; total = total m w n }) b)
      go false u p q = kept (λ e. absurd (let z : ◌≡◌ {A = ℕ} 0 1 = cc in omega arith))
      go true false p q = kept (λ e. ltb-false _ _ q)
      go true true p q =
          let g = ltb-true b.total (total m w n) q in
          record {
            within = omega arith;
            worth = refl;
            fit = p;
            most = up_to (λ (v : ℕ). fits c n left v ≡ true → total m v n ≤ total m w n) w
                (λ v l f. omega (arith, h.most v l f)) (λ _. omega arith);
            first = λ v l f. omega (arith, h.most v l f);
          }

  so : (k : ℕ) → So k (best_of m c n left k)
  unfolding best_of
  so zero = so_none
  so (suc w) = so_look w (best_of m c n left w) (so w)

  -- the total beside the best set is its own
  pub best_total : (k : ℕ) → (best_of m c n left k).total ≡ total m (best_of m c n left k).set n
  best_total k = (so k).worth

  pub best_is : (k : ℕ) → 0 < k → IsBest m c n left k (best_of m c n left k).set
  best_is k h =
      let b = so k in
      record {
        among = omega (arith, b.within);
        fit = b.fit;
        most = λ v l f. omega (arith, b.most v l f, b.worth);
        first = λ v l f. omega (arith, b.first v l f, b.worth);
      }
