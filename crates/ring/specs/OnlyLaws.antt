-- Laws on the definitions of Only.antt
use Rattle.std.specs.Prelude.{◌≡◌, ℕ, suc, ◌+◌, ◌-◌, ◌<◌, ◌≤◌, ◌⊎◌, List, [], ◌∷◌, ◌++◌, length, take, drop, slice_index, slice_set, refl}
use Rattle.std.proofs.Common.{inl, inr, ◌∙◌, arith, length-set, length-append, length-drop, get_or-set_other, get_or-take, get_or-drop, get_or-append-add, length-take-le}
use Rattle.std.proofs.Math.ListN.{get_or-append}
use Rattle.std.proofs.lemmas.List.Edits.{sets}
use Rattle.ring.specs.Only.{Same, Only}

pub only-refl : (lo hi : ℕ) (b : List ℕ) → Only lo hi b b
only-refl lo hi b = record { long = refl; below = λ k h. refl; above = λ k h. refl }

pub only-trans : {lo hi : ℕ} {b c d : List ℕ} → Only lo hi b c → Only lo hi c d → Only lo hi b d
only-trans f g = record {
  long = g.long ∙ f.long;
  below = λ k h. g.below k h ∙ f.below k h;
  above = λ k h. g.above k h ∙ f.above k h;
}

pub only_wider : {lo hi : ℕ} {b c : List ℕ} (lo' hi' : ℕ) → lo' ≤ lo → hi ≤ hi' → Only lo hi b c → Only lo' hi' b c
only_wider lo' hi' l h f = record {
  long = f.long;
  below = λ k g. f.below k (omega arith);
  above = λ k g. f.above k (omega arith);
}

-- what lies apart stays
pub only-apart : {lo hi : ℕ} {b c : List ℕ} (l h : ℕ) → Only lo hi b c → (h ≤ lo) ⊎ (hi ≤ l) → Same l h b c
only-apart l h f (inl d) = λ k p q. f.below k (omega arith)
only-apart l h f (inr d) = λ k p q. f.above k (omega arith)

pub only_set : (b : List ℕ) (i v : ℕ) → Only i (suc i) b (slice_set b i v)
only_set b i v = record {
  long = length-set b i v;
  below = λ k h. get_or-set_other b i k v 0 (omega arith);
  above = λ k h. get_or-set_other b i k v 0 (omega arith);
}

pub only-sets : (vs b : List ℕ) (i : ℕ) → Only i (i + length vs) b (sets b i vs)
only-sets [] b i = only-refl _ _ b
only-sets (v ∷ vs) b i =
    only-trans
    (only_wider i (i + suc (length vs)) (omega arith) (omega arith) (only_set b i v))
    (only_wider i (i + suc (length vs)) (omega arith) (omega arith) (only-sets vs (slice_set b i v) (suc i)))

-- ---- the part from `at` on, and the buffer that it is put back into

pub back_low : (b p : List ℕ) (at k : ℕ) → at ≤ length b → k < at → slice_index (take at b ++ p) k ≡ slice_index b k
back_low b p at k h l =
    get_or-append (take at b) p 0 k (omega (arith, length-take-le at b h)) ∙ get_or-take at b k 0 l

pub back-high : (b p : List ℕ) (at k : ℕ) → at ≤ length b → at ≤ k → slice_index (take at b ++ p) k ≡ slice_index p (k - at)
back-high b p at k h l =
    let e : length (take at b) + (k - at) ≡ k = omega (arith, length-take-le at b h) in
    rw e at (get_or-append-add (take at b) p (k - at) 0)

pub part-byte : (b : List ℕ) (at k : ℕ) → at ≤ k → slice_index (drop at b) (k - at) ≡ slice_index b k
part-byte b at k l = let e : at + (k - at) ≡ k = omega arith in rw e at (get_or-drop at b (k - at) 0)

-- a change of a part is the same change of the buffer
pub only_part : (b p : List ℕ) (at n : ℕ) → at ≤ length b → Only 0 n (drop at b) p → Only at (at + n) b (take at b ++ p)
only_part b p at n h f = record {
  long = simp (length-append, length-take-le at b h, f.long, length-drop) (omega arith);
  below = λ k l. back_low b p at k h l;
  above = λ k l. back-high b p at k h (omega arith) ∙ f.above (k - at) (omega arith) ∙ part-byte b at k (omega arith);
}
