-- Laws on bytes that are shown, kept and copied. Assumes nothing.
use Rattle.std.specs.Prelude.{◌≡◌, ℕ, zero, suc, ◌+◌, ◌≤◌, ◌⊎◌, List, [], ◌∷◌, length, take, drop, slice_index, slice_set, refl}
use Rattle.std.proofs.Common.{inl, inr, ⊎_elim, ap, ap₂, ◌∙◌, arith, length-set, get_or-set_other, get_or-set_same, drop-cons}
use Rattle.std.proofs.lemmas.List.Edits.{sets}
use Rattle.ring.specs.Waiting.{window, Same, Only}

pub window-length : (b : List ℕ) (at n : ℕ) → length (window b at n) ≡ n
unfolding window
window-length b at zero = refl
window-length b at (suc n) = ap suc (window-length b (suc at) n)

pub window_same : (b b' : List ℕ) (at n : ℕ) → Same at (at + n) b b' → window b' at n ≡ window b at n
unfolding window
window_same b b' at zero h = refl
window_same b b' at (suc n) h =
    ap₂ ◌∷◌ (h at (omega arith) (omega arith)) (window_same b b' (suc at) n (λ k p q. h k (omega arith) (omega arith)))

-- the window is the part of the list where it lies inside
pub window-is : (b : List ℕ) (at n : ℕ) → at + n ≤ length b → window b at n ≡ take n (drop at b)
unfolding window
window-is b at zero h = refl
window-is b at (suc n) h =
    rw (drop-cons b at 0 (omega arith)) (ap (◌∷◌ (slice_index b at)) (window-is b (suc at) n (omega arith)))

-- what is copied in changes its own place only
pub only-sets : (vs b : List ℕ) (at : ℕ) → Only at (at + length vs) b (sets b at vs)
only-sets [] b at k h = refl
only-sets (v ∷ vs) b at k h =
    only-sets vs (slice_set b at v) (suc at) k (⊎_elim (λ p. inl (omega arith)) (λ p. inr (omega arith)) h)
    ∙ get_or-set_other b at k v 0 (⊎_elim (λ p. λ e. omega arith) (λ p. λ e. omega arith) h)

-- and is what the window there shows
pub window-sets : (vs b : List ℕ) (at : ℕ) → at + length vs ≤ length b → window (sets b at vs) at (length vs) ≡ vs
unfolding window
window-sets [] b at h = refl
window-sets (v ∷ vs) b at h =
    ap₂ ◌∷◌ (only-sets vs (slice_set b at v) (suc at) at (inl (omega arith)) ∙ get_or-set_same b at v 0 (omega arith))
    (window-sets vs (slice_set b at v) (suc at) (omega (arith, length-set b at v)))

-- what lies apart stays
pub only-apart : (lo hi l h : ℕ) (b b' : List ℕ) → Only lo hi b b' → (h ≤ lo) ⊎ (hi ≤ l) → Same l h b b'
only-apart lo hi l h b b' o (inl d) k p q = o k (inl (omega arith))
only-apart lo hi l h b b' o (inr d) k p q = o k (inr (omega arith))

pub only_wider : (lo hi lo' hi' : ℕ) (b b' : List ℕ) → lo' ≤ lo → hi ≤ hi' → Only lo hi b b' → Only lo' hi' b b'
only_wider lo hi lo' hi' b b' l h o k p = o k (⊎_elim (λ q. inl (omega arith)) (λ q. inr (omega arith)) p)
