-- Laws of the record: its length stays, a charge counts once, what is kept is no more than it was. Assumes nothing.
use Rattle.std.specs.Prelude.{Bool, true, false, cond, List, ◌⊎◌, ◌≡◌, refl, ℕ, zero, suc, ◌+◌, ◌-◌, ◌*◌, ◌%◌, ◌≤◌, ◌<◌, length, get_or, set}
use Rattle.std.proofs.Common.{inl, inr, ⊎_elim, ap, sym, ◌∙◌, mod-eq_of_lt, add-one, arith, length-set, get_or-set_same, get_or-set_other, ltb-false}
use Rattle.bits.specs.Bit.{bit_is_set}
use Rattle.bus_time.specs.Time.{total, is_in_use, passes, entry_kept, kept, keep_of}

pub total-none : (t : List ℕ) → total t 0 ≡ 0
unfolding total
total-none t = refl

pub total-more : (t : List ℕ) (n : ℕ) → total t (n + 1) ≡ total t n + get_or t n 0
unfolding total
total-more t n = rw (add-one n) refl

pub kept-none : (config first : ℕ) (t : List ℕ) → kept config first 0 t ≡ t
unfolding kept
kept-none config first t = refl

pub kept_more : (config first n : ℕ) (t : List ℕ) → kept config first (n + 1) t
    ≡ set (kept config first n t) (first + n) (entry_kept config n (get_or (kept config first n t) (first + n) 0))
unfolding kept
kept_more config first n t = rw (add-one n) refl

pub length-kept : (config first n : ℕ) (t : List ℕ) → length (kept config first n t) ≡ length t
unfolding kept
length-kept config first zero t = refl
length-kept config first (suc n) t = length-set (kept config first n t) (first + n) _ ∙ length-kept config first n t

pub length-keep : (driver config : ℕ) (t : List ℕ) → length (keep_of driver config t) ≡ length t
unfolding keep_of
length-keep driver config t = length-kept config (driver % 4 * 32) 32 t

-- a bit that is tested modulo 32
tested : (config bit : ℕ) (b : Bool) → bit < 32 → bit_is_set config (bit % 32) ≡ b → bit_is_set config bit ≡ b
tested config bit b l h = ap (bit_is_set config) (sym (mod-eq_of_lt l)) ∙ h

pub stays-where : (config bit charge : ℕ) → bit < 32 → bit_is_set config (bit % 32) ≡ true → charge
    ≡ entry_kept config bit charge
unfolding entry_kept
stays-where config bit charge l h = simp (tested config bit true l h)

pub returns-where : (config bit charge : ℕ) → bit < 32 → bit_is_set config (bit % 32) ≡ false → 0
    ≡ entry_kept config bit charge
unfolding entry_kept
returns-where config bit charge l h = simp (tested config bit false l h)

either : (k n : ℕ) → k < suc n → (k < n) ⊎ (k ≡ n)
either zero zero h = inr refl
either zero (suc n) h = inl (omega arith)
either (suc k) zero h = absurd (omega arith)
either (suc k) (suc n) h = ⊎_elim (λ (e : k < n). inl (omega arith)) (λ (e : k ≡ n). inr (ap suc e))
    (either k n (omega arith))

-- a charge is part of the total
pub part_of : (t : List ℕ) (k n : ℕ) → k < n → get_or t k 0 ≤ total t n
unfolding total
part_of t k (suc n) h = ⊎_elim (λ (e : k < n). omega (arith, part_of t k n e)) (λ (e : k ≡ n). rw (← e) (omega arith))
    (either k n h)
part_of t k zero h = elim h [ ]

-- a charge that does not pass the limit is at most the limit
pub within : (t : List ℕ) (k charge : ℕ) → k < 128 → passes t k charge ≡ false → charge ≤ 6000
unfolding passes is_in_use
within t k charge h p = omega (arith, part_of t k 128 h, ltb-false (6000 + get_or t k 0) (total t 128 + charge) p)

-- ---- one charge

total-past : (t : List ℕ) (k v n : ℕ) → n ≤ k → total (set t k v) n ≡ total t n
unfolding total
total-past t k v zero h = refl
total-past t k v (suc n) h = omega (
  arith,
  total-past t k v n (omega arith),
  get_or-set_other t k n v 0
      (λ e. omega arith),
)

pub total-set : (t : List ℕ) (k v n : ℕ) → k < length t → k < n → total (set t k v) n + get_or t k 0 ≡ total t n + v
unfolding total
total-set t k v (suc n) l h =
    ⊎_elim
    (λ (e : k < n). omega (arith, total-set t k v n l e, get_or-set_other t k n v 0 (λ z. omega arith)))
    (λ (e : k ≡ n). rw (← e) (omega (arith, total-past t k v k (omega arith), get_or-set_same t k v 0 l)))
    (either k n h)
total-set t k v zero l h = elim h [ ]

-- ---- those of a driver

pub kept_out : (config first n : ℕ) (t : List ℕ) (k : ℕ) → (k < first) ⊎ (first + n ≤ k)
    → get_or (kept config first n t) k 0 ≡ get_or t k 0
unfolding kept
kept_out config first zero t k h = refl
kept_out config first (suc n) t k h =
    get_or-set_other (kept config first n t) (first + n) k _ 0
    (λ e. ⊎_elim (λ (l : k < first). omega arith) (λ (l : first + suc n ≤ k). omega arith) h)
    ∙ kept_out config first n t k (⊎_elim (λ (l : k < first). inl l) (λ (l : first + suc n ≤ k). inr (omega arith)) h)

pub kept_in : (config first n : ℕ) (t : List ℕ) (p : ℕ) → first + n ≤ length t
    → p < n → get_or (kept config first n t) (first + p) 0 ≡ entry_kept config p (get_or t (first + p) 0)
unfolding kept
kept_in config first (suc n) t p l h =
    ⊎_elim
    (λ (e : p < n). get_or-set_other (kept config first n t) (first + n) (first + p) _ 0 (λ z. omega arith)
    ∙ kept_in config first n t p (omega arith) e)
    (λ (e : p ≡ n). rw e (get_or-set_same (kept config first n t) (first + n) _ 0
    (omega (arith, length-kept config first n t))
    ∙ ap (entry_kept config n) (kept_out config first n t (first + n) (inr (omega arith)))))
    (either p n h)
kept_in config first zero t p l h = elim h [ ]

entry-le : (config bit charge : ℕ) → entry_kept config bit charge ≤ charge
unfolding entry_kept
entry-le config bit charge = by (bit_is_set config bit)
  where
    by : (b : Bool) → cond b charge 0 ≤ charge
    by true = omega arith
    by false = omega arith

kept-le : (config first n : ℕ) (t : List ℕ) (k : ℕ) → first + n ≤ length t → get_or (kept config first n t) k 0
    ≤ get_or t k 0
kept-le config first n t k l =
    ⊎_elim
    (λ (a : k < first). omega (arith, kept_out config first n t k (inl a)))
    (λ (a : first ≤ k). ⊎_elim
    (λ (b : k < first + n). inside (k - first) (omega arith) (omega arith))
    (λ (b : first + n ≤ k). omega (arith, kept_out config first n t k (inr b)))
    (lt-or-le k (first + n)))
    (lt-or-le k first)
  where
    lt-or-le : (a b : ℕ) → (a < b) ⊎ (b ≤ a)
    lt-or-le a zero = inr (omega arith)
    lt-or-le zero (suc b) = inl (omega arith)
    lt-or-le (suc a) (suc b) = ⊎_elim (λ (h : a < b). inl (omega arith)) (λ (h : b ≤ a). inr (omega arith))
        (lt-or-le a b)

    inside : (p : ℕ) → k ≡ first + p → p < n → get_or (kept config first n t) k 0 ≤ get_or t k 0
    inside p e h = rw e (omega (arith, kept_in config first n t p l h, entry-le config p (get_or t (first + p) 0)))

total-le : (u t : List ℕ) → ((k : ℕ) → get_or u k 0 ≤ get_or t k 0) → (n : ℕ) → total u n ≤ total t n
unfolding total
total-le u t h zero = omega arith
total-le u t h (suc n) = omega (arith, h n, total-le u t h n)

-- what is kept is no more than it was
pub keep-le : (driver config : ℕ) (t : List ℕ) → length t ≡ 128 → is_in_use (keep_of driver config t) ≤ is_in_use t
unfolding is_in_use keep_of
keep-le driver config t l = total-le _ _ (λ k. kept-le config (driver % 4 * 32) 32 t k (omega arith)) 128
