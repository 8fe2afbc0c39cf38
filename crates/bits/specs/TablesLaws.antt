-- Laws on the definitions of Tables.antt
use Rattle.std.specs.Prelude.{◌≡◌, ℕ, zero, suc, ◌+◌, ◌*◌, ◌<◌, ◌≤◌, ◌≢◌, ◌⊎◌, List, ◌∷◌, length, slice_index_or, slice_set, refl}
use Rattle.std.proofs.Common.{sym, ap, subst, ◌∙◌, inl, inr, ⊎_elim, arith, add-zero, mul-le-mul_right, suc-mul}
use Rattle.bits.specs.Bytes.{gets, puts}
use Rattle.bits.specs.Runs.{Same, puts-same, gets-same, gets-puts}
use Rattle.bits.specs.Tables.{tab_from, tab, table}

module _ {A : Type 0} (f g : ℕ → A) where
  tab-ext_from : (i n : ℕ) → ((j : ℕ) → i ≤ j → j < i + n → g j ≡ f j) → tab_from i n g ≡ tab_from i n f
  tab-ext_from i zero h = refl
  tab-ext_from i (suc n) h = λ t. h i (omega arith) (omega arith) t
      ∷ tab-ext_from (i + 1) n (λ j a b. h j (omega arith) (omega arith)) t

  pub tab-ext : (n : ℕ) → ((j : ℕ) → j < n → g j ≡ f j) → tab n g ≡ tab n f
  tab-ext n h = tab-ext_from 0 n (λ j a b. h j (omega arith))

  tab-set_from : (i n e : ℕ) (v : A) → e < n → g (i + e) ≡ v → ((j : ℕ) → j < i + n → j ≢ i + e → g j ≡ f j)
      → tab_from i n g ≡ slice_set (tab_from i n f) e v
  tab-set_from i zero e v l s h = absurd (omega arith)
  tab-set_from i (suc n) zero v l s h =
      λ t. (rw (add-zero) at s) t ∷ tab-ext_from (i + 1) n (λ j a b. h j (omega arith) (λ e. omega arith)) t
  tab-set_from i (suc n) (suc e) v l s h =
      let w : i + 1 + e ≡ i + suc e = omega arith in
      λ t. h i (omega arith) (λ e. omega arith) t ∷ tab-set_from (i + 1) n e v (omega arith) (ap g w ∙ s)
      (λ j b d. h j (omega arith) (λ q. d (q ∙ sym w))) t

  -- a table of which one value changed
  pub tab-set : (n e : ℕ) (v : A) → e < n → g e ≡ v → ((j : ℕ) → j < n → j ≢ e → g j ≡ f j) → tab n g
      ≡ slice_set (tab n f) e v
  tab-set n e v l s h =
      let w : 0 + e ≡ e = omega arith in
      tab-set_from 0 n e v l (ap g w ∙ s) (λ j b d. h j (omega arith) (λ q. d (q ∙ sym w)))

get_d-tab_from : {A : Type 0} (f : ℕ → A) (i n e : ℕ) (d : A) → e < n → slice_index_or (tab_from i n f) e d ≡ f (i + e)
get_d-tab_from f i zero e d l = absurd (omega arith)
get_d-tab_from f i (suc n) zero d l = rw add-zero
get_d-tab_from f i (suc n) (suc e) d l =
    let w : i + 1 + e ≡ i + suc e = omega arith in
    get_d-tab_from f (i + 1) n e d (omega arith) ∙ ap f w

pub get_d-tab : {A : Type 0} (f : ℕ → A) (n e : ℕ) (d : A) → e < n → slice_index_or (tab n f) e d ≡ f e
get_d-tab f n e d l = let w : 0 + e ≡ e = omega arith in get_d-tab_from f 0 n e d l ∙ ap f w

length-tab_from : {A : Type 0} (f : ℕ → A) (i n : ℕ) → length (tab_from i n f) ≡ n
length-tab_from f i zero = refl
length-tab_from f i (suc n) = ap suc (length-tab_from f (i + 1) n)

pub length-tab : {A : Type 0} (f : ℕ → A) (n : ℕ) → length (tab n f) ≡ n
length-tab f n = length-tab_from f 0 n

pub lt-or-ge : (j k : ℕ) → (j < k) ⊎ (k ≤ j)
lt-or-ge zero zero = inr (omega arith)
lt-or-ge zero (suc k) = inl (omega arith)
lt-or-ge (suc j) zero = inr (omega arith)
lt-or-ge (suc j) (suc k) = ⊎_elim (λ (h : j < k). inl (omega arith)) (λ (h : k ≤ j). inr (omega arith)) (lt-or-ge j k)

-- a record of z bytes ends where the next one starts, or before
pub next : (j k z : ℕ) → j < k → j * z + z ≤ k * z
next j k z l = let h : suc j * z ≤ k * z = mul-le-mul_right z l in let e = suc-mul j z in omega arith

module _ {A : Type 0} (f : List ℕ → A) (o n z : ℕ) where
  pub table_same : (xs ys : List ℕ) → Same xs ys o (o + n * z) → table ys o n z f ≡ table xs o n z f
  table_same xs ys h =
      tab-ext (λ k. f (gets xs (o + k * z) 0 z)) (λ k. f (gets ys (o + k * z) 0 z)) n
      (λ k l. let b = next k n z l in ap f (gets-same xs ys (o + k * z) z (λ i p q. h i (omega arith) (omega arith))))

  pub table-set : (xs : List ℕ) (k : ℕ) (bs : List ℕ) (r : A) → k < n → o + n * z ≤ length xs → length bs ≡ z → f bs ≡ r
      → table (puts xs (o + k * z) 0 bs) o n z f ≡ slice_set (table xs o n z f) k r
  table-set xs k bs r l w e p =
      let ys = puts xs (o + k * z) 0 bs in
      let b = next k n z l in
      tab-set (λ j. f (gets xs (o + j * z) 0 z)) (λ j. f (gets ys (o + j * z) 0 z)) n k r l
      (ap f (subst (λ (m : ℕ). gets ys (o + k * z) 0 m ≡ bs) e (gets-puts xs (o + k * z) bs (omega arith))) ∙ p)
      (λ j m d. ap f (gets-same xs ys (o + j * z) z (puts-same xs (o + k * z) bs (o + j * z) (o + j * z + z)
      (side j d))))
    where
      side : (j : ℕ) → j ≢ k → (o + j * z + z ≤ o + k * z) ⊎ (o + k * z + length bs ≤ o + j * z)
      side j d = ⊎_elim (λ (h : j < k). inl (let b = next j k z h in omega arith))
          (λ (h : k ≤ j). inr (let b = next k j z (omega arith) in omega arith)) (lt-or-ge j k)

  pub table_at : (xs : List ℕ) (k : ℕ) (d : A) → k < n → f (gets xs (o + k * z) 0 z) ≡ slice_index_or (table xs o n z f) k d
  table_at xs k d l = sym (get_d-tab (λ j. f (gets xs (o + j * z) 0 z)) n k d l)
