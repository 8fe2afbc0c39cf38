-- What the loops of marking, of the search and of copying keep.
use Rattle.std.proofs.Common.{◌≡◌, ℕ, zero, suc, ◌+◌, ◌-◌, ◌*◌, ◌/◌, ◌<◌, ◌≤◌, Bool, true, ◌&&◌, List, [], ◌∷◌, ◌++◌, length, get_or, take, drop, set, sym, refl, ap, ◌∙◌, add-zero, suc-add, zero-add, add-one, arith, length-append, length-drop, length-set, take-append-drop, length-take-le, drop-cons, take-suc, eq-eqb, ne_eqb}
use lib.Seq.{sets, length-sets, take-length, set_at, append_snoc}
use Rattle.ring.specs.Marks.{mark, mark_byte, is_mark, marked, marked_run, found}
use Rattle.ring.specs.Copies.{over, four, copied_run}
use Rattle.ring.specs.Words.{mark-byte}

-- ---- marks

-- four stores of the mark's bytes
pub stores : (p : List ℕ) (i : ℕ)
    → set (set (set (set p (i * 4) 0xC3) (i * 4 + 1) 0xA5) (i * 4 + 2) 0x3C) (i * 4 + 3) 0x5A ≡ marked p i
unfolding marked
stores p i =
    let e1 : i * 4 + 1 ≡ suc (i * 4) = omega arith in
    let e2 : i * 4 + 2 ≡ suc (suc (i * 4)) = omega arith in
    let e3 : i * 4 + 3 ≡ suc (suc (suc (i * 4))) = omega arith in
    rw (e1, e2, e3)

pub length_marked : (p : List ℕ) (i : ℕ) → length (marked p i) ≡ length p
unfolding marked
length_marked p i = length-sets p (i * 4) mark

pub run-all : (p : List ℕ) (n : ℕ) → marked_run p 0 (n - 0) ≡ marked_run p 0 n
run-all p n = let e : n - 0 ≡ n = omega arith in rw e

-- one word more
pub run_more : (p : List ℕ) (i n : ℕ) → i < n → marked_run p i (n - i) ≡ marked_run (marked p i) (i + 1) (n - (i + 1))
unfolding marked_run
run_more p i n h = let e : n - i ≡ suc (n - (i + 1)) = omega arith in rw e

pub run-four : (p : List ℕ) (i : ℕ) → marked (marked (marked (marked p i) (i + 1)) (i + 2)) (i + 3) ≡ marked_run p i 4
unfolding marked_run
run-four p i =
    let e2 : i + 1 + 1 ≡ i + 2 = omega arith in
    let e3 : i + 2 + 1 ≡ i + 3 = omega arith in
    rw (e2, e3)

pub length_run : (n : ℕ) (p : List ℕ) (i : ℕ) → length (marked_run p i n) ≡ length p
unfolding marked_run
length_run zero p i = refl
length_run (suc n) p i = length_run n (marked p i) (i + 1) ∙ length_marked p i

run-add : (m k : ℕ) (p : List ℕ) (i : ℕ) → marked_run p i (m + k) ≡ marked_run (marked_run p i m) (i + m) k
unfolding marked_run
run-add zero k p i = rw (zero-add k, add-zero i)
run-add (suc m) k p i =
    let e : i + 1 + m ≡ i + suc m = omega arith in
    rw (suc-add m k) (rw e at (run-add m k (marked p i) (i + 1)))

-- m words more
pub run_step : (p : List ℕ) (i n m : ℕ) → i + m ≤ n → marked_run p i (n - i)
    ≡ marked_run (marked_run p i m) (i + m) (n - (i + m))
run_step p i n m h = let e : n - i ≡ m + (n - (i + m)) = omega arith in rw e (run-add m (n - (i + m)) p i)

pub run_none : (p : List ℕ) (i n : ℕ) → n ≤ i → marked_run p i (n - i) ≡ p
unfolding marked_run
run_none p i n h = let e : n - i ≡ 0 = omega arith in rw e

-- the same from word w on
pub run-more-at : (p : List ℕ) (w i n : ℕ) → i < n → marked_run p (w + i) (n - i)
    ≡ marked_run (marked p (w + i)) (w + (i + 1)) (n - (i + 1))
unfolding marked_run
run-more-at p w i n h =
    let e : n - i ≡ suc (n - (i + 1)) = omega arith in
    let f : w + (i + 1) ≡ w + i + 1 = omega arith in
    rw (e, f)

pub run-step-at : (p : List ℕ) (w i n m : ℕ) → i + m ≤ n → marked_run p (w + i) (n - i)
    ≡ marked_run (marked_run p (w + i) m) (w + (i + m)) (n - (i + m))
run-step-at p w i n m h =
    let e : n - i ≡ m + (n - (i + m)) = omega arith in
    let f : w + (i + m) ≡ w + i + m = omega arith in
    rw (e, f) (run-add m (n - (i + m)) p (w + i))

pub run-none-at : (p : List ℕ) (w i n : ℕ) → n ≤ i → marked_run p (w + i) (n - i) ≡ p
unfolding marked_run
run-none-at p w i n h = let e : n - i ≡ 0 = omega arith in rw e

pub run-all-at : (p : List ℕ) (w n : ℕ) → marked_run p (w + 0) (n - 0) ≡ marked_run p w n
run-all-at p w n = let e : n - 0 ≡ n = omega arith in let f : w + 0 ≡ w = omega arith in rw (e, f)

set-behind : (xs ys : List ℕ) (j v : ℕ) → set (xs ++ ys) (length xs + j) v ≡ xs ++ set ys j v
set-behind [] ys j v = let e : 0 + j ≡ j = omega arith in ap (λ (m : ℕ). set ys m v) e
set-behind (x ∷ xs) ys j v =
    let e : suc (length xs) + j ≡ suc (length xs + j) = omega arith in
    ap (λ (m : ℕ). set (x ∷ (xs ++ ys)) m v) e ∙ ap (λ (l : List ℕ). x ∷ l) (set-behind xs ys j v)

sets_behind : (xs ys : List ℕ) (j : ℕ) (vs : List ℕ) → sets (xs ++ ys) (length xs + j) vs ≡ xs ++ sets ys j vs
sets_behind xs ys j [] = refl
sets_behind xs ys j (v ∷ vs) =
    let e : suc (length xs + j) ≡ length xs + suc j = omega arith in
    ap (λ (l : List ℕ). sets l (suc (length xs + j)) vs) (set-behind xs ys j v)
    ∙ ap (λ (m : ℕ). sets (xs ++ set ys j v) m vs) e ∙ sets_behind xs (set ys j v) (suc j) vs

marked-behind : (xs ys : List ℕ) (w i : ℕ) → length xs ≡ w * 4 → marked (xs ++ ys) (w + i) ≡ xs ++ marked ys i
unfolding marked
marked-behind xs ys w i h =
    let e : (w + i) * 4 ≡ length xs + i * 4 = omega (arith, h) in
    ap (λ (m : ℕ). sets (xs ++ ys) m mark) e ∙ sets_behind xs ys (i * 4) mark

run-behind : (n : ℕ) (xs ys : List ℕ) (w i : ℕ) → length xs ≡ w * 4 → marked_run (xs ++ ys) (w + i) n ≡ xs
    ++ marked_run ys i n
unfolding marked_run
run-behind zero xs ys w i h = refl
run-behind (suc n) xs ys w i h =
    let e : w + i + 1 ≡ w + (i + 1) = omega arith in
    ap (λ (l : List ℕ). marked_run l (w + i + 1) n) (marked-behind xs ys w i h)
    ∙ ap (λ (m : ℕ). marked_run (xs ++ marked ys i) m n) e ∙ run-behind n xs (marked ys i) w (i + 1) h

-- words of the whole buffer are words of the part from w * 4 on
pub run_part : (b : List ℕ) (at w n : ℕ) → at ≡ w * 4 → at ≤ length b → marked_run b w n ≡ take at b
    ++ marked_run (drop at b) 0 n
run_part b at w n e l =
    let f : w ≡ w + 0 = omega arith in
    ap (λ (c : List ℕ). marked_run c w n) (sym (take-append-drop at b))
    ∙ ap (λ (m : ℕ). marked_run (take at b ++ drop at b) m n) f
    ∙ run-behind n (take at b) (drop at b) w 0 (length-take-le at b l ∙ e)

pub all-four : {a b c : Bool} (d : Bool) → a ≡ true → b ≡ true → c ≡ true → d ≡ (a && b && c && d)
all-four d x y z = rw (x, y, z)

-- ---- the search, down from the maximum

pub found_here : (p : List ℕ) (n : ℕ) → 0 < n → (get_or p (n - 1) 0 ≡ mark_byte (n - 1) → ⊥) → found n p ≡ n
unfolding found
found_here p zero h d = absurd (omega arith)
found_here p (suc k) h d = let e : suc k - 1 ≡ k = omega arith in rw (ne_eqb (get_or p k 0) (mark_byte k) (rw e at d))

pub found_below : (p : List ℕ) (n : ℕ) → 0 < n → get_or p (n - 1) 0 ≡ mark_byte (n - 1) → found n p ≡ found (n - 1) p
unfolding found
found_below p zero h d = absurd (omega arith)
found_below p (suc k) h d = let e : suc k - 1 ≡ k = omega arith in rw (e, eq-eqb (get_or p k 0) (mark_byte k) (rw e at d))

pub found_none : (p : List ℕ) (n : ℕ) → n ≤ 0 → found n p ≡ 0
unfolding found
found_none p n h = let e : n ≡ 0 = omega arith in rw e

-- a marked word is passed over
pub found_word : (m : ℕ) (p : List ℕ) (i : ℕ) → m ≤ 4 → is_mark p i ≡ true → found (i * 4 + m) p ≡ found (i * 4) p
found_word zero p i h d = rw (add-zero (i * 4))
found_word (suc m) p i h d =
    let e : i * 4 + suc m - 1 ≡ i * 4 + m = omega arith in
    let w : (i * 4 + suc m - 1) / 4 ≡ i = omega arith in
    found_below p (i * 4 + suc m) (omega arith) (mark-byte p (i * 4 + suc m - 1) (rw w d))
    ∙ rw e (found_word m p i (omega arith) d)

-- ---- copies

pub copy_more : (d s : List ℕ) (j : ℕ) → j < length s → length s ≤ length d
    → set (take j s ++ drop j d) j (get_or s j 0) ≡ take (j + 1) s ++ drop (j + 1) d
copy_more d s j h g =
    let hd : j < length d = omega arith in
    let len : length (take j s) ≡ j = length-take-le j s (omega arith) in
    rw (add-one j, drop-cons d j 0, take-suc s j 0)
    (set_at (take j s) (get_or d j 0) (drop (suc j) d) (get_or s j 0) j len
    ∙ sym (append_snoc (take j s) (get_or s j 0) (drop (suc j) d)))

pub length-copy : (d s : List ℕ) (j : ℕ) → j ≤ length s → length s ≤ length d → length (take j s ++ drop j d) ≡ length d
length-copy d s j h g = simp (length-append, length-take-le j s h, length-drop) (omega arith)

pub four-stores : (s p : List ℕ) (i : ℕ) {q : List ℕ} → q ≡ four s i → sets p i q ≡ copied_run s p i 4
unfolding copied_run
four-stores s p i e =
    let e1 : suc i ≡ i + 1 = omega arith in
    let e2 : i + 1 + 1 ≡ i + 2 = omega arith in
    let e3 : i + 2 + 1 ≡ i + 3 = omega arith in
    let f2 : suc (i + 1) ≡ i + 2 = omega arith in
    let f3 : suc (i + 2) ≡ i + 3 = omega arith in
    ap (sets p i) e ∙ rw (e1, e2, e3, f2, f3)

pub length-copied : (n : ℕ) (s p : List ℕ) (i : ℕ) → length (copied_run s p i n) ≡ length p
unfolding copied_run
length-copied zero s p i = refl
length-copied (suc n) s p i = length-copied n s (set p i (get_or s i 0)) (i + 1) ∙ length-set p i (get_or s i 0)

copied-add : (m k : ℕ) (s p : List ℕ) (i : ℕ) → copied_run s p i (m + k) ≡ copied_run s (copied_run s p i m) (i + m) k
unfolding copied_run
copied-add zero k s p i = rw (zero-add k, add-zero i)
copied-add (suc m) k s p i =
    let e : i + 1 + m ≡ i + suc m = omega arith in
    rw (suc-add m k) (rw e at (copied-add m k s (set p i (get_or s i 0)) (i + 1)))

-- four times four bytes
pub sixteen : (s p : List ℕ) (i : ℕ)
    → copied_run s (copied_run s (copied_run s (copied_run s p i 4) (i + 4) 4) (i + 8) 4) (i + 12) 4 ≡ copied_run s p i 16
sixteen s p i =
    let e8 : i + 4 + 4 ≡ i + 8 = omega arith in
    let e12 : i + 8 + 4 ≡ i + 12 = omega arith in
    sym
    (copied-add 4 12 s p i
    ∙ (rw e8 at (copied-add 4 8 s (copied_run s p i 4) (i + 4)))
    ∙ (rw e12 at (copied-add 4 4 s (copied_run s (copied_run s p i 4) (i + 4) 4) (i + 8))))

-- m bytes more
pub copied-step : (s p : List ℕ) (i n m : ℕ) → i + m ≤ n → copied_run s p i (n - i)
    ≡ copied_run s (copied_run s p i m) (i + m) (n - (i + m))
copied-step s p i n m h = let e : n - i ≡ m + (n - (i + m)) = omega arith in rw e (copied-add m (n - (i + m)) s p i)

pub copied-one : (s p : List ℕ) (i : ℕ) → set p i (get_or s i 0) ≡ copied_run s p i 1
unfolding copied_run
copied-one s p i = refl

pub copied_none : (s p : List ℕ) (i n : ℕ) → n ≤ i → copied_run s p i (n - i) ≡ p
unfolding copied_run
copied_none s p i n h = let e : n - i ≡ 0 = omega arith in rw e

run-copy : (m : ℕ) (d s : List ℕ) (j : ℕ) → j + m ≤ length s → length s ≤ length d
    → copied_run s (take j s ++ drop j d) j m ≡ take (j + m) s ++ drop (j + m) d
unfolding copied_run
run-copy zero d s j h g = rw (add-zero j)
run-copy (suc m) d s j h g =
    let e : j + 1 + m ≡ j + suc m = omega arith in
    rw (copy_more d s j (omega arith) g) (rw e at (run-copy m d s (j + 1) (omega arith) g))

-- all its bytes
pub copied_all : (s d : List ℕ) → length s ≤ length d → copied_run s d 0 (length s) ≡ over s d
copied_all s d h = rw (zero-add, take-length) at (run-copy (length s) d s 0 (omega arith) h)
