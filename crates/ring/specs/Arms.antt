-- What arming does to the words of a slot.
use Rattle.std.specs.Prelude.{◌≡◌, ℕ, zero, suc, ◌+◌, ◌*◌, ◌/◌, ◌<◌, ◌≤◌, true, ◌⊎◌, List, [], ◌∷◌, length, slice_index, slice_set}
use Rattle.std.proofs.Common.{inl, inr, ⊎_elim, ◌∙◌, arith, eq-eqb, length-set, get_or-set_same}
use Rattle.std.proofs.Math.Decide.{dec_lt}
use Rattle.std.proofs.lemmas.List.Edits.{sets}
use Rattle.ring.specs.Marks.{mark, mark_byte, is_mark, marked, marked_run, armed_words, arm, reach}
use Rattle.ring.specs.Words.{all-agree, same-mark, mark-byte}
use Rattle.ring.specs.Only.{Only}
use Rattle.ring.specs.OnlyLaws.{only-refl, only-trans, only_wider, only-sets, only-apart}

-- ---- one word, and a run of words

pub only-marked : (p : List ℕ) (i : ℕ) → Only (i * 4) (i * 4 + 4) p (marked p i)
unfolding marked
only-marked p i = only-sets mark p (i * 4)

pub only-run : (n : ℕ) (p : List ℕ) (i : ℕ) → Only (i * 4) ((i + n) * 4) p (marked_run p i n)
unfolding marked_run
only-run zero p i = only-refl _ _ p
only-run (suc n) p i =
    only-trans
    (only_wider (i * 4) ((i + suc n) * 4) (omega arith) (omega arith) (only-marked p i))
    (only_wider (i * 4) ((i + suc n) * 4) (omega arith) (omega arith) (only-run n (marked p i) (i + 1)))

sets-get : (vs p : List ℕ) (i k : ℕ) → k < length vs → i + length vs ≤ length p → slice_index (sets p i vs) (i + k)
    ≡ slice_index vs k
sets-get [] p i k h l = absurd (omega arith)
sets-get (v ∷ vs) p i zero h l =
    let e : i + 0 ≡ i = omega arith in
    rw e ((only-sets vs (slice_set p i v) (suc i)).below i (omega arith) ∙ get_or-set_same p i v 0 (omega arith))
sets-get (v ∷ vs) p i (suc k) h l =
    let e : i + suc k ≡ suc i + k = omega arith in
    rw e (sets-get vs (slice_set p i v) (suc i) k (omega arith) (omega (arith, length-set p i v)))

pub marked-word : (p : List ℕ) (i : ℕ) → i * 4 + 4 ≤ length p → is_mark (marked p i) i ≡ true
unfolding marked
marked-word p i h = all-agree (marked p i) i (λ k l. eq-eqb _ _ (sets-get mark p (i * 4) k (omega arith) (omega arith)))

pub run_out : (n : ℕ) (p : List ℕ) (i j : ℕ) → (j < i) ⊎ (i + n ≤ j) → is_mark (marked_run p i n) j ≡ is_mark p j
run_out n p i j h =
    same-mark p (marked_run p i n) j
    (only-apart (j * 4) (j * 4 + 4) (only-run n p i) (⊎_elim (λ (l : j < i). inl (omega arith))
    (λ (l : i + n ≤ j). inr (omega arith)) h))

pub run_in : (n : ℕ) (p : List ℕ) (i j : ℕ) → i ≤ j → j < i + n → (i + n) * 4 ≤ length p → is_mark (marked_run p i n) j
    ≡ true
unfolding marked_run
run_in zero p i j l h f = absurd (omega arith)
run_in (suc n) p i j l h f = elim (dec_lt i j) [
  | yes g ↦ run_in n (marked p i) (i + 1) j (omega arith) (omega arith) (omega (arith, (only-marked p i).long))
  | no g ↦ (let e : j ≡ i = omega arith in
      rw e (run_out n (marked p i) (i + 1) i (inl (omega arith)) ∙ marked-word p i (omega arith)))
]

-- ---- arming

pub only-arm : (p : List ℕ) (maximum : ℕ) → Only 0 (reach maximum) p (arm maximum p)
unfolding arm
only-arm p maximum = only_wider 0 (reach maximum) (omega arith) (omega arith) (only-run (armed_words maximum) p 0)

pub arm-word : (p : List ℕ) (maximum i : ℕ) → reach maximum ≤ length p → i < armed_words maximum
    → is_mark (arm maximum p) i ≡ true
unfolding arm
arm-word p maximum i h l = run_in (armed_words maximum) p 0 i (omega arith) (omega arith) (omega arith)

-- every byte up to the maximum, rounded up to whole words, is the mark's
abbrev pub MarkedEmpty : ℕ → List ℕ → Type 0
MarkedEmpty maximum p = (k : ℕ) → k < reach maximum → slice_index p k ≡ mark_byte k

pub arm-empties : (p : List ℕ) (maximum : ℕ) → reach maximum ≤ length p → MarkedEmpty maximum (arm maximum p)
arm-empties p maximum h k l = mark-byte (arm maximum p) k (arm-word p maximum (k / 4) h (omega arith))
