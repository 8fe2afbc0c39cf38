-- Two arrays that are filled from the lent list have the list's numbers. `sets::Search` reads the list itself and needs
-- none of this. Assumes nothing.
use Rattle.std.specs.Prelude.{◌≡◌, refl, List, ℕ, zero, suc, ◌≤◌, ◌<◌, length, set, replicate, get_or}
use Rattle.std.proofs.Common.{sym, ap, ◌∙◌, arith, length-set, get_or-set_same, get_or-set_other}
use Rattle.std.proofs.Math.Decide.{dec_lt}
use Rattle.std.proofs.lemmas.List.{length-replicate, get_or-replicate, get_or_past}
use Rattle.channels.specs.declared.Channel.{Channel}
use Rattle.channels.specs.Channels.{none, maximum, charge}
use Rattle.channels.specs.Arrays.{listed, lists_of}

-- one of the two arrays, filled with the first n of f
unfoldable filled : (ℕ → ℕ) → ℕ → List ℕ
filled f zero = replicate 16 0
filled f (suc i) = set (filled f i) i (f i)

length-filled : (f : ℕ → ℕ) (n : ℕ) → length (filled f n) ≡ 16
unfolding filled
length-filled f zero = length-replicate {A = ℕ} 16 0
length-filled f (suc i) = length-set (filled f i) i (f i) ∙ length-filled f i

filled-behind : (f : ℕ → ℕ) (n i : ℕ) → n ≤ i → listed (filled f n) i ≡ 0
unfolding filled
filled-behind f zero i h = elim (dec_lt i 16) [
  | yes g ↦ get_or-replicate 16 i 0 0 g
  | no g ↦ get_or_past (replicate 16 0) i 0 (omega (arith, length-replicate {A = ℕ} 16 0))
]
filled-behind f (suc n) i h = get_or-set_other (filled f n) n i (f n) 0 (λ e. omega arith)
    ∙ filled-behind f n i (omega arith)

filled-each : (f : ℕ → ℕ) (n : ℕ) → n ≤ 16 → (i : ℕ) → i < n → listed (filled f n) i ≡ f i
unfolding filled
filled-each f zero h i l = absurd (omega arith)
filled-each f (suc n) h i l = elim (dec_lt i n) [
  | yes g ↦ get_or-set_other (filled f n) n i (f n) 0 (λ e. omega arith) ∙ filled-each f n (omega arith) i g
  | no g ↦ (let e : i ≡ n = omega arith in rw e (get_or-set_same (filled f n) n (f n) 0
      (omega (arith, length-filled f n))))
]

maxima-filled : (cs : List Channel) (n : ℕ) → (lists_of cs n).maxima ≡ filled (maximum cs) n
unfolding lists_of filled
maxima-filled cs zero = refl
maxima-filled cs (suc i) = rw (maxima-filled cs i)

charges-filled : (cs : List Channel) (n : ℕ) → (lists_of cs n).charges ≡ filled (charge cs) n
unfolding lists_of filled
charges-filled cs zero = refl
charges-filled cs (suc i) = rw (charges-filled cs i)

module _ (cs : List Channel) (few : length cs ≤ 16) where
  -- an array filled with a field of each channel has it, and 0 behind the last
  field-read : (f : Channel → ℕ) (l : List ℕ) → f none ≡ 0 → l ≡ filled (λ i. f (get_or cs i none)) (length cs)
      → (i : ℕ) → listed l i ≡ f (get_or cs i none)
  field-read f l z e i = elim (dec_lt i (length cs)) [
    | yes g ↦ rw e (filled-each (λ j. f (get_or cs j none)) (length cs) few i g)
    | no g ↦ rw e (filled-behind (λ j. f (get_or cs j none)) (length cs) i (omega arith) ∙ sym z
        ∙ ap f (sym (get_or_past cs i none (omega arith))))
  ]

  pub maxima-read : listed (lists_of cs (length cs)).maxima ≡ maximum cs
  maxima-read = λ x i. field-read (λ c. c.maximum) (lists_of cs (length cs)).maxima refl (maxima-filled cs (length cs))
      i x

  pub charges-read : listed (lists_of cs (length cs)).charges ≡ charge cs
  charges-read = λ x i. field-read (λ c. c.charge) (lists_of cs (length cs)).charges refl
      (charges-filled cs (length cs)) i x
