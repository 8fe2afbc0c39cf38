-- Arming and copying do the same to two buffers, byte by byte
use Rattle.std.specs.Prelude.{cond, List, [], ◌∷◌, ◌++◌, ◌≡◌, ℕ, zero, suc, ◌+◌, ◌-◌, ◌*◌, ◌≤◌, length, get_or, set, take, drop}
use Rattle.std.proofs.Common.{ap, sym, ◌∙◌, arith, lt-ltb, le-ltb, length-set, length-drop, get_or-set_same, get_or-set_other}
use Rattle.std.proofs.Math.Decide.{ℕ_discrete, dec_lt}
use Rattle.std.proofs.Math.ListN.{get_or-eq_default}
use Rattle.std.proofs.lemmas.List.Edits.{sets}
use Rattle.ring.specs.Marks.{mark, marked, marked_run, armed_words, arm, reach, short, armed}
use Rattle.ring.specs.Copies.{copied, over}
use Rattle.ring.specs.Only.{Only}
use Rattle.ring.specs.OnlyLaws.{back_low, back-high, part-byte}
use Rattle.ring.proofs.MarksSlots.{only-armed, only-copied, over-low, over-high}

-- byte k of two buffers is the same
abbrev pub At : ℕ → List ℕ → List ℕ → Type 0
At k b c = (length c ≡ length b) × (get_or c k 0 ≡ get_or b k 0)

pub set-like : (b c : List ℕ) (i v k : ℕ) → At k b c → At k (set b i v) (set c i v)
set-like b c i v k (long, e) = (length-set c i v ∙ long ∙ sym (length-set b i v), by)
  where
    by : get_or (set c i v) k 0 ≡ get_or (set b i v) k 0
    by = elim (ℕ_discrete k i) [
      | yes p ↦ rw p (elim (dec_lt i (length b)) [
        | yes q ↦ get_or-set_same c i v 0 (omega (arith, long)) ∙ sym (get_or-set_same b i v 0 q)
        | no q ↦ get_or-eq_default (set c i v) 0 {n = i} (omega (arith, length-set c i v, long))
            ∙ sym (get_or-eq_default (set b i v) 0 {n = i} (omega (arith, length-set b i v)))
      ])
      | no p ↦ get_or-set_other c i k v 0 p ∙ e ∙ sym (get_or-set_other b i k v 0 p)
    ]

sets-like : (vs b c : List ℕ) (i k : ℕ) → At k b c → At k (sets b i vs) (sets c i vs)
sets-like [] b c i k h = h
sets-like (v ∷ vs) b c i k h = sets-like vs (set b i v) (set c i v) (suc i) k (set-like b c i v k h)

marked-like : (b c : List ℕ) (i k : ℕ) → At k b c → At k (marked b i) (marked c i)
unfolding marked
marked-like b c i k h = sets-like mark b c (i * 4) k h

run-like : (n : ℕ) (b c : List ℕ) (i k : ℕ) → At k b c → At k (marked_run b i n) (marked_run c i n)
unfolding marked_run
run-like zero b c i k h = h
run-like (suc n) b c i k h = run-like n (marked b i) (marked c i) (i + 1) k (marked-like b c i k h)

arm-like : (maximum : ℕ) (b c : List ℕ) (k : ℕ) → At k b c → At k (arm maximum b) (arm maximum c)
unfolding arm
arm-like maximum b c k h = run-like (armed_words maximum) b c 0 k h

-- a part put back
back-like : (b c p q : List ℕ) (at k : ℕ) → at ≤ length b → At k b c
    → (at ≤ k → get_or q (k - at) 0 ≡ get_or p (k - at) 0) → get_or (take at c ++ q) k 0 ≡ get_or (take at b ++ p) k 0
back-like b c p q at k l (long, e) h = elim (dec_lt k at) [
  | yes g ↦ back_low c q at k (omega (arith, long)) g ∙ e ∙ sym (back_low b p at k l g)
  | no g ↦ back-high c q at k (omega (arith, long)) (omega arith) ∙ h (omega arith)
      ∙ sym (back-high b p at k l (omega arith))
]

part_at : (b c : List ℕ) (at k : ℕ) → at ≤ k → At k b c → At (k - at) (drop at b) (drop at c)
part_at b c at k l (long, e) = (
  simp (length-drop) (ap (λ n. n - at) long),
  part-byte c at k l ∙ e
      ∙ sym (part-byte b at k l),
)

-- a part of n bytes changed by f where it fits
changed-like : (b c : List ℕ) (at n k : ℕ) (f : List ℕ → List ℕ)
    → (At (k - at) (drop at b) (drop at c) → get_or (f (drop at c)) (k - at) 0 ≡ get_or (f (drop at b)) (k - at) 0)
    → At k b c
    → get_or (cond (short c at n) c (take at c ++ f (drop at c))) k 0
    ≡ get_or (cond (short b at n) b (take at b ++ f (drop at b))) k 0
changed-like b c at n k f g h = elim (dec_lt (length b) (at + n)) [
  | yes l ↦ rw (lt-ltb (length b) (at + n) l, lt-ltb (length c) (at + n) (omega (arith, h.0))) h.1
  | no l ↦ rw (le-ltb (length b) (at + n) (omega arith), le-ltb (length c) (at + n) (omega (arith, h.0)))
      (back-like b c (f (drop at b)) (f (drop at c)) at k (omega arith) h (λ l. g (part_at b c at k l h)))
]

pub armed-like : (b c : List ℕ) (at maximum k : ℕ) → At k b c → At k (armed b at maximum) (armed c at maximum)
unfolding armed
armed-like b c at maximum k h = (
  (only-armed c at maximum).long ∙ h.0 ∙ sym (only-armed b at maximum).long,
  changed-like b c at (reach maximum) k (arm maximum) (λ p. (arm-like maximum (drop at b) (drop at c) (k - at) p).1) h,
)

over-like : (v b c : List ℕ) (k : ℕ) → At k b c → get_or (over v c) k 0 ≡ get_or (over v b) k 0
over-like v b c k h = elim (dec_lt k (length v)) [
  | yes g ↦ over-low v c k g ∙ sym (over-low v b k g)
  | no g ↦ over-high v c k (omega arith) ∙ h.1 ∙ sym (over-high v b k (omega arith))
]

pub copied-like : (b c : List ℕ) (at : ℕ) (v : List ℕ) (k : ℕ) → At k b c → At k (copied b at v) (copied c at v)
unfolding copied
copied-like b c at v k h = (
  (only-copied c at v).long ∙ h.0 ∙ sym (only-copied b at v).long,
  changed-like b c at (length v) k (over v) (λ p. over-like v (drop at b) (drop at c) (k - at) p) h,
)

-- so two buffers that are the same but for some bytes stay so
pub only-like : {lo hi : ℕ} {b c b1 c1 : List ℕ} → Only lo hi b c → ((k : ℕ) → At k b c → At k b1 c1) → Only lo hi b1 c1
only-like {lo} {hi} {b} {c} o f = record {
  long = (f hi (o.long, o.above hi (omega arith))).0;
  below = λ k l. (f k (o.long, o.below k l)).1;
  above = λ k l. (f k (o.long, o.above k l)).1;
}
