-- A run of bytes on its way into lent bytes: the first i of n are in place. Assumes nothing.
use Rattle.std.specs.Prelude.{◌≡◌, ℕ, ◌+◌, ◌-◌, ◌<◌, ◌≤◌, List, [], ◌++◌, length, take, drop, slice_index, slice_set, refl}
use Rattle.std.proofs.Common.{ap, ◌∙◌, sym, add-one, append_assoc, append-nil, arith, length-drop, length-set, length-take-le, drop-drop, take-take, take_all}
use Rattle.std.proofs.lemmas.Slice.{put_mid-paste}
use borrow.Rule.Slice.PartMut.{put_mid}
use lib.ListN.{drop_of_length-le}
use Rattle.std.proofs.Math.Seq.{paste, paste-zero, paste-suc}

pub record Pasted (lent source : List ℕ) (at n : ℕ) (now : List ℕ) (i : ℕ) : Type 0 where
  pub few : i ≤ n
  pub long : length now ≡ length lent
  pub holds : now ≡ paste lent at source i

module _ (lent source : List ℕ) (at n : ℕ) where
  pub none-pasted : Pasted lent source at n lent 0
  none-pasted = record { few = omega arith; long = refl; holds = paste-zero lent at source }

  -- one byte more
  pub one-pasted : (now : List ℕ) (i v : ℕ) → Pasted lent source at n now i → slice_index source i ≡ v → i < n → i
      < length source → at + i < length lent
      → Pasted lent source at n (slice_set now (at + i) v) (i + 1)
  one-pasted now i v h e l s r =
      record {
        few = omega arith;
        long = length-set now (at + i) v ∙ h.long;
        holds
            = rw (h.holds, ← e, add-one i) (paste-suc lent at source i 0 r s);
      }

  -- all of them
  pub all_pasted : (now : List ℕ) (i : ℕ) → Pasted lent source at n now i → n ≤ i → now ≡ paste lent at source n
  all_pasted now i h l = let e : i ≡ n = omega (arith, h.few) in rw e at h.holds

-- lent bytes filled whole
pub paste-whole : (lent source : List ℕ) (n : ℕ) → n ≡ length lent → paste lent 0 source n ≡ take n source
paste-whole lent source n e =
    let rest : drop (0 + n) lent ≡ [] = drop_of_length-le lent (omega arith) in
    ap (λ (l : List ℕ). take n source ++ l) rest ∙ append-nil (take n source)

-- a part of lent bytes filled whole
pub part-filled : (lent source now : List ℕ) (a k n : ℕ) → k ≡ n → a + n ≤ length lent → n ≤ length source
    → now ≡ take (length (take k (drop a lent))) source → put_mid a k lent now ≡ paste lent a source n
part-filled lent source now a k n e h s is =
    let long : length (take k (drop a lent)) ≡ n =
    length-take-le k (drop a lent) (omega (arith, length-drop a lent)) ∙ e in
    put_mid-paste a k lent now (take n source) n (is ∙ ap (λ (m : ℕ). take m source) long) (sym e)
    (sym (length-take-le n source s))
    ∙ ap (λ (l : List ℕ). take a lent ++ l ++ drop (a + n) lent) (take-take n n source (omega arith))

-- the part from place a to the end, with n bytes at its front
pub part-front : (lent source : List ℕ) (a n : ℕ) → a ≤ length lent
    → put_mid a (length lent - a) lent (paste (take (length lent - a) (drop a lent)) 0 source n) ≡ paste lent a source n
part-front lent source a n h =
    let all : take (length lent - a) (drop a lent) ≡ drop a lent = take_all _ _ (omega (arith, length-drop a lent)) in
    let none : drop (length lent - a) (drop a lent) ≡ [] =
    drop_of_length-le (drop a lent) (omega (arith, length-drop a lent)) in
    let front = paste (drop a lent) 0 source n in
    let places : 0 + n ≡ n = omega arith in
    let behind : drop (0 + n) (drop a lent) ≡ drop (a + n) lent =
    ap (λ (k : ℕ). drop k (drop a lent)) places ∙ drop-drop n a lent in
    ap (λ (l : List ℕ). put_mid a (length lent - a) lent (paste l 0 source n)) all
    ∙ ap (λ (l : List ℕ). take a lent ++ (front ++ l)) none
    ∙ ap (λ (l : List ℕ). take a lent ++ l) (append-nil front)
    ∙ ap (λ (l : List ℕ). take a lent ++ (take n source ++ l)) behind
    ∙ sym (append_assoc (take a lent) (take n source) (drop (a + n) lent))
