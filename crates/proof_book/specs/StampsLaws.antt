-- Laws on the definitions of Stamps.antt
use Rattle.std.specs.Prelude.{Bool, true, false, cond, ◌≡◌, refl, ℕ, zero, suc, ◌≤◌, ◌<◌, length, set}
use mathlib.Core.List.{List, [], ◌∷◌, ◌++◌, tail}
use Rattle.std.proofs.Math.Path.{ap, ap₂, sym}
use Rattle.std.proofs.Common.{◌∙◌, arith}
use Rattle.std.proofs.Math.ListN.{get_or}
use Rattle.std.proofs.Math.Seq.{get_or-set_same, get_or-set_other}
use Rattle.state.specs.declared.EpState.{EpState}
use Rattle.ring.specs.Slot.{after, slot_of, count_of, joined_of, passed_of}
use Rattle.ring.specs.Out.{has_room_out, overrun_of, arrived_of, arrived_lens, closed_of}
use Rattle.ring.specs.Waiting.{Placed, OutRing, Alike}
use Rattle.ring.specs.Slots.{slots-some, slot-in}
use Rattle.ring.specs.Laws.{place-slot, alike-count, head-after, head-away, join-count, pass-count}
use Rattle.ring.proofs.OutLaws.{turned-alike, closed-alike}
use Rattle.proof_book.specs.Stamps.{stamps_from, stamped}

from-same : (s s' : EpState) (ss ss' : List ℕ) (i n : ℕ) → i < 256
    → ((j : ℕ) → j < n → get_or ss' (slot_of s' (after i j)) 0 ≡ get_or ss (slot_of s (after i j)) 0) → stamps_from s' ss' i n
    ≡ stamps_from s ss i n
unfolding stamps_from
from-same s s' ss ss' i zero l h = refl
from-same s s' ss ss' i (suc n) l h =
    let e : after i 0 ≡ i = omega arith in
    ap₂ ◌∷◌ (rw e at (h 0 (omega arith)))
    (from-same s s' ss ss' (after i 1) n (omega arith) (λ j m.
    let f : after (after i 1) j ≡ after i (suc j) = omega arith in rw f (h (suc j) (omega arith))))

from_more : (s : EpState) (ss : List ℕ) (i n : ℕ) → i < 256 → stamps_from s ss i (suc n) ≡ stamps_from s ss i n
    ++ (get_or ss (slot_of s (after i n)) 0 ∷ [])
unfolding stamps_from
from_more s ss i zero l = let e : after i 0 ≡ i = omega arith in rw e refl
from_more s ss i (suc n) l =
    let f : after (after i 1) n ≡ after i (suc n) = omega arith in
    ap (◌∷◌ (get_or ss (slot_of s i) 0)) (rw (← f) (from_more s ss (after i 1) n (omega arith)))

-- a change of neither place, head nor tail leaves them
pub alike-stamps : {s t : EpState} → Alike s t → (ss : List ℕ) → s.tail < 256 → stamped t ss ≡ stamped s ss
unfolding stamped
alike-stamps {s} {t} k ss h = ap₂ (stamps_from t ss) k.tail (alike-count k)
    ∙ from-same s t ss ss s.tail (count_of s) h (λ j l. ap (λ (x : ℕ). get_or ss x 0)
    (place-slot k.place (after s.tail j)))

-- none wait, as after a reset
pub none-stamps : (s : EpState) (ss : List ℕ) → count_of s ≡ 0 → stamped s ss ≡ []
unfolding stamped stamps_from
none-stamps s ss e = ap (stamps_from s ss s.tail) e

module _ {n : ℕ} {s : EpState} {ls : List ℕ} (g : Placed n s) (a : OutRing s ls) (ss : List ℕ) where
  -- ---- an arrival joins, or is turned away

  few : count_of s < s.slots
  few = omega (arith, a.few, slots-some g)

  module _ (v : ℕ) where
    abbrev joined : List ℕ
    joined = set ss (slot_of s s.head) v

    join-old : (j : ℕ) → j < count_of s → get_or joined (slot_of (joined_of s) (after s.tail j)) 0
        ≡ get_or ss (slot_of s (after s.tail j)) 0
    unfolding slot_of joined_of
    join-old j l = get_or-set_other ss (slot_of s s.head) (slot_of s (after s.tail j)) v 0 (head-away g a few j l)

    join-new : s.slots ≤ length ss → get_or joined (slot_of (joined_of s) (after s.tail (count_of s))) 0 ≡ v
    unfolding slot_of joined_of
    join-new w = ap (λ (x : ℕ). get_or joined (slot_of s x) 0) (head-after g a)
        ∙ get_or-set_same ss (slot_of s s.head) v 0 (omega (arith, slot-in g s.head))

    join-stamps : s.slots ≤ length ss → stamped (joined_of s) joined ≡ stamped s ss ++ (v ∷ [])
    unfolding stamped joined_of
    join-stamps w = rw (join-count g a few)
        (from_more (joined_of s) joined s.tail (count_of s) a.tail8
        ∙ ap₂ ◌++◌ (from-same s (joined_of s) ss joined s.tail (count_of s) a.tail8 join-old)
        (ap (λ (x : ℕ). x ∷ []) (join-new w)))

    module _ (w : s.slots ≤ length ss) where
      arrive-by : (t : Bool) → stamped (cond t (joined_of s) (overrun_of s)) (cond t joined ss)
          ≡ cond t (stamped s ss ++ (v ∷ [])) (stamped s ss)
      arrive-by true = join-stamps w
      arrive-by false = alike-stamps (turned-alike s) ss a.tail8

      -- recorded as its length is
      pub arrive-stamps : stamped (arrived_of s) (arrived_lens s ss v)
          ≡ cond (has_room_out s) (stamped s ss ++ (v ∷ [])) (stamped s ss)
      unfolding arrived_of arrived_lens
      arrive-stamps = arrive-by (has_room_out s)

  -- ---- a close passes

  module _ (some : 0 < count_of s) where
    -- the first is the tail's slot's, the others are what is left
    pub split-stamps : stamped s ss ≡ get_or ss (slot_of s s.tail) 0 ∷ stamped (passed_of s) ss
    unfolding stamped stamps_from passed_of slot_of
    split-stamps = ap (stamps_from s ss s.tail) (sym (pass-count g a some))
        ∙ ap (◌∷◌ (get_or ss (slot_of s s.tail) 0))
        (from-same (passed_of s) s ss ss (after s.tail 1) (count_of (passed_of s)) (omega arith) (λ j l. refl))

    pub close-stamps : stamped (closed_of s) ss ≡ tail (stamped s ss)
    unfolding passed_of
    close-stamps = alike-stamps (closed-alike s) ss (omega arith) ∙ sym (ap (λ (l : List ℕ). tail l) split-stamps)
