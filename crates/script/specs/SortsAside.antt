-- The calls that pass during an interrupt leave the sorts, so while they alone pass it has at most 4,056 readings
use mathlib.Core.List.{[], ◌∷◌}
use Rattle.std.specs.Prelude.{◌≡◌, refl, ℕ, ◌+◌, ◌≤◌}
use Rattle.std.proofs.Common.{subst}
use Rattle.script.specs.Tree as tree
use Rattle.script.specs.Tree.{ends, asks}
use Rattle.script.specs.Cells.{globals-cell, allocator-cell, ep-cell}
use Rattle.script.specs.Script.{Ops, run, open_oldest, close_oldest, enqueue}
use Rattle.script.specs.Answers.{Answer}
use Rattle.script.specs.Calls.{Aside, Open, Close, Queue, aside_code, interrupt_code}
use Rattle.script.specs.Readings.{Continues, readings}
use Rattle.script.specs.Every.{Every, at_end}
use Rattle.script.specs.TransferKinds.{TransferKinds, Sorted, Along}
use Rattle.script.specs.SortsLaws.{counted, Any, Staying, Reads, reads-ret, free, either, no-get, no-is, no-fetch}
use Rattle.script.specs.SortsLaws.{no-look, no-act}
use Rattle.script.specs.SortsInterrupt.{interrupt-4056}

-- what becomes of the state between two accesses of an interrupt: calls that pass, each run to its end, and stores by
-- others
pub data Passes {S : Type 0} (O : Ops S) (Stores : S → S → Type 0) (s : S) : S → Type 0 where
  nothing : Passes O Stores s s
  stored : {t u : S} → Passes O Stores s t → Stores t u → Passes O Stores s u
  called : (o : Aside) {a : Answer} {t u : S} → Passes O Stores s t → run O (aside_code o) t ≡ ends a u
      → Passes O Stores s u

module _ {S : Type 0} {O : Ops S} {K : S → Type 0} {iso : TransferKinds} (M : Sorted O iso K) where
  aside-reads : (o : Aside) → Reads O K 0 Any (aside_code o)
  aside-reads (Open e) = free (no-get M globals-cell) (λ _ _. either
      (λ _. free (no-get M allocator-cell) (λ _ _. either
      (λ _. free (no-get M (ep-cell _ _)) (λ _ _. either (λ _. reads-ret tt)
      (λ _. free no-is (λ _ _. either
      (λ _. free (no-act M (open_oldest e) refl) (λ _ _. free no-fetch (λ _ _. free no-look (λ _ _. reads-ret tt))))
      (λ _. reads-ret tt)))))
      (λ _. reads-ret tt)))
      (λ _. reads-ret tt))
  aside-reads (Close e) = free (no-get M globals-cell) (λ _ _. either
      (λ _. free (no-get M allocator-cell) (λ _ _. either
      (λ _. free no-is (λ _ _. either (λ _. free (no-act M (close_oldest e) refl) (λ _ _. reads-ret tt))
      (λ _. reads-ret tt)))
      (λ _. reads-ret tt)))
      (λ _. reads-ret tt))
  aside-reads (Queue e bytes) = free (no-get M globals-cell) (λ _ _. either
      (λ _. free (no-get M allocator-cell) (λ _ _. either
      (λ _. free (no-get M globals-cell) (λ _ _. either
      (λ _. free (no-get M allocator-cell) (λ _ _. either (λ _. reads-ret tt)
      (λ _. free (no-get M (ep-cell _ _)) (λ _ _. either (λ _. reads-ret tt)
      (λ _. free no-is (λ _ _. either (λ _. free (no-act M (enqueue e bytes) refl) (λ _ _. reads-ret tt))
      (λ _. reads-ret tt)))))))
      (λ _. reads-ret tt)))
      (λ _. reads-ret tt)))
      (λ _. reads-ret tt))

  ended : {A : Type 0} {n h : ℕ} {a : A} {s : S} → Every counted (Staying K) Any (λ m (b : A) t. (m ≤ n) × K t × Any b)
      h (ends a s) → K s
  ended (at_end x) = x.1

  module _ {Stores : S → S → Type 0} (leaves : (s t : S) → Stores s t → K s → K t) where
    stays : {s t : S} → Passes O Stores s t → K s → K t
    stays nothing k = k
    stays (stored {t = t} {u = u} x y) k = leaves t u y (stays x k)
    stays (called o {t = t} x e) k =
        ended (subst (λ z. Every counted (Staying K) Any (λ m b u. (m ≤ 0 + 0) × K u × Any b) 0 z) e
        ((aside-reads o).on 0 t (stays x k)))

    all_stay : {A : Type 0} (o : tree.Out S A) (w : Continues S) → Along (Passes O Stores) o w → Along (Staying K) o w
    unfolding Along
    all_stay (ends a s) w l = tt
    all_stay (asks q s k) [] l = tt
    all_stay (asks q s k) (c ∷ w) l = (stays l.0, all_stay (k c.0 c.1) w l.1)

    pub passing-4056 : (s : S) → K s → (w : Continues S) → Along (Passes O Stores) (run O interrupt_code s) w
        → readings (run O interrupt_code s) w ≤ 4056
    passing-4056 s k w l = interrupt-4056 M s k w (all_stay (run O interrupt_code s) w l)
