-- What a call makes of the book's pages, access by access: definitions and laws over any relations
use Rattle.std.specs.Prelude.{ℕ}
use Rattle.regs.specs.declared.Access.{Access}
use Rattle.script.specs.Tree as tree
use Rattle.script.specs.Tree.{ends, asks, bind_out}
use Rattle.proof_book.specs.Pages.{Pages}
use Rattle.proof_book.specs.Book.{Bk}

-- I: what holds of the pages at each access and end, and is found again by the next call; Q: from the state in which a
-- call found the book to the one at its end; M: to the one at its access
module _ (I : Pages → Type 0) (Q : Bk → Bk → Type 0) (M : Bk → Access → Bk → Type 0) where
  pub data Tracks {A : Type 0} : Bk → tree.Out Bk A → Type 0 where
    end : {a : A} {s t : Bk} → I t.0 → Q s t → Tracks s (ends a t)
    ask : {q : Access} {s t : Bk} {k : ℕ → Bk → tree.Out Bk A} → I t.0 → M s q t
        → ((v : ℕ) (u : Bk) → I u.0 → Tracks u (k v u)) → Tracks s (asks q t k)

  module _ (then : (s t u : Bk) → Q s t → Q t u → Q s u) (then-ask : (s t u : Bk) (q : Access) → Q s t → M t q u
      → M s q u) where
    pub earlier : {A : Type 0} {s t : Bk} {o : tree.Out Bk A} → Q s t → Tracks t o → Tracks s o
    earlier h (end i q) = end i (then _ _ _ h q)
    earlier h (ask i m k) = ask i (then-ask _ _ _ _ h m) k

    pub tracks_bind : {A B : Type 0} {s : Bk} {o : tree.Out Bk A} {f : A → Bk → tree.Out Bk B}
        → Tracks s o → ((a : A) (t : Bk) → I t.0 → Tracks t (f a t)) → Tracks s (bind_out o f)
    tracks_bind (end i q) g = earlier q (g _ _ i)
    tracks_bind (ask i m k) g = ask i m (λ v u j. tracks_bind (k v u j) g)
