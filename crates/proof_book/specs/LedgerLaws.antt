-- Demand 3's sentences on packets, of the driver's rings and the book's history of the stretch, as they hold after each
-- call
use Rattle.std.specs.Prelude.{Bool, true, false, cond, List, [], ◌∷◌, ◌++◌, ◌≡◌, refl, ℕ, ◌≤◌, length}
use Rattle.std.proofs.lemmas.List.{map-append, length-map}
use Rattle.std.proofs.Common.{append_assoc, ap, sym, ◌∙◌, arith}
use Rattle.bits.specs.Bit.{bit_is_set}
use Rattle.regs.specs.declared.Dir.{Dir}
use Rattle.regs.specs.declared.Dir.TheVariants.{Out, In}
use Rattle.state.specs.Driver.{Driver, ep_on}
use Rattle.alloc.specs.Alloc.{allocated_ins, slots_of}
use Rattle.ring.specs.Waiting.{waiting}
use Rattle.script.specs.Simulates.{Phase}
use Rattle.script.specs.Statics.{is_on}
use Rattle.script.specs.Machine.{Buf}
use Rattle.proof_book.specs.Pages.{Packet, bytes_of, Pages}
use Rattle.proof_book.specs.Book.{front}
use Rattle.proof_book.specs.Coupling.{Shape, lens_of, Coupling}
use Rattle.proof_book.specs.HeldLaws.{held-length}

slots-out : (i : Bool) → slots_of i Out ≤ 16
unfolding slots_of
slots-out true = omega arith
slots-out false = omega arith

slots-in : (i : Bool) → slots_of i In ≤ 2
unfolding slots_of
slots-in true = omega arith
slots-in false = omega arith

module _ {φ : Phase} {b : Buf} {d : Driver} {t : Pages} (R : Coupling φ b d t) (e : ℕ) where
  few : (dir : Dir) (n : ℕ) → 1 ≤ n → ((i : Bool) → slots_of i dir ≤ n) → (ep_on d dir e).slots ≤ n
  few dir n l most = go (bit_is_set (allocated_ins d.allocator dir) _) (R.shape dir e)
    where
      go : (u : Bool) → Shape u d.allocator dir (ep_on d dir e) → (ep_on d dir e).slots ≤ n
      go true s = omega (arith, s.slots, most (is_on (ep_on d dir e).iso))
      go false s = omega (arith, s.slots)

  few-out : (ep_on d Out e).slots ≤ 16
  few-out = few Out 16 (omega arith) slots-out

  few-in : (ep_on d In e).slots ≤ 2
  few-in = few In 2 (omega arith) slots-in

  -- "the packets read in its stretch, then those queued, are exactly that stretch's admitted arrivals, in order"
  pub read-then-queued : bytes_of (t.outs e).read ++ waiting b (ep_on d Out e) (lens_of d Out e)
      ≡ bytes_of (t.outs e).admitted
  read-then-queued =
      let p = t.outs e in
      ap (λ (w : List (List ℕ)). bytes_of p.read ++ w) (R.outs e).held.waits
      ∙ sym (map-append (λ (q : Packet). q.bytes) p.read p.waiting) ∙ ap bytes_of (R.outs e).ledger

  -- "At most 15 wait"
  pub at_most_15 : length (t.outs e).waiting ≤ 15
  at_most_15 = omega (
    arith,
    held-length (R.outs e).held,
    length-map (t.outs e).waiting (λ (q : Packet). q.bytes),
    (R.outs e).held.ring.few,
    few-out,
  )

  -- "at most 2 wait"
  pub at_most_2 : length (t.ins e).waiting ≤ 2
  at_most_2 = omega (arith, held-length (R.ins e).held, (R.ins e).held.ring.few, few-in)

  -- "each reaches the chip at most once and in order"
  pub once-in-order : (rest : List (List ℕ)) × ((t.ins e).sent ++ rest ≡ (t.ins e).queued)
  once-in-order = by (t.ins e).sending (t.ins e).waiting refl (R.ins e).reached
    where
      by : (s : Bool) (w : List (List ℕ)) → (t.ins e).waiting ≡ w → (t.ins e).sent ≡ (t.ins e).passed
          ++ cond s (front w) []
          → (rest : List (List ℕ)) × ((t.ins e).sent ++ rest ≡ (t.ins e).queued)
      by true [] h k = (
        [],
        ap (λ (l : List (List ℕ)). l ++ []) k ∙ append_assoc (t.ins e).passed [] []
            ∙ ap (λ (l : List (List ℕ)). (t.ins e).passed ++ l) (sym h) ∙ (R.ins e).ledger,
      )
      by true (x ∷ xs) h k = (
        xs,
        ap (λ (l : List (List ℕ)). l ++ xs) k ∙ append_assoc (t.ins e).passed (x ∷ []) xs
            ∙ ap (λ (l : List (List ℕ)). (t.ins e).passed ++ l) (sym h) ∙ (R.ins e).ledger,
      )
      by false w h k = (
        w,
        ap (λ (l : List (List ℕ)). l ++ w) k ∙ append_assoc (t.ins e).passed [] w
            ∙ ap (λ (l : List (List ℕ)). (t.ins e).passed ++ l) (sym h) ∙ (R.ins e).ledger,
      )
