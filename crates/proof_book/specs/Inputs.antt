-- Lists of calls made from what is done, each lent the slot buffer as the last one left it, but for the chip's stores
-- into the slot of OUT 1's last receive address: every such list meets the premise of demand 3
use Rattle.std.specs.Prelude.{Bool, true, false, cond, ◌&&◌, List, [], ◌∷◌, ◌≡◌, refl, ℕ, ◌%◌, leb, length}
use Rattle.std.proofs.Common.{inl, inr, arith, leb-true}
use Rattle.bits.specs.Bit.{bit_is_set}
use Rattle.alloc.specs.Alloc.{allocated_ins}
use Rattle.ring.specs.Copies.{copied}
use Rattle.ring.proofs.MarksSlots.{only-copied}
use Rattle.regs.specs.declared.Dir.TheVariants.{Out}
use Rattle.state.specs.Driver.{Driver}
use Rattle.script.specs.Answers.{Answer}
use Rattle.script.specs.Calls.{Config, Op, calls}
use Rattle.script.specs.Machine.{Buf, Call, start, begin, continue, question, Event, Machine, misfit}
use Rattle.machine.specs.Suspended.{drive}
use Rattle.proof_book.specs.Pages.{Pages}
use Rattle.proof_book.specs.Book.{book}
use Rattle.proof_book.specs.FrontPage.{book_step, Chip, when_not, BufferPreserved}
use Rattle.proof_book.specs.MachineRuns.{Premise}
pub use Rattle.proof_book.specs.HeldLaws.{left, right}

-- a call, what the chip stores before it, and whether what it comes to is told
pub record Input : Type 0 where
  pub stored : List ℕ
  pub call : Call Config Op
  pub tell : Bool

-- an endpoint that is allocated, bytes that fit a slot
abbrev pub may_store : Pages → List ℕ → Bool
may_store t bytes = bit_is_set (allocated_ins t.kept.allocator Out) (1 % 16)
    && leb (length bytes) t.kept.allocator.size

abbrev pub stored_in : Pages → Buf → List ℕ → Buf
stored_in t b [] = b
stored_in t b (x ∷ xs) = cond (may_store t (x ∷ xs)) (copied b (t.outs 1).slot (x ∷ xs)) b

abbrev pub event_of : Input → Machine Answer Driver → Machine Answer Pages → Event Config Op
event_of i m n = record { call = i.call; lent = stored_in n.st m.buf i.stored }

abbrev pub events_of : List Input → Machine Answer Driver → Machine Answer Pages → List (Event Config Op)
events_of [] m n = []
events_of (i ∷ is) m n =
    let e = event_of i m n in
    let x = drive e.call m e.lent in
    e ∷ events_of is x.1 (book_step x.0 e.call n e.lent).1

-- ---- the premise

chip-stores : (t : Pages) (b : Buf) (bytes : List ℕ) → Chip t b (stored_in t b bytes)
chip-stores t b [] = record { long = refl; others = λ k h. refl }
chip-stores t b (x ∷ xs) = by (may_store t (x ∷ xs)) refl
  where
    by : (u : Bool) → may_store t (x ∷ xs) ≡ u → Chip t b (cond u (copied b (t.outs 1).slot (x ∷ xs)) b)
    by true m =
        let o = only-copied b (t.outs 1).slot (x ∷ xs) in
        let a = bit_is_set (allocated_ins t.kept.allocator Out) (1 % 16) in
        let f = leb (length (x ∷ xs)) t.kept.allocator.size in
        let l = leb-true (length (x ∷ xs)) t.kept.allocator.size (right a f m) in
        record {
          long = o.long;
          others = λ k h. elim (h.outs 1 (left a f m)) [
            | inl p ↦ o.below k p
            | inr p ↦ o.above k (omega (arith, p, l))
          ];
        }
    by false m = record { long = refl; others = λ k h. refl }

given : (u : Bool) {X : Type 0} → X → when_not u X
given true x = tt
given false x = x

pub lent : (c : Call Config Op) (n : Machine Answer Pages) (a : Buf) (bytes : List ℕ)
    → BufferPreserved c n a (stored_in n.st a bytes)
lent (start c) n a bytes = tt
lent (begin o) n a bytes = given (cond (calls.slots o) (misfit calls book.driver n.st (stored_in n.st a bytes))
    false) (chip-stores n.st a bytes)
lent (continue v) n a bytes = given (misfit calls book.driver n.st (stored_in n.st a bytes))
    (chip-stores n.st a bytes)
lent (question q) n a bytes = chip-stores n.st a bytes

pub lawful : (is : List Input) (m : Machine Answer Driver) (n : Machine Answer Pages) → Premise (events_of is m n) m n
lawful [] m n = tt
lawful (i ∷ is) m n = (lent i.call n m.buf i.stored, lawful is _ _)
