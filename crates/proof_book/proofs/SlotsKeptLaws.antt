-- "No slot being sent is written" (demand 3), and no address that is handed out reaches outside the lent buffer (demand
-- 1), after one call; the premise of FrontPage.antt is the one of Agree.antt
use Rattle.std.specs.Prelude.{Bool, not, cond, ◌≡◌, ℕ, ◌%◌, eqb, length}
use Rattle.std.proofs.Math.Bool.{true, false}
use Rattle.std.proofs.Common.{true≢false, ap, sym, ◌∙◌, arith}
use Rattle.std.proofs.Math.Path.{refl}
use Rattle.bits.specs.Bit.{bit_is_set}
use Rattle.regs.specs.declared.Access.{Access}
use Rattle.regs.specs.declared.Access.TheVariants.{Read, Write, Receive, Transmit, Ep0Dma, Wait, Callback}
use Rattle.regs.specs.declared.Dir.TheVariants.{In}
use Rattle.state.specs.declared.Allocator.{Allocator}
use Rattle.state.specs.Driver.{Driver, ep_on}
use Rattle.alloc.specs.Alloc.{allocated_ins}
use Rattle.script.specs.Simulates.{Phase}
use Rattle.script.specs.Statics.{is_on}
use Rattle.script.specs.Answers.{Answer}
use Rattle.script.specs.Calls.{Config, Op, calls}
use Rattle.script.specs.Machine.{Buf, Call, start, begin, continue, question, misfit, Machine, Ans, ended, handed, told}
use Rattle.script.specs.Agree.{After, GoodA, LentAlike, unless}
use Rattle.machine.specs.Suspended.{driver_of}
use Rattle.proof_book.specs.Pages.{Pages}
use Rattle.proof_book.specs.Book.{book}
use Rattle.proof_book.specs.Coupling.{Shape, Used, Coupling, Good, Chip}
use Rattle.proof_book.specs.FrameLaws.{sending-count}
use Rattle.proof_book.specs.ChipsLaws.{chip}
use Rattle.proof_book.proofs.AgreesLaws.{agree}
use Rattle.proof_book.specs.FrontPage.{slot_size, Unwritten, LiesIn, Inside, BufferPreserved}
use Rattle.proof_book.specs.FrontPage as page

module _ {φ : Phase} {b : Buf} {d : Driver} {t : Pages} (R : Coupling φ b d t) where
  -- an endpoint on which some wait is isochronous, and so allocated: its slots are of the buffers' size
  pub sent-used : (e : ℕ) → (t.ins e).sending ≡ true → (is_on (ep_on d In e).iso ≡ true)
      × Used d.allocator In (ep_on d In e)
  unfolding is_on
  sent-used e s = (iso, by (bit_is_set (allocated_ins d.allocator In) (e % 16)) (R.shape In e))
    where
      is_iso_lem : (u : Bool) → is_on (ep_on d In e).iso ≡ u → u ≡ true
      is_iso_lem true h = refl
      is_iso_lem false h = absurd (omega (arith, (R.ins e).ringless h, sending-count (R.ins e) s))

      iso : is_on (ep_on d In e).iso ≡ true
      iso = is_iso_lem (is_on (ep_on d In e).iso) refl

      by : (u : Bool) → Shape u d.allocator In (ep_on d In e) → Used d.allocator In (ep_on d In e)
      by true k = k
      by false k = absurd (true≢false (sym iso ∙ ap is_on k.iso))

  pub sent-size : (e : ℕ) → (t.ins e).sending ≡ true → (ep_on d In e).stride ≡ slot_size t
  sent-size e s = (sent-used e s).1.stride ∙ ap (λ (a : Allocator). a.size) R.same.allocator

  pub unwritten : Unwritten t b
  unwritten e s k l h = (R.ins e).stands.bytes s k l (omega (arith, sent-size e s))

inside_of : (q : Access) (b : Buf) (t : Pages) → Good q b t → LiesIn q b t
inside_of (Read r e) b t g = tt
inside_of (Write r e v) b t g = tt
inside_of (Receive e x) b t g = g
inside_of (Transmit e x) b t g = g.1
inside_of (Ep0Dma x) b t g = g.1
inside_of (Wait n) b t g = tt
inside_of Callback b t g = tt

inside-after : (a : Ans Answer) (b : Buf) (t : Pages) → GoodA driver_of book agree calls a b t → Inside a b t
inside-after (ended a) b t g = tt
inside-after (handed q) b t g = inside_of q b t g
inside-after (told n) b t g = tt

-- after one call
module _ {x : Ans Answer × Machine Answer Driver} {y : Ans Answer × Machine Answer Pages}
    (a : After driver_of book agree calls x y) where
  pub kept-unwritten : (b' : Buf) → Chip y.1.st x.1.buf b' → Unwritten y.1.st b'
  kept-unwritten b' c = unwritten (chip x.1.buf b' a.phase x.1.st y.1.st a.rest c)

  pub lies-inside : Inside x.0 x.1.buf y.1.st
  lies-inside = inside-after x.0 x.1.buf y.1.st a.good

-- the premise is demand3's: row 1 goes by the same length
module _ {φ : Phase} (m : Machine Answer Driver) (n : Machine Answer Pages) (R : Coupling φ m.buf m.st n.st)
    (b : Buf) where
  lent-as : (f : Bool → Bool) → page.when_not (f (misfit calls book.driver n.st b)) (Chip n.st m.buf b)
      → unless driver_of book agree calls (f (misfit calls driver_of m.st b)) (Chip n.st m.buf b)
  lent-as f p = by (f (misfit calls driver_of m.st b)) (rw (← same) at p)
    where
      same : misfit calls driver_of m.st b ≡ misfit calls book.driver n.st b
      same = ap (λ (k : ℕ). not (eqb (length b) k)) (agree.size φ m.buf m.st n.st R)

      by : (u : Bool) → page.when_not u (Chip n.st m.buf b)
          → unless driver_of book agree calls u (Chip n.st m.buf b)
      by true p = tt
      by false p = p

  pub lent_is : (c : Call Config Op) → BufferPreserved c n m.buf b → LentAlike driver_of book agree calls c m n b
  lent_is (start c) p = tt
  lent_is (begin o) p = lent-as (λ u. cond (calls.slots o) u false) p
  lent_is (continue v) p = lent-as (λ u. u) p
  lent_is (question q) p = p
