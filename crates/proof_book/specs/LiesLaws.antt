-- An address of an endpoint's buffers or of EP0's lies in the lent buffer with its slot
use Rattle.std.specs.Prelude.{Bool, true, false, ◌≡◌, refl, ℕ, ◌+◌, ◌%◌, ◌≤◌, length}
use Rattle.std.proofs.Common.{ap, arith}
use Rattle.bits.specs.Bit.{bit_is_set}
use Rattle.regs.specs.declared.Access.TheVariants.{Receive}
use Rattle.regs.specs.declared.Dir.{Dir}
use Rattle.regs.specs.declared.Dir.TheVariants.{Out, In}
use Rattle.state.specs.declared.EpState.{EpState}
use Rattle.state.specs.declared.Allocator.{Allocator}
use Rattle.state.specs.Driver.{Driver, ep_on}
use Rattle.alloc.specs.Alloc.{allocated_ins}
use Rattle.ring.specs.Slot.{slot_addr}
use Rattle.ring.specs.Waiting.{Placed}
use Rattle.ring.specs.Slots.{slot-from, slot-upto}
use Rattle.script.specs.Simulates.{Phase}
use Rattle.script.specs.Machine.{Buf}
use Rattle.proof_book.specs.Pages.{OutPage, Pages}
use Rattle.proof_book.specs.Book.{feed_b, slot_told}
use Rattle.proof_book.specs.Coupling.{end_of, Shape, Coupling, Lies}
use Rattle.proof_book.specs.FrameLaws.{out-same}

module _ {φ : Phase} {b : Buf} {d : Driver} {t : Pages} (R : Coupling φ b d t) where
  size_same : d.allocator.size ≡ t.kept.allocator.size
  size_same = ap (λ (a : Allocator). a.size) R.same.allocator

  pub placed_on : (dir : Dir) (e : ℕ) → Placed (length b) (ep_on d dir e)
  placed_on Out e = (R.outs e).held.placed
  placed_on In e = (R.ins e).held.placed

  pub lies : (dir : Dir) (e x : ℕ) → (ep_on d dir e).base ≤ x → x + (ep_on d dir e).stride ≤ end_of (ep_on d dir e)
      → Lies b t x
  lies dir e x l h = by (bit_is_set (allocated_ins d.allocator dir) (e % 16)) (R.shape dir e)
    where
      none : (r : EpState) → r.base ≡ 0 → r.stride ≡ 0 → r.slots ≡ 1 → end_of r ≡ 0
      none r p q s = rw (p, q, s) refl

      by : (u : Bool) → Shape u d.allocator dir (ep_on d dir e) → Lies b t x
      by true s = omega (arith, s.stride, (placed_on dir e).inside, size_same)
      -- one that is not allocated has the first byte's
      by false s = omega (arith, none (ep_on d dir e) s.base s.stride s.slots, R.ep0_lies, size_same)

  pub slot-lies : (dir : Dir) (e i : ℕ) → Lies b t (slot_addr (ep_on d dir e) i)
  slot-lies dir e i = lies dir e (slot_addr (ep_on d dir e) i) (slot-from (placed_on dir e) i)
      (slot-upto (placed_on dir e) i)

  pub base-lies : (dir : Dir) (e : ℕ) → Lies b t (ep_on d dir e).base
  base-lies dir e = lies dir e (ep_on d dir e).base (omega arith)
      (omega (arith, slot-from (placed_on dir e) 0, slot-upto (placed_on dir e) 0))

  pub ep0_lies : Lies b t d.globals.ep0_buf
  ep0_lies = omega (arith, R.ep0_lies, size_same)

-- the last receive address
pub received-lies : {φ : Phase} {b : Buf} {d : Driver} (t : Pages) (e x : ℕ) → Coupling φ b d (feed_b (Receive e x) t)
    → Lies b (feed_b (Receive e x) t) x
received-lies {d = d} t e x R =
    let q = ap (λ (p : OutPage). p.slot) (out-same t e (slot_told (t.outs e) x)) in
    lies R Out e x (omega (arith, (R.outs e).from, q)) (omega (arith, (R.outs e).upto, q))
