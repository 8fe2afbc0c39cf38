-- A late packet (request Eight) at any time of a run between two rows: its length is found, and it joins those that
-- wait with its own bytes
use Rattle.std.specs.Prelude.{true, List, ◌≡◌, ℕ, ◌+◌, ◌≤◌, min, length}
use Rattle.std.proofs.Common.{ap, subst, sym, ◌∙◌, arith}
use Rattle.regs.specs.declared.Dir.TheVariants.{Out}
use Rattle.state.specs.Driver.{Driver, ep_on}
use Rattle.ring.specs.Marks.{reach}
use Rattle.ring.specs.Copies.{bytes_at}
use Rattle.ring.specs.Finds.{LastDiffers}
use Rattle.ring.specs.Stored.{StoredAlone}
use Rattle.ring.proofs.StoredLaws.{true-bytes}
use Rattle.script.specs.Cells.{EpCore}
use Rattle.script.specs.Simulates.{quiet}
use Rattle.script.specs.Machine.{Buf}
use Rattle.script.specs.Script.{marked}
use Rattle.script_ops.specs.Concrete.{concrete}
use Rattle.script_ops.specs.Late.{LatePacket, late-length}
use Rattle.proof_book.specs.Pages.{Pages}
use Rattle.proof_book.specs.Book.{packet_b, book_ops}
use Rattle.proof_book.specs.Coupling.{Coupling}
use Rattle.proof_book.specs.HeldLaws.{Words, receives, receives-used, good-words}
use Rattle.proof_book.proofs.OutsLaws.{look-marked}

-- The packet was stored alone in the slot of OUT e's last receive address since this was handed out, b then being the
-- buffer; it lies within the maximum, and its last byte, if it has one, differs from the mark's byte at its place.
pub record LateB (e : ℕ) (t : Pages) (b packet c : List ℕ) : Type 0 where
  pub small : length packet ≤ (t.kept.plain Out e).max_len
  pub alone : StoredAlone b (t.outs e).slot (t.kept.plain Out e).max_len packet c
  pub last : LastDiffers (length packet) packet

module _ {c : Buf} {d : Driver} {t : Pages} (R : Coupling quiet c d t) (e : ℕ) (u : receives d e ≡ true)
    {b packet : List ℕ} (p : LateB e t b packet c) where
  max-same : (ep_on d Out e).max_len ≡ (t.kept.plain Out e).max_len
  max-same = ap (λ (q : EpCore). q.max_len) (R.same.plain Out e)

  -- the slot lies in the buffer
  slot-fits : (t.outs e).slot + reach (t.kept.plain Out e).max_len ≤ length b
  slot-fits =
      let f = R.outs e in
      let w : Words (ep_on d Out e).stride = subst Words (sym (receives-used R e u).stride) (good-words d.allocator.size R.good) in
      omega (arith, w.0, w.1, max-same, f.held.least, f.upto, f.held.placed.inside, p.alone.long)

  late-packet : LatePacket (ep_on d Out e) b packet c
  late-packet = record {
    fits = omega (arith, slot-fits, (R.outs e).slot, max-same);
    small = omega (arith, p.small, max-same);
    alone = subst (λ (x : ℕ). StoredAlone b x (ep_on d Out e).max_len packet c) (sym (R.outs e).slot)
        (subst (λ (m : ℕ). StoredAlone b (t.outs e).slot m packet c) (sym max-same) p.alone);
    last = p.last;
  }

  -- the driver's look
  pub late-looked : concrete.look (marked e) (d, c) ≡ length packet
  late-looked = late-length e (d, c) late-packet

  -- the book's
  pub late-booked : book_ops.look (marked e) (t, c) ≡ length packet
  late-booked = sym (look-marked e c d t R) ∙ late-looked

  -- what joins those that wait, or is turned away
  pub late-joins : (packet_b e (book_ops.look (marked e) (t, c)) (t, c)).bytes ≡ packet
  late-joins =
      ap (λ (n : ℕ). bytes_at c (t.outs e).slot n)
      (let m : min (book_ops.look (marked e) (t, c)) (t.kept.plain Out e).max_len ≡ length packet
      = omega (arith, late-booked, p.small) in m)
      ∙ true-bytes b (t.outs e).slot (t.kept.plain Out e).max_len packet slot-fits p.small c p.alone
