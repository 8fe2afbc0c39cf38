-- The chip stores bytes in the armed slots and in EP0's buffer, and so in none of those that wait
use Rattle.std.specs.Prelude.{Bool, true, false, ◌&&◌, ◌⊎◌, ◌≡◌, refl, ℕ, zero, suc, ◌+◌, ◌%◌, ◌≤◌, ◌<◌, eqb}
use Rattle.std.proofs.Common.{inl, inr, ⊎_elim, ap, subst, sym, ◌∙◌, arith}
use Rattle.std.proofs.Math.Decide.{ℕ_discrete}
use Rattle.bits.specs.Bit.{bit_is_set}
use Rattle.regs.specs.declared.Dir.{Dir}
use Rattle.regs.specs.declared.Dir.TheVariants.{Out, In}
use Rattle.state.specs.declared.EpState.{EpState}
use Rattle.state.specs.declared.Allocator.{Allocator}
use Rattle.state.specs.declared.Globals.{Globals}
use Rattle.state.specs.Driver.{Driver, key, ep_on}
use Rattle.state.specs.Laws.{key-same, key_apart}
use Rattle.alloc.specs.Alloc.{allocated_ins}
use Rattle.ring.specs.Slot.{after, slot_addr, count_of}
use Rattle.ring.specs.Waiting.{waiting}
use Rattle.ring.specs.Slots.{slots_apart, slot-from, slot-upto}
use Rattle.ring.specs.Laws.{waiting_kept}
use Rattle.ring.proofs.OutLaws.{armed-away}
use Rattle.script.specs.Script.{switch, bus_reset_lem}
use Rattle.script.specs.Simulates.{Phase, quiet, mid}
use Rattle.script.specs.Statics.{is_on, iso_outs}
use Rattle.script.specs.Machine.{Buf}
use Rattle.proof_book.specs.Pages.{OutPage, Pages}
use Rattle.proof_book.specs.Coupling.{end_of, Used, Shape, Apart, ep0_room, lens_of, Armed, AtRest, InRow, Arming}
use Rattle.proof_book.specs.Coupling.{Coupling, Elsewhere, Chip}
use Rattle.proof_book.specs.LensLaws.{ep-mod}
use Rattle.proof_book.specs.FrameBytesLaws.{TailsStay, bytes-changed}

-- ---- the armed slot is the head's, or none wait

rest-armed : (u : Bool) {r : EpState} {p : OutPage} → AtRest u r p → Armed r p ⊎ (count_of r ≡ 0)
rest-armed true a = inl (a.armed refl)
rest-armed false a = inr (a.none refl)

row-armed : (here u : Bool) (n : ℕ) (r : EpState) (p : OutPage) → InRow here n u r p → Armed r p ⊎ (count_of r ≡ 0)
row-armed true u n r p a = inr a.none
row-armed false u n r p a = rest-armed u a

pub armed-or : (φ : Phase) (e : ℕ) (u : Bool) (r : EpState) (p : OutPage) → Arming φ e u r p → Armed r p
    ⊎ (count_of r ≡ 0)
armed-or quiet e u r p a = rest-armed u a
armed-or (mid (switch f onn) n) e u r p a = row-armed (eqb (e % 16) (f % 16) && is_on r.iso) u n r p a
armed-or (mid bus_reset_lem zero) e u r p a = rest-armed u a
armed-or (mid bus_reset_lem (suc n)) e u r p a = a.1

module _ {φ : Phase} {b : Buf} {d : Driver} {t : Pages} (R : Coupling φ b d t) where
  used-size : (e : ℕ) → bit_is_set (allocated_ins t.kept.allocator Out) (e % 16) ≡ true → (ep_on d Out e).stride
      ≡ t.kept.allocator.size
  used-size e h =
      let u : Used d.allocator Out (ep_on d Out e) = subst (λ z. Shape z d.allocator Out (ep_on d Out e))
      (ap (λ (a : Allocator). bit_is_set (allocated_ins a Out) (e % 16)) R.same.allocator ∙ h) (R.shape Out e) in
      u.stride ∙ ap (λ (a : Allocator). a.size) R.same.allocator

  -- a byte in a region apart from endpoint e's
  apart-slot : (e k lo hi : ℕ) → bit_is_set (allocated_ins t.kept.allocator Out) (e % 16) ≡ true → lo ≤ k → k < hi
      → Apart lo hi (ep_on d Out e).base (end_of (ep_on d Out e)) → (k < (t.outs e).slot)
      ⊎ ((t.outs e).slot + t.kept.allocator.size ≤ k)
  apart-slot e k lo hi h p q (inl a) = inl (omega (arith, (R.outs e).from))
  apart-slot e k lo hi h p q (inr a) = inr (omega (arith, (R.outs e).upto, used-size e h))

  ep0-room : t.kept.globals.stage ≡ 2 → ep0_room d.globals d.allocator ≡ t.kept.allocator.size
  ep0-room h =
      let s : d.globals.stage ≡ 2 = ap (λ (g : Globals). g.stage) R.same.globals ∙ h in
      rw (s, R.same.allocator) refl

  -- and from EP0's buffer
  apart-ep0 : (k lo hi : ℕ) → lo ≤ k → k < hi → Apart d.globals.ep0_buf (d.globals.ep0_buf
      + ep0_room d.globals d.allocator) lo hi
      → t.kept.globals.stage ≡ 2 → (k < t.kept.globals.ep0_buf)
      ⊎ (t.kept.globals.ep0_buf + t.kept.allocator.size ≤ k)
  apart-ep0 k lo hi p q a h =
      let g : d.globals.ep0_buf ≡ t.kept.globals.ep0_buf
      = ap (λ (g : Globals). g.ep0_buf) R.same.globals in
      ⊎_elim (λ z. inr (omega (arith, g, ep0-room h))) (λ z. inl (omega (arith, g))) a

  -- a byte of an IN endpoint's buffers
  in-elsewhere : (x k : ℕ) → (ep_on d In x).base ≤ k → k < end_of (ep_on d In x) → Elsewhere t k
  in-elsewhere x k p q = record {
    outs = λ e h. apart-slot e k _ _ h p q (R.apart In Out x e (λ z. key_apart e x (sym z)));
    ep0 = apart-ep0 k _ _ p q (R.ep0_apart In x);
  }

  -- a byte of a waiting packet's slot of OUT x
  out-own : (x j k : ℕ) → j < count_of (ep_on d Out x)
      → slot_addr (ep_on d Out x) (after (ep_on d Out x).tail j) ≤ k → k
      < slot_addr (ep_on d Out x) (after (ep_on d Out x).tail j) + (ep_on d Out x).stride
      → (k < (t.outs x).slot) ⊎ ((t.outs x).slot + (ep_on d Out x).stride ≤ k)
  out-own x j k l p q = by (armed-or φ x (bit_is_set (iso_outs d.globals) (x % 16)) (ep_on d Out x) (t.outs x)
      (R.arming x))
    where
      by : Armed (ep_on d Out x) (t.outs x) ⊎ (count_of (ep_on d Out x) ≡ 0) → (k < (t.outs x).slot)
          ⊎ ((t.outs x).slot + (ep_on d Out x).stride ≤ k)
      by (inl a) =
          let f = (R.outs x).held in
          ⊎_elim (λ z. inl (omega (arith, a))) (λ z. inr (omega (arith, a)))
          (slots_apart f.placed (after (ep_on d Out x).tail j) (ep_on d Out x).head
          (armed-away f.placed f.ring j l))
      by (inr z) = absurd (omega (arith, z))

  out-elsewhere : (x j k : ℕ) → j < count_of (ep_on d Out x)
      → slot_addr (ep_on d Out x) (after (ep_on d Out x).tail j) ≤ k
      → k < slot_addr (ep_on d Out x) (after (ep_on d Out x).tail j) + (ep_on d Out x).stride → Elsewhere t k
  out-elsewhere x j k l p q =
      let g = (R.outs x).held.placed in
      let lo : (ep_on d Out x).base ≤ k = omega (arith, slot-from g (after (ep_on d Out x).tail j)) in
      let hi : k < end_of (ep_on d Out x) = omega (arith, slot-upto g (after (ep_on d Out x).tail j)) in
      record {
        outs = λ e h. elim (ℕ_discrete (key Out x) (key Out e)) [
          | yes z ↦ same e h (ep-mod d Out x e (key-same Out x e z))
          | no n ↦ apart-slot e k _ _ h lo hi (R.apart Out Out x e n)
        ];
        ep0 = apart-ep0 k _ _ lo hi (R.ep0_apart Out x);
      }
    where
      same : (e : ℕ) → bit_is_set (allocated_ins t.kept.allocator Out) (e % 16) ≡ true → ep_on d Out x ≡ ep_on d Out e
          → (k < (t.outs e).slot) ⊎ ((t.outs e).slot + t.kept.allocator.size ≤ k)
      same e h z =
          let s : (t.outs x).slot ≡ (t.outs e).slot = sym (R.outs x).slot ∙ ap (λ (r : EpState). r.armed_slot) z
          ∙ (R.outs e).slot in
          let w : (ep_on d Out x).stride ≡ t.kept.allocator.size = ap (λ (r : EpState). r.stride) z ∙ used-size e h in
          ⊎_elim (λ y. inl (omega (arith, s))) (λ y. inr (omega (arith, s, w))) (out-own x j k l p q)

-- the chip's stores leave all that holds between calls, in every phase
pub chip : (b b' : Buf) (φ : Phase) (d : Driver) (t : Pages) → Coupling φ b d t → Chip t b b' → Coupling φ b' d t
chip b b' φ d t R c = bytes-changed R c.long kept tails
  where
    kept : (dir : Dir) (x : ℕ) → waiting b' (ep_on d dir x) (lens_of d dir x) ≡ waiting b (ep_on d dir x) (lens_of d dir x)
    kept Out x = let f = (R.outs x).held in waiting_kept f.placed f.ring b b'
        (λ j l k p q. c.others k (out-elsewhere R x j k l p q))
    kept In x = let f = (R.ins x).held in waiting_kept f.placed f.ring b b' (λ j l k p q.
        c.others k (in-elsewhere R x k
        (omega (arith, slot-from f.placed (after (ep_on d In x).tail j)))
        (omega (arith, slot-upto f.placed (after (ep_on d In x).tail j)))))

    tails : TailsStay d b b'
    tails x w = let f = (R.ins x).held in λ k p q. c.others k
        (in-elsewhere R x k (omega (arith, slot-from f.placed (ep_on d In x).tail))
        (omega (arith, slot-upto f.placed (ep_on d In x).tail)))
