-- The length of a packet that is looked at after the interrupt of its own (request Eight). Assumes nothing.
use Rattle.std.specs.Prelude.{◌≡◌, refl, true, cond, List, ℕ, ◌+◌, ◌%◌, ◌≤◌, eqb, length}
use Rattle.std.proofs.Math.Path.{ap}
use Rattle.std.proofs.Common.{sym, ◌∙◌}
use Rattle.bits.specs.Bit.{bit_is_set}
use Rattle.regs.specs.declared.Dir.TheVariants.{Out}
use Rattle.state.specs.declared.EpState.{EpState}
use Rattle.state.specs.Driver.{ep_on}
use Rattle.state.specs.Laws.{Sized, ep_on-same}
use Rattle.ring.specs.Out.{capped_at, armed_at}
use Rattle.ring.specs.Marks.{reach, armed}
use Rattle.ring.specs.Copies.{bytes_at}
use Rattle.ring.specs.Finds.{LastDiffers}
use Rattle.ring.specs.Stored.{StoredAlone}
use Rattle.ring.proofs.StoredLaws.{true_length, true-bytes}
use Rattle.script.specs.Script.{marked}
use Rattle.script.specs.Statics.{is_on, iso_outs}
use Rattle.script_ops.specs.Rings.{St, marked_on, admitted_on, arm_at, arm_on, arrive_on, renewed_on, slot_step}
use Rattle.script_ops.specs.Concrete.{concrete}

-- The armed slot of OUT e, of the record r: it was armed when the buffer was b, and since then the packet alone was stored in it; the packet lies
-- within the maximum, and its last byte, if it has one, differs from the mark's byte at its place.
pub record LatePacket (r : EpState) (b packet c : List ℕ) : Type 0 where
  pub fits : r.armed_slot + reach r.max_len ≤ length b
  pub small : length packet ≤ r.max_len
  pub alone : StoredAlone b r.armed_slot r.max_len packet c
  pub last : LastDiffers (length packet) packet

module _ (e : ℕ) (s : St) {b packet : List ℕ} (p : LatePacket (ep_on s.0 Out e) b packet s.1) where
  -- it is looked at with its length
  pub late-length : concrete.look (marked e) s ≡ length packet
  unfolding marked_on
  late-length = true_length b (ep_on s.0 Out e).armed_slot (ep_on s.0 Out e).max_len packet p.fits
      p.small s.1 p.alone p.last

  -- and the bytes of that length are its own
  pub late-bytes : bytes_at s.1 (ep_on s.0 Out e).armed_slot (concrete.look (marked e) s) ≡ packet
  late-bytes =
      ap (bytes_at s.1 (ep_on s.0 Out e).armed_slot) late-length
      ∙ true-bytes b (ep_on s.0 Out e).armed_slot (ep_on s.0 Out e).max_len packet p.fits p.small s.1
      p.alone

-- ---- where a slot is armed: its address is handed out, recorded, and the slot is left as arming leaves it

module _ (e i : ℕ) (s : St) (z : Sized s.0) where
  abbrev r : EpState
  r = ep_on (arm_at e i s).1.0 Out e

  armed-ep : r ≡ armed_at (ep_on s.0 Out e) (arm_at e i s).0
  armed-ep = ep_on-same s.0 Out e (armed_at (ep_on s.0 Out e) (arm_at e i s).0) z

  pub arms-address : r.armed_slot ≡ (arm_at e i s).0
  unfolding armed_at
  arms-address = ap (λ (q : EpState). q.armed_slot) armed-ep

  pub arms-slot : (arm_at e i s).1.1 ≡ armed s.1 r.armed_slot r.max_len
  unfolding armed_at
  arms-slot = ap (λ (q : EpState). armed s.1 q.armed_slot q.max_len) (sym armed-ep)

-- an arrival arms the head's slot, whether its packet is admitted or turned away
pub arrive-arms : (e n : ℕ) (s : St) → bit_is_set (iso_outs s.0.globals) (e % 16) ≡ true
    → arrive_on e n s ≡ arm_on e (admitted_on s.0 e (capped_at (ep_on s.0 Out e) n), s.1)
unfolding arrive_on
arrive-arms e n s h = rw h refl

-- enabling and disabling arm each slot
pub slot-arms : (e k : ℕ) (s : St) → is_on (ep_on s.0 Out e).iso ≡ true
    → slot_step e k s ≡ arm_at e k (cond (eqb k 15) (renewed_on s.0 e) s.0, s.1)
unfolding slot_step
slot-arms e k s h = rw h refl
