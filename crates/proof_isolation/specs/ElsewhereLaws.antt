-- A change elsewhere than in the channel's record and slots, and an arrival on the channel: either may come first
use Rattle.std.specs.Prelude.{Bool, ◌∷◌, ◌≢◌, ◌≡◌, ℕ, ◌+◌, ◌*◌, ◌/◌, ◌%◌, ◌≤◌, ◌<◌, length, get_or}
use Rattle.std.proofs.Math.Bool.{true, false, cond}
use Rattle.std.proofs.Math.Path.{refl, ap}
use Rattle.std.proofs.Common.{sym, ◌∙◌, arith, ext_get_or}
use Rattle.std.proofs.Math.Decide.{dec_lt}
use Rattle.std.proofs.lemmas.List.{set_comm}
use Rattle.bits.specs.Bit.{bit_is_set}
use Rattle.regs.specs.declared.Dir.TheVariants.{Out, In}
use Rattle.state.specs.declared.EpState.{EpState}
use Rattle.state.specs.Driver.{Driver, key, len_key, with_eps, with_lens, ep_on, with_on, with_len_on, with_stamp_on}
use Rattle.state.specs.Laws.{ep_on-other, key_apart}
use Rattle.ring.specs.Marks.{armed}
use Rattle.ring.proofs.MarksSlots.{armed-slot}
use Rattle.ring.specs.Only.{Only}
use Rattle.ring.specs.Slot.{slot_of, slot_addr}
use Rattle.ring.specs.Out.{has_room_out, capped_at, arrived_of, armed_at}
use Rattle.script.specs.Statics.{iso_outs}
use Rattle.script.specs.Machine.{Buf}
use Rattle.script_ops.specs.Rings.{St, written_on, recorded_on, admitted_on, arm_at, arrived_at, arrive_on}
use Rattle.proof_isolation.specs.BytesLaws.{At, armed-like}

-- ---- the buffer

-- it leaves the bytes from lo up to hi, and each byte is made of what was there
pub record Beyond (lo hi : ℕ) (f : Buf → Buf) : Type 0 where
  pub long : (b : Buf) → length (f b) ≡ length b
  pub inside : (b : Buf) (k : ℕ) → lo ≤ k → k < hi → get_or (f b) k 0 ≡ get_or b k 0
  pub like : (b c : Buf) (k : ℕ) → At k b c → At k (f b) (f c)

module _ {lo hi : ℕ} {f : Buf → Buf} (z : Beyond lo hi f) (b : Buf) (a maximum size : ℕ)
    (four : 4 ≤ size) (words : size / 4 * 4 ≡ size) (least : maximum ≤ size) (from : lo ≤ a)
    (upto : a + size ≤ hi) where
  pub armed-beyond : armed (f b) a maximum ≡ f (armed b a maximum)
  armed-beyond =
      ext_get_or 0 _ _ (there.long ∙ z.long b ∙ sym here.long ∙ sym (z.long (armed b a maximum))) (λ k _. by k)
    where
      here : Only a (a + size) b (armed b a maximum)
      here = armed-slot b a maximum size four words least

      there : Only a (a + size) (f b) (armed (f b) a maximum)
      there = armed-slot (f b) a maximum size four words least

      outside : (k : ℕ) → get_or (armed (f b) a maximum) k 0 ≡ get_or (f b) k 0 → get_or (armed b a maximum) k 0 ≡ get_or b k 0
          → get_or (armed (f b) a maximum) k 0 ≡ get_or (f (armed b a maximum)) k 0
      outside k p q = p ∙ sym (z.like b (armed b a maximum) k (here.long, q)).1

      by : (k : ℕ) → get_or (armed (f b) a maximum) k 0 ≡ get_or (f (armed b a maximum)) k 0
      by k = elim (dec_lt k a) [
        | yes p ↦ outside k (there.below k p) (here.below k p)
        | no p ↦ elim (dec_lt k (a + size)) [
          | yes q ↦ (armed-like b (f b) a maximum k (z.long b, z.inside b k (omega arith) (omega arith))).1
              ∙ sym (z.inside (armed b a maximum) k (omega arith) (omega arith))
          | no q ↦ outside k (there.above k (omega arith)) (here.above k (omega arith))
        ]
      ]

-- ---- the driver

len-apart : (x e i j : ℕ) → len_key In e i ≢ len_key Out x j
unfolding len_key
len-apart x e i j z = key_apart x e (omega arith)

pub record Spared (x : ℕ) (g : Driver → Driver) : Type 0 where
  pub globals : (d : Driver) → (g d).globals ≡ d.globals
  pub ep : (d : Driver) → ep_on (g d) Out x ≡ ep_on d Out x
  pub on : (d : Driver) (r : EpState) → with_on (g d) Out x r ≡ g (with_on d Out x r)
  pub writes : (d : Driver) (i len : ℕ) → written_on (g d) x i len ≡ g (written_on d x i len)

pub spared-none : (x : ℕ) → Spared x (λ d. d)
spared-none x = record { globals = λ d. refl; ep = λ d. refl; on = λ d r. refl; writes = λ d i len. refl }

-- IN e's record and the length of one of its slots
abbrev pub joined_by : ℕ → ℕ → ℕ → EpState → Driver → Driver
joined_by e i m y d = with_on (with_len_on d In e i m) In e y

pub spared-joined : (x e i m : ℕ) (y : EpState) → Spared x (joined_by e i m y)
unfolding with_on with_len_on with_stamp_on ep_on
spared-joined x e i m y = record {
  globals = λ d. refl;
  ep = λ d. ep_on-other (with_len_on d In e i m) In e y Out x (key_apart x e);
  on = λ d r. ap (λ l. with_eps (with_len_on d In e i m) l)
      (set_comm d.eps (key In e) (key Out x) y r (λ p. key_apart x e (sym p)));
  writes = λ d j len. ap (λ l. with_on (with_stamp_on (with_lens d l) x j d.globals.entered) In e y)
      (set_comm d.lens (len_key In e i) (len_key Out x j) m len (len-apart x e i j));
}

-- ---- an arrival on x

abbrev pub moved : (Driver → Driver) → (Buf → Buf) → ℕ × St → ℕ × St
moved g f w = (w.0, (g w.1.0, f w.1.1))

module _ {x : ℕ} {g : Driver → Driver} (h : Spared x g) where
  recorded-spared : (d : Driver) (len : ℕ) → recorded_on (g d) x len ≡ g (recorded_on d x len)
  unfolding recorded_on
  recorded-spared d len =
      ap (λ (r : EpState). cond (has_room_out r) (written_on (g d) x (slot_of r r.head) len) (g d)) (h.ep d)
      ∙ by (has_room_out (ep_on d Out x)) (slot_of (ep_on d Out x) (ep_on d Out x).head)
    where
      by : (b : Bool) (i : ℕ) → cond b (written_on (g d) x i len) (g d) ≡ g (cond b (written_on d x i len) d)
      by true i = h.writes d i len
      by false i = refl

  admitted-spared : (d : Driver) (len : ℕ) → admitted_on (g d) x len ≡ g (admitted_on d x len)
  unfolding admitted_on
  admitted-spared d len =
      ap (λ (q : Driver). with_on q Out x (arrived_of (ep_on (g d) Out x))) (recorded-spared d len)
      ∙ ap (λ (r : EpState). with_on (g (recorded_on d x len)) Out x (arrived_of r)) (h.ep d)
      ∙ h.on (recorded_on d x len) (arrived_of (ep_on d Out x))

  module _ (f : Buf → Buf) (d : Driver) (b : Buf) (i : ℕ) where
    arm-spared : let r = ep_on d Out x in
        armed (f b) (slot_addr r i) r.max_len ≡ f (armed b (slot_addr r i) r.max_len)
        → arm_at x i (g d, f b) ≡ moved g f (arm_at x i (d, b))
    arm-spared p =
        let r = ep_on d Out x in
        ap (λ (r : EpState). (
          slot_addr r i,
          (
            with_on (g d) Out x (armed_at r (slot_addr r i)),
            armed (f b) (slot_addr r i)
                r.max_len,
          ),
        )) (h.ep d)
        ∙ (λ j. (slot_addr r i, (h.on d (armed_at r (slot_addr r i)) j, p j)))

  pub arrive-spared : (f : Buf → Buf) (d : Driver) (b : Buf) (m : ℕ) → (bit_is_set (iso_outs d.globals) (x % 16) ≡ true →
      let r = ep_on (admitted_on d x (capped_at (ep_on d Out x) m)) Out x in
      armed (f b) (slot_addr r r.head) r.max_len ≡ f (armed b (slot_addr r r.head) r.max_len))
      → arrive_on x m (g d, f b) ≡ moved g f (arrive_on x m (d, b))
  unfolding arrive_on
  arrive-spared f d b m p =
      (λ i. cond (bit_is_set (iso_outs (h.globals d i)) (x % 16)) (arrived_at x (capped_at (h.ep d i) m) (g d, f b))
      ((h.ep d i).armed_slot, (g d, f b)))
      ∙ by (bit_is_set (iso_outs d.globals) (x % 16)) refl
    where
      by : (u : Bool) → bit_is_set (iso_outs d.globals) (x % 16) ≡ u
          → cond u (arrived_at x (capped_at (ep_on d Out x) m) (g d, f b)) ((ep_on d Out x).armed_slot, (g d, f b))
          ≡ moved g f (cond u (arrived_at x (capped_at (ep_on d Out x) m) (d, b)) ((ep_on d Out x).armed_slot, (d, b)))
      by true e =
          let len = capped_at (ep_on d Out x) m in
          ap (λ (q : Driver). arm_at x (ep_on q Out x).head (q, f b)) (admitted-spared d len)
          ∙ ap (λ (r : EpState). arm_at x r.head (g (admitted_on d x len), f b)) (h.ep (admitted_on d x len))
          ∙ arm-spared f (admitted_on d x len) b (ep_on (admitted_on d x len) Out x).head (p e)
      by false e = refl
