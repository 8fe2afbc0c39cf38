-- The microframe with each packet (request One): that of the interrupt under way where the packet is admitted, left
-- alone where it is turned away, gone after a reset. Assumes nothing.
use Rattle.std.specs.Prelude.{◌≡◌, ◌≢◌, ◌⊎◌, Bool, true, false, cond, ℕ, zero, suc, ◌+◌, ◌*◌, ◌%◌, ◌≤◌, ◌<◌, length, set, replicate}
use Rattle.std.proofs.Math.Path.{refl, ap}
use Rattle.std.proofs.Common.{◌∙◌, ⊎_elim, length-set}
use Rattle.std.proofs.Math.Logic.{inl, inr}
use mathlib.Core.List.{List}
use native.Mathlib.Omega.{arith}
use Rattle.std.proofs.Math.Decide.{ℕ_discrete, dec_lt}
use Rattle.std.proofs.Math.ListN.{get_or}
use Rattle.std.proofs.Math.Seq.{get_or-set_same, get_or-set_other}
use Rattle.bits.specs.Bit.{bit_is_set}
use Rattle.regs.specs.declared.Dir.TheVariants.{Out}
use Rattle.state.specs.Driver.{Driver, stamp_key, ep_on, with_on, with_len_on, stamp_on, with_stamp_on}
use Rattle.state.specs.Fresh.{filled, clear_stamps, no_stamps}
use Rattle.state.specs.Laws.{Sized, stamp_key-lt}
use Rattle.ring.specs.Slot.{slot_of}
use Rattle.ring.specs.Out.{has_room_out, capped_at}
use Rattle.script.specs.Statics.{iso_outs}
use Rattle.script_ops.specs.Rings.{St, written_on, recorded_on, admitted_on, arrived_at, arrive_on, renewed_on}
use Rattle.script_ops.specs.Rings.{reset_all}

-- ---- an arrival

either : (l : List ℕ) (on : Bool) (x y : ℕ × St) → x.1.0.stamps ≡ l → y.1.0.stamps ≡ l → (cond on x y).1.0.stamps
    ≡ l
either l true x y p q = p
either l false x y p q = q

module _ (e n : ℕ) (s : St) where
  abbrev d : Driver
  d = s.0

  abbrev len : ℕ
  len = capped_at (ep_on d Out e) n

  -- the head's slot
  abbrev pub place : ℕ
  place = slot_of (ep_on d Out e) (ep_on d Out e).head

  -- arming changes no stamp
  arrived-stamps : (arrived_at e len s).1.0.stamps ≡ (recorded_on d e len).stamps
  unfolding admitted_on with_on
  arrived-stamps = refl

  -- every stamp stays
  pub turned_away : has_room_out (ep_on d Out e) ≡ false → (arrive_on e n s).1.0.stamps ≡ d.stamps
  unfolding arrive_on recorded_on
  turned_away h =
      either d.stamps (bit_is_set (iso_outs d.globals) (e % 16)) (arrived_at e len s) ((ep_on d Out e).armed_slot, s)
      (arrived-stamps ∙ ap (λ (room : Bool). (cond room (written_on d e place len) d).stamps) h)
      refl

  -- the head's slot has the stamp, each other its own
  pub admitted : bit_is_set (iso_outs d.globals) (e % 16) ≡ true → has_room_out (ep_on d Out e) ≡ true
      → (arrive_on e n s).1.0.stamps ≡ set d.stamps (stamp_key e place) d.globals.entered
  unfolding arrive_on recorded_on with_len_on with_stamp_on
  admitted on h =
      ap (λ (b : Bool). (cond b (arrived_at e len s) ((ep_on d Out e).armed_slot, s)).1.0.stamps) on
      ∙ arrived-stamps
      ∙ ap (λ (room : Bool). (cond room (written_on d e place len) d).stamps) h

  pub admitted-stamp : Sized d → bit_is_set (iso_outs d.globals) (e % 16) ≡ true
      → has_room_out (ep_on d Out e) ≡ true → stamp_on (arrive_on e n s).1.0 e place ≡ d.globals.entered
  unfolding stamp_on
  admitted-stamp z on h =
      ap (λ (l : List ℕ). get_or l (stamp_key e place) 0) (admitted on h)
      ∙ get_or-set_same d.stamps (stamp_key e place) d.globals.entered 0
      (omega (arith, z.stamps, stamp_key-lt e place))

  pub admitted-other : bit_is_set (iso_outs d.globals) (e % 16) ≡ true → has_room_out (ep_on d Out e) ≡ true
      → (f j : ℕ) → stamp_key f j ≢ stamp_key e place → stamp_on (arrive_on e n s).1.0 f j ≡ stamp_on d f j
  unfolding stamp_on
  admitted-other on h f j k =
      ap (λ (l : List ℕ). get_or l (stamp_key f j) 0) (admitted on h)
      ∙ get_or-set_other d.stamps (stamp_key e place) (stamp_key f j) d.globals.entered 0 k

-- ---- resets

pub length-filled : (l : List ℕ) (a n v : ℕ) → length (filled l a n v) ≡ length l
unfolding filled
length-filled l a zero v = refl
length-filled l a (suc n) v = length-set (filled l a n v) (a + n) v ∙ length-filled l a n v

filled-out : (l : List ℕ) (a n v k : ℕ) → (k < a) ⊎ (a + n ≤ k) → get_or (filled l a n v) k 0 ≡ get_or l k 0
unfolding filled
filled-out l a zero v k h = refl
filled-out l a (suc n) v k h =
    get_or-set_other (filled l a n v) (a + n) k v 0 (⊎_elim (λ p. λ z. omega arith) (λ p. λ z. omega arith) h)
    ∙ filled-out l a n v k (⊎_elim (λ p. inl p) (λ p. inr (omega arith)) h)

filled_in : (l : List ℕ) (a n v j : ℕ) → j < n → a + n ≤ length l → get_or (filled l a n v) (a + j) 0 ≡ v
unfolding filled
filled_in l a zero v j h w = absurd (omega arith)
filled_in l a (suc n) v j h w = elim (ℕ_discrete j n) [
  | yes p ↦ ap (λ (k : ℕ). get_or (set (filled l a n v) (a + n) v) (a + k) 0) p
      ∙ get_or-set_same (filled l a n v) (a + n) v 0 (omega (arith, length-filled l a n v))
  | no p ↦ get_or-set_other (filled l a n v) (a + n) (a + j) v 0 (λ z. p (omega arith))
      ∙ filled_in l a n v j (omega arith) (omega arith)
]

get_d-none : (n i : ℕ) → ◌≡◌ {A = ℕ} (get_or (replicate n 0) i 0) 0
get_d-none zero i = refl
get_d-none (suc n) zero = refl
get_d-none (suc n) (suc i) = get_d-none n i

module _ (d : Driver) (e : ℕ) where
  pub cleared-stamp : Sized d → (i : ℕ) → stamp_on (clear_stamps d e) e i ≡ 0
  unfolding clear_stamps stamp_on stamp_key
  cleared-stamp z i = filled_in d.stamps (e % 16 * 16) 16 0 (i % 16) (omega arith) (omega (arith, z.stamps))

  pub cleared-other : (f i : ℕ) → f % 16 ≢ e % 16 → stamp_on (clear_stamps d e) f i ≡ stamp_on d f i
  unfolding clear_stamps stamp_on stamp_key
  cleared-other f i h = filled-out d.stamps (e % 16 * 16) 16 0 (f % 16 * 16 + i % 16) (side (f % 16) (e % 16) h)
    where
      side : (x y : ℕ) → x ≢ y → (x * 16 + i % 16 < y * 16) ⊎ (y * 16 + 16 ≤ x * 16 + i % 16)
      side x y n = elim (dec_lt x y) [
        | yes p ↦ inl (omega arith)
        | no p ↦ inr (elim (dec_lt y x) [
          | yes q ↦ omega arith
          | no q ↦ absurd (n (omega arith))
        ])
      ]

  -- after an isochronous OUT was enabled or disabled
  pub renewed-stamp : Sized d → (i : ℕ) → stamp_on (renewed_on d e) e i ≡ 0
  unfolding renewed_on with_on clear_stamps stamp_on stamp_key
  renewed-stamp z i = filled_in d.stamps (e % 16 * 16) 16 0 (i % 16) (omega arith) (omega (arith, z.stamps))

  -- after the bus's reset
  pub reset-stamp : (i : ℕ) → stamp_on (reset_all d) e i ≡ 0
  unfolding reset_all no_stamps stamp_on
  reset-stamp i = get_d-none 256 (stamp_key e i)
