-- Laws on the definitions of Settled.antt
use Rattle.std.specs.Prelude.{Bool, true, false, cond, ◌||◌, ◌≡◌, refl, ℕ, zero, suc, ◌%◌, eqb, ltb, length}
use Rattle.std.proofs.Common.{true≢false, ap, sym, ◌∙◌}
use Rattle.bits.specs.Bit.{bit_is_set}
use Rattle.regs.specs.declared.Dir.{Dir}
use Rattle.regs.specs.declared.Dir.TheVariants.{Out, In}
use Rattle.state.specs.declared.Control.{Control}
use Rattle.state.specs.declared.Globals.{Globals}
use Rattle.state.specs.Driver.{Driver, ep_on, with_on, with_len_on, with_stamp_on, with_paced_on, with_request_on}
use Rattle.state.specs.Fresh.{clear_stamps, no_stamps}
use Rattle.alloc.specs.declared.Answer.{Answer}
use Rattle.alloc.specs.declared.Answer.TheVariants.{Refused, Given}
use Rattle.alloc.specs.Alloc.{allocate_of, is_iso}
use Rattle.ring.specs.Slot.{slot_addr, has_waiting}
use Rattle.ring.specs.Out.{has_room_out, capped_at}
use Rattle.ring.specs.Copies.{copied}
use Rattle.script.specs.Cells.{Cell, Val, globals-cell, control-cell, allocator-cell, ep-cell, request-cell, paced_cell}
use Rattle.script.specs.Script.{Act, complete, reset_ring, set_enabled_lem, fill, fill0, open_oldest, close_oldest}
use Rattle.script.specs.Script.{take_oldest, enqueue, allocate, allocate0, no_wakes, waken, DmaStep, arrive, send}
use Rattle.script.specs.Script.{place}
use Rattle.script.specs.Script.{place0, Burst, switch, bus_reset_lem}
use Rattle.script.specs.Statics.{is_on, iso_outs}
use Rattle.script.specs.Acts.{same_act}
use Rattle.script.specs.TransferKinds.{allocates}
use Rattle.script_ops.specs.Records.{iso_out, configured, enabled_on, iso_added, with_sets, record_given, sets_given, given_to}
use Rattle.script_ops.specs.Records.{allocated_on}
use Rattle.script_ops.specs.Rings.{St, complete_on, emptied, emptied_on, open_on, close_on, take_on, room_on, queued_on}
use Rattle.script_ops.specs.Rings.{enqueue_on, recorded_on, admitted_on, arrived_at, arrive_on, send_on, place_on, renewed_on}
use Rattle.script_ops.specs.Rings.{arm_at, slot_step, type_step, config_step, reset_below, reset_all, row_on}
use Rattle.script_ops.specs.Concrete.{put_on, act_on, hand_on}
use Rattle.proof_wake_ups.specs.Still.{placed_by}
use Rattle.proof_isolation.specs.EqualExcept.{Bounded}
use Rattle.proof_isolation.specs.Settled.{is_control}

pub record Settled (d x : Driver) : Type 0 where
  pub control : x.control ≡ d.control
  pub stage : x.globals.stage ≡ d.globals.stage
  pub most : x.globals.ep0_max ≡ d.globals.ep0_max

pub settled-bounded : {d x : Driver} → Settled d x → Bounded d → Bounded x
settled-bounded s b h = let k = b (sym (ap (λ (v : Control). v.sort) s.control) ∙ h) in
    (s.stage ∙ k.0, rw (s.control, s.most) k.1)

same : (d : Driver) → Settled d d
same d = record { control = refl; stage = refl; most = refl }

either : (b : Bool) (d : Driver) {x y : Driver} → Settled d x → Settled d y → Settled d (cond b x y)
either true d p q = p
either false d p q = q

pub put-settled : (c : Cell) → is_control c ≡ false → (v : Val c) (s : St) → Settled s.0 (put_on c v s).0
unfolding with_on with_request_on with_paced_on
put-settled globals-cell h v s = record { control = refl; stage = refl; most = refl }
put-settled control-cell h v s = absurd (true≢false h)
put-settled allocator-cell h v s = record { control = refl; stage = refl; most = refl }
put-settled (ep-cell d e) h v s = record { control = refl; stage = refl; most = refl }
put-settled (request-cell d e) h v s = record { control = refl; stage = refl; most = refl }
put-settled (paced_cell e) h v s = record { control = refl; stage = refl; most = refl }

-- ---- changes

abbrev pub starts : Act → Bool
starts q = same_act q (allocate0 0)

pub no_start : (q : Act) → allocates q ≡ false → starts q ≡ false
no_start q h = by (same_act q (allocate Out 0 0 0 0)) h
  where
    by : {b : Bool} (a : Bool) → a || b ≡ false → b ≡ false
    by true h = absurd (true≢false h)
    by false h = h

sets-settled : (dir : Dir) (kind interval e : ℕ) (g : Globals)
    → ((with_sets dir kind interval e g).stage ≡ g.stage) × ((with_sets dir kind interval e g).ep0_max ≡ g.ep0_max)
unfolding with_sets
sets-settled dir kind interval e g = by (is_iso kind) dir
  where
    often : (b : Bool) (x : Globals) → (x.stage ≡ g.stage)
        × (x.ep0_max ≡ g.ep0_max) → ((cond b x g).stage ≡ g.stage) × ((cond b x g).ep0_max ≡ g.ep0_max)
    often true x h = h
    often false x h = (refl, refl)

    by : (b : Bool) (dir : Dir) → ((cond b (iso_added dir interval e g) g).stage ≡ g.stage)
        × ((cond b (iso_added dir interval e g) g).ep0_max ≡ g.ep0_max)
    by true Out = (refl, refl)
    by true In = often (ltb interval 2) _ (refl, refl)
    by false dir = (refl, refl)

given-settled : (dir : Dir) (kind maximum interval : ℕ) (a : Answer) (d : Driver)
    → Settled d (given_to dir kind maximum interval a d)
unfolding given_to sets_given record_given with_on
given-settled dir kind maximum interval (Refused n) d = same d
given-settled dir kind maximum interval (Given e base slots) d = let k
    = sets-settled dir kind interval e d.globals in
    record { control = refl; stage = k.0; most = k.1 }

pub act-settled : (q : Act) → starts q ≡ false → (s : St) → Settled s.0 (act_on q s).0
unfolding complete_on emptied emptied_on enabled_on configured open_on close_on take_on enqueue_on queued_on allocated_on with_on
    with_len_on
act-settled (complete e) h s = record { control = refl; stage = refl; most = refl }
act-settled (reset_ring d e) h s = either (iso_out s.0 d e) s.0 (same s.0)
    (record { control = refl; stage = refl; most = refl })
act-settled (set_enabled_lem d e on) h s = either (iso_out s.0 d e) s.0 (same s.0)
    (record { control = refl; stage = refl; most = refl })
act-settled (fill e bytes) h s = same s.0
act-settled (fill0 bytes) h s = same s.0
act-settled (open_oldest e) h s = either (has_waiting (ep_on s.0 Out e)) s.0
    (record { control = refl; stage = refl; most = refl }) (same s.0)
act-settled (close_oldest e) h s = either (is_on (ep_on s.0 Out e).«open») s.0
    (record { control = refl; stage = refl; most = refl }) (same s.0)
act-settled (take_oldest e) h s = either (has_waiting (ep_on s.0 Out e)) s.0
    (record { control = refl; stage = refl; most = refl }) (same s.0)
act-settled (enqueue e bytes) h s = by (room_on s.0 e (length bytes))
  where
    by : (b : Bool) → Settled s.0 (cond b (
      queued_on s.0 e (length bytes),
      copied s.1 (slot_addr (ep_on s.0 In e) (ep_on s.0 In e).head) bytes,
    ) s).0
    by true = record { control = refl; stage = refl; most = refl }
    by false = same s.0
act-settled (allocate d kind address maximum interval) h s =
    let k = given-settled d kind maximum interval (allocate_of s.0.allocator kind address maximum d).answer _ in
    record { control = k.control; stage = k.stage; most = k.most }
act-settled (allocate0 maximum) h s = absurd (true≢false h)
act-settled no_wakes h s = record { control = refl; stage = refl; most = refl }
act-settled (waken codes) h s = record { control = refl; stage = refl; most = refl }

recorded-settled : (d : Driver) (e len : ℕ) → Settled d (recorded_on d e len)
unfolding recorded_on with_len_on with_stamp_on
recorded-settled d e len = either (has_room_out (ep_on d Out e)) d (record { control = refl; stage = refl; most = refl })
    (same d)

pub hand-settled : (q : DmaStep) (s : St) → Settled s.0 (hand_on q s).1.0
unfolding arrive_on admitted_on send_on place_on with_on
hand-settled (arrive e n) s = by (bit_is_set (iso_outs s.0.globals) (e % 16))
  where
    by : (b : Bool) → Settled s.0 (cond b (arrived_at e (capped_at (ep_on s.0 Out e) n) s)
        ((ep_on s.0 Out e).armed_slot, s)).1.0
    by true = let k = recorded-settled s.0 e (capped_at (ep_on s.0 Out e) n) in record {
      control = k.control;
      stage
          = k.stage;
      most = k.most;
    }
    by false = same s.0
hand-settled (send e) s = either (has_waiting (ep_on s.0 In e)) s.0
    (record { control = refl; stage = refl; most = refl }) (same s.0)
hand-settled (place Out e) s = placed_by (Settled s.0) s e (same s.0)
    (record { control = refl; stage = refl; most = refl })
hand-settled (place In e) s = same s.0
hand-settled place0 s = same s.0

-- ---- rows

renewed-settled : (b : Bool) (d : Driver) (e : ℕ) → Settled d (cond b (renewed_on d e) d)
unfolding renewed_on clear_stamps with_on
renewed-settled true d e = record { control = refl; stage = refl; most = refl }
renewed-settled false d e = same d

slot-settled : (e k : ℕ) (s : St) → Settled s.0 (slot_step e k s).1.0
unfolding slot_step with_on
slot-settled e k s = by (is_on (ep_on s.0 Out e).iso) (eqb k 15)
  where
    by : (b c : Bool) → Settled s.0 (cond b (arm_at e k (cond c (renewed_on s.0 e) s.0, s.1))
        ((ep_on s.0 Out e).armed_slot, s)).1.0
    by true c = let k = renewed-settled c s.0 e in record { control = k.control; stage = k.stage; most = k.most }
    by false c = same s.0

below-settled : (n : ℕ) (d : Driver) → Settled d (reset_below n d)
unfolding reset_below with_on
below-settled zero d = same d
below-settled (suc n) d = let k = below-settled n d in record { control = k.control; stage = k.stage; most = k.most }

pub row_settled : (g : Burst) (n : ℕ) (s : St) → Settled s.0 (row_on g n s).1.0
unfolding config_step type_step reset_all no_stamps
row_settled (switch e on) zero s = record { control = refl; stage = refl; most = refl }
row_settled (switch e on) (suc zero) s = record { control = refl; stage = refl; most = refl }
row_settled (switch e on) (suc (suc zero)) s = same s.0
row_settled (switch e on) (suc (suc (suc k))) s = slot-settled e k s
row_settled bus_reset_lem zero s = let k = below-settled 16 s.0 in record {
  control = k.control;
  stage = k.stage;
  most
      = k.most;
}
row_settled bus_reset_lem (suc zero) s = same s.0
row_settled bus_reset_lem (suc (suc zero)) s = record { control = refl; stage = refl; most = refl }
row_settled bus_reset_lem (suc (suc (suc k))) s = record { control = refl; stage = refl; most = refl }
