-- What the rings' operations come to. Assumes nothing.
use Rattle.std.specs.Prelude.{◌≡◌, refl, Bool, true, false, not, cond, ◌&&◌, List, ℕ, ◌+◌, ◌≤◌, ltb, length}
use Rattle.std.proofs.Common.{sym, ap, ◌∙◌, add-one, arith, ltb-false}
use Rattle.regs.specs.declared.Dir.{Dir}
use Rattle.regs.specs.declared.Dir.TheVariants.{Out, In}
use Rattle.state.specs.declared.EpState.{EpState}
use Rattle.state.specs.Ep.{reset_of}
use Rattle.state.specs.Driver.{Driver, ep_on, with_on, with_len_on, with_stamp_on}
use Rattle.state.specs.Laws.{ep_on-stored, with_on-twice}
use Rattle.ring.specs.Slot.{slot_of, slot_addr}
use Rattle.ring.specs.Out.{has_room_out, arrived_of, armed_at}
use Rattle.ring.specs.In.{has_room_in}
use Rattle.script.specs.Statics.{is_on}
use Rattle.script_ops.specs.Rings.{room_in, reset_below}
use Rattle.script_ops.specs.Rings.{written_on, recorded_on, admitted_on, arm_by, arm_at, arrived_at}

third : (x y z : Bool) → (x && (y && not z)) ≡ true → z ≡ false
third true true false h = refl
third true true true h = absurd (let z : ◌≡◌ {A = ℕ} 0 1 = cc in omega arith)
third true false z h = absurd (let z : ◌≡◌ {A = ℕ} 0 1 = cc in omega arith)
third false y z h = absurd (let z : ◌≡◌ {A = ℕ} 0 1 = cc in omega arith)

-- bytes for which there is room fit a slot
pub room_fits : (r : EpState) (n : ℕ) → room_in r n ≡ true → n ≤ r.stride
unfolding room_in
room_fits r n h = ltb-false r.stride n (third (is_on r.iso) (has_room_in r) (ltb r.stride n) h)

-- one record reset
abbrev pub renewed : Dir → ℕ → Driver → Driver
renewed dir e d = with_on d dir e (reset_of (ep_on d dir e))

last : (n : ℕ) (d : Driver) → renewed In n (renewed Out n (reset_below n d)) ≡ reset_below (n + 1) d
unfolding reset_below
last n d = rw (add-one n) refl

-- endpoint n after those below it
pub reset-next : (n : ℕ) (d x : Driver) → x ≡ reset_below n d → renewed In n (renewed Out n x) ≡ reset_below (n + 1) d
reset-next n d x h = ap (λ (y : Driver). renewed In n (renewed Out n y)) h ∙ last n d

-- ---- a record loaded once and stored once

-- a record that is stored, then loaded and armed
arm-stored : (e i : ℕ) (d : Driver) (b : List ℕ) (r : EpState) → length d.eps ≡ 32 → arm_at e i (with_on d Out e r, b)
    ≡ arm_by e r i (d, b)
arm-stored e i d b r h =
    ap (λ (q : EpState). arm_by e q i (with_on d Out e r, b)) (ep_on-stored d Out e r h)
    ∙ ap (λ (x : Driver). ((arm_by e r i (d, b)).0, (x, (arm_by e r i (d, b)).1.1)))
    (with_on-twice d Out e r (armed_at r (slot_addr r i)))

recorded-eps : (d : Driver) (e len : ℕ) → (recorded_on d e len).eps ≡ d.eps
unfolding recorded_on with_len_on with_stamp_on
recorded-eps d e len = by (has_room_out (ep_on d Out e))
  where
    by : (b : Bool) → (cond b (written_on d e (slot_of (ep_on d Out e) (ep_on d Out e).head) len) d).eps ≡ d.eps
    by true = refl
    by false = refl

-- an arrival: the packet recorded, then the record with the arrival and the head's slot armed
pub arrived-once : (e len : ℕ) (d : Driver) (b : List ℕ) → length d.eps ≡ 32
    → arm_by e (arrived_of (ep_on d Out e)) (arrived_of (ep_on d Out e)).head (recorded_on d e len, b)
    ≡ arrived_at e len (d, b)
unfolding admitted_on
arrived-once e len d b h =
    let x = recorded_on d e len in
    let r = arrived_of (ep_on d Out e) in
    let w = ap length (recorded-eps d e len) ∙ h in
    sym (ap (λ (q : EpState). arm_at e q.head (with_on x Out e r, b)) (ep_on-stored x Out e r w)
    ∙ arm-stored e r.head x b r w)
