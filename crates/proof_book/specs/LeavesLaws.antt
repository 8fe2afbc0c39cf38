-- What each operation of a script leaves of the driver's state, said once: of the endpoints' records any part f, of the
-- rest any part h. What a theorem needs of it is narrower, and follows in a line
use Rattle.std.specs.Prelude.{Bool, true, false, cond, ◌≡◌, refl, ℕ, zero, suc, ◌%◌, eqb, get_or, set}
use Rattle.std.proofs.Common.{true≢false, sym, ◌∙◌, arith, get_or-set_same, get_or-set_other}
use mathlib.Core.List.{List}
use Rattle.std.proofs.Math.Path.{ap}
use Rattle.std.proofs.Math.Decide.{ℕ_discrete, dec_lt}
use Rattle.std.proofs.Math.ListN.{length, length-set, get_or-eq_default}
use Rattle.bits.specs.Bit.{bit_is_set}
use Rattle.regs.specs.declared.Dir.{Dir}
use Rattle.regs.specs.declared.Dir.TheVariants.{Out, In}
use Rattle.state.specs.declared.EpState.{EpState}
use Rattle.state.specs.declared.Globals.{Globals}
use Rattle.state.specs.declared.Allocator.{Allocator}
use Rattle.state.specs.declared.Request.{Request}
use Rattle.state.specs.declared.Control.{Control}
use Rattle.state.specs.Ep.{reset_of}
use Rattle.state.specs.Kept.{with_ep_config}
use Rattle.state.specs.Fresh.{clear_stamps, no_stamps}
use Rattle.state.specs.WakesLaws.{all-long}
use Rattle.state.specs.Driver.{Driver, key, no_ep, ep_on, with_on, with_len_on, with_stamp_on, with_paced_on, with_request_on}
use Rattle.ring.specs.Slot.{slot_addr, joined_of, passed_of, has_waiting}
use Rattle.ring.specs.Out.{has_room_out, capped_at, overrun_of, arrived_of, armed_at, opened_of, closed_of}
use Rattle.ring.specs.In.{completed_of, loaded_of, unloaded_of}
use Rattle.ring.specs.Copies.{copied}
use Rattle.script.specs.Cells.{same_sort, Cell, Val, globals-cell, control-cell, allocator-cell, ep-cell, request-cell}
use Rattle.script.specs.Cells.{paced_cell}
use Rattle.script.specs.Script.{Act, complete, reset_ring, set_enabled_lem, fill, fill0, open_oldest, close_oldest}
use Rattle.script.specs.Script.{take_oldest, enqueue, allocate, allocate0, no_wakes, waken, DmaStep, arrive, send}
use Rattle.script.specs.Script.{place}
use Rattle.script.specs.Script.{place0, Burst, switch, bus_reset_lem}
use Rattle.script.specs.Statics.{is_on, iso_outs}
use Rattle.script.specs.TransferKinds.{allocates}
use Rattle.script_ops.specs.Records.{plain_of, iso_out, configured, enabled_on}
use Rattle.script_ops.specs.Rings.{St, complete_on, emptied, emptied_on, open_on, close_on, take_on, room_on, queued_on}
use Rattle.script_ops.specs.Rings.{enqueue_on, recorded_on, admitted_on, arrived_at, arrive_on, send_on, place_on, renewed_on}
use Rattle.script_ops.specs.Rings.{arm_at, slot_step, type_step, config_step, reset_below, reset_all}
use Rattle.script_ops.specs.Concrete.{concrete}
use Rattle.script.specs.Steps.{is, turning}
use Rattle.proof_book.specs.ActsLaws.{act_kind}

-- ---- any part

pub record Leaves {X Y : Type 0} (f : EpState → X) (h : Driver → Y) (d d' : Driver) : Type 0 where
  pub places : length d'.eps ≡ length d.eps
  pub each : (dir : Dir) (e : ℕ) → f (ep_on d' dir e) ≡ f (ep_on d dir e)
  pub rest : h d' ≡ h d

-- the record at one place of a list, and at the others
part-set : {X : Type 0} (f : EpState → X) (l : List EpState) (k j : ℕ) (r : EpState) → f r ≡ f (get_or l k no_ep)
    → f (get_or (set l k r) j no_ep) ≡ f (get_or l j no_ep)
part-set f l k j r m = elim (ℕ_discrete j k) [
  | yes p ↦ rw p (elim (dec_lt k (length l)) [
    | yes q ↦ ap f (get_or-set_same l k r no_ep q) ∙ m
    | no q ↦ ap f
        (get_or-eq_default (set l k r) no_ep {n = k} (omega (arith, length-set l k r))
        ∙ sym (get_or-eq_default l no_ep {n = k} (omega arith)))
  ])
  | no p ↦ ap f (get_or-set_other l k j r no_ep p)
]

module _ {X Y : Type 0} {f : EpState → X} {h : Driver → Y} where
  then : {d x y : Driver} → Leaves f h d x → Leaves f h x y → Leaves f h d y
  then p q = record {
    places = q.places ∙ p.places;
    each = λ dir e. q.each dir e ∙ p.each dir e;
    rest = q.rest
        ∙ p.rest;
  }

  -- either answer of a test
  either : {d x y : Driver} (b : Bool) → Leaves f h d x → Leaves f h d y → Leaves f h d (cond b x y)
  either true p q = p
  either false p q = q

  -- a change of other records than the endpoints'
  pub others : (d d' : Driver) → d'.eps ≡ d.eps → h d' ≡ h d → Leaves f h d d'
  unfolding ep_on
  others d d' p r = record {
    places = ap length p;
    each
        = λ dir e. ap (λ (l : List EpState). f (get_or l (key dir e) no_ep)) p;
    rest = r;
  }

  unchanged : (d : Driver) → Leaves f h d d
  unchanged d = others d d refl refl

  -- a change of one endpoint's record that leaves its part
  pub record-leaves : (d : Driver) (dir : Dir) (e : ℕ) (r : EpState) → f r ≡ f (ep_on d dir e) → h (with_on d dir e r) ≡ h d → Leaves f h d (with_on d dir e r)
  unfolding ep_on with_on
  record-leaves d dir e r m n = record {
    places = length-set d.eps (key dir e) r;
    each = λ dir' x. part-set f d.eps (key dir e) (key dir' x) r m;
    rest = n;
  }

  -- a part of the part
  pub narrow : {X' Y' : Type 0} (g : X → X') (k : Y → Y') {d d' : Driver} → Leaves f h d d'
      → Leaves (λ r. g (f r)) (λ x. k (h x)) d d'
  narrow g k p = record { places = p.places; each = λ dir e. ap g (p.each dir e); rest = ap k p.rest }

-- ---- rings, slots and wake-ups: all else stays, but at an allocation

-- all but rings, lengths, stamps, paced microframes and wake-ups, of which the room stays; where an endpoint is turned
-- on or off (`t`), but the kept ep_config too
abbrev pub rest_of : Bool → Driver → Globals × Allocator × List Request × Control × ℕ
rest_of t d = (
  with_ep_config (cond t 0 d.globals.ep_config) d.globals,
  d.allocator,
  d.requests,
  d.control,
  length d.wakes.codes,
)

abbrev pub RingsOnly : Bool → Driver → Driver → Type 0
RingsOnly t = Leaves plain_of (rest_of t)

ring-only : (t : Bool) (d : Driver) (dir : Dir) (e : ℕ) (r : EpState) → plain_of r ≡ plain_of (ep_on d dir e)
    → RingsOnly t d (with_on d dir e r)
unfolding with_on
ring-only t d dir e r m = record-leaves d dir e r m refl

completed-plain : (r : EpState) → plain_of (unloaded_of (completed_of r)) ≡ plain_of r
unfolding unloaded_of completed_of passed_of
completed-plain r = by (eqb r.loaded 0)
  where
    by : (b : Bool) → plain_of (unloaded_of (cond b r (passed_of r))) ≡ plain_of r
    by true = refl
    by false = refl

arrived-plain : (r : EpState) → plain_of (arrived_of r) ≡ plain_of r
unfolding arrived_of joined_of overrun_of
arrived-plain r = by (has_room_out r)
  where
    by : (b : Bool) → plain_of (cond b (joined_of r) (overrun_of r)) ≡ plain_of r
    by true = refl
    by false = refl

queued-leaves : (d : Driver) (e n : ℕ) → RingsOnly false d (queued_on d e n)
unfolding queued_on with_len_on joined_of ep_on
queued-leaves d e n = then (others d (with_len_on d In e _ n) refl refl)
    (ring-only false (with_len_on d In e _ n) In e (joined_of (ep_on d In e)) refl)

-- the change that sets the kept ep_config
abbrev pub turns : Act → Bool
turns q = is (act_kind q) turning

pub act-leaves : (q : Act) → allocates q ≡ false → (s : St) → RingsOnly (turns q) s.0 (concrete.act q s).0
unfolding complete_on emptied_on emptied enabled_on configured open_on opened_of close_on take_on closed_of passed_of enqueue_on
act-leaves (complete e) m s = ring-only false s.0 In e _ (completed-plain (ep_on s.0 In e))
act-leaves (reset_ring d e) m s = either (iso_out s.0 d e) (unchanged s.0) (ring-only false s.0 d e _ refl)
act-leaves (set_enabled_lem d e on) m s = either (iso_out s.0 d e) (unchanged s.0) (others s.0 _ refl refl)
act-leaves (fill e bytes) m s = unchanged s.0
act-leaves (fill0 bytes) m s = unchanged s.0
act-leaves (open_oldest e) m s = either (has_waiting (ep_on s.0 Out e)) (ring-only false s.0 Out e _ refl)
    (unchanged s.0)
act-leaves (close_oldest e) m s = either (is_on (ep_on s.0 Out e).«open») (ring-only false s.0 Out e _ refl)
    (unchanged s.0)
act-leaves (take_oldest e) m s = either (has_waiting (ep_on s.0 Out e)) (ring-only false s.0 Out e _ refl)
    (unchanged s.0)
act-leaves (enqueue e bytes) m s = by (room_on s.0 e (length bytes))
  where
    by : (b : Bool)
        → RingsOnly false s.0 (cond b (
          queued_on s.0 e (length bytes),
          copied s.1
              (slot_addr (ep_on s.0 In e) (ep_on s.0 In e).head) bytes,
        ) s).0
    by true = queued-leaves s.0 e (length bytes)
    by false = unchanged s.0
act-leaves (allocate d kind address maximum interval) m s = absurd (true≢false m)
act-leaves (allocate0 maximum) m s = absurd (true≢false m)
act-leaves no_wakes m s = others s.0 _ refl refl
act-leaves (waken codes) m s =
    let x = rest_of false s.0 in
    others s.0 _ refl (λ i. (x.0, x.1, x.2, x.3, all-long codes s.0.wakes i))

-- a fact of each act: an allocation's, or what follows where rings alone change
pub by-act : {K : Act → Driver → Type 0} (s : St) → ((q : Act) (d : Driver) → RingsOnly (turns q) s.0 d → K q d)
    → ((dir : Dir) (kind address maximum interval : ℕ)
    → K (allocate dir kind address maximum interval) (concrete.act (allocate dir kind address maximum interval) s).0)
    → ((maximum : ℕ) → K (allocate0 maximum) (concrete.act (allocate0 maximum) s).0) → (q : Act)
    → K q (concrete.act q s).0
by-act s k g z (complete e) = k _ _ (act-leaves (complete e) refl s)
by-act s k g z (reset_ring d e) = k _ _ (act-leaves (reset_ring d e) refl s)
by-act s k g z (set_enabled_lem d e on) = k _ _ (act-leaves (set_enabled_lem d e on) refl s)
by-act s k g z (fill e bytes) = k _ _ (act-leaves (fill e bytes) refl s)
by-act s k g z (fill0 bytes) = k _ _ (act-leaves (fill0 bytes) refl s)
by-act s k g z (open_oldest e) = k _ _ (act-leaves (open_oldest e) refl s)
by-act s k g z (close_oldest e) = k _ _ (act-leaves (close_oldest e) refl s)
by-act s k g z (take_oldest e) = k _ _ (act-leaves (take_oldest e) refl s)
by-act s k g z (enqueue e bytes) = k _ _ (act-leaves (enqueue e bytes) refl s)
by-act s k g z (allocate dir kind address maximum interval) = g dir kind address maximum interval
by-act s k g z (allocate0 maximum) = z maximum
by-act s k g z no_wakes = k _ _ (act-leaves no_wakes refl s)
by-act s k g z (waken codes) = k _ _ (act-leaves (waken codes) refl s)

armed-leaves : (d : Driver) (e a : ℕ) → RingsOnly false d (with_on d Out e (armed_at (ep_on d Out e) a))
unfolding armed_at
armed-leaves d e a = ring-only false d Out e _ refl

recorded-leaves : (d : Driver) (e len : ℕ) → RingsOnly false d (recorded_on d e len)
unfolding recorded_on with_len_on with_stamp_on
recorded-leaves d e len = either (has_room_out (ep_on d Out e)) (others d _ refl refl) (unchanged d)

admitted-leaves : (d : Driver) (e len : ℕ) → RingsOnly false d (admitted_on d e len)
unfolding admitted_on
admitted-leaves d e len = let p = recorded-leaves d e len in
    then p (ring-only false (recorded_on d e len) Out e _ (arrived-plain (ep_on d Out e) ∙ sym (p.each Out e)))

pub hand-leaves : (q : DmaStep) (s : St) → RingsOnly false s.0 (concrete.hand q s).1.0
unfolding arrive_on send_on loaded_of place_on
hand-leaves (arrive e n) s = by (bit_is_set (iso_outs s.0.globals) (e % 16))
  where
    by : (b : Bool) → RingsOnly false s.0 (cond b (arrived_at e (capped_at (ep_on s.0 Out e) n) s)
        ((ep_on s.0 Out e).armed_slot, s)).1.0
    by true = let len = capped_at (ep_on s.0 Out e) n in then (admitted-leaves s.0 e len)
        (armed-leaves (admitted_on s.0 e len) e _)
    by false = unchanged s.0
hand-leaves (send e) s = either (has_waiting (ep_on s.0 In e)) (ring-only false s.0 In e _ refl) (unchanged s.0)
hand-leaves (place Out e) s = by (bit_is_set (iso_outs s.0.globals) (e % 16))
  where
    by : (b : Bool) → RingsOnly false s.0 (cond {A = ℕ × Driver} b ((ep_on s.0 Out e).armed_slot, s.0) (
      (ep_on s.0 Out e).base,
      with_on s.0 Out e (armed_at (ep_on s.0 Out e) (ep_on s.0 Out e).base),
    )).1
    by true = unchanged s.0
    by false = armed-leaves s.0 e (ep_on s.0 Out e).base
hand-leaves (place In e) s = unchanged s.0
hand-leaves place0 s = unchanged s.0

-- ---- assignments and rows of accesses: what was given stays

-- what an allocation gave an endpoint: its flag, its kind, its maximum
abbrev pub given_of : EpState → ℕ × ℕ × ℕ
given_of r = (r.iso, r.kind, r.max_len)

-- the stage, the two sets of isochronous endpoints, the kept ep_config, the allocator, the room for wake-ups
abbrev pub held_of : Bool → Driver → ℕ × ℕ × ℕ × ℕ × Allocator × ℕ
held_of t d = (
  d.globals.stage,
  d.globals.iso_out_eps,
  d.globals.iso_in_every,
  cond t 0 d.globals.ep_config,
  d.allocator,
  length d.wakes.codes,
)

-- and the requests
abbrev pub held_and_requests : Bool → Driver → (ℕ × ℕ × ℕ × ℕ × Allocator × ℕ) × List Request
held_and_requests t d = (held_of t d, d.requests)

abbrev pub GivenStays : Bool → Driver → Driver → Type 0
GivenStays t = Leaves given_of (held_of t)

abbrev pub RequestsStay : Bool → Driver → Driver → Type 0
RequestsStay t = Leaves given_of (held_and_requests t)

pub given_stays : (t : Bool) {d d' : Driver} → RequestsStay t d d' → GivenStays t d d'
given_stays t p = narrow (λ r. r) (λ x. x.0) p

-- where rings alone change
pub rings-stay : (t : Bool) {d d' : Driver} → RingsOnly t d d' → RequestsStay t d d'
rings-stay t p =
    narrow (λ r. (r.iso, r.kind, r.max_len))
    (λ x. ((x.0.stage, x.0.iso_out_eps, x.0.iso_in_every, x.0.ep_config, x.1, x.4), x.2)) p

record-stays : (t : Bool) (d : Driver) (dir : Dir) (e : ℕ) (r : EpState) → given_of r ≡ given_of (ep_on d dir e)
    → RequestsStay t d (with_on d dir e r)
unfolding with_on
record-stays t d dir e r m = record-leaves d dir e r m refl

pub put-given : (c : Cell) (v : Val c) (s : St) → GivenStays false s.0 (concrete.put c v s).0
unfolding with_request_on with_paced_on
put-given globals-cell v s = others s.0 _ refl refl
put-given control-cell v s = others s.0 _ refl refl
put-given allocator-cell v s = unchanged s.0
put-given (ep-cell d e) v s = given_stays false (record-stays false s.0 d e _ refl)
put-given (request-cell d e) v s = others s.0 _ refl refl
put-given (paced_cell e) v s = others s.0 _ refl refl

abbrev pub is_request : Cell → Bool
is_request c = same_sort c (request-cell Out 0)

put-requests : (c : Cell) → is_request c ≡ false → (v : Val c) (s : St) → (concrete.put c v s).0.requests
    ≡ s.0.requests
unfolding with_on with_paced_on
put-requests globals-cell m v s = refl
put-requests control-cell m v s = refl
put-requests allocator-cell m v s = refl
put-requests (ep-cell d e) m v s = refl
put-requests (request-cell d e) m v s = absurd (true≢false m)
put-requests (paced_cell e) m v s = refl

pub put_stays : (c : Cell) → is_request c ≡ false → (v : Val c) (s : St)
    → RequestsStay false s.0 (concrete.put c v s).0
put_stays c m v s = let p = put-given c v s in record {
  places = p.places;
  each = p.each;
  rest
      = λ i. (p.rest i, put-requests c m v s i);
}

renewed-stays : (d : Driver) (e : ℕ) → RequestsStay false d (renewed_on d e)
unfolding renewed_on clear_stamps ep_on
renewed-stays d e = let x = clear_stamps d e in then (others d x refl refl) (record-stays false x Out e _ refl)

slot-stays : (e k : ℕ) (s : St) → RequestsStay false s.0 (slot_step e k s).1.0
unfolding slot_step
slot-stays e k s = by (is_on (ep_on s.0 Out e).iso) (eqb k 15)
  where
    by : (b c : Bool) → RequestsStay false s.0 (cond b (arm_at e k (cond c (renewed_on s.0 e) s.0, s.1))
        ((ep_on s.0 Out e).armed_slot, s)).1.0
    by true c = then (either c (renewed-stays s.0 e) (unchanged s.0))
        (rings-stay false (armed-leaves (cond c (renewed_on s.0 e) s.0) e _))
    by false c = unchanged s.0

below_stays : (n : ℕ) (d : Driver) → RequestsStay false d (reset_below n d)
unfolding reset_below
below_stays zero d = unchanged d
below_stays (suc n) d =
    let x = reset_below n d in
    let y = with_on x Out n (reset_of (ep_on x Out n)) in
    then (below_stays n d) (then (record-stays false x Out n (reset_of (ep_on x Out n)) refl)
    (record-stays false y In n (reset_of (ep_on y In n)) refl))

all-stays : (d : Driver) → RequestsStay false d (reset_all d)
unfolding reset_all no_stamps
all-stays d = then (below_stays 16 d) (others (reset_below 16 d) _ refl refl)

-- the accesses that write ep_config
abbrev pub turns_row : Burst → ℕ → Bool
turns_row (switch e on) zero = true
turns_row (switch e on) (suc n) = false
turns_row bus_reset_lem zero = false
turns_row bus_reset_lem (suc zero) = false
turns_row bus_reset_lem (suc (suc zero)) = false
turns_row bus_reset_lem (suc (suc (suc n))) = true

pub row_stays : (g : Burst) (n : ℕ) (s : St) → RequestsStay (turns_row g n) s.0 (concrete.row g n s).1.0
unfolding config_step type_step
row_stays (switch e on) zero s = others s.0 _ refl refl
row_stays (switch e on) (suc zero) s = others s.0 _ refl refl
row_stays (switch e on) (suc (suc zero)) s = unchanged s.0
row_stays (switch e on) (suc (suc (suc k))) s = slot-stays e k s
row_stays bus_reset_lem zero s = all-stays s.0
row_stays bus_reset_lem (suc zero) s = unchanged s.0
row_stays bus_reset_lem (suc (suc zero)) s = others s.0 _ refl refl
row_stays bus_reset_lem (suc (suc (suc k))) s = others s.0 _ refl refl
