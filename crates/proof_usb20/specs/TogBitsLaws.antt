-- Every operation keeps the recorded toggles 0 or 1, if what is assigned is; so does every script that assigns what it
-- got, 0, or the chip's bit
use Rattle.std.specs.Prelude.{Bool, true, false, cond, List, ◌≡◌, refl, ℕ, zero, suc, ◌<◌, eqb, length, get_or, set}
use Rattle.std.proofs.Common.{true≢false, inl, inr, ap, subst, sym, arith, length-set, get_or-set_same, get_or-set_other}
use Rattle.std.proofs.Math.Decide.{ℕ_discrete, dec_lt}
use Rattle.std.proofs.Math.ListN.{get_or-eq_default}
use Rattle.regs.specs.declared.Reg.{Reg}
use Rattle.regs.specs.declared.Dir.{Dir}
use Rattle.regs.specs.declared.Dir.TheVariants.{Out, In}
use Rattle.state.specs.declared.EpState.{EpState}
use Rattle.state.specs.Ep.{reset_of}
use Rattle.state.specs.Fresh.{clear_stamps, no_stamps}
use Rattle.state.specs.Driver.{Driver, key, no_ep, ep_on, with_on, with_paced_on, with_request_on}
use Rattle.ring.specs.Out.{armed_at}
use Rattle.alloc.specs.Alloc.{allocate_of, allocate_ep0_of, allocated}
use Rattle.alloc.specs.declared.Answer as alloc-answer
use Rattle.alloc.specs.declared.Answer.TheVariants as alloc
use Rattle.script.specs.Cells.{same_sort, EpCore, Cell, Val, globals-cell, control-cell, allocator-cell, ep-cell}
use Rattle.script.specs.Cells.{request-cell, paced_cell}
use Rattle.script.specs.Script.{Script, run, ret, bind, test, read_then, write_then, wait_then, callback_then}
use Rattle.script.specs.Script.{get_then, put_then, is_then, look_then, fetch_then, act_then, hand_then, row_then, Test}
use Rattle.script.specs.Script.{Look, Fetch, Act}
use Rattle.script.specs.Script.{DmaStep, Burst}
use Rattle.script.specs.Script.{switch, bus_reset_lem, last_of}
use Rattle.script.specs.Statics.{is_on, flag}
use Rattle.script.specs.StepsRuns.{Holds, end, ask}
use Rattle.script.specs.StepsRunsLaws.{holds-bind, holds_rows}
use Rattle.script.specs.MachineKept.{LentKeeps}
use Rattle.script_ops.specs.Records.{merged, record_given, sets_given, given_to, allocated_on, started_with, allocated_ep0}
use Rattle.script_ops.specs.Rings.{St, renewed_on, arm_at, slot_step, type_step, config_step, reset_below, reset_all}
use Rattle.script_ops.specs.Concrete.{concrete}
use Rattle.proof_book.specs.LeavesLaws.{RingsOnly, turns, by-act, hand-leaves}
use Rattle.proof_usb20.specs.TogBits.{IsBit, TogBits}

-- ---- states

rings-bits : (t : Bool) {d d' : Driver} → RingsOnly t d d' → TogBits d → TogBits d'
rings-bits t p k = record {
  bits = λ dir e. subst IsBit (sym (ap (λ (x : EpCore). x.tog) (p.each dir e)))
      (k.bits dir e);
}

else-bits : {d d' : Driver} → d'.eps ≡ d.eps → TogBits d → TogBits d'
unfolding ep_on
else-bits p k = record { bits = λ dir e. rw p (k.bits dir e) }

past_end : (l : List EpState) (k : ℕ) (r : EpState) → (k < length l → ⊥) → get_or (set l k r) k no_ep ≡ no_ep
past_end l k r q = get_or-eq_default (set l k r) no_ep {n = k} (omega (arith, length-set l k r))

-- one record assigned: past the end of the list the record is 0
record-bits : {d : Driver} (dir : Dir) (e : ℕ) (r : EpState) → IsBit r.tog → TogBits d → TogBits (with_on d dir e r)
unfolding ep_on with_on
record-bits {d} dir e r h k = record {
  bits = λ dir' x. elim (ℕ_discrete (key dir' x) (key dir e)) [
    | yes p ↦ rw p (elim (dec_lt (key dir e) (length d.eps)) [
      | yes q ↦ rw (get_or-set_same d.eps (key dir e) r no_ep q) h
      | no q ↦ rw (past_end d.eps (key dir e) r q) (inl refl)
    ])
    | no p ↦ rw (get_or-set_other d.eps (key dir e) (key dir' x) r no_ep p) (k.bits dir' x)
  ];
}

either : {x y : Driver} (b : Bool) → TogBits x → TogBits y → TogBits (cond b x y)
either true p q = p
either false p q = q

-- ---- each operation

abbrev is_ep : Cell → Bool
is_ep c = same_sort c (ep-cell Out 0)

put-bits : (c : Cell) → is_ep c ≡ false → (v : Val c) (s : St) → TogBits s.0 → TogBits (concrete.put c v s).0
unfolding with_paced_on with_request_on
put-bits globals-cell h v s k = else-bits refl k
put-bits control-cell h v s k = else-bits refl k
put-bits allocator-cell h v s k = k
put-bits (ep-cell d e) h v s k = absurd (true≢false h)
put-bits (request-cell d e) h v s k = else-bits refl k
put-bits (paced_cell e) h v s k = else-bits refl k

given-bits : {d : Driver} (dir : Dir) (kind maximum interval : ℕ) (a : alloc-answer.Answer) → TogBits d
    → TogBits (given_to dir kind maximum interval a d)
unfolding given_to sets_given record_given allocated
given-bits dir kind maximum interval (alloc.Refused n) k = k
given-bits dir kind maximum interval (alloc.Given e base slots) k = else-bits refl (record-bits dir e _ (inl refl) k)

started-bits : {d : Driver} (maximum : ℕ) (a : alloc-answer.Answer) → TogBits d → TogBits (started_with maximum a d)
unfolding started_with
started-bits maximum (alloc.Refused n) k = k
started-bits maximum (alloc.Given e base slots) k = else-bits refl k

act-bits : (q : Act) (s : St) → TogBits s.0 → TogBits (concrete.act q s).0
unfolding allocated_on allocated_ep0
act-bits q s k =
    let a = s.0.allocator in
    by-act {K = λ _ d. TogBits d} s (λ q _ p. rings-bits (turns q) p k)
    (λ dir kind address maximum interval. given-bits dir kind maximum interval
    (allocate_of a kind address maximum dir).answer (else-bits refl k))
    (λ maximum. started-bits maximum (allocate_ep0_of a maximum).answer (else-bits refl k)) q

-- ---- rows

armed-bits : (d : Driver) (e a : ℕ) → TogBits d → TogBits (with_on d Out e (armed_at (ep_on d Out e) a))
unfolding armed_at
armed-bits d e a k = record-bits Out e _ (k.bits Out e) k

renewed-bits : (d : Driver) (e : ℕ) → TogBits d → TogBits (renewed_on d e)
unfolding renewed_on clear_stamps
renewed-bits d e k = record-bits Out e _ (inl refl) (else-bits refl k)

slot-bits : (e k : ℕ) (s : St) → TogBits s.0 → TogBits (slot_step e k s).1.0
unfolding slot_step
slot-bits e k s h = by (is_on (ep_on s.0 Out e).iso) (eqb k 15)
  where
    fresh : Bool → Driver
    fresh c = cond c (renewed_on s.0 e) s.0

    by : (b c : Bool)
        → TogBits (cond b (arm_at e k (fresh c, s.1)) ((ep_on s.0 Out e).armed_slot, s)).1.0
    by true c = armed-bits (fresh c) e _ (either c (renewed-bits s.0 e h) h)
    by false c = h

below-bits : (n : ℕ) (d : Driver) → TogBits d → TogBits (reset_below n d)
unfolding reset_below
below-bits zero d k = k
below-bits (suc n) d k =
    let x = reset_below n d in
    let y = with_on x Out n (reset_of (ep_on x Out n)) in
    let z : TogBits y = record-bits Out n (reset_of (ep_on x Out n)) (inl refl) (below-bits n d k) in
    record-bits In n (reset_of (ep_on y In n)) (inl refl) z

row-bits : (g : Burst) (n : ℕ) (s : St) → TogBits s.0 → TogBits (concrete.row g n s).1.0
unfolding config_step type_step reset_all no_stamps
row-bits (switch e on) zero s k = else-bits refl k
row-bits (switch e on) (suc zero) s k = else-bits refl k
row-bits (switch e on) (suc (suc zero)) s k = k
row-bits (switch e on) (suc (suc (suc n))) s k = slot-bits e n s k
row-bits bus_reset_lem zero s k = else-bits refl (below-bits 16 s.0 k)
row-bits bus_reset_lem (suc zero) s k = k
row-bits bus_reset_lem (suc (suc zero)) s k = else-bits refl k
row-bits bus_reset_lem (suc (suc (suc n))) s k = else-bits refl k

-- ---- scripts

pub record KeepsBits {i : Bool} {A : Type 0} (p : Script i A) : Type 0 where
  pub on : (s : St) → TogBits s.0 → Holds (LentKeeps TogBits) (run concrete p s)

-- the chip's bit, and DATA0
pub bit-read : (b : Bool) → IsBit (flag b)
bit-read true = inr refl
bit-read false = inl refl

pub bit-0 : IsBit 0
bit-0 = inl refl

module _ {i : Bool} {A : Type 0} where
  pub k-ret : {a : A} → KeepsBits {i = i} (ret a)
  k-ret = record { on = λ s b. end b }

  pub k_bind : {B : Type 0} {p : Script i B} {f : B → Script i A} → KeepsBits p → ((b : B) → KeepsBits (f b))
      → KeepsBits (bind p f)
  k_bind h g = record { on = λ s b. holds-bind (h.on s b) (λ a t c. (g a).on t c) }

  pub k_test : {b : Bool} {p q : Script i A} → KeepsBits p → KeepsBits q → KeepsBits (test b p q)
  k_test {b} {p} {q} h g = by b
    where
      by : (b : Bool) → KeepsBits (test b p q)
      by true = record { on = λ s c. h.on s c }
      by false = record { on = λ s c. g.on s c }

  pub k-read : {r : Reg} {e : ℕ} {k : ℕ → Script i A} → ((v : ℕ) → KeepsBits (k v)) → KeepsBits (read_then r e k)
  k-read h = record { on = λ s b. ask b (λ v t c. (h v).on t c) }

  pub k-write : {r : Reg} {e v : ℕ} {p : Script i A} → KeepsBits p → KeepsBits (write_then r e v p)
  k-write h = record { on = λ s b. ask b (λ v t c. h.on t c) }

  pub k-wait : {n : ℕ} {p : Script i A} → KeepsBits p → KeepsBits (wait_then n p)
  k-wait h = record { on = λ s b. ask b (λ v t c. h.on t c) }

  pub k-callback : {p : Script i A} → KeepsBits p → KeepsBits (callback_then p)
  k-callback h = record { on = λ s b. ask b (λ v t c. h.on t c) }

  -- a record's toggle is 0 or 1 where it is got
  pub k-got : {d : Dir} {e : ℕ} {f : EpCore → Script i A} → ((p : EpCore) → IsBit p.tog → KeepsBits (f p))
      → KeepsBits (bind (get_then (ep-cell d e) ret) f)
  k-got {d} {e} h = record { on = λ s b. (h _ (b.bits d e)).on s b }

  pub k-get : {c : Cell} {k : Val c → Script i A} → ((v : Val c) → KeepsBits (k v)) → KeepsBits (get_then c k)
  k-get h = record { on = λ s b. (h _).on s b }

  pub k-put : {c : Cell} {v : Val c} {p : Script i A} → is_ep c ≡ false → KeepsBits p → KeepsBits (put_then c v p)
  k-put {c} {v} e h = record { on = λ s b. h.on _ (put-bits c e v s b) }

  pub k-assigned : {d : Dir} {e : ℕ} {v : EpCore} {p : Script i A} → IsBit v.tog → KeepsBits p
      → KeepsBits (put_then (ep-cell d e) v p)
  k-assigned {d} {e} {v} t h = record { on = λ s b. h.on _ (record-bits d e (merged (ep_on s.0 d e) v) t b) }

  pub k-is : {q : Test} {k : Bool → Script i A} → ((b : Bool) → KeepsBits (k b)) → KeepsBits (is_then q k)
  k-is h = record { on = λ s b. (h _).on s b }

  pub k-look : {q : Look} {k : ℕ → Script i A} → ((n : ℕ) → KeepsBits (k n)) → KeepsBits (look_then q k)
  k-look h = record { on = λ s b. (h _).on s b }

  pub k-fetch : {q : Fetch} {k : List ℕ → Script i A} → ((l : List ℕ) → KeepsBits (k l)) → KeepsBits (fetch_then q k)
  k-fetch h = record { on = λ s b. (h _).on s b }

  pub k-act : {q : Act} {p : Script i A} → KeepsBits p → KeepsBits (act_then q p)
  k-act {q} h = record { on = λ s b. h.on _ (act-bits q s b) }

  pub k-hand : {q : DmaStep} {p : Script i A} → KeepsBits p → KeepsBits (hand_then q p)
  k-hand {q} h = record { on = λ s b. ask (rings-bits false (hand-leaves q s) b) (λ v t c. h.on t c) }

pub k-row : {A : Type 0} {g : Burst} {p : Script false A} → KeepsBits p → KeepsBits (row_then g p)
k-row {g = g} h = record { on = λ s b. holds_rows concrete g (row-bits g) (last_of g) (λ t c. h.on t c) s b }

-- rules by which a script is taken apart: what it got and assigns, and the rest
pub ruleset assigning = (k-got, k-get, k-put, k-assigned, bit-read, bit-0)

pub ruleset going = (k-read, k-write, k-wait, k-callback, k-is, k-look, k-fetch, k-act, k-hand, k-row)

pub ruleset keeping = (k-ret, assigning, k_bind, k_test, going)
