-- Allocation, EP0's start and enabling agree
use Rattle.std.specs.Prelude.{Bool, true, false, cond, ◌≡◌, refl, ℕ, ◌+◌, ◌*◌, ◌%◌, ◌≤◌}
use Rattle.std.proofs.Common.{inr, ap, subst, sym, ◌∙◌, arith, add-mul, mul-le-mul_right, ne_eqb}
use Rattle.std.proofs.Math.Decide.{ℕ_discrete}
use Rattle.bits.specs.Bit.{bit_is_set, both}
use Rattle.regs.specs.declared.Dir.{Dir}
use Rattle.regs.specs.declared.Dir.TheVariants.{Out, In}
use Rattle.regs.specs.Enables as enables
use Rattle.state.specs.declared.EpState.{EpState}
use Rattle.state.specs.declared.Globals.{Globals}
use Rattle.state.specs.declared.Allocator.{Allocator}
use Rattle.state.specs.Driver.{Driver, ep_on, with_on, len_on, stamp_on, paced_on, request_on, with_allocator}
use Rattle.alloc.specs.declared.Allocation.{Allocation}
use Rattle.alloc.specs.Alloc.{allocated_ins, allocate_of, allocate_ep0_of, with_next}
use Rattle.alloc.specs.Outcome.{Outcome, six, seven, eight, given}
use Rattle.alloc.proofs.OutcomeLaws.{outcome}
use Rattle.alloc.specs.Run.{endpoint, ep0, Step, kept, gave_ep0}
use Rattle.alloc.proofs.RunLaws.{step}
use Rattle.alloc.specs.Sound.{Sound}
use Rattle.alloc.proofs.SoundLaws.{sound-call}
use Rattle.script.specs.Simulates.{quiet}
use Rattle.script.specs.Machine.{Buf}
use Rattle.state.specs.Kept.{with_ep_config}
use Rattle.regs.specs.EnablesLaws.{out-kept, on-with}
use Rattle.script.specs.Cells.{EpCore}
use Rattle.script.specs.Statics.{is_on, iso_outs}
use Rattle.script_ops.specs.Records.{iso_out, configured, enabled_on, given_to, allocated_on, with_ep0, started_with}
use Rattle.script_ops.specs.Records.{allocated_ep0}
use Rattle.proof_book.specs.Book as book
use Rattle.proof_book.specs.CellsLaws.{ep_on-by}
use Rattle.proof_book.specs.Pages.{Pages, with_kept, kept_allocator}
use Rattle.proof_book.specs.Book.{globals_by, enable_b, given_b, allocate_b, started_b, allocateB0}
use Rattle.proof_book.specs.Coupling.{Coupling, Shape, end_of}
use Rattle.proof_book.specs.KeptLaws.{same_values}
use Rattle.proof_book.specs.StepsLaws.{globals-changed}
use Rattle.proof_book.proofs.GivenLaws.{gives}
use Rattle.proof_book.proofs.GivenPartsLaws.{Further, further, receives, receives-by}

same-further : (a : Allocator) → Sound a → Further a a
same-further a s = record { size = refl; count = refl; next = omega arith; sound = s; allocated = λ dir j. refl }

-- every answer of the allocator
answered : {b : Buf} {d : Driver} {t : Pages}
    → Coupling quiet b d t → (dir : Dir) (kind address maximum interval : ℕ) (z : Allocation)
    → Sound z.after → Outcome d.allocator kind address maximum dir z
    → Coupling quiet b (given_to dir kind maximum interval z.answer (with_allocator d z.after))
    (given_b dir kind maximum interval z.answer (with_kept t (kept_allocator t.kept z.after)))
unfolding given_to
answered {d = d} r dir kind address maximum interval z s (six l)
    = further r d.allocator (same-further d.allocator s)
answered {d = d} r dir kind address maximum interval z s (seven m q)
    = further r d.allocator (same-further d.allocator s)
answered {d = d} r dir kind address maximum interval z s (eight e m q l)
    = further r d.allocator (same-further d.allocator s)
answered {d = d} r dir kind address maximum interval z s (given e base n a m q g)
    = gives r dir kind maximum interval e base n a m g s

pub allocates : {b : Buf} {d : Driver} {t : Pages} → Coupling quiet b d t
    → (dir : Dir) (kind address maximum interval : ℕ)
    → Coupling quiet b (allocated_on d dir kind address maximum interval) (allocate_b dir kind address maximum interval t)
unfolding allocated_on
allocates {b = b} {d = d} {t = t} r dir kind address maximum interval =
    subst
    (λ (z : Allocation). Coupling quiet b (allocated_on d dir kind address maximum interval)
    (given_b dir kind maximum interval z.answer (with_kept t (kept_allocator t.kept z.after))))
    (ap (λ (a : Allocator). allocate_of a kind address maximum dir) r.same.allocator)
    (answered r dir kind address maximum interval (allocate_of d.allocator kind address maximum dir)
    (sound-call d.allocator (endpoint kind address maximum dir) r.sound)
    (outcome d.allocator kind address maximum dir))

-- every buffer that was given lies below the next
ends-below : {b : Buf} {d : Driver} {t : Pages} → Coupling quiet b d t → (dir : Dir) (e : ℕ) → end_of (ep_on d dir e)
    ≤ d.allocator.next * d.allocator.size
ends-below {d = d} r dir e = by (bit_is_set (allocated_ins d.allocator dir) (e % 16)) (r.shape dir e)
  where
    by : (u : Bool) → Shape u d.allocator dir (ep_on d dir e) → end_of (ep_on d dir e) ≤ d.allocator.next
        * d.allocator.size
    by true s = s.below
    by false s = rw (s.base, s.stride, s.slots) (omega arith)

-- ---- EP0's start

room-up : (x z : ℕ) → x * z + z ≡ (x + 1) * z
room-up x z = omega (arith, add-mul x 1 z)

started : {b : Buf} {d : Driver} {t : Pages} → Coupling quiet b d t → (maximum : ℕ) (z : Allocation) → Sound z.after
    → Step d.allocator (ep0 maximum) z
    → Coupling quiet b (started_with maximum z.answer (with_allocator d z.after))
    (started_b maximum z.answer (with_kept t (kept_allocator t.kept z.after)))
unfolding started_with with_next ep_on len_on stamp_on paced_on request_on allocated_ins
started {d = d} r maximum z s (kept c n w k) = further r d.allocator (same-further d.allocator s)
started {b = b} {d = d} {t = t} r maximum z s (gave_ep0 m x small l) =
    let a = with_next d.allocator (d.allocator.next + 1) in
    let f : Further d.allocator a = record {
      size = refl;
      count = refl;
      next = omega arith;
      sound = s;
      allocated
          = same_bits;
    } in
    let q = further r a f in
    record {
      step = tt;
      sized = record {
        eps = q.sized.eps;
        lens = q.sized.lens;
        stamps = q.sized.stamps;
        paced
            = q.sized.paced;
        requests = q.sized.requests;
      };
      sound = q.sound;
      good = q.good;
      long = q.long;
      same = same_values q.same (λ e. refl, λ dir e. refl, λ dir e. refl)
          (ap (with_ep0 (d.allocator.next * d.allocator.size) maximum) r.same.globals) q.same.wakes
          q.same.control refl;
      shape = q.shape;
      outs = q.outs;
      ins = q.ins;
      arming = λ e. rw (receives-by d.globals (with_ep0 (d.allocator.next * d.allocator.size) maximum
          d.globals) e refl refl) (r.arming e);
      apart = q.apart;
      ep0_below = omega (arith, room-up d.allocator.next d.allocator.size);
      ep0_apart = λ dir e. inr (ends-below r dir e);
      ep0_lies = omega (
        arith,
        room-up d.allocator.next d.allocator.size,
        mul-le-mul_right d.allocator.size
            s.room,
        r.long,
      );
      ep0_least = small;
      isos = q.isos;
    }
  where
    same_bits : (dir : Dir) (j : ℕ) → bit_is_set (allocated_ins (with_next d.allocator (d.allocator.next + 1)) dir) j
        ≡ bit_is_set (allocated_ins d.allocator dir) j
    same_bits Out j = refl
    same_bits In j = refl

pub starts : {b : Buf} {d : Driver} {t : Pages} → Coupling quiet b d t → (maximum : ℕ)
    → Coupling quiet b (allocated_ep0 d maximum) (allocateB0 maximum t)
unfolding allocated_ep0
starts {b = b} {d = d} {t = t} r maximum =
    subst (λ (z : Allocation). Coupling quiet b (allocated_ep0 d maximum)
    (started_b maximum z.answer (with_kept t (kept_allocator t.kept z.after))))
    (ap (λ (a : Allocator). allocate_ep0_of a maximum) r.same.allocator)
    (started r maximum (allocate_ep0_of d.allocator maximum) (sound-call d.allocator (ep0 maximum) r.sound)
    (step d.allocator (ep0 maximum)))

-- ---- enabling, of all but the isochronous OUT endpoints

-- which isochronous OUT endpoints receive does not change
receives-kept : {b : Buf} {d : Driver} {t : Pages} → Coupling quiet b d t → (dir : Dir) (e : ℕ) (on : Bool)
    → iso_out d dir e ≡ false → (x : ℕ)
    → bit_is_set (iso_outs (with_ep_config (enables.with_on d.globals.ep_config dir e on) d.globals)) (x % 16)
    ≡ bit_is_set (iso_outs d.globals) (x % 16)
unfolding iso_out
receives-kept {d = d} r In e on h x =
    receives (with_ep_config (enables.with_on d.globals.ep_config In e on) d.globals) x
    ∙ (ap (both (bit_is_set d.globals.iso_out_eps (x % 16))) (out-kept d.globals.ep_config e (x % 16) on)
    ∙ sym (receives d.globals x))
receives-kept {d = d} r Out e on h x = elim (ℕ_discrete (x % 16) (e % 16)) [
  | yes q ↦ (let u : bit_is_set d.globals.iso_out_eps (x % 16) ≡ false = r.isos x
      ∙ (ap (λ (y : EpState). is_on y.iso) (ep_on-by d Out x e q) ∙ h) in
      receives (with_ep_config (enables.with_on d.globals.ep_config Out e on) d.globals) x
      ∙ (ap (λ (y : Bool). both y (enables.is_on (enables.with_on d.globals.ep_config Out e on) Out (x % 16))) u
      ∙ (sym (ap (λ (y : Bool). both y (enables.is_on d.globals.ep_config Out (x % 16))) u)
      ∙ sym (receives d.globals x))))
  | no q ↦
      receives (with_ep_config (enables.with_on d.globals.ep_config Out e on) d.globals) x
      ∙ (ap (both (bit_is_set d.globals.iso_out_eps (x % 16)))
      (on-with d.globals.ep_config Out e on Out (x % 16)
      ∙ rw (ne_eqb (enables.place Out e) (enables.place Out (x % 16)) (λ z. q (omega arith))) refl)
      ∙ sym (receives d.globals x))
]

configures : {b : Buf} {d : Driver} {t : Pages} → Coupling quiet b d t → (dir : Dir) (e : ℕ) (on : Bool)
    → iso_out d dir e ≡ false
    → Coupling quiet b (configured d dir e on) (globals_by t
    (λ g. with_ep_config (enables.with_on g.ep_config dir e on) g))
unfolding configured ep_on len_on stamp_on paced_on request_on
configures {d = d} r dir e on h = globals-changed r _ _
    (ap (λ (g : Globals). with_ep_config (enables.with_on g.ep_config dir e on) g) r.same.globals) refl refl refl
    refl tt
    (λ x. rw (receives-kept r dir e on h x) (r.arming x))

iso-same : {b : Buf} {d : Driver} {t : Pages} → Coupling quiet b d t → (dir : Dir) (e : ℕ) → iso_out d dir e
    ≡ book.iso_out t dir e
unfolding iso_out
iso-same r Out e = ap (λ (p : EpCore). is_on p.iso) (r.same.plain Out e)
iso-same r In e = refl

pub enables-kept : {b : Buf} {d : Driver} {t : Pages} → Coupling quiet b d t
    → (dir : Dir) (e : ℕ) (on : Bool) → Coupling quiet b (enabled_on d dir e on) (enable_b t dir e on)
unfolding enabled_on
enables-kept {b = b} {d = d} {t = t} r dir e on = by (iso_out d dir e) refl (iso-same r dir e)
  where
    by : (x : Bool) → iso_out d dir e ≡ x → x ≡ book.iso_out t dir e
        → Coupling quiet b (cond x d (configured d dir e on)) (enable_b t dir e on)
    by true p q = rw (← q) r
    by false p q = rw (← q) (configures r dir e on p)
