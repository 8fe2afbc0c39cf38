-- Laws on the definitions of Lights.antt
use Rattle.std.specs.Prelude.{Bool, List, [], ◌∷◌, ◌≢◌, ◌≡◌, ℕ, ◌+◌, ◌*◌, ◌%◌, ◌≤◌, length, get_or, set}
use Rattle.std.proofs.Math.Bool.{true, false, not, cond}
use Rattle.std.proofs.Common.{true≢false, inl, inr, ⊎_elim, subst, sym, ◌∙◌, arith, get_or-set_other}
use Rattle.std.proofs.Math.Path.{refl, ap}
use Rattle.std.proofs.Math.Decide.{ℕ_discrete}
use Rattle.std.proofs.lemmas.List.{set_comm}
use Rattle.bits.specs.Bit.{bit_is_set}
use Rattle.regs.specs.declared.Dir.{Dir}
use Rattle.regs.specs.declared.Dir.TheVariants.{Out, In}
use Rattle.regs.specs.Enables as enables
use Rattle.state.specs.declared.EpState.{EpState}
use Rattle.state.specs.declared.Allocator.{Allocator}
use Rattle.state.specs.declared.Globals.{Globals}
use Rattle.state.specs.Wakes.{Wakes}
use Rattle.state.specs.Driver.{Driver, key, len_key, with_eps, ep_on, with_on, len_on, with_len_on, stamp_on, stamp_key}
use Rattle.state.specs.Driver.{with_stamp_on, paced_on, request_on}
use Rattle.state.specs.Driver.{with_wakes, with_paced_on, with_request_on}
use Rattle.state.specs.Laws.{Sized, ep_on-same, ep_on-other, with_on-back, with_on-twice}
use Rattle.ring.specs.Copies.{bytes_at}
use Rattle.ring.specs.Marks.{armed, is_marked, marked_len}
use Rattle.ring.specs.Only.{Same}
use Rattle.ring.specs.OnlyLaws.{only-apart}
use Rattle.ring.specs.Slot.{slot_of, slot_addr, count_of, has_waiting, passed_of}
use Rattle.ring.specs.In.{has_room_in}
use Rattle.ring.specs.Out.{has_room_out, capped_at, arrived_of, armed_at, opened_of, closed_of}
use Rattle.script.specs.Cells.{Cell, Val, EpCore, globals-cell, control-cell, allocator-cell, ep-cell, request-cell}
use Rattle.script.specs.Cells.{paced_cell}
use Rattle.script.specs.Script.{changed, marked, arrive, open_oldest, close_oldest, enqueue}
use Rattle.script.specs.Statics.{is_on, iso_outs, flag}
use Rattle.script.specs.Answers.{is_number}
use Rattle.script.specs.Simulates.{quiet}
use Rattle.script.specs.Machine.{Question, pending, overruns, enabled}
use Rattle.answer.specs.Questions.{pending_on, overruns_of, overruns_on, enabled_asked, question_of}
use Rattle.script_ops.specs.Records.{plain_of, merged}
use Rattle.script_ops.specs.Rings.{St, changed_on, marked_on, waiting_on, room_in, room_on, opened_on, next_len, next_stamp}
use Rattle.script_ops.specs.Rings.{oldest_at, oldest_on, open_on, close_on}
use Rattle.script_ops.specs.Rings.{written_on, recorded_on, admitted_on, arm_at, arm_on, arrived_at, arrive_on}
use Rattle.script_ops.specs.Concrete.{get_on, put_on, is_of, look_of, hand_on}
use Rattle.alloc.specs.Alloc.{allocated_ins}
use Rattle.proof_book.specs.Coupling.{end_of, Shape}
use Rattle.proof_book.specs.LensLaws.{key-ep}
use Rattle.proof_wake_ups.specs.Still.{put-leaves}
use Rattle.proof_isolation.specs.EqualExcept.{ButBy, Lawful, Channel, Touched}
use Rattle.proof_isolation.specs.Stores.{Away, Stored, Outside, Lands, patched}
use Rattle.proof_isolation.specs.StoresLaws.{lawful-stored}
use Rattle.proof_isolation.specs.ButsLaws.{lawful-act}
use Rattle.proof_isolation.specs.Late.{Light, opens, closes, queues, asks_of, stored, is_store, Other}
use Rattle.proof_isolation.specs.Schedule.{Asked}
use Rattle.proof_isolation.proofs.OwnStepsLaws.{own_arrives}
use Rattle.proof_isolation.proofs.AsidesLaws.{stamp-any, oldest-by}
use Rattle.proof_isolation.proofs.ValuesLaws.{in-other}
use Rattle.proof_isolation.proofs.QueuesLaws.{patch-long, changed-stored, marked-stored, arrive-stored, get-queue}
use Rattle.proof_isolation.proofs.QueuesLaws.{put-queue, wakes-queue}
use Rattle.proof_isolation.proofs.QueuesLaws.{queue-wakes, changed-queue, marked-queue, arrive-queue}
use Rattle.proof_isolation.specs.Lights.{opening, closing, change_of, done_by, seen}

pub open_is : (d : Driver) (e : ℕ) → open_on d e ≡ change_of opening e d
unfolding open_on
open_is d e = by (has_waiting (ep_on d Out e))
  where
    by : (b : Bool) → cond b (with_on d Out e (opened_of (ep_on d Out e))) d
        ≡ with_on d Out e (cond b (opened_of (ep_on d Out e)) (ep_on d Out e))
    by true = refl
    by false = sym (with_on-back d Out e)

pub close-is : (d : Driver) (e : ℕ) → close_on d e ≡ change_of closing e d
unfolding close_on
close-is d e = by (is_on (ep_on d Out e).«open»)
  where
    by : (b : Bool) → cond b (with_on d Out e (closed_of (ep_on d Out e))) d
        ≡ with_on d Out e (cond b (closed_of (ep_on d Out e)) (ep_on d Out e))
    by true = refl
    by false = sym (with_on-back d Out e)

-- what scripts read of the record stays, where its slot is armed too; an assignment may come before or after
record Gentle (g : EpState → EpState) : Type 0 where
  plain : (r : EpState) → plain_of (g r) ≡ plain_of r
  slot : (r : EpState) → (g r).armed_slot ≡ r.armed_slot
  merges : (r : EpState) (v : EpCore) → g (merged r v) ≡ merged (g r) v

either : {X : Type 0} (f : EpState → X) (b : Bool) (y r : EpState) → f y ≡ f r → f (cond b y r) ≡ f r
either f true y r h = h
either f false y r h = refl

merge-either : (b : Bool) (y r : EpState) (v : EpCore) → cond b (merged y v) (merged r v) ≡ merged (cond b y r) v
merge-either true y r v = refl
merge-either false y r v = refl

gentle-opening : Gentle opening
unfolding opened_of has_waiting count_of
gentle-opening = record {
  plain = λ r. either plain_of (has_waiting r) (opened_of r) r refl;
  slot = λ r. either (λ (q : EpState). q.armed_slot) (has_waiting r) (opened_of r) r refl;
  merges = λ r v. merge-either (has_waiting r) (opened_of r) r v;
}

gentle-closing : Gentle closing
unfolding closed_of passed_of
gentle-closing = record {
  plain = λ r. either plain_of (is_on r.«open») (closed_of r) r refl;
  slot = λ r. either (λ (q : EpState). q.armed_slot) (is_on r.«open») (closed_of r) r refl;
  merges = λ r v. merge-either (is_on r.«open») (closed_of r) r v;
}

-- ---- records of two endpoints

on-comm : (d : Driver) (a : Dir) (e : ℕ) (r : EpState) (b : Dir) (f : ℕ) (q : EpState) → key a e ≢ key b f
    → with_on (with_on d a e r) b f q
    ≡ with_on (with_on d b f q) a e r
unfolding with_on
on-comm d a e r b f q n = ap (with_eps d) (set_comm d.eps (key a e) (key b f) r q n)

on-key : (d : Driver) (a b : Dir) (e f : ℕ) (r : EpState) → key a e ≡ key b f → with_on d a e r ≡ with_on d b f r
unfolding with_on
on-key d a b e f r h = ap (λ k. with_eps d (set d.eps k r)) h

-- ---- it and what scripts read and assign

module _ {g : EpState → EpState} (k : Gentle g) (e : ℕ) (d : Driver) (z : Sized d) where
  seen-in : {X : Type 0} (f : EpState → X) → ((r : EpState) → f (g r) ≡ f r) → (dir : Dir) (a : ℕ)
      → f (ep_on (change_of g e d) dir a) ≡ f (ep_on d dir a)
  seen-in f h dir a = elim (ℕ_discrete (key dir a) (key Out e)) [
    | yes p ↦ ap f (key-ep (change_of g e d) dir Out a e p ∙ ep_on-same d Out e _ z) ∙ h (ep_on d Out e)
        ∙ ap f (sym (key-ep d dir Out a e p))
    | no p ↦ ap f (ep_on-other d Out e _ dir a p)
  ]

  record-assigned : (dir : Dir) (a : ℕ) (v : EpCore)
      → with_on (change_of g e d) dir a (merged (ep_on (change_of g e d) dir a) v)
      ≡ change_of g e (with_on d dir a (merged (ep_on d dir a) v))
  record-assigned dir a v = elim (ℕ_discrete (key dir a) (key Out e)) [
    | yes p ↦
        let r = ep_on d Out e in
        on-key (change_of g e d) dir Out a e _ p
        ∙ ap (λ (q : EpState). with_on (change_of g e d) Out e (merged q v)) (key-ep (change_of g e d) dir Out a e p
        ∙ ep_on-same d Out e _ z)
        ∙ with_on-twice d Out e (g r) (merged (g r) v)
        ∙ ap (λ (q : EpState). with_on d Out e q) (sym (k.merges r v))
        ∙ sym (with_on-twice d Out e (merged r v) (g (merged r v)))
        ∙ ap (λ (q : EpState). with_on (with_on d Out e (merged r v)) Out e (g q))
        (sym (ep_on-same d Out e (merged r v) z))
        ∙ ap (λ (x : Driver). with_on x Out e (g (ep_on x Out e)))
        (ap (λ (q : EpState). with_on d Out e (merged q v)) (sym (key-ep d dir Out a e p))
        ∙ sym (on-key d dir Out a e (merged (ep_on d dir a) v) p))
    | no p ↦
        ap (λ (q : EpState). with_on (change_of g e d) dir a (merged q v)) (ep_on-other d Out e _ dir a p)
        ∙ on-comm d Out e _ dir a _ (λ q. p (sym q))
        ∙ ap (λ (q : EpState). with_on (with_on d dir a (merged (ep_on d dir a) v)) Out e (g q))
        (sym (ep_on-other d dir a _ Out e (λ q. p (sym q))))
  ]

module _ {g : EpState → EpState} (k : Gentle g) (e : ℕ) (s : St) (z : Sized s.0) where
  abbrev t : St
  t = (change_of g e s.0, s.1)

  get-change : (c : Cell) → get_on c t ≡ get_on c s
  unfolding with_on request_on paced_on
  get-change globals-cell = refl
  get-change control-cell = refl
  get-change allocator-cell = refl
  get-change (ep-cell dir a) = seen-in k e s.0 z plain_of k.plain dir a
  get-change (request-cell dir a) = refl
  get-change (paced_cell a) = refl

  put-change : (c : Cell) (v : Val c) → put_on c v t ≡ (change_of g e (put_on c v s).0, (put_on c v s).1)
  unfolding with_on ep_on with_request_on with_paced_on
  put-change globals-cell v = refl
  put-change control-cell v = refl
  put-change allocator-cell v = refl
  put-change (ep-cell dir a) v = ap (λ (d : Driver). (d, s.1)) (record-assigned k e s.0 z dir a v)
  put-change (request-cell dir a) v = refl
  put-change (paced_cell a) v = refl

  changed-change : (a : ℕ) → is_of (changed a) t ≡ is_of (changed a) s
  unfolding changed_on
  changed-change a = ap (λ n. not (is_marked s.1 n))
      (seen-in k e s.0 z (λ (r : EpState). r.armed_slot) k.slot Out a)

  marked-change : (a : ℕ) → look_of (marked a) t ≡ look_of (marked a) s
  unfolding marked_on
  marked-change a =
      ap (λ n. marked_len s.1 n (ep_on t.0 Out a).max_len)
      (seen-in k e s.0 z (λ (r : EpState). r.armed_slot) k.slot Out a)
      ∙ ap (λ n. marked_len s.1 (ep_on s.0 Out a).armed_slot n)
      (seen-in k e s.0 z (λ (r : EpState). r.max_len) (λ r. ap (λ (p : EpCore). p.max_len) (k.plain r)) Out a)

-- ---- it and an arrival on another endpoint

module _ (x e : ℕ) (n : key Out e ≢ key Out x) (y : EpState) where
  other-on : (d : Driver) → ep_on (with_on d Out e y) Out x ≡ ep_on d Out x
  other-on d = ep_on-other d Out e y Out x (λ p. n (sym p))

  -- OUT e's record put in
  abbrev put_in : ℕ × St → ℕ × St
  put_in w = (w.0, (with_on w.1.0 Out e y, w.1.1))

  recorded-on : (d : Driver) (len : ℕ) → recorded_on (with_on d Out e y) x len ≡ with_on (recorded_on d x len) Out e y
  unfolding recorded_on with_on with_len_on with_stamp_on
  recorded-on d len =
      ap (λ (r : EpState). cond (has_room_out r) (written_on (with_on d Out e y) x (slot_of r r.head) len)
      (with_on d Out e y)) (other-on d)
      ∙ by (has_room_out (ep_on d Out x)) (slot_of (ep_on d Out x) (ep_on d Out x).head)
    where
      by : (b : Bool) (i : ℕ) → cond b (written_on (with_on d Out e y) x i len) (with_on d Out e y)
          ≡ with_on (cond b (written_on d x i len) d) Out e y
      by true i = refl
      by false i = refl

  admitted-on : (d : Driver) (len : ℕ) → admitted_on (with_on d Out e y) x len ≡ with_on (admitted_on d x len) Out e y
  unfolding admitted_on
  admitted-on d len =
      ap (λ (q : Driver). with_on q Out x (arrived_of (ep_on (with_on d Out e y) Out x))) (recorded-on d len)
      ∙ ap (λ (r : EpState). with_on (with_on (recorded_on d x len) Out e y) Out x (arrived_of r)) (other-on d)
      ∙ on-comm (recorded_on d x len) Out e y Out x (arrived_of (ep_on d Out x)) n

  arm-on : (d : Driver) (b : List ℕ) (i : ℕ) → arm_at x i (with_on d Out e y, b) ≡ put_in (arm_at x i (d, b))
  arm-on d b i =
      ap (λ (r : EpState). (
        slot_addr r i,
        (
          with_on (with_on d Out e y) Out x (armed_at r (slot_addr r i)),
          armed b
              (slot_addr r i) r.max_len,
        ),
      )) (other-on d)
      ∙ ap (λ (q : Driver). (
        slot_addr (ep_on d Out x) i,
        (q, armed b (slot_addr (ep_on d Out x) i) (ep_on d Out x).max_len),
      ))
      (on-comm d Out e y Out x (armed_at (ep_on d Out x) (slot_addr (ep_on d Out x) i)) n)

  arrived-on : (d : Driver) (b : List ℕ) (len : ℕ) → arrived_at x len (with_on d Out e y, b)
      ≡ put_in (arrived_at x len (d, b))
  arrived-on d b len =
      ap (λ (q : Driver). arm_on x (q, b)) (admitted-on d len)
      ∙ ap (λ (r : EpState). arm_at x r.head (with_on (admitted_on d x len) Out e y, b)) (other-on (admitted_on d x len))
      ∙ arm-on (admitted_on d x len) b (ep_on (admitted_on d x len) Out x).head

  arrive-on : (d : Driver) (b : List ℕ) (m : ℕ) → arrive_on x m (with_on d Out e y, b) ≡ put_in (arrive_on x m (d, b))
  unfolding arrive_on with_on
  arrive-on d b m =
      ap (λ (r : EpState). cond (bit_is_set (iso_outs d.globals) (x % 16))
      (arrived_at x (capped_at r m) (with_on d Out e y, b))
      (r.armed_slot, (with_on d Out e y, b))) (other-on d)
      ∙ by (bit_is_set (iso_outs d.globals) (x % 16))
    where
      by : (u : Bool) → cond u (arrived_at x (capped_at (ep_on d Out x) m) (with_on d Out e y, b))
          ((ep_on d Out x).armed_slot, (with_on d Out e y, b))
          ≡ put_in (cond u (arrived_at x (capped_at (ep_on d Out x) m) (d, b)) ((ep_on d Out x).armed_slot, (d, b)))
      by true = arrived-on d b (capped_at (ep_on d Out x) m)
      by false = refl

-- a record but for what scripts assign
abbrev core : EpState → EpState
core r = merged r (record {
  ready = 0;
  len = 0;
  armed = 0;
  last_frame = 0;
  tog = 0;
  iso = 0;
  kind = 0;
  base
      = 0;
  max_len = 0;
})

-- two drivers with the same rings, lengths, stamps and places
record Steadily (d d' : Driver) : Type 0 where
  ep0 : d.globals.ep0_buf ≡ d'.globals.ep0_buf
  stage : d.globals.stage ≡ d'.globals.stage
  config : d.globals.ep_config ≡ d'.globals.ep_config
  allocator : d.allocator ≡ d'.allocator
  records : (dir : Dir) (e : ℕ) → core (ep_on d dir e) ≡ core (ep_on d' dir e)
  lens : d.lens ≡ d'.lens
  stamps : d.stamps ≡ d'.stamps

abbrev oldest_by : ℕ → List ℕ → EpState → List ℕ → List ℕ
oldest_by e b r l = bytes_at b (slot_addr r r.tail) (cond (has_waiting r) (get_or l (len_key Out e (slot_of r r.tail)) 0)
    0)

abbrev stamp_by : ℕ → EpState → List ℕ → ℕ
stamp_by e r l = cond (has_waiting r) (get_or l (stamp_key e (slot_of r r.tail)) 0) 0

module _ {d d' : Driver} (h : Steadily d d') (b : List ℕ) where
  told_same : (q : Question) → question_of q d ≡ question_of q d'
  unfolding pending_on overruns_on overruns_of enabled_asked count_of
  told_same (pending e) = ap (λ (r : EpState). cond (is_number e) (count_of r) 0) (h.records In e)
  told_same (overruns e) = ap (λ (r : EpState). cond (is_number e) (overruns_of r) 0) (h.records Out e)
  told_same (enabled dir e) = ap (λ n. flag (cond (is_number e) (enables.is_on n dir e) false)) h.config

  waiting-steady : (e : ℕ) → waiting_on d Out e ≡ waiting_on d' Out e
  unfolding waiting_on has_waiting count_of
  waiting-steady e = ap has_waiting (h.records Out e)

  room-steady : (e n : ℕ) → room_on d e n ≡ room_on d' e n
  unfolding room_on room_in has_room_in count_of
  room-steady e n = ap (λ (r : EpState). room_in r n) (h.records In e)

  open-steady : (e : ℕ) → opened_on d e ≡ opened_on d' e
  unfolding opened_on
  open-steady e = ap (λ (r : EpState). is_on r.«open») (h.records Out e)

  oldest-steady : (e : ℕ) → oldest_on d e b ≡ oldest_on d' e b
  unfolding oldest_on oldest_at next_len len_on slot_addr slot_of has_waiting count_of
  oldest-steady e = λ i. oldest_by e b (h.records Out e i) (h.lens i)

  stamp-steady : (e : ℕ) → next_stamp d e ≡ next_stamp d' e
  unfolding next_stamp stamp_on slot_of has_waiting count_of
  stamp-steady e = λ i. stamp_by e (h.records Out e i) (h.stamps i)

  seen-steady : (o : Light) → seen o (d, b) ≡ seen o (d', b)
  seen-steady (opens e) = λ i. record {
    stage = h.stage i;
    allocator = h.allocator i;
    iso = ap (λ (r : EpState). r.iso) (h.records Out e) i;
    any = waiting-steady e i;
    bytes = oldest-steady e i;
    number = stamp-steady e i;
  }
  seen-steady (closes e) = λ i. record {
    stage = h.stage i;
    allocator = h.allocator i;
    iso = 0;
    any
        = open-steady e i;
    bytes = [];
    number = 0;
  }
  seen-steady (queues e bs) = λ i. record {
    stage = h.stage i;
    allocator = h.allocator i;
    iso = ap (λ (r : EpState). r.iso) (h.records In e) i;
    any = room-steady e (length bs) i;
    bytes = [];
    number = h.config i;
  }
  seen-steady (asks_of q) = λ i. record {
    stage = h.stage i;
    allocator = h.allocator i;
    iso = 0;
    any = false;
    bytes
        = [];
    number = told_same q i;
  }
  seen-steady (stored p) = λ i. record {
    stage = h.stage i;
    allocator = h.allocator i;
    iso = 0;
    any = false;
    bytes
        = [];
    number = 0;
  }

-- an open leaves the bytes and the stamp of the packet that it shows
module _ (e : ℕ) (d : Driver) (z : Sized d) where
  pub oldest-opening : (b : List ℕ) → oldest_on (change_of opening e d) e b ≡ oldest_on d e b
  unfolding oldest_on oldest_at next_len len_on with_on slot_addr slot_of has_waiting count_of opened_of
  oldest-opening b =
      ap (λ (r : EpState). oldest_by e b r d.lens) (ep_on-same d Out e (opening (ep_on d Out e)) z)
      ∙ either (λ (r : EpState). oldest_by e b r d.lens) (has_waiting (ep_on d Out e)) (opened_of (ep_on d Out e))
      (ep_on d Out e) refl

  pub stamp-opening : next_stamp (change_of opening e d) e ≡ next_stamp d e
  unfolding next_stamp stamp_on with_on slot_of has_waiting count_of opened_of
  stamp-opening =
      ap (λ (r : EpState). stamp_by e r d.stamps) (ep_on-same d Out e (opening (ep_on d Out e)) z)
      ∙ either (λ (r : EpState). stamp_by e r d.stamps) (has_waiting (ep_on d Out e)) (opened_of (ep_on d Out e))
      (ep_on d Out e) refl

record-steady : (d : Driver) (z : Sized d) (dir : Dir) (a : ℕ) (v : EpCore) (b : Dir) (e : ℕ) → core (ep_on d b e)
    ≡ core (ep_on (with_on d dir a (merged (ep_on d dir a) v)) b e)
record-steady d z dir a v b e = elim (ℕ_discrete (key b e) (key dir a)) [
  | yes p ↦ ap core (key-ep d b dir e a p) ∙ sym (ap core (key-ep (with_on d dir a (merged (ep_on d dir a) v)) b dir e a p
      ∙ ep_on-same d dir a _ z))
  | no p ↦ ap core (sym (ep_on-other d dir a _ b e p))
]

put-steady : (c : Cell) (v : Val c) (s : St) → Sized s.0 → Steadily s.0 (put_on c v s).0
unfolding with_on with_request_on with_paced_on ep_on
put-steady globals-cell v s z = record {
  ep0 = refl;
  stage = refl;
  config = refl;
  allocator = refl;
  records
      = λ dir e. refl;
  lens = refl;
  stamps = refl;
}
put-steady control-cell v s z = record {
  ep0 = refl;
  stage = refl;
  config = refl;
  allocator = refl;
  records
      = λ dir e. refl;
  lens = refl;
  stamps = refl;
}
put-steady allocator-cell v s z = record {
  ep0 = refl;
  stage = refl;
  config = refl;
  allocator = refl;
  records
      = λ dir e. refl;
  lens = refl;
  stamps = refl;
}
put-steady (ep-cell a e) v s z = record {
  ep0 = refl;
  stage = refl;
  config = refl;
  allocator = refl;
  records
      = record-steady s.0 z a e v;
  lens = refl;
  stamps = refl;
}
put-steady (request-cell a e) v s z = record {
  ep0 = refl;
  stage = refl;
  config = refl;
  allocator = refl;
  records
      = λ dir e. refl;
  lens = refl;
  stamps = refl;
}
put-steady (paced_cell e) v s z = record {
  ep0 = refl;
  stage = refl;
  config = refl;
  allocator = refl;
  records
      = λ dir e. refl;
  lens = refl;
  stamps = refl;
}

wakes-steady : (d : Driver) (w : Wakes) → Steadily d (with_wakes d w)
unfolding ep_on
wakes-steady d w = record {
  ep0 = refl;
  stage = refl;
  config = refl;
  allocator = refl;
  records = λ dir e. refl;
  lens
      = refl;
  stamps = refl;
}

pub seen-put : (o : Light) (c : Cell) (v : Val c) (s : St) → Sized s.0 → seen o (put_on c v s) ≡ seen o s
seen-put o c v s z =
    ap (λ b. seen o ((put_on c v s).0, b)) (put-leaves c v s).1 ∙ sym (seen-steady (put-steady c v s z) s.1 o)

pub seen-wakes : (o : Light) (s : St) (w : Wakes) → seen o (with_wakes s.0 w, s.1) ≡ seen o s
seen-wakes o s w = sym (seen-steady (wakes-steady s.0 w) s.1 o)

-- ---- where the channel alone is touched

module _ (c : Channel) where
  module _ {s t : St} (m : Touched c quiet s t) where
    bytes-stay : (e lo hi : ℕ) → key Out e ≢ key Out c.number → (ep_on s.0 Out e).base ≤ lo → hi
        ≤ end_of (ep_on s.0 Out e) → Same lo hi s.1 t.1
    bytes-stay e lo hi n p q = only-apart lo hi m.bytes
        (⊎_elim (λ a. inr (omega arith)) (λ a. inl (omega arith))
        (m.left.rest.apart Out Out c.number e (λ z. n (sym z))))

    oldest-stays : (e : ℕ) → key Out e ≢ key Out c.number → oldest_on s.0 e s.1 ≡ oldest_on t.0 e t.1
    oldest-stays e n = oldest-by s t e (m.left.rest.outs e).held m.bytes.long
        (λ lo hi. bytes-stay e lo hi n) (m.but.eps Out e n) (m.but.lens Out e n)

    stamp-stays : (e : ℕ) → key Out e ≢ key Out c.number → next_stamp s.0 e ≡ next_stamp t.0 e
    unfolding next_stamp
    stamp-stays e n =
        let h = m.but.eps Out e n in
        ap (λ (r : EpState). cond (has_waiting r) (stamp_on s.0 e (slot_of r r.tail)) 0) h
        ∙ ap (λ k. cond (has_waiting (ep_on t.0 Out e)) k 0)
        (stamp-any s.0 t.0 e (slot_of (ep_on t.0 Out e) (ep_on t.0 Out e).tail) (m.but.stamps e n))

    asked-stays : (q : Question) → Asked c q → question_of q s.0 ≡ question_of q t.0
    unfolding pending_on overruns_on enabled_asked
    asked-stays (pending e) n = ap (λ (r : EpState). cond (is_number e) (count_of r) 0)
        (m.but.eps In e (in-other c.number e))
    asked-stays (overruns e) n = ap (λ (r : EpState). cond (is_number e) (overruns_of r) 0) (m.but.eps Out e n)
    asked-stays (enabled dir e) n = ap (λ (g : Globals). flag
        (cond (is_number e) (enables.is_on g.ep_config dir e) false)) m.but.globals

    pub seen-touched : (o : Light) → Other c o s.0 → seen o s ≡ seen o t
    unfolding waiting_on opened_on room_on
    seen-touched (opens e) n = λ i. record {
      stage = (m.but.globals i).stage;
      allocator = m.but.allocator i;
      iso = (m.but.eps Out e n i).iso;
      any = has_waiting (m.but.eps Out e n i);
      bytes = oldest-stays e n i;
      number = stamp-stays e n i;
    }
    seen-touched (closes e) n = λ i. record {
      stage = (m.but.globals i).stage;
      allocator = m.but.allocator i;
      iso = 0;
      any = is_on (m.but.eps Out e n i).«open»;
      bytes = [];
      number = 0;
    }
    seen-touched (queues e bs) n = λ i. record {
      stage = (m.but.globals i).stage;
      allocator = m.but.allocator i;
      iso = (m.but.eps In e (in-other c.number e) i).iso;
      any = room_in (m.but.eps In e (in-other c.number e) i) (length bs);
      bytes = [];
      number = (m.but.globals i).ep_config;
    }
    seen-touched (stored p) n = λ i. record {
      stage = (m.but.globals i).stage;
      allocator = m.but.allocator i;
      iso = 0;
      any = false;
      bytes = [];
      number = 0;
    }
    seen-touched (asks_of q) n = λ i. record {
      stage = (m.but.globals i).stage;
      allocator = m.but.allocator i;
      iso = 0;
      any = false;
      bytes = [];
      number = asked-stays q n i;
    }

  -- ---- one law for all

  pub get-done : (o : Light) (s : St) → Lawful c.iso quiet s → (q : Cell) → get_on q (done_by o s) ≡ get_on q s
  get-done (opens e) s l q = get-change gentle-opening e s l.rest.sized q
  get-done (closes e) s l q = get-change gentle-closing e s l.rest.sized q
  get-done (queues e bs) s l q = get-queue e bs s l.rest.sized q
  get-done (asks_of a) s l q = refl
  get-done (stored p) s l globals-cell = refl
  get-done (stored p) s l control-cell = refl
  get-done (stored p) s l allocator-cell = refl
  get-done (stored p) s l (ep-cell dir a) = refl
  get-done (stored p) s l (request-cell dir a) = refl
  get-done (stored p) s l (paced_cell a) = refl

  pub put-done : (o : Light) (s : St) → Lawful c.iso quiet s → (q : Cell) (v : Val q) → put_on q v (done_by o s)
      ≡ done_by o (put_on q v s)
  put-done (opens e) s l q v = put-change gentle-opening e s l.rest.sized q v
  put-done (closes e) s l q v = put-change gentle-closing e s l.rest.sized q v
  put-done (queues e bs) s l q v = put-queue e bs s l.rest.sized q v
  put-done (asks_of a) s l q v = refl
  put-done (stored p) s l globals-cell v = refl
  put-done (stored p) s l control-cell v = refl
  put-done (stored p) s l allocator-cell v = refl
  put-done (stored p) s l (ep-cell dir a) v = refl
  put-done (stored p) s l (request-cell dir a) v = refl
  put-done (stored p) s l (paced_cell a) v = refl

  -- of the channel's armed slot
  pub changed-own : (o : Light) (s : St) → Lawful c.iso quiet s → Other c o s.0
      → is_of (changed c.number) (done_by o s) ≡ is_of (changed c.number) s
  changed-own (opens e) s l n = changed-change gentle-opening e s l.rest.sized c.number
  changed-own (closes e) s l n = changed-change gentle-closing e s l.rest.sized c.number
  changed-own (queues e bs) s l n = changed-queue c e bs s l c.number c.receives
  changed-own (asks_of q) s l n = refl
  changed-own (stored p) s l n = changed-stored c p s l n

  pub marked-own : (o : Light) (s : St) → Lawful c.iso quiet s → Other c o s.0
      → look_of (marked c.number) (done_by o s) ≡ look_of (marked c.number) s
  marked-own (opens e) s l n = marked-change gentle-opening e s l.rest.sized c.number
  marked-own (closes e) s l n = marked-change gentle-closing e s l.rest.sized c.number
  marked-own (queues e bs) s l n = marked-queue c e bs s l c.number c.receives
  marked-own (asks_of q) s l n = refl
  marked-own (stored p) s l n = marked-stored c p s l n

  -- of another's: stores may change it
  pub changed-done : (o : Light) → is_store o ≡ false → (s : St) → Lawful c.iso quiet s → (a : ℕ) → c.iso Out a
      ≡ true
      → is_of (changed a) (done_by o s) ≡ is_of (changed a) s
  changed-done (opens e) z s l a i = changed-change gentle-opening e s l.rest.sized a
  changed-done (closes e) z s l a i = changed-change gentle-closing e s l.rest.sized a
  changed-done (queues e bs) z s l a i = changed-queue c e bs s l a i
  changed-done (asks_of q) z s l a i = refl
  changed-done (stored p) z s l a i = absurd (true≢false z)

  pub wakes-same : (o : Light) (s : St) → Lawful c.iso quiet s → (done_by o s).0.wakes ≡ s.0.wakes
  unfolding with_on
  wakes-same (opens e) s l = refl
  wakes-same (closes e) s l = refl
  wakes-same (queues e bs) s l = queue-wakes e bs s l.rest.sized
  wakes-same (asks_of q) s l = refl
  wakes-same (stored p) s l = refl

  pub wakes-done : (o : Light) (s : St) → Lawful c.iso quiet s
      → (w : Wakes) → (with_wakes (done_by o s).0 w, (done_by o s).1) ≡ done_by o (with_wakes s.0 w, s.1)
  unfolding with_on ep_on
  wakes-done (opens e) s l w = refl
  wakes-done (closes e) s l w = refl
  wakes-done (queues e bs) s l w = wakes-queue e bs s l.rest.sized w
  wakes-done (asks_of q) s l w = refl
  wakes-done (stored p) s l w = refl

  arrive-change : (g : EpState → EpState) (e : ℕ) → key Out e ≢ key Out c.number → (s : St) → Lawful c.iso quiet s
      → (m : ℕ) →
      let w = hand_on (arrive c.number m) s in
      hand_on (arrive c.number m) (change_of g e s.0, s.1) ≡ (w.0, (change_of g e w.1.0, w.1.1))
  arrive-change g e n s l m =
      let w = hand_on (arrive c.number m) s in
      arrive-on c.number e n (g (ep_on s.0 Out e)) s.0 s.1 m
      ∙ ap (λ (r : EpState). (w.0, (with_on w.1.0 Out e (g r), w.1.1))) ((own_arrives c m s l).but.eps Out e n)

  pub arrive-done : (o : Light) (s : St) → Other c o s.0 → Lawful c.iso quiet s → (m : ℕ) →
      let w = hand_on (arrive c.number m) s in
      hand_on (arrive c.number m) (done_by o s) ≡ (w.0, done_by o w.1)
  arrive-done (opens e) s n l m = arrive-change opening e n s l m
  arrive-done (closes e) s n l m = arrive-change closing e n s l m
  arrive-done (queues e bs) s n l m = arrive-queue c e bs s l m
  arrive-done (asks_of q) s n l m = refl
  arrive-done (stored p) s n l m = arrive-stored c p s l n m

  -- ---- where the chip may store is left, but for the channel's armed slot

  used-size : {s : St} → Lawful c.iso quiet s → (e : ℕ) → bit_is_set (allocated_ins s.0.allocator Out) (e % 16) ≡ true
      → (ep_on s.0 Out e).stride ≡ s.0.allocator.size
  used-size {s} l e u = (subst (λ v. Shape v s.0.allocator Out (ep_on s.0 Out e)) u (l.rest.shape Out e)).stride

  pub record SameReach (d d' : Driver) : Type 0 where
    pub allocator : d'.allocator ≡ d.allocator
    pub ep0 : d'.globals.ep0_buf ≡ d.globals.ep0_buf
    pub base : (ep_on d' Out c.number).base ≡ (ep_on d Out c.number).base
    pub ends : end_of (ep_on d' Out c.number) ≡ end_of (ep_on d Out c.number)
    pub slots : (e : ℕ) → key Out e ≢ key Out c.number → (ep_on d' Out e).armed_slot ≡ (ep_on d Out e).armed_slot

  module _ {s : St} (l : Lawful c.iso quiet s) {d : Driver} (r : SameReach s.0 d) where
    away_back : (k : ℕ) → Outside c s.0 k → Away d k → Away s.0 k
    away_back k o w = record {
      outs = λ e u. elim (ℕ_discrete (key Out e) (key Out c.number)) [
        | yes p ↦
            let x = c.number in
            let f = l.rest.outs e in
            let b : (ep_on s.0 Out e).base ≡ (ep_on s.0 Out x).base
            = ap (λ (q : EpState). q.base) (key-ep s.0 Out Out e x p) in
            let g : end_of (ep_on s.0 Out e) ≡ end_of (ep_on s.0 Out x) = ap end_of (key-ep s.0 Out Out e x p) in
            let n = used-size l e u in
            ⊎_elim (λ z. inl (omega (arith, b, f.slot, f.from))) (λ z. inr (omega (arith, g, f.slot, f.upto, n))) o
        | no p ↦
            let n = ap (λ (a : Allocator). a.size) r.allocator in
            ⊎_elim (λ z. inl (omega (arith, r.slots e p))) (λ z. inr (omega (arith, r.slots e p, n)))
            (w.outs e (ap (λ (a : Allocator). bit_is_set (allocated_ins a Out) (e % 16)) r.allocator ∙ u))
      ];
      ep0 =
          let n = ap (λ (a : Allocator). a.size) r.allocator in
          ⊎_elim (λ z. inl (omega (arith, r.ep0))) (λ z. inr (omega (arith, r.ep0, n))) w.ep0;
    }

    lands_on : (p : List (ℕ × ℕ)) → Lands c s.0 p → Lands c d p
    lands_on [] h = tt
    lands_on (q ∷ p) h = (
      ⊎_elim (λ z. inl (omega (arith, r.base))) (λ z. inr (omega (arith, r.ends))) h.0,
      (λ w. h.1 (away_back q.0 h.0 w)),
      lands_on p h.2,
    )

    pub still_other : (o : Light) → Other c o s.0 → Other c o d
    still_other (opens e) n = n
    still_other (closes e) n = n
    still_other (queues e bs) n = n
    still_other (asks_of q) n = n
    still_other (stored p) n = lands_on p n

  steady_reach : {d d' : Driver} → Steadily d d' → SameReach d d'
  steady_reach h = record {
    allocator = sym h.allocator;
    ep0 = sym h.ep0;
    base = sym (ap (λ (r : EpState). r.base) (h.records Out c.number));
    ends = sym (ap end_of (h.records Out c.number));
    slots = λ e n. sym (ap (λ (r : EpState). r.armed_slot) (h.records Out e));
  }

  pub but_reach : {W : Wakes → Wakes → Type 0} {d d' : Driver} → ButBy W c.number d d' → SameReach d d'
  but_reach h = record {
    allocator = sym h.allocator;
    ep0 = sym (ap (λ (g : Globals). g.ep0_buf) h.globals);
    base = h.own.place.base;
    ends = λ i. h.own.place.base i + h.own.place.slots i * h.own.place.stride i;
    slots = λ e n. sym (ap (λ (r : EpState). r.armed_slot) (h.eps Out e n));
  }

  pub put_reach : (q : Cell) (v : Val q) (s : St) → Sized s.0 → SameReach s.0 (put_on q v s).0
  put_reach q v s z = steady_reach (put-steady q v s z)

  pub wakes_reach : (d : Driver) (w : Wakes) → SameReach d (with_wakes d w)
  wakes_reach d w = steady_reach (wakes-steady d w)

  -- ---- stores leave a lawful state

  module _ (s : St) where
    patch_away : (p : List (ℕ × ℕ)) → Lands c s.0 p → (b : List ℕ) (k : ℕ) → Away s.0 k → get_or (patched p b) k 0
        ≡ get_or b k 0
    patch_away [] h b k w = refl
    patch_away (q ∷ p) h b k w = patch_away p h.2 (set b q.0 q.1) k w
        ∙ get_or-set_other b q.0 k q.1 0 (λ e. h.1 (subst (Away s.0) e w))

    pub stored_patch : (p : List (ℕ × ℕ)) → Lands c s.0 p → Stored s.0 s.1 (patched p s.1)
    stored_patch p h = record { long = patch-long p s.1; others = λ k w. patch_away p h s.1 k w }

  pub lawful_done : (o : Light) (s : St) → Other c o s.0 → Lawful c.iso quiet s
      → Lawful c.iso quiet (done_by o s)
  lawful_done (opens e) s n l = subst (λ (d : Driver). Lawful c.iso quiet (d, s.1)) (open_is s.0 e)
      (lawful-act c (open_oldest e) refl l)
  lawful_done (closes e) s n l = subst (λ (d : Driver). Lawful c.iso quiet (d, s.1)) (close-is s.0 e)
      (lawful-act c (close_oldest e) refl l)
  lawful_done (queues e bs) s n l = lawful-act c (enqueue e bs) refl l
  lawful_done (asks_of q) s n l = l
  lawful_done (stored p) s n l = lawful-stored c l (stored_patch s p n)

  pub seen_arrive : (o : Light) (s : St) → Other c o s.0 → Lawful c.iso quiet s → (m : ℕ)
      → seen o (hand_on (arrive c.number m) s).1 ≡ seen o s
  seen_arrive o s n l m = sym (seen-touched (own_arrives c m s l) o n)
