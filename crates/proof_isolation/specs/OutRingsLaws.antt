-- OUT rings: the others' arrivals are the same in both runs, and the channel's own change nothing but its data
use Rattle.std.specs.Prelude.{Bool, true, false, cond, ◌≢◌, ◌≡◌, ℕ, ◌+◌, ◌*◌, ◌/◌, ◌%◌, ◌≤◌, ◌<◌}
use Rattle.std.proofs.Math.Bool.{not}
use Rattle.std.proofs.Math.Path.{refl, ap, subst, sym}
use Rattle.std.proofs.Common.{◌∙◌, arith}
use Rattle.bits.specs.Bit.{bit_is_set}
use Rattle.regs.specs.declared.Dir.{Dir}
use Rattle.regs.specs.declared.Dir.TheVariants.{Out, In}
use Rattle.state.specs.declared.EpState.{EpState}
use Rattle.state.specs.declared.Globals.{Globals}
use Rattle.state.specs.Driver.{Driver, key, ep_on, with_on}
use Rattle.state.specs.Laws.{Sized, key-same, key_apart, ep_on-same}
use Rattle.ring.specs.Marks.{is_marked, marked_len, armed}
use Rattle.ring.specs.Only.{Same, Only}
use Rattle.ring.proofs.MarksSlots.{marked-same, len-same}
use Rattle.ring.specs.Slot.{slot_of}
use Rattle.ring.specs.Out.{capped_at, arrived_of, arrived_lens, armed_at}
use Rattle.ring.specs.Waiting.{SamePlace}
use Rattle.ring.specs.Slots.{slot-in}
use Rattle.ring.proofs.OutLaws.{armed-alike}
use Rattle.script.specs.Cells.{EpCore}
use Rattle.script.specs.Script.{changed, marked, arrive}
use Rattle.script.specs.Simulates.{quiet}
use Rattle.script.specs.Statics.{iso_outs}
use Rattle.script.specs.Machine.{Buf}
use Rattle.script_ops.specs.Rings.{St, changed_on, marked_on, arrived_at, arrive_on}
use Rattle.script_ops.specs.Concrete.{is_of, look_of, hand_on}
use Rattle.proof_book.specs.Pages.{Pages}
use Rattle.proof_book.specs.Coupling.{end_of, Used, lens_of, slot_stamps, Coupling}
use Rattle.proof_book.specs.LensLaws.{lens-on, stamps-on, lens-mod, stamps-mod}
use Rattle.proof_book.specs.FrameLaws.{Changed, changed-on, changed-trans, same_place}
use Rattle.proof_book.specs.HeldLaws.{receives, iso-used, receives-slots, good-words}
use Rattle.proof_book.proofs.ArrivesLaws.{admits, head_addr, armed-plain, admitted-ep, admitted-lens, admitted-stamps}
use Rattle.proof_book.proofs.ArrivesLaws.{admitted-changed}
use Rattle.proof_isolation.specs.EqualExcept.{EqualExcept, Channel, LowEquiv}
use Rattle.proof_isolation.specs.ButsLaws.{but-changed, changed-seat, like-made, lawful-hand, others_same}
use Rattle.proof_isolation.specs.BytesLaws.{armed-like, only-like}

-- ---- what is asked of another's armed slot

module _ (c : Channel) (e : ℕ) (n : key Out e ≢ key Out c.number) (i : c.iso Out e ≡ true) (s t : St)
    (l : LowEquiv c quiet s t) where
  used : Used s.0.allocator Out (ep_on s.0 Out e)
  used = iso-used l.left.rest e (l.left.has.flags Out e ∙ i)

  slot_same : (k : ℕ) → k ≤ (ep_on s.0 Out e).stride → Same (ep_on s.0 Out e).armed_slot
      ((ep_on s.0 Out e).armed_slot + k) s.1 t.1
  slot_same k h = let f = l.left.rest.outs e in others_same l Out e _ _ n (omega (arith, f.slot, f.from))
      (omega (arith, f.slot, f.upto))

  size-words : (4 ≤ (ep_on s.0 Out e).stride) × ((ep_on s.0 Out e).stride / 4 * 4 ≡ (ep_on s.0 Out e).stride)
  size-words = let w = good-words s.0.allocator.size l.left.rest.good in rw used.stride w

  pub changed-same : is_of (changed e) s ≡ is_of (changed e) t
  unfolding changed_on
  changed-same = sym (ap not (marked-same s.1 t.1 (ep_on s.0 Out e).armed_slot l.bytes.long
      (slot_same 4 size-words.0)))
      ∙ ap (λ (r : EpState). not (is_marked t.1 r.armed_slot)) (l.but.eps Out e n)

  pub marked-len-same : look_of (marked e) s ≡ look_of (marked e) t
  unfolding marked_on
  marked-len-same =
      let r = ep_on s.0 Out e in
      sym (len-same s.1 t.1 r.armed_slot l.bytes.long r.max_len
      (slot_same r.max_len (l.left.rest.outs e).held.least))
      ∙ ap (λ (r : EpState). marked_len t.1 r.armed_slot r.max_len) (l.but.eps Out e n)

-- ---- the driver after an arrival on OUT e that is received: the record, the lengths, the stamps

abbrev pub len_of : Driver → ℕ → ℕ → ℕ
len_of d e n = capped_at (ep_on d Out e) n

-- the record after it, its slot armed
abbrev pub arrived_ep : EpState → EpState
arrived_ep r = armed_at (arrived_of r) (head_addr (arrived_of r))

abbrev pub after : Driver → ℕ → ℕ → Driver
after d e n = let r1 = ep_on (admits d e n) Out e in with_on (admits d e n) Out e (armed_at r1 (head_addr r1))

module _ {d : Driver} (z : Sized d) (e n : ℕ) where
  pub given : Changed Out e d (admits d e n)
  given = admitted-changed d z e (len_of d e n)

  pub after-changed : Changed Out e d (after d e n)
  after-changed =
      let r1 = ep_on (admits d e n) Out e in
      changed-trans z Out e given
      (changed-on given.sized Out e (armed_at r1 (head_addr r1))
      (armed-alike r1 (head_addr r1)).place (ap (λ (q : EpCore). q.iso) (armed-plain r1 (head_addr r1))))

  pub after-ep : ep_on (after d e n) Out e ≡ arrived_ep (ep_on d Out e)
  after-ep =
      let r1 = ep_on (admits d e n) Out e in
      ep_on-same (admits d e n) Out e (armed_at r1 (head_addr r1)) given.sized
      ∙ ap (λ (r : EpState). armed_at r (head_addr r)) (admitted-ep d z e (len_of d e n))

  module _ (i : slot_of (ep_on d Out e) (ep_on d Out e).head < 16) where
    after_lens : lens_of (after d e n) Out e ≡ arrived_lens (ep_on d Out e) (lens_of d Out e) (len_of d e n)
    after_lens = lens-on (admits d e n) Out e _ Out e ∙ admitted-lens d z e (len_of d e n) i

    after-stamps : slot_stamps (after d e n) e ≡ arrived_lens (ep_on d Out e) (slot_stamps d e) d.globals.entered
    after-stamps = stamps-on (admits d e n) Out e _ e ∙ admitted-stamps d z e (len_of d e n) i

-- how its slot is marked
abbrev pub marks : EpState → Buf → Buf
marks r b = armed b (head_addr r) r.max_len

head_in : {b : Buf} {d : Driver} {p : Pages} (R : Coupling quiet b d p) (e : ℕ) → receives d e ≡ true
    → slot_of (ep_on d Out e) (ep_on d Out e).head < 16
head_in {d = d} R e u = omega (arith, slot-in (R.outs e).held.placed (ep_on d Out e).head, receives-slots R e u)

-- ---- another's arrival, in both runs

module _ (c : Channel) (e n : ℕ) (o : key Out e ≢ key Out c.number) (s t : St) (l : LowEquiv c quiet s t) where
  abbrev d : Driver
  d = s.0

  abbrev d' : Driver
  d' = t.0

  abbrev eps : ep_on d Out e ≡ ep_on d' Out e
  eps = l.but.eps Out e o

  same-before : ep_on (admits d e n) Out e ≡ ep_on (admits d' e n) Out e
  same-before = admitted-ep d l.left.rest.sized e (len_of d e n) ∙ ap arrived_of eps
      ∙ sym (admitted-ep d' l.right.rest.sized e (len_of d' e n))

  module _ (u : receives d e ≡ true) (u' : receives d' e ≡ true) where
    same-lens : lens_of (after d e n) Out e ≡ lens_of (after d' e n) Out e
    same-lens =
        after_lens l.left.rest.sized e n (head_in l.left.rest e u)
        ∙ ap (λ (r : EpState). arrived_lens r (lens_of d Out e) (capped_at r n)) eps
        ∙ ap (λ m. arrived_lens (ep_on d' Out e) m (len_of d' e n)) (l.but.lens Out e o)
        ∙ sym (after_lens l.right.rest.sized e n (head_in l.right.rest e u'))

    same-stamps : slot_stamps (after d e n) e ≡ slot_stamps (after d' e n) e
    same-stamps =
        after-stamps l.left.rest.sized e n (head_in l.left.rest e u)
        ∙ ap (λ (r : EpState). arrived_lens r (slot_stamps d e) d.globals.entered) eps
        ∙ ap (λ m. arrived_lens (ep_on d' Out e) m d.globals.entered) (l.but.stamps e o)
        ∙ ap (λ (g : Globals). arrived_lens (ep_on d' Out e) (slot_stamps d' e) g.entered) l.but.globals
        ∙ sym (after-stamps l.right.rest.sized e n (head_in l.right.rest e u'))

    same-but : EqualExcept c.number (after d e n) (after d' e n)
    same-but = but-changed l.but Out e o (after-changed l.left.rest.sized e n)
        (after-changed l.right.rest.sized e n)
        (after-ep l.left.rest.sized e n ∙ ap arrived_ep eps ∙ sym (after-ep l.right.rest.sized e n))
        (λ a f p. by a f p)
        (λ f p. stamps-mod (after d e n) f e (key-same Out f e p) ∙ same-stamps
        ∙ sym (stamps-mod (after d' e n) f e (key-same Out f e p)))
      where
        by : (a : Dir) (f : ℕ) → key a f ≡ key Out e → lens_of (after d e n) a f ≡ lens_of (after d' e n) a f
        by Out f p = lens-mod (after d e n) Out f e (key-same Out f e p) ∙ same-lens
            ∙ sym (lens-mod (after d' e n) Out f e (key-same Out f e p))
        by In f p = absurd (key_apart e f (sym p))

    same-marks : Only (ep_on d Out c.number).base (end_of (ep_on d Out c.number))
        (marks (ep_on (admits d e n) Out e) s.1) (marks (ep_on (admits d' e n) Out e) t.1)
    same-marks =
        let r = ep_on (admits d e n) Out e in
        subst (λ q. Only (ep_on d Out c.number).base (end_of (ep_on d Out c.number)) (marks r s.1)
        (marks q t.1)) same-before
        (only-like l.bytes (λ k h. armed-like s.1 t.1 (head_addr r) r.max_len k h))

  -- both answers of `receives`
  pub record Both (x y : ℕ × St) : Type 0 where
    pub address : x.0 ≡ y.0
    pub but : EqualExcept c.number x.1.0 y.1.0
    pub seat : SamePlace (ep_on d Out c.number) (ep_on x.1.0 Out c.number)
    pub bytes : Only (ep_on d Out c.number).base (end_of (ep_on d Out c.number)) x.1.1 y.1.1

  arrives_by : (v : Bool) → receives d e ≡ v → receives d' e ≡ v
      → Both (cond v (arrived_at e (len_of d e n) s) ((ep_on d Out e).armed_slot, s))
      (cond v (arrived_at e (len_of d' e n) t) ((ep_on d' Out e).armed_slot, t))
  arrives_by true u u' = record {
    address = ap head_addr same-before;
    but = same-but u u';
    seat = changed-seat c.number (after-changed l.left.rest.sized e n);
    bytes = same-marks u u';
  }
  arrives_by false u u' = record {
    address = ap (λ (r : EpState). r.armed_slot) eps;
    but = l.but;
    seat = same_place (ep_on d Out c.number);
    bytes = l.bytes;
  }

  arrives_both : Both (hand_on (arrive e n) s) (hand_on (arrive e n) t)
  unfolding arrive_on
  arrives_both =
      let g : receives d e ≡ receives d' e = ap (λ (g : Globals). bit_is_set (iso_outs g) (e % 16)) l.but.globals in
      subst (λ v. Both (hand_on (arrive e n) s) (cond v (arrived_at e (len_of d' e n) t) ((ep_on d' Out e).armed_slot, t)))
      g
      (arrives_by (receives d e) refl (sym g))

  pub arrives_same : ((hand_on (arrive e n) s).0 ≡ (hand_on (arrive e n) t).0)
      × LowEquiv c quiet (hand_on (arrive e n) s).1 (hand_on (arrive e n) t).1
  arrives_same =
      let b = arrives_both in (
        b.address,
        like-made l (lawful-hand c (arrive e n) l.left) (lawful-hand c (arrive e n) l.right) b.but
            b.seat b.bytes,
      )
