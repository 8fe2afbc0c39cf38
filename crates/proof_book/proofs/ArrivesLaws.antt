-- A packet that arrives on an OUT endpoint, and its receive address handed out
use Rattle.std.specs.Prelude.{Bool, cond, List, [], ◌∷◌, ◌++◌, map, ◌≡◌, refl, ℕ, ◌+◌, ◌-◌, ◌*◌, ◌/◌, ◌%◌, ◌^◌, ◌≤◌, ◌<◌, min, ltb, length, set}
use Rattle.std.proofs.Math.Bool.{true, false}
use Rattle.std.proofs.Common.{true≢false, append_assoc, sym, ◌∙◌, arith}
use Rattle.std.proofs.lemmas.List.{map-append, length-map}
use Rattle.std.proofs.Math.Path.{ap, subst}
use Rattle.bits.specs.Bit.{bit_is_set}
use Rattle.regs.specs.declared.Dir.TheVariants.{Out}
use Rattle.regs.specs.declared.Access.TheVariants.{Receive}
use Rattle.state.specs.declared.EpState.{EpState}
use Rattle.state.specs.declared.Globals.{Globals}
use Rattle.state.specs.Driver.{Driver, ep_on, with_on, with_len_on}
use Rattle.state.specs.Laws.{Sized, ep_on-same}
use Rattle.ring.specs.Fields.{with_head, with_overruns}
use Rattle.ring.specs.Slot.{slot_of, slot_addr, joined_of}
use Rattle.ring.specs.Out.{has_room_out, capped_at, overrun_of, arrived_of, arrived_lens, armed_at}
use Rattle.ring.specs.Waiting.{window, waiting, join, Only, SamePlace, Placed}
use Rattle.ring.specs.Window.{only_wider, window-length}
use Rattle.ring.specs.Slots.{slot-in, slot-from, slot-upto}
use Rattle.ring.specs.Laws.{place-placed, place-addr, alike-count, alike-waits, alike-out, slot-shows, slot-region}
use Rattle.ring.proofs.OutLaws.{armed-alike, arrived-place, capped_is, turned-counts, waiting-armed, room_out}
use Rattle.ring.proofs.OutLaws.{arrive-waits, arrive-ring, arrive-shows}
use Rattle.ring.specs.Marks.{armed}
use Rattle.ring.specs.Copies.{bytes_at}
use Rattle.ring.proofs.MarksSlots.{armed-slot}
use Rattle.ring.specs.Only as marks
use Rattle.script.specs.Cells.{EpCore}
use Rattle.script.specs.Script as script
use Rattle.script.specs.Simulates.{quiet}
use Rattle.script.specs.Statics.{flag, iso_outs}
use Rattle.script.specs.Machine.{Buf}
use Rattle.script_ops.specs.Records.{plain_of}
use Rattle.script_ops.specs.Rings.{written_on, recorded_on, admitted_on, arrived_at, arrive_on, place_on}
use Rattle.proof_book.specs.Pages.{Packet, bytes_of, stamps_of, OutPage, Pages, with_out}
use Rattle.proof_book.specs.Book.{joined, overrun, arrived, slot_told, receiving, packet_b, feed_b}
use Rattle.proof_book.specs.Coupling.{Short, lens_of, slot_stamps, OutFits, Armed, Coupling}
use Rattle.proof_book.specs.LensLaws.{lens-set, lens-on, ep-len, stamps-length, stamps-set, stamps-on, stamps-len}
use Rattle.proof_book.specs.LensLaws.{ep-stamp, lens-stamp}
use Rattle.proof_book.specs.Stamps.{stamped}
use Rattle.proof_book.specs.StampsLaws.{alike-stamps, arrive-stamps}
use Rattle.proof_book.specs.FrameLaws.{Changed, changed-not, changed-on, changed-len, changed-stamp}
use Rattle.proof_book.specs.FrameLaws.{changed-trans}
use Rattle.proof_book.specs.FrameLaws.{kept_same, end_kept, out-changed, out-moved, out-same, out-twice}
use Rattle.proof_book.specs.FrameLaws.{only-bytes}
use Rattle.proof_book.specs.HeldLaws.{HandAgrees, receives, receives-used, receives-slots, good-words}
use Rattle.proof_book.specs.LiesLaws.{received-lies}
use Rattle.proof_book.proofs.OutsLaws.{Inner, out-on, out-page, fits-alike}

-- ---- the record

-- an arrival changes the head, or the count of those turned away
module _ {A : Type 0} (f : EpState → A) (r : EpState)
    (h : (s : EpState) (n : ℕ) → f (with_head s n) ≡ f s) (o : (s : EpState) (n : ℕ) → f (with_overruns s n) ≡ f s) where
  arrived-by : (u : Bool) → f (cond u (joined_of r) (overrun_of r)) ≡ f r
  unfolding joined_of overrun_of
  arrived-by true = h r _
  arrived-by false = o r _

  arrived-keeps : f (arrived_of r) ≡ f r
  unfolding arrived_of
  arrived-keeps = arrived-by (has_room_out r)

arrived-plain : (r : EpState) → plain_of (arrived_of r) ≡ plain_of r
arrived-plain r = arrived-keeps plain_of r (λ s n. refl) (λ s n. refl)

arrived-slot : (r : EpState) → (arrived_of r).armed_slot ≡ r.armed_slot
arrived-slot r = arrived-keeps (λ s. s.armed_slot) r (λ s n. refl) (λ s n. refl)

arrived-open : (r : EpState) → (arrived_of r).«open» ≡ r.«open»
arrived-open r = arrived-keeps (λ s. s.«open») r (λ s n. refl) (λ s n. refl)

pub arrived-inner : (r : EpState) → Inner r (arrived_of r)
arrived-inner r = record { place = arrived-place r; plain = arrived-plain r }

-- ---- the page

module _ (p : OutPage) (q : Packet) where
  page-keeps : {A : Type 0} (f : OutPage → A) → ((w a : List Packet) (n : ℕ) → f (record {
    waiting = w;
    opened = p.opened;
    lost = n;
    slot = p.slot;
    admitted = a;
    read = p.read;
  }) ≡ f p) → f (arrived p q) ≡ f p
  page-keeps f h = go (ltb (length p.waiting) 15)
    where
      go : (u : Bool) → f (cond u (joined p q) (overrun p)) ≡ f p
      go true = h _ _ _
      go false = h _ _ _

  -- of each packet its bytes, or its stamp
  page-joined : {A : Type 0} (f : Packet → A) → map f (arrived p q).waiting
      ≡ cond (ltb (length p.waiting) 15) (map f p.waiting ++ (f q ∷ [])) (map f p.waiting)
  page-joined f = go (ltb (length p.waiting) 15)
    where
      go : (u : Bool) → map f (cond u (joined p q) (overrun p)).waiting
          ≡ cond u (map f p.waiting ++ (f q ∷ [])) (map f p.waiting)
      go true = map-append f p.waiting (q ∷ [])
      go false = refl

  page-ledger : p.read ++ p.waiting ≡ p.admitted → (arrived p q).read ++ (arrived p q).waiting ≡ (arrived p q).admitted
  page-ledger h = go (ltb (length p.waiting) 15)
    where
      go : (u : Bool) → let z = cond u (joined p q) (overrun p) in z.read ++ z.waiting ≡ z.admitted
      go true = sym (append_assoc p.read p.waiting (q ∷ [])) ∙ ap (λ (l : List Packet). l ++ (q ∷ [])) h
      go false = h

  page-short : (n : ℕ) → Short n p.waiting → length q.bytes ≤ n → Short n (arrived p q).waiting
  page-short n h l = go (ltb (length p.waiting) 15)
    where
      add : (w : List Packet) → Short n w → Short n (w ++ (q ∷ []))
      add [] k = (l, tt)
      add (x ∷ xs) k = (k.0, add xs k.1)

      go : (u : Bool) → Short n (cond u (joined p q) (overrun p)).waiting
      go true = add p.waiting h
      go false = h

  page-waiting : bytes_of (arrived p q).waiting ≡ join 15 (bytes_of p.waiting) q.bytes
  page-waiting = page-joined (λ (z : Packet). z.bytes)
      ∙ ap (λ (n : ℕ). cond (ltb n 15) (bytes_of p.waiting ++ (q.bytes ∷ [])) (bytes_of p.waiting))
      (sym (length-map p.waiting (λ (z : Packet). z.bytes)))

-- ---- an arrival, before its receive address is handed out

module _ {b : Buf} {r : EpState} {ls ss : List ℕ} {p : OutPage} (f : OutFits b r ls ss p)
    (sixteen : r.slots ≡ 16) (full : length ss ≡ 16) (len : ℕ) (small : len ≤ r.stride) where
  room-same : has_room_out r ≡ ltb (length p.waiting) 15
  room-same = room_out f.held.placed f.held.ring b
      ∙ ap (λ w. ltb (length w) (r.slots - 1)) f.held.waits
      ∙ ap (λ (n : ℕ). ltb n (r.slots - 1)) (length-map p.waiting (λ (z : Packet). z.bytes))
      ∙ ap (λ (n : ℕ). ltb (length p.waiting) (n - 1)) sixteen

  lost-by : (q : Packet) (u : Bool)
      → (cond u (joined_of r) (overrun_of r)).overruns
      ≡ (cond u (joined p q) (overrun p)).lost % 2 ^ 32
  unfolding joined_of
  lost-by q true = f.lost
  lost-by q false = turned-counts r p.lost f.lost

  arrived-lost : (q : Packet) → (arrived_of r).overruns ≡ (arrived p q).lost % 2 ^ 32
  unfolding arrived_of
  arrived-lost q = subst (λ u. (cond u (joined_of r) (overrun_of r)).overruns ≡ (arrived p q).lost % 2 ^ 32)
      (sym room-same) (lost-by q (ltb (length p.waiting) 15))

  module _ (q : Packet) (shown : window b (slot_addr r r.head) len ≡ q.bytes) where
    arrived-waits : waiting b (arrived_of r) (arrived_lens r ls len) ≡ bytes_of (arrived p q).waiting
    arrived-waits = arrive-waits f.held.placed f.held.ring len b
        ∙ ap (λ (n : ℕ). join (n - 1) (waiting b r ls) (window b (slot_addr r r.head) len)) sixteen
        ∙ ap (λ w. join 15 w (window b (slot_addr r r.head) len)) f.held.waits
        ∙ ap (λ x. join 15 (bytes_of p.waiting) x) shown
        ∙ sym (page-waiting p q)

    arrived-stamps : stamped (arrived_of r) (arrived_lens r ss q.stamp) ≡ stamps_of (arrived p q).waiting
    arrived-stamps = arrive-stamps f.held.placed f.held.ring ss q.stamp (omega arith)
        ∙ ap (λ (u : Bool). cond u (stamped r ss ++ (q.stamp ∷ [])) (stamped r ss)) room-same
        ∙ ap (λ (l : List ℕ). cond (ltb (length p.waiting) 15) (l ++ (q.stamp ∷ [])) l) f.stamps
        ∙ sym (page-joined p q (λ (z : Packet). z.stamp))

    arrived-fits : len ≤ r.max_len → OutFits b (arrived_of r) (arrived_lens r ls len) (arrived_lens r ss q.stamp)
        (arrived p q)
    arrived-fits most =
        let k = arrived-place r in
        let s : (arrived p q).slot ≡ p.slot = page-keeps p q (λ z. z.slot) (λ w a n. refl) in
        let m : (arrived_of r).max_len ≡ r.max_len = ap (λ (q : EpCore). q.max_len) (arrived-plain r) in
        record {
          held = record {
            placed = place-placed k f.held.placed;
            ring = arrive-ring f.held.placed f.held.ring len small;
            least = omega (arith, m, k.stride, f.held.least);
            waits = arrived-waits;
          };
          stamps = arrived-stamps;
          opened = arrived-open r ∙ f.opened ∙ ap (λ u. flag u)
              (sym (page-keeps p q (λ z. z.opened) (λ w a n. refl)));
          shows = arrive-shows f.held.placed f.held.ring f.shows;
          lost = arrived-lost q;
          slot = arrived-slot r ∙ f.slot ∙ sym s;
          from = omega (arith, s, k.base, f.from);
          upto = omega (arith, s, k.stride, end_kept k, f.upto);
          ledger = page-ledger p q f.ledger;
          short = subst (λ (n : ℕ). Short n (arrived p q).waiting) (sym m)
              (page-short p q r.max_len f.short
              (omega (arith, most, ap length shown, window-length b (slot_addr r r.head) len)));
        }

-- ---- the head's slot armed

module _ {b b' : Buf} {r : EpState} {ls ss : List ℕ} {p : OutPage} (f : OutFits b r ls ss p)
    (long : length b' ≡ length b)
    (o : Only (slot_addr r r.head) (slot_addr r r.head + r.stride) b b') where
  pub armed-fits : OutFits b' (armed_at r (slot_addr r r.head)) ls ss (slot_told p (slot_addr r r.head))
  unfolding armed_at
  armed-fits =
      let k = armed-alike r (slot_addr r r.head) in
      record {
        held = record {
          placed = place-placed k.place (subst (λ n. Placed n r) (sym long) f.held.placed);
          ring = alike-out k f.held.ring;
          least = f.held.least;
          waits = alike-waits k b' ls f.held.ring.tail8 ∙ waiting-armed f.held.placed f.held.ring b b' o
              ∙ f.held.waits;
        };
        stamps = alike-stamps k ss f.held.ring.tail8 ∙ f.stamps;
        opened = f.opened;
        shows = λ h. omega (arith, f.shows h, alike-count k);
        lost = f.lost;
        slot = refl;
        from = slot-from f.held.placed r.head;
        upto = slot-upto f.held.placed r.head;
        ledger = f.ledger;
        short = f.short;
      }

pub armed-plain : (r : EpState) (x : ℕ) → plain_of (armed_at r x) ≡ plain_of r
unfolding armed_at
armed-plain r x = refl

armed-head : (r : EpState) (x : ℕ) → (armed_at r x).head ≡ r.head
unfolding armed_at
armed-head r x = refl

-- after the record, the lengths and the stamps of OUT e changed
arm-rest : {b b' : Buf} {d : Driver} {t : Pages} → Coupling quiet b d t → (e : ℕ) (d1 : Driver) (p : OutPage)
    → Changed Out e d d1
    → plain_of (ep_on d1 Out e) ≡ plain_of (ep_on d Out e)
    → OutFits b (ep_on d1 Out e) (lens_of d1 Out e) (slot_stamps d1 e) p → receives d e ≡ true → length b' ≡ length b
    → Only (slot_addr (ep_on d1 Out e) (ep_on d1 Out e).head) (slot_addr (ep_on d1 Out e) (ep_on d1 Out e).head
    + (ep_on d1 Out e).stride) b b'
    → Coupling quiet b' (with_on d1 Out e (armed_at (ep_on d1 Out e) (slot_addr (ep_on d1 Out e) (ep_on d1 Out e).head)))
    (with_out t e (slot_told p (slot_addr (ep_on d1 Out e) (ep_on d1 Out e).head)))
arm-rest {b} {b'} {d} {t} R e d1 p c same f u long o =
    let r = ep_on d1 Out e in
    let a = slot_addr r r.head in
    let k = armed-alike r a in
    let s = c.sized in
    let c2 = changed-trans R.sized Out e c (changed-on s Out e (armed_at r a) k.place
    (ap (λ (q : EpCore). q.iso) (armed-plain r a))) in
    let z : ep_on (with_on d1 Out e (armed_at r a)) Out e ≡ armed_at r a = ep_on-same d1 Out e (armed_at r a) s in
    out-changed R e (slot_told p a) c2 (kept_same c2 (ap plain_of z ∙ armed-plain r a ∙ same) R.same) long
    (only_wider _ _ _ _ b b' (omega (arith, c.place.base))
    (omega (arith, end_kept c.place)) (slot-region f.held.placed f.held.ring r.head b b' o))
    (out-moved z (lens-on d1 Out e (armed_at r a) Out e) (stamps-on d1 Out e (armed_at r a) e) (armed-fits f long o)) tt
    (λ x v n y. y)
    (record {
      armed = λ h. subst (λ y. Armed y (slot_told p a)) (sym z) (ap (slot_addr r) (sym (armed-head r a))
          ∙ sym (place-addr k.place (armed_at r a).head));
      none = λ h. absurd (true≢false (sym u ∙ h));
    })

-- ---- a packet admitted, or turned away

module _ (d : Driver) (s : Sized d) (e len : ℕ) where
  abbrev pub head_slot : ℕ
  head_slot = slot_of (ep_on d Out e) (ep_on d Out e).head

  abbrev lengthened : Driver
  lengthened = with_len_on d Out e head_slot len

  lengthened-changed : Changed Out e d lengthened
  lengthened-changed = changed-len s Out e head_slot len

  recorded-by : (u : Bool) → Changed Out e d (cond u (written_on d e head_slot len) d)
  recorded-by true = changed-trans s Out e lengthened-changed
      (changed-stamp lengthened-changed.sized e head_slot d.globals.entered)
  recorded-by false = changed-not s Out e

  recorded-changed : Changed Out e d (recorded_on d e len)
  unfolding recorded_on
  recorded-changed = recorded-by (has_room_out (ep_on d Out e))

  recorded-ep-by : (u : Bool) → ep_on (cond u (written_on d e head_slot len) d) Out e ≡ ep_on d Out e
  recorded-ep-by true = ep-stamp lengthened e head_slot d.globals.entered Out e ∙ ep-len d Out e head_slot len Out e
  recorded-ep-by false = refl

  recorded-ep : ep_on (recorded_on d e len) Out e ≡ ep_on d Out e
  unfolding recorded_on
  recorded-ep = recorded-ep-by (has_room_out (ep_on d Out e))

  module _ (i : head_slot < 16) where
    recorded-lens-by : (u : Bool) → lens_of (cond u (written_on d e head_slot len) d) Out e
        ≡ cond u (set (lens_of d Out e) head_slot len) (lens_of d Out e)
    recorded-lens-by true = lens-stamp lengthened e head_slot d.globals.entered Out e
        ∙ lens-set d Out e s head_slot len i
    recorded-lens-by false = refl

    recorded-lens : lens_of (recorded_on d e len) Out e ≡ arrived_lens (ep_on d Out e) (lens_of d Out e) len
    unfolding recorded_on arrived_lens
    recorded-lens = recorded-lens-by (has_room_out (ep_on d Out e))

    recorded-stamps-by : (u : Bool) → slot_stamps (cond u (written_on d e head_slot len) d) e
        ≡ cond u (set (slot_stamps d e) head_slot d.globals.entered) (slot_stamps d e)
    recorded-stamps-by true = stamps-set lengthened e lengthened-changed.sized head_slot d.globals.entered i
        ∙ ap (λ (l : List ℕ). set l head_slot d.globals.entered) (stamps-len d Out e head_slot len e)
    recorded-stamps-by false = refl

    recorded-stamps : slot_stamps (recorded_on d e len) e
        ≡ arrived_lens (ep_on d Out e) (slot_stamps d e) d.globals.entered
    unfolding recorded_on arrived_lens
    recorded-stamps = recorded-stamps-by (has_room_out (ep_on d Out e))

  pub admitted-ep : ep_on (admitted_on d e len) Out e ≡ arrived_of (ep_on d Out e)
  unfolding admitted_on
  admitted-ep = ep_on-same (recorded_on d e len) Out e (arrived_of (ep_on d Out e)) recorded-changed.sized

  pub admitted-lens : head_slot < 16 → lens_of (admitted_on d e len) Out e
      ≡ arrived_lens (ep_on d Out e) (lens_of d Out e) len
  unfolding admitted_on
  admitted-lens i = lens-on (recorded_on d e len) Out e (arrived_of (ep_on d Out e)) Out e ∙ recorded-lens i

  pub admitted-stamps : head_slot < 16 → slot_stamps (admitted_on d e len) e
      ≡ arrived_lens (ep_on d Out e) (slot_stamps d e) d.globals.entered
  unfolding admitted_on
  admitted-stamps i = stamps-on (recorded_on d e len) Out e (arrived_of (ep_on d Out e)) e ∙ recorded-stamps i

  pub admitted-changed : Changed Out e d (admitted_on d e len)
  unfolding admitted_on
  admitted-changed =
      let k = arrived-inner (ep_on d Out e) in
      changed-trans s Out e recorded-changed (changed-on recorded-changed.sized Out e (arrived_of (ep_on d Out e))
      (subst (λ r. SamePlace r (arrived_of (ep_on d Out e))) (sym recorded-ep) k.place)
      (ap (λ (q : EpCore). q.iso) k.plain ∙ ap (λ (r : EpState). r.iso) (sym recorded-ep)))

-- the driver after it, its slot not yet armed
abbrev pub admits : Driver → ℕ → ℕ → Driver
admits d e n = admitted_on d e (capped_at (ep_on d Out e) n)

-- the head's address
abbrev pub head_addr : EpState → ℕ
head_addr r = slot_addr r r.head

-- the address told after the page changed
told : (t : Pages) (e x : ℕ) (q : OutPage) → feed_b (Receive e x) (with_out t e q) ≡ with_out t e (slot_told q x)
told t e x q = ap (λ z. with_out (with_out t e q) e (slot_told z x)) (out-same t e q) ∙ out-twice t e (slot_told q x) q

module _ {b : Buf} {d : Driver} {t : Pages} (R : Coupling quiet b d t) (e : ℕ) where
  max-same : (ep_on d Out e).max_len ≡ (t.kept.plain Out e).max_len
  max-same = ap (λ (p : EpCore). p.max_len) (R.same.plain Out e)

  -- the address told is the one that was
  same_told : Coupling quiet b d (with_out t e (slot_told (t.outs e) (ep_on d Out e).armed_slot))
  same_told = subst (λ (x : ℕ). Coupling quiet b d (with_out t e (slot_told (t.outs e) x)))
      (sym (R.outs e).slot) (out-page R e (t.outs e) (R.outs e) (R.arming e))

  module _ (n : ℕ) (u : receives d e ≡ true) where
    capped_small : capped_at (ep_on d Out e) n ≤ (ep_on d Out e).stride
    capped_small = omega (arith, capped_is (ep_on d Out e) n, (R.outs e).held.least)

    shown : window b (slot_addr (ep_on d Out e) (ep_on d Out e).head) (capped_at (ep_on d Out e) n)
        ≡ (packet_b e n (t, b)).bytes
    shown = slot-shows b (R.outs e).held.placed (ep_on d Out e).head (capped_at (ep_on d Out e) n) capped_small
        ∙ ap (λ (x : ℕ). bytes_at b x (capped_at (ep_on d Out e) n)) (sym ((R.arming e).armed u))
        ∙ ap (λ (x : ℕ). bytes_at b (t.outs e).slot x) (capped_is (ep_on d Out e) n ∙ ap (λ (x : ℕ). min n x) max-same)

    pub admitted-fits : OutFits b (ep_on (admits d e n) Out e)
        (lens_of (admits d e n) Out e) (slot_stamps (admits d e n) e) (arrived (t.outs e) (packet_b e n (t, b)))
    admitted-fits =
        let f = R.outs e in
        let len = capped_at (ep_on d Out e) n in
        let sixteen = receives-slots R e u in
        let i : slot_of (ep_on d Out e) (ep_on d Out e).head < 16
        = omega (arith, slot-in f.held.placed (ep_on d Out e).head, sixteen) in
        out-moved (admitted-ep d R.sized e len) (admitted-lens d R.sized e len i)
        (admitted-stamps d R.sized e len i ∙ ap (λ (g : Globals). arrived_lens (ep_on d Out e) (slot_stamps d e)
        g.entered) R.same.globals)
        (arrived-fits f sixteen (stamps-length d e) len capped_small (packet_b e n (t, b)) shown
        (omega (arith, capped_is (ep_on d Out e) n)))

    pub arrived-words : let r = ep_on (admits d e n) Out e in
        marks.Only (head_addr r) (head_addr r + r.stride) b (armed b (head_addr r) r.max_len)
    arrived-words =
        let r = ep_on (admits d e n) Out e in
        let c = admitted-changed d R.sized e (capped_at (ep_on d Out e) n) in
        let z : r.stride ≡ d.allocator.size = c.place.stride ∙ (receives-used R e u).stride in
        let w = good-words d.allocator.size R.good in
        armed-slot b (slot_addr r r.head) r.max_len r.stride
        (omega (arith, z, w.0)) (ap (λ (x : ℕ). x / 4 * 4) z ∙ w.1 ∙ sym z) admitted-fits.held.least

    arrive-rest : let x = arrived_at e (capped_at (ep_on d Out e) n) (d, b) in
        Coupling quiet x.1.1 x.1.0 (feed_b (Receive e x.0)
        (with_out t e (arrived (t.outs e) (packet_b e n (t, b)))))
    arrive-rest =
        let len = capped_at (ep_on d Out e) n in
        let d1 = admitted_on d e len in
        let r = ep_on d1 Out e in
        let o = arrived-words in
        subst (Coupling quiet (arrived_at e len (d, b)).1.1 (arrived_at e len (d, b)).1.0)
        (sym (told t e (slot_addr r r.head) _))
        (arm-rest R e d1 _ (admitted-changed d R.sized e len)
        (ap plain_of (admitted-ep d R.sized e len) ∙ arrived-plain (ep_on d Out e)) admitted-fits u o.long
        (only-bytes o))

  arrive-by : (n : ℕ) (v : Bool) → receives d e ≡ v → let x
      = cond v (arrived_at e (capped_at (ep_on d Out e) n) (d, b)) ((ep_on d Out e).armed_slot, (d, b)) in
      Coupling quiet x.1.1 x.1.0 (feed_b (Receive e x.0)
      (cond v (with_out t e (arrived (t.outs e) (packet_b e n (t, b)))) t))
  arrive-by n true h = arrive-rest n h
  arrive-by n false h = same_told

  receiving-same : receives d e ≡ receiving t e
  receiving-same = ap (λ (g : Globals). bit_is_set (iso_outs g) (e % 16)) R.same.globals

pub hand-arrive : (e n : ℕ) → HandAgrees (script.arrive e n)
unfolding arrive_on
hand-arrive e n b d t R =
    let x = cond (receives d e) (arrived_at e (capped_at (ep_on d Out e) n) (d, b)) ((ep_on d Out e).armed_slot, (d, b)) in
    let p = arrived (t.outs e) (packet_b e n (t, b)) in
    let z = subst (λ v. Coupling quiet x.1.1 x.1.0 (feed_b (Receive e x.0) (cond v (with_out t e p) t)))
    (receiving-same R e) (arrive-by R e n (receives d e) refl) in
    (z, received-lies (cond (receiving t e) (with_out t e p) t) e x.0 z)

-- ---- an endpoint's buffer handed out

placed-fits : {b : Buf} {r : EpState} {ls ss : List ℕ} {p : OutPage} → OutFits b r ls ss p
    → OutFits b (armed_at r r.base) ls ss (slot_told p r.base)
unfolding armed_at
placed-fits {r = r} {p = p} f =
    let k = armed-alike r r.base in
    fits-alike k f refl p.opened r.base (record {
      opened = f.opened;
      shows
          = λ h. omega (arith, f.shows h, alike-count k);
    })
    (record { lost = f.lost; slot = refl; from = omega arith; upto = omega (arith, f.from, f.upto) })

module _ {b : Buf} {d : Driver} {t : Pages} (R : Coupling quiet b d t) (e : ℕ) where
  place-by : (v : Bool) → receives d e ≡ v
      → let x = cond {A = ℕ × Driver} v ((ep_on d Out e).armed_slot, d)
      ((ep_on d Out e).base, with_on d Out e (armed_at (ep_on d Out e) (ep_on d Out e).base)) in
      Coupling quiet b x.1 (feed_b (Receive e x.0) t)
  place-by true h = same_told R e
  place-by false h =
      let r = ep_on d Out e in
      out-on R e (armed_at r r.base) (slot_told (t.outs e) r.base)
      (record { place = (armed-alike r r.base).place; plain = armed-plain r r.base }) (placed-fits (R.outs e))
      (record {
        armed = λ z. absurd (true≢false (sym z ∙ h));
        none = λ z. alike-count (armed-alike r r.base)
            ∙ (R.arming e).none h;
      })

pub hand-place-out : (e : ℕ) → HandAgrees (script.place Out e)
unfolding place_on
hand-place-out e b d t R = let z = place-by R e (receives d e) refl in (z, received-lies t e _ z)
