-- The interrupt's script: what it decides is an arrival, and where it has to check it has looked at every enabled
-- isochronous OUT when it ends
use Rattle.std.proofs.Math.Bool.{Bool, true, false, not, cond, and-true, and-false}
use Rattle.std.specs.Prelude.{◌&&◌, ◌||◌, ◌⊎◌, ◌≡◌, ℕ, zero, suc, ◌%◌, ◌<◌}
use Rattle.std.proofs.Common.{true≢false, subst, ◌∙◌, arith}
use mathlib.Core.List.{List, [], ◌∷◌, ◌++◌}
use Rattle.std.proofs.Math.Logic.{inl, inr}
use Rattle.std.proofs.Math.Path.{refl, ap, ap₂, sym}
use Rattle.std.proofs.Math.Dec.{eqb, eqb-suc-suc}
use borrow.Author.Tests.{eqb-true, not-true}
use Rattle.bits.specs.Bit.{bit_is_set}
use Rattle.bits.specs.Walk.{set_bits}
use Rattle.bits.specs.WalkLaws as walk
use Rattle.regs.specs.declared.Access.{Access}
use Rattle.regs.specs.declared.Access.TheVariants.{Read, Write, Receive, Transmit, Ep0Dma, Wait, Callback}
use Rattle.regs.specs.declared.Reg.{Reg}
use Rattle.regs.specs.declared.Reg.TheVariants.{IntFg, IntSt, MisSt, RxLen, FrameNo}
use Rattle.regs.specs.declared.Dir.TheVariants.{Out, In}
use Rattle.regs.specs.declared.Token.{Token}
use Rattle.regs.specs.declared.Token.TheVariants as tok
use Rattle.regs.specs.Status.{endpoint, token, is_out, is_in, is_sof, tog_ok, out_token}
use Rattle.regs.specs.MisStatus.{sie_free}
use Rattle.regs.specs.Flags.{bus_rst, transfer, suspend, hst_sof, fifo_ov, setup_act, HST_SOF, FIFO_OV}
use Rattle.regs.specs.IntEn.{with_bus_rst, with_suspend}
use Rattle.script.specs.declared.Transfer.{Transfer}
use Rattle.script.specs.Tree as tree
use Rattle.script.specs.Cells.{EpCore, ep-cell}
use Rattle.script.specs.Every.{same_reg}
use Rattle.script.specs.Script.{Script, run, write, when, changed, marked, no_wakes}
use Rattle.script.specs.Calls.{interrupt_code}
use Rattle.script.specs.Answers.{Answer, Refused, End, NotYet, Done, Shown}
use Rattle.script.specs.Statics.{is_on, iso_outs, every_iso_in}
use Rattle.script.specs.IsoOut.{arriving, entry, arrives, check_one, check_walk}
use Rattle.script.specs.Handler.{entered, same_out, late_taken, released, waits_for_iso, waits_for_bulk}
use Rattle.script.specs.Handler.{settle, iso_for, own_in, framed, served, on_transfer, on_interrupt}
use Rattle.proof_book.specs.Book.{Bk, get_b, book_ops}
use Rattle.proof_book.specs.Lengths.{Readings, one_more, bringing, first, second, its_own}
use Rattle.proof_book.specs.Arrivals.{changed_in, Note, again, last, comes, settled, checks, due_by, due}
use Rattle.proof_book.specs.Arrivals.{held, unread}
use Rattle.proof_book.specs.Arrivals.{Arrival, with_length, late}
use Rattle.proof_book.specs.BookDecidesLaws.{Idle, idle, number_in}
use Rattle.proof_book.specs.QuietPartsLaws.{NoPacketArrives}
use Rattle.proof_book.specs.ArrivalQuietLaws.{silent, spares, steady, of-looks, of-nak, of-sof, of-late-walk}
use Rattle.proof_book.specs.ArrivalQuietLaws.{of-dispatch, of-ep0-moved}
use Rattle.proof_book.specs.ArrivalQuietLaws.{of-on-setup, of-entered, of-masked}
use Rattle.proof_book.specs.ArrivalScriptsLaws.{Fixed, Even, seen, next, calm, Told, t_end, t_ask, told-from}
use Rattle.proof_book.specs.ArrivalScriptsLaws.{told-bind, told-cond}
use Rattle.proof_book.specs.ArrivalScriptsLaws.{no-arrival, arrive-fixed, quiet_run, seen_same, told-weaker}
use Rattle.proof_book.specs.HeldLaws.{left, right}

pub not_false : (a : Bool) → not a ≡ false → a ≡ true
not_false true h = refl
not_false false h = sym h

pub other-false : (a b : Bool) → a ≡ true → (a && b) ≡ false → b ≡ false
other-false true b h k = k
other-false false b h k = absurd (true≢false (sym h))

same_number : (n : ℕ) → eqb n n ≡ true
same_number zero = refl
same_number (suc n) = eqb-suc-suc n n ∙ same_number n

-- ---- readings

pub head-stays : (u : Bool) (v m : ℕ) (l es : List ℕ) → l ≡ m ∷ es → one_more u v l ≡ m ∷ one_more u v es
head-stays true v m l es h = ap (λ (l : List ℕ). l ++ (v ∷ [])) h
head-stays false v m l es h = h

pub heads-stay : (u : Bool) (v m n : ℕ) (l es : List ℕ) → l ≡ m ∷ (n ∷ es) → one_more u v l ≡ m ∷ (n ∷ one_more u v es)
heads-stay true v m n l es h = ap (λ (l : List ℕ). l ++ (v ∷ [])) h
heads-stay false v m n l es h = h

pub more-not : (u : Bool) (v : ℕ) (l : List ℕ) → u ≡ false → one_more u v l ≡ l
more-not true v l h = absurd (true≢false h)
more-not false v l h = refl

pub neither : (a b : Bool) → not (a || b) ≡ true → (a ≡ false) × (b ≡ false)
neither true b h = absurd (true≢false (sym h))
neither false true h = absurd (true≢false (sym h))
neither false false h = (refl, refl)

pub last_is : (l : List ℕ) (v : ℕ) → last (l ++ (v ∷ [])) ≡ v
last_is [] v = refl
last_is (x ∷ []) v = refl
last_is (x ∷ (y ∷ l)) v = last_is (y ∷ l) v

-- of the readings, the flags' and the frames'
abbrev Lists : Type 1
Lists = Readings → List ℕ → List ℕ → Type 0

abbrev Of : Lists → Note → Bk → Type 0
Of G k s = G k.known.readings k.flags k.frames

abbrev Stable : (Reg → Bool) → Lists → Type 0
Stable reads G = (r : Reg) (e v : ℕ) (h : Readings) (fs gs : List ℕ) → reads r ≡ true → G h fs gs
    → G (bringing (Read r e) v h) (one_more (same_reg r IntFg) v fs) (one_more (same_reg r FrameNo) v gs)

lists-on : (G : Lists) {reads : Reg → Bool} → Stable reads G
    → (q : Access) → calm reads q ≡ true → (k : Note) (s u : Bk) (v : ℕ) → Of G k s → Of G (next q s v k) u
lists-on G on (Read r e) a k s u v g = on r e v k.known.readings k.flags k.frames a g
lists-on G on (Write r e x) a k s u v g = g
lists-on G on (Receive e x) a k s u v g = g
lists-on G on (Transmit e x) a k s u v g = g
lists-on G on (Ep0Dma x) a k s u v g = g
lists-on G on (Wait n) a k s u v g = g
lists-on G on Callback a k s u v g = g

-- what was looked at stays so
more-seen : (l a c h g : Bool) → (l || (a && (c || (h || false)))) ≡ true → (l || (a && (c || (h || g)))) ≡ true
more-seen true a c h g p = refl
more-seen false false c h g p = p
more-seen false true true h g p = refl
more-seen false true false true g p = refl
more-seen false true false false g p = absurd (true≢false (sym p))

pub or_left : (l r : Bool) → l ≡ true → (l || r) ≡ true
or_left true r h = refl
or_left false r h = absurd (true≢false (sym h))

pub or_right : (l r : Bool) → r ≡ true → (l || r) ≡ true
or_right true r h = refl
or_right false r h = h

pub both : (a b : Bool) → a ≡ true → b ≡ true → (a && b) ≡ true
both true b h k = k
both false b h k = h

seen-on : (q : Access) (k : Note) (s u : Bk) (v e : ℕ) → seen k s e ≡ true → seen (next q s v k) u e ≡ true
seen-on q k s u v e h = or_left _ _ (by q)
  where
    by : (q : Access) → (next q s v k).looked e ≡ true
    by (Read r f) = more-seen (k.looked e) (again k.frames) (not (changed_in s.0 s.1 e)) (held k e) false h
    by (Write r f x) = more-seen (k.looked e) (again k.frames) (not (changed_in s.0 s.1 e)) (held k e) false h
    by (Receive f x) = more-seen (k.looked e) (again k.frames) (not (changed_in s.0 s.1 e)) (held k e) (eqb (f % 16) (e % 16)) h
    by (Transmit f x) = more-seen (k.looked e) (again k.frames) (not (changed_in s.0 s.1 e)) (held k e) false h
    by (Ep0Dma x) = more-seen (k.looked e) (again k.frames) (not (changed_in s.0 s.1 e)) (held k e) false h
    by (Wait n) = more-seen (k.looked e) (again k.frames) (not (changed_in s.0 s.1 e)) (held k e) false h
    by Callback = more-seen (k.looked e) (again k.frames) (not (changed_in s.0 s.1 e)) (held k e) false h

abbrev Seen : (ℕ → Type 0) → Note → Bk → Type 0
Seen D k s = (f : ℕ) → D f → seen k s f ≡ true

-- before the transfer
record Unread (flag : ℕ) (h : Readings) (fs gs : List ℕ) : Type 0 where
  frame : ℕ
  engine : h.engine ≡ []
  status : h.status ≡ []
  lengths : h.lengths ≡ []
  flags : fs ≡ flag ∷ []
  frames : gs ≡ frame ∷ []

unread-on : (flag : ℕ) → Stable silent (Unread flag)
unread-on flag r e v h fs gs u b = absurd (true≢false (sym u))

-- it is begun
record Began (flag m st n : ℕ) (h : Readings) (fs gs : List ℕ) : Type 0 where
  frame : ℕ
  later : List ℕ
  engine : h.engine ≡ m ∷ later
  status : h.status ≡ st ∷ []
  lengths : h.lengths ≡ n ∷ []
  flags : fs ≡ flag ∷ []
  frames : gs ≡ frame ∷ []

pub record Spared (r : Reg) : Type 0 where
  pub status : same_reg r IntSt ≡ false
  pub lengths : same_reg r RxLen ≡ false
  pub flags : same_reg r IntFg ≡ false
  pub frames : same_reg r FrameNo ≡ false

pub spared : (r : Reg) → spares r ≡ true → Spared r
spared r u =
    let x = neither (same_reg r IntSt) (same_reg r RxLen || (same_reg r IntFg || same_reg r FrameNo)) u in
    let y = neither (same_reg r RxLen) (same_reg r IntFg || same_reg r FrameNo) (ap not x.1) in
    let z = neither (same_reg r IntFg) (same_reg r FrameNo) (ap not y.1) in
    record { status = x.0; lengths = y.0; flags = z.0; frames = z.1 }

began-on : (flag m st n : ℕ) → Stable spares (Began flag m st n)
began-on flag m st n r e v h fs gs u b =
    let x = spared r u in
    record {
      frame = b.frame;
      later = one_more (same_reg r MisSt) v b.later;
      engine = head-stays (same_reg r MisSt) v m h.engine b.later b.engine;
      status = more-not (same_reg r IntSt) v h.status x.status ∙ b.status;
      lengths = more-not (same_reg r RxLen) v h.lengths x.lengths ∙ b.lengths;
      flags = more-not (same_reg r IntFg) v fs x.flags ∙ b.flags;
      frames = more-not (same_reg r FrameNo) v gs x.frames ∙ b.frames;
    }

-- its status was read anew, where its flag was taken
record Anew (flag m st again-flag now : ℕ) (h : Readings) (fs gs : List ℕ) : Type 0 where
  frame : ℕ
  later : List ℕ
  engine : h.engine ≡ m ∷ later
  status : h.status ≡ st ∷ (now ∷ [])
  flags : fs ≡ flag ∷ (again-flag ∷ [])
  frames : gs ≡ frame ∷ []

anew-on : (flag m st f now : ℕ) → Stable spares (Anew flag m st f now)
anew-on flag m st f now r e v h fs gs u b =
    let x = spared r u in
    record {
      frame = b.frame;
      later = one_more (same_reg r MisSt) v b.later;
      engine = head-stays (same_reg r MisSt) v m h.engine b.later b.engine;
      status = more-not (same_reg r IntSt) v h.status x.status ∙ b.status;
      flags = more-not (same_reg r IntFg) v fs x.flags ∙ b.flags;
      frames = more-not (same_reg r FrameNo) v gs x.frames ∙ b.frames;
    }

record Heads (m st : ℕ) (h : Readings) : Type 0 where
  later : List ℕ
  others : List ℕ
  engine : h.engine ≡ m ∷ later
  status : h.status ≡ st ∷ others

heads-on : (m st : ℕ) (r : Reg) (e v : ℕ) (h : Readings) → Heads m st h → Heads m st (bringing (Read r e) v h)
heads-on m st r e v h b = record {
  later = one_more (same_reg r MisSt) v b.later;
  others = one_more (same_reg r IntSt) v b.others;
  engine = head-stays (same_reg r MisSt) v m h.engine b.later b.engine;
  status = head-stays (same_reg r IntSt) v st h.status b.others b.status;
}

-- the status by which the interrupt goes
abbrev retook : List ℕ → Bool
retook fs = again fs && not (transfer (second fs))

pub data Stat (st : ℕ) (h : Readings) (fs : List ℕ) : Type 0 where
  once : (ss : List ℕ) → h.status ≡ st ∷ ss → retook fs ≡ false → Stat st h fs
  anew : (s₀ : ℕ) (ss : List ℕ) → h.status ≡ s₀ ∷ (st ∷ ss) → retook fs ≡ true → Stat st h fs

pub stat-is : (st : ℕ) (h : Readings) (fs : List ℕ) → Stat st h fs → cond (retook fs) (second h.status) (first h.status) ≡ st
stat-is st h fs (once ss p u) = ap (λ (b : Bool). cond b (second h.status) (first h.status)) u ∙ ap first p
stat-is st h fs (anew s₀ ss p u) = ap (λ (b : Bool). cond b (second h.status) (first h.status)) u ∙ ap second p

-- all that stays when the transfer is settled
module _ (I : ℕ → Bool) where
  abbrev Lengthless : Transfer → Type 0
  Lengthless x = (x.len_ok ≡ false) ⊎ ((is_out x.st && I (endpoint x.st)) ≡ false)

  data Settled (x : Transfer) (h : Readings) : Type 0 where
    was_free : (m st n : ℕ) (es ss ls : List ℕ) → h.engine ≡ m ∷ es → h.status ≡ st ∷ ss → h.lengths ≡ n ∷ ls
        → sie_free m ≡ true
        → x ≡ entered m st n → Settled x h
    was_late : (m st n now len : ℕ) (es ss ls : List ℕ) → h.engine ≡ m ∷ es → h.status ≡ st ∷ (now ∷ ss) → h.lengths
        ≡ n ∷ (len ∷ ls)
        → sie_free m ≡ false → x ≡ late_taken (entered m st n) now len → Settled x h
    was_other : (m st : ℕ) → Heads m st h → sie_free m ≡ false → (is_out st && I (endpoint st)) ≡ false → Lengthless x → Settled x h

  settled_on : (x : Transfer) (r : Reg) (e v : ℕ) (h : Readings) → Settled x h → Settled x (bringing (Read r e) v h)
  settled_on x r e v h (was_free m st n es ss ls p q l f w)
      = was_free m st n _ _ _ (head-stays (same_reg r MisSt) v m h.engine es p)
      (head-stays (same_reg r IntSt) v st h.status ss q) (head-stays (same_reg r RxLen) v n h.lengths ls l) f w
  settled_on x r e v h (was_late m st n now len es ss ls p q l f w)
      = was_late m st n now len _ _ _ (head-stays (same_reg r MisSt) v m h.engine es p)
      (heads-stay (same_reg r IntSt) v st now h.status ss q) (heads-stay (same_reg r RxLen) v n len h.lengths ls l)
      f w
  settled_on x r e v h (was_other m st b f o y) = was_other m st (heads-on m st r e v h b) f o y

  record Settles (flag : ℕ) (x : Transfer) (h : Readings) (fs gs : List ℕ) : Type 0 where
    before : ℕ
    more : List ℕ
    settled : Settled x h
    status : Stat x.st h fs
    flags : fs ≡ flag ∷ more
    frames : gs ≡ before ∷ []

  -- and its frame is read
  record Ready (flag : ℕ) (x : Transfer) (h : Readings) (fs gs : List ℕ) : Type 0 where
    more : List ℕ
    before : ℕ
    frame : ℕ
    settled : Settled x h
    status : Stat x.st h fs
    flags : fs ≡ flag ∷ more
    frames : gs ≡ before ∷ (frame ∷ [])

pub stat-on : (st : ℕ) (r : Reg) (e v : ℕ) (h : Readings) (fs : List ℕ) → same_reg r IntFg ≡ false → Stat st h fs
    → Stat st (bringing (Read r e) v h) (one_more (same_reg r IntFg) v fs)
stat-on st r e v h fs n (once ss p u) = once _ (head-stays (same_reg r IntSt) v st h.status ss p)
    (ap retook (more-not (same_reg r IntFg) v fs n) ∙ u)
stat-on st r e v h fs n (anew s₀ ss p u) = anew s₀ _ (heads-stay (same_reg r IntSt) v s₀ st h.status ss p)
    (ap retook (more-not (same_reg r IntFg) v fs n) ∙ u)

ready_on : (I : ℕ → Bool) (flag : ℕ) (x : Transfer) → Stable steady (Ready I flag x)
ready_on I flag x r e v h fs gs u b =
    let y = neither (same_reg r IntFg) (same_reg r FrameNo) u in
    record {
      more = b.more;
      before = b.before;
      frame = b.frame;
      settled = settled_on I x r e v h b.settled;
      status = stat-on x.st r e v h fs y.0 b.status;
      flags = more-not (same_reg r IntFg) v fs y.0 ∙ b.flags;
      frames = more-not (same_reg r FrameNo) v gs y.1 ∙ b.frames;
    }

-- ---- what the interrupt has looked at, at its end

module _ (W : ℕ) where
  abbrev Walked : ℕ → Type 0
  Walked f = walk.In f (set_bits W)

  data Over (k : Note) (s : Bk) : Type 0 where
    all : Seen Walked k s → Over k s
    a_sof : (st flag : ℕ) (fs : List ℕ) → k.flags ≡ flag ∷ fs → Stat st k.known.readings k.flags → is_sof st
        ≡ true
        → Over k s
    no_transfer : (flag : ℕ) (fs : List ℕ) → k.flags ≡ flag ∷ fs → transfer flag ≡ false → Over k s

  over_idle : (k : Note) (s t : Bk) → Idle s t → Over k s → Over k t
  over_idle k s t i (all h) = all (λ f d. seen_same k s t i f ∙ h f d)
  over_idle k s t i (a_sof st flag fs z p q) = a_sof st flag fs z p q
  over_idle k s t i (no_transfer flag fs p q) = no_transfer flag fs p q

  over_on : (q : Access) → calm steady q ≡ true → (k : Note) (s u : Bk) (v : ℕ) → Over k s → Over (next q s v k) u
  over_on q a k s u v (all h) = all (λ f d. seen-on q k s u v f (h f d))
  over_on (Read r e) a k s u v (a_sof st flag fs z p n) =
      a_sof st flag _ (head-stays (same_reg r IntFg) v flag k.flags fs z)
      (stat-on st r e v _ k.flags (neither (same_reg r IntFg) (same_reg r FrameNo) a).0 p) n
  over_on (Write r e x) a k s u v (a_sof st flag fs z p n) = a_sof st flag fs z p n
  over_on (Receive e x) a k s u v (a_sof st flag fs z p n) = a_sof st flag fs z p n
  over_on (Transmit e x) a k s u v (a_sof st flag fs z p n) = a_sof st flag fs z p n
  over_on (Ep0Dma x) a k s u v (a_sof st flag fs z p n) = a_sof st flag fs z p n
  over_on (Wait m) a k s u v (a_sof st flag fs z p n) = a_sof st flag fs z p n
  over_on Callback a k s u v (a_sof st flag fs z p n) = a_sof st flag fs z p n
  over_on (Read r e) a k s u v (no_transfer flag fs p n)
      = no_transfer flag _ (head-stays (same_reg r IntFg) v flag k.flags fs p) n
  over_on (Write r e x) a k s u v (no_transfer flag fs p n) = no_transfer flag fs p n
  over_on (Receive e x) a k s u v (no_transfer flag fs p n) = no_transfer flag fs p n
  over_on (Transmit e x) a k s u v (no_transfer flag fs p n) = no_transfer flag fs p n
  over_on (Ep0Dma x) a k s u v (no_transfer flag fs p n) = no_transfer flag fs p n
  over_on (Wait m) a k s u v (no_transfer flag fs p n) = no_transfer flag fs p n
  over_on Callback a k s u v (no_transfer flag fs p n) = no_transfer flag fs p n

  -- so where it has to check all were looked at
  over_due : (k : Note) (s : Bk) → Over k s → due k ≡ true → Seen Walked k s
  over_due k s (all h) c = h
  over_due k s (a_sof st flag fs z p n) c =
      let both : (transfer flag && not (is_sof (settled k))) ≡ true
      = sym (ap (λ (l : List ℕ). due_by l (is_sof (settled k))) z) ∙ c in
      absurd (true≢false (sym (right (transfer flag) _ both)
      ∙ ap not (ap is_sof (stat-is st k.known.readings k.flags p) ∙ n)))
  over_due k s (no_transfer flag fs p n) c =
      let both : (transfer flag && not (is_sof (settled k))) ≡ true
      = sym (ap (λ (l : List ℕ). due_by l (is_sof (settled k))) p) ∙ c in
      absurd (true≢false (sym (left (transfer flag) _ both) ∙ n))

-- ---- whether its length came

module _ (I : ℕ → Bool) where
  is_iso_lem : (st e : ℕ) (o n : EpCore) → is_on o.iso ≡ I (endpoint st) → arriving st e ≡ true → I e ≡ true
      → iso_for (token st) o n ≡ true
  unfolding arriving is_out iso_for
  is_iso_lem st e o n k a i = by (token st) (left (out_token (token st)) (eqb (endpoint st) e) a)
    where
      by : (t : Token) → out_token t ≡ true → iso_for t o n ≡ true
      by tok.Out h = k ∙ ap I (eqb-true (endpoint st) e (right (out_token (token st)) (eqb (endpoint st) e) a)) ∙ i
      by tok.Sof h = absurd (true≢false (sym h))
      by tok.In h = absurd (true≢false (sym h))
      by tok.Setup h = absurd (true≢false (sym h))

  not_arriving : (st e : ℕ) → I e ≡ true → (is_out st && I (endpoint st)) ≡ false → arriving st e ≡ false
  unfolding arriving
  not_arriving st e i h = by (is_out st) (eqb (endpoint st) e) refl h
    where
      by : (u w : Bool) → eqb (endpoint st) e ≡ w → (u && I (endpoint st)) ≡ false → (u && w) ≡ false
      by true true k h = absurd (true≢false (sym (ap I (eqb-true (endpoint st) e k) ∙ i) ∙ h))
      by true false k h = refl
      by false w k h = refl

  own_iso : (iso t a : Bool) → (a ≡ true → iso ≡ true) → (iso && (t && a)) ≡ (t && a)
  own_iso true t a h = refl
  own_iso false t true h = absurd (true≢false (sym (h refl)))
  own_iso false t false h = sym (and-false t)

  abbrev Comes : Readings → Transfer → Bool → Type 0
  Comes h y iso = (e : ℕ) → I e ≡ true → comes h e ≡ entry y iso e

  module _ (o n : EpCore) (sof frame : ℕ) where
    comes-free : (h : Readings) (m st len : ℕ) (es ss : List ℕ) → h.engine ≡ m ∷ es → h.status ≡ st ∷ ss
        → sie_free m ≡ true → is_on o.iso ≡ I (endpoint st)
        → let iso = iso_for (token st) o n in Comes h (framed (entered m st len) iso sof frame) iso
    unfolding entry own_in
    comes-free h m st len es ss p q f k e i =
        ap (λ (u : Bool). cond u (its_own h e) (its_own h e && (not (eqb (second h.lengths) 0) && arriving (second h.status) e)))
        (ap (λ (l : List ℕ). sie_free (first l)) p ∙ f)
        ∙ ap (λ (s : List ℕ). tog_ok (first s) && arriving (first s) e) q
        ∙ by (sie_free m) f (iso_for (token st) o n) (own_iso (iso_for (token st) o n) (tog_ok st) (arriving st e) (λ a. is_iso_lem st e o n k a i))
      where
        by : (u : Bool) → u ≡ true → (iso : Bool) → (iso && (tog_ok st && arriving st e)) ≡ (tog_ok st && arriving st e)
            → let x : Transfer = record { busy = not u; st = st; len = len; late = false; len_ok = true } in
            let y : Transfer = cond (x.busy && (iso && (is_in st && eqb sof frame))) (released x) x in
            (tog_ok st && arriving st e) ≡ (not y.busy && (y.len_ok && (iso && (tog_ok y.st && arriving y.st e))))
        by true h iso k = sym k
        by false h iso k = absurd (true≢false (sym h))

    comes-late : (h : Readings) (m st n₀ now len : ℕ) (es ss ls : List ℕ) → h.engine ≡ m ∷ es → h.status ≡ st
        ∷ (now ∷ ss)
        → h.lengths ≡ n₀ ∷ (len ∷ ls) → sie_free m ≡ false → is_on o.iso ≡ I (endpoint st)
        → let iso = iso_for (token st) o n in Comes h (framed (late_taken (entered m st n₀) now len) iso sof frame) iso
    unfolding entry own_in same_out arriving
    comes-late h m st n₀ now len es ss ls p q l f k e i =
        ap (λ (u : Bool). cond u (its_own h e) (its_own h e && (not (eqb (second h.lengths) 0) && arriving (second h.status) e)))
        (ap (λ (l : List ℕ). sie_free (first l)) p ∙ f)
        ∙ ap₂ (λ (s l : List ℕ). (tog_ok (first s) && arriving (first s) e) && (not (eqb (second l) 0) && arriving (second s) e)) q l
        ∙ by (tog_ok st && arriving st e) refl
      where
        same_out_lem : Bool
        same_out_lem = not (eqb len 0) && (is_out now && eqb (endpoint now) (endpoint st))

        by : (u : Bool) → (tog_ok st && arriving st e) ≡ u → (u && (not (eqb len 0) && arriving now e)) ≡ (same_out_lem && (iso_for (token st) o n && u))
        by true own =
            let a = right (tog_ok st) (arriving st e) own in
            let same_number : endpoint st ≡ e = eqb-true (endpoint st) e (right (is_out st) (eqb (endpoint st) e) a) in
            ap (λ (f : ℕ). not (eqb len 0) && (is_out now && eqb (endpoint now) f)) (sym same_number)
            ∙ sym (and-true same_out_lem) ∙ ap (λ (u : Bool). same_out_lem && u) (sym (and-true (iso_for (token st) o n) ∙ is_iso_lem st e o n k a i))
        by false own = sym (ap (λ (u : Bool). same_out_lem && u) (and-false (iso_for (token st) o n)) ∙ and-false same_out_lem)

    no_entry : (b l j t a : Bool) → (l ≡ false) ⊎ (a ≡ false) → (b && (l && (j && (t && a)))) ≡ false
    no_entry false l j t a h = refl
    no_entry true false j t a h = refl
    no_entry true true false t a h = refl
    no_entry true true true false a h = refl
    no_entry true true true true a (inl h) = absurd (true≢false h)
    no_entry true true true true a (inr h) = h

    comes-other : (h : Readings) (m st : ℕ) (x : Transfer) → Heads m st h → sie_free m ≡ false → (is_out st && I (endpoint st)) ≡ false → Lengthless I x
        → (iso : Bool) → Comes h (framed x iso sof frame) iso
    unfolding entry
    comes-other h m st x b f other less iso e i =
        ap (λ (u : Bool). cond u (its_own h e) (its_own h e && (not (eqb (second h.lengths) 0) && arriving (second h.status) e)))
        (ap (λ (l : List ℕ). sie_free (first l)) b.engine ∙ f)
        ∙ ap (λ (u : Bool). u && (not (eqb (second h.lengths) 0) && arriving (second h.status) e))
        (ap (λ (l : List ℕ). tog_ok (first l) && arriving (first l) e) b.status ∙ ap (λ (u : Bool). tog_ok st && u)
        (not_arriving st e i other) ∙ and-false (tog_ok st))
        ∙ by (own_in x iso sof frame)
      where
        none : (x.len_ok ≡ false) ⊎ (arriving x.st e ≡ false)
        none = elim less [
          | inl z ↦ inl z
          | inr z ↦ inr (not_arriving x.st e i z)
        ]

        by : (u : Bool) → let y : Transfer = cond u (released x) x in
            false ≡ (not y.busy && (y.len_ok && (iso && (tog_ok y.st && arriving y.st e))))
        by true = sym (no_entry true x.len_ok iso (tog_ok x.st) (arriving x.st e) none)
        by false = sym (no_entry (not x.busy) x.len_ok iso (tog_ok x.st) (arriving x.st e) none)

    comes-by : (x : Transfer) (h : Readings) → is_on o.iso ≡ I (endpoint x.st) → Settled I x h
        → let iso = iso_for (token x.st) o n in Comes h (framed x iso sof frame) iso
    comes-by x h k (was_free m st len es ss ls p q l f w) =
        subst (λ (x : Transfer). is_on o.iso ≡ I (endpoint x.st) → let iso = iso_for (token x.st) o n in Comes h (framed x iso sof frame) iso)
        (sym w) (comes-free h m st len es ss p q f) k
    comes-by x h k (was_late m st n₀ now len es ss ls p q l f w) =
        subst (λ (x : Transfer). is_on o.iso ≡ I (endpoint x.st) → let iso = iso_for (token x.st) o n in Comes h (framed x iso sof frame) iso)
        (sym w) (comes-late h m st n₀ now len es ss ls p q l f) k
    comes-by x h k (was_other m st b f other less) = comes-other h m st x b f other less (iso_for (token x.st) o n)

-- an interrupt that has to check and ends has looked at all
abbrev pub LookedAt : ℕ → Answer → Note → Bk → Type 0
LookedAt W a l t = (r : ℕ) (ws : List ℕ) → a ≡ End r ws → due l ≡ true → (e : ℕ) → walk.In e (set_bits W) → seen l t e
    ≡ true

-- ---- the script

module _ (I : ℕ → Bool) (W : ℕ) (even : Even I) (inside : (e : ℕ) → bit_is_set W (e % 16) ≡ true → I e ≡ true) where
  abbrev Goes : {A : Type 0} → (A → Note → Bk → Type 0) → Note → Bk → tree.Out Bk A → Type 0
  Goes P k s o = Told I W P k s o

  -- a quiet part, of lists that its readings leave so
  lists-run : (G : Lists) {reads : Reg → Bool} → Stable reads G → {A : Type 0} {p : Script true A}
      → NoPacketArrives reads A p → (s : Bk) (k : Note)
      → Fixed I W s.0 → Of G k s → Goes (λ a l t. Of G l t) k s (run book_ops p s)
  lists-run G on x s k f g = quiet_run even {G = Of G} (λ k s t i g. g) (λ q a k s u v g. lists-on G on q a k s u v g) x
      s k f g

  over-run : {A : Type 0} {p : Script true A} → NoPacketArrives steady A p → (s : Bk) (k : Note) → Fixed I W s.0
      → Over W k s
      → Goes (λ a l t. Over W l t) k s (run book_ops p s)
  over-run x s k f g = quiet_run even {G = Over W} (over_idle W) (over_on W) x s k f g

  -- ---- settled

  module _ (flag m st n : ℕ) where
    abbrev x₀ : Transfer
    x₀ = entered m st n

    settle_told : (s : Bk) (k : Note) → Fixed I W s.0 → Of (Began flag m st n) k s
        → Goes (λ x l t. Of (Settles I flag x) l t) k s (run {i = true} book_ops (settle x₀) s)
    unfolding waits_for_iso waits_for_bulk
    settle_told s k f b =
        told-cond (waits_for_iso x₀ o)
        (λ u. let busy : sie_free m ≡ false = not-true (sie_free m) (left (not (sie_free m)) (is_out st && is_on o.iso) u) in
        told-bind (lists-run (Began flag m st n) (began-on flag m st n) (of-looks 2001) s k f b)
        (λ _ t l f c. t_ask (no-arrival refl) f (λ now u f. t_ask (no-arrival refl) f (λ len w f. t_end idle f (record {
          before = c.frame;
          more = [];
          settled = was_late m st n now len c.later [] [] c.engine (ap (λ (l : List ℕ). l ++ (now ∷ [])) c.status)
              (ap (λ (l : List ℕ). l ++ (len ∷ [])) c.lengths) busy refl;
          status = once (now ∷ []) (ap (λ (l : List ℕ). l ++ (now ∷ [])) c.status) (ap retook c.flags);
          flags = c.flags;
          frames = c.frames;
        })))))
        (λ free. told-cond (waits_for_bulk x₀ (get_b (ep-cell In (endpoint st)) s))
        (λ u. let busy : not (sie_free m) ≡ true = left (not (sie_free m)) _ u in
        told-bind (lists-run (Began flag m st n) (began-on flag m st n) (of-looks 2001) s k f b)
        (λ _ t l f c. t_ask (no-arrival refl) f (λ len w f. t_end idle f (record {
          before = c.frame;
          more = [];
          settled = was_other m st (record { later = c.later; others = []; engine = c.engine; status = c.status })
              (not-true (sie_free m) busy) (others free busy) (inr (others free busy));
          status = once [] c.status (ap retook c.flags);
          flags = c.flags;
          frames = c.frames;
        }))))
        (λ _. told-cond (not (sie_free m))
        (λ busy. t_ask (no-arrival refl) f (λ m₁ t f. told-cond (sie_free m₁)
        (λ _. t_ask (no-arrival refl) f (λ g u f. told-cond (transfer g)
        (λ taken. t_end idle f (record {
          before = b.frame;
          more = g ∷ [];
          settled = was_other m st
              (record { later = b.later ++ (m₁ ∷ []); others = []; engine = ap (λ (l : List ℕ). l ++ (m₁ ∷ [])) b.engine; status = b.status })
              (not-true (sie_free m) busy) (others free busy) (inr (others free busy));
          status = once [] b.status (ap (λ (l : List ℕ). retook (l ++ (g ∷ []))) b.flags ∙ ap not taken);
          flags = ap (λ (l : List ℕ). l ++ (g ∷ [])) b.flags;
          frames = b.frames;
        }))
        (λ gone. t_ask (no-arrival refl) f (λ st₁ w f.
        told-bind (lists-run (Anew flag m st g st₁) (anew-on flag m st g st₁) (of-nak st₁) w _ f (record {
          frame = b.frame;
          later = b.later ++ (m₁ ∷ []);
          engine = ap (λ (l : List ℕ). l ++ (m₁ ∷ [])) b.engine;
          status = ap (λ (l : List ℕ). l ++ (st₁ ∷ [])) b.status;
          flags = ap (λ (l : List ℕ). l ++ (g ∷ [])) b.flags;
          frames = b.frames;
        }))
        (λ _ z l f c. t_end idle f (record {
          before = c.frame;
          more = g ∷ [];
          settled = was_other m st (record {
            later = c.later;
            others = st₁ ∷ [];
            engine = c.engine;
            status
                = c.status;
          })
              (not-true (sie_free m) busy) (others free busy) (inl refl);
          status = anew st [] c.status (ap retook c.flags ∙ ap not gone);
          flags = c.flags;
          frames = c.frames;
        }))))))
        (λ _. t_end idle f (record {
          before = b.frame;
          more = [];
          settled = was_other m st
              (record { later = b.later ++ (m₁ ∷ []); others = []; engine = ap (λ (l : List ℕ). l ++ (m₁ ∷ [])) b.engine; status = b.status })
              (not-true (sie_free m) busy) (others free busy) (inr (others free busy));
          status = once [] b.status (ap retook b.flags);
          flags = b.flags;
          frames = b.frames;
        }))))
        (λ u. t_end idle f (record {
          before = b.frame;
          more = [];
          settled = was_free m st n b.later [] [] b.engine b.status b.lengths (not_false (sie_free m) u)
              refl;
          status = once [] b.status (ap retook b.flags);
          flags = b.flags;
          frames = b.frames;
        }))))
      where
        o : EpCore
        o = get_b (ep-cell Out (endpoint st)) s

        others : (not (sie_free m) && (is_out st && is_on o.iso)) ≡ false → not (sie_free m) ≡ true → (is_out st && I (endpoint st)) ≡ false
        others u busy = ap (λ (i : Bool). is_out st && i) (sym (f.iso (endpoint st))) ∙ other-false (not (sie_free m)) (is_out st && is_on o.iso) busy u

  -- ---- the check of the isochronous OUT endpoints

  module _ (flag : ℕ) (x y : Transfer) (iso : Bool) (says : (h : Readings) → Settled I x h → Comes I h y iso)
      (flagged : transfer flag ≡ true) (no_sof : is_sof
      x.st ≡ false) where
    abbrev R : Note → Bk → Type 0
    R k s = Of (Ready I flag x) k s

    is-again : (k : Note) (s : Bk) → R k s → again k.frames ≡ true
    is-again k s g = ap again g.frames

    is-checks : (k : Note) (s : Bk) → R k s → checks k ≡ true
    is-checks k s g =
        both (transfer (first k.flags)) _ (ap (λ (l : List ℕ). transfer (first l)) g.flags ∙ flagged)
        (both (again k.frames) _ (is-again k s g)
        (ap not (ap is_sof (stat-is x.st k.known.readings k.flags g.status) ∙ no_sof)))

    -- with those that were looked at before
    abbrev With : (ℕ → Type 0) → Note → Bk → Type 0
    With D k s = R k s × Seen D k s

    -- that of e beside them
    abbrev Beside : ℕ → (ℕ → Type 0) → ℕ → Type 0
    Beside e D f = (f ≡ e) ⊎ D f

    beside-seen : (D : ℕ → Type 0) (e : ℕ) (k : Note) (s : Bk) → seen k s e ≡ true → Seen D k s → Seen (Beside e D) k s
    beside-seen D e k s p g h (inl z) = subst (λ (h : ℕ). seen k s h ≡ true) (sym z) p
    beside-seen D e k s p g h (inr z) = g h z

    decided-seen : (e : ℕ) (k : Note) (s u : Bk) (v : ℕ) → R k s → seen (next (Receive e 0) s v k) u e ≡ true
    decided-seen e k s u v g = or_left _ _ (or_right (k.looked e) _ (both (again k.frames) _ (is-again k s g)
        (or_right (not (changed_in s.0 s.1 e)) _ (or_right (held k e) _ (same_number (e % 16))))))

    arrives_told : (D : ℕ → Type 0) (e n : ℕ) (s : Bk) (k : Note) → Fixed I W s.0 → With D k s
        → (I e ≡ true → Arrival k s.0 s.1 e)
        → Goes (λ _ l t. With (Beside e D) l t) k s (run {i = true} book_ops (arrives e n) s)
    arrives_told D e n s k f g arrival = t_ask
        (record {
          decides = λ e' x a r i. (
            is-checks k s g.0,
            subst (λ (e : ℕ). I e ≡ true
                → Arrival k s.0 s.1 e) (ap number_in a) arrival i,
          );
        })
        (arrive-fixed e n s f)
        (λ v u f. t_end (record { outs = λ e. refl; sets = refl; bytes = refl })
        (record { iso = f.iso; sets = f.sets }) (
          g.0,
          beside-seen D e (next (Receive e 0) s v k) u (decided-seen e k s u v g.0) (λ h q. seen-on (Receive e 0) k s u v h (g.1 h q)),
        ))

    check_one_lem : (D : ℕ → Type 0) (e : ℕ) → I e ≡ true → (s : Bk) (k : Note) → Fixed I W s.0 → With D k s
        → Goes (λ _ l t. With (Beside e D) l t) k s (run {i = true} book_ops (check_one y iso e) s)
    check_one_lem D e ie s k f g =
        told-cond (book_ops.is (changed e) s)
        (λ found. told-cond (entry y iso e)
        (λ own. arrives_told D e y.len s k f g (λ i. with_length (says k.known.readings g.0.settled e i ∙ own) found))
        (λ other. t_ask {q = Read IntSt 0} {t = s} (no-arrival refl) f (λ st t f.
        let l : Note = next (Read IntSt 0) s st k in
        let r : R l t = ready_on I flag x IntSt 0 st k.known.readings k.flags k.frames refl g.0 in
        let late-here : comes l.known.readings e ≡ false = says l.known.readings r.settled e ie ∙ other in
        let now : last l.known.readings.status ≡ st = last_is k.known.readings.status st in
        let before : Seen D l t = λ h d. seen-on (Read IntSt 0) k s t st h (g.1 h d) in
        told-cond (arriving st e)
        (λ on-bus. t_end idle f (
          r,
          beside-seen D e l t
              (or_right (l.looked e) _ (both (again l.frames) _ (is-again l t r) (or_right (not (changed_in t.0 t.1 e)) _
              (or_left (held l e) _ (both (l.found e) _ found (both (not (comes l.known.readings e)) _ (ap not late-here)
              (ap (λ (w : ℕ). arriving w e) now ∙ on-bus)))))))
              before,
        ))
        (λ off. arrives_told D e (book_ops.look (marked e) t) t l f (r, before)
        (λ i. late late-here refl (ap (λ (w : ℕ). arriving w e) now ∙ off) found)))))
        (λ clear. t_end idle f (
          g.0,
          beside-seen D e k s
              (or_right (k.looked e) _ (both (again k.frames) _ (is-again k s g.0) (or_left (not (changed_in s.0 s.1 e)) _ (ap not clear))))
              g.1,
        ))

    -- all of a list, and those before
    abbrev Among : List ℕ → (ℕ → Type 0) → ℕ → Type 0
    Among es D f = walk.In f es ⊎ D f

    none-among : (D : ℕ → Type 0) (k : Note) (s : Bk) → Seen D k s → Seen (Among [] D) k s
    none-among D k s g h (inl p) = absurd p
    none-among D k s g h (inr p) = g h p

    one-among : (D : ℕ → Type 0) (e : ℕ) (es : List ℕ) (k : Note) (s : Bk) → Seen (Among es (Beside e D)) k s → Seen (Among (e ∷ es) D) k s
    one-among D e es k s g h (inl (inl z)) = g h (inr (inl z))
    one-among D e es k s g h (inl (inr z)) = g h (inl z)
    one-among D e es k s g h (inr z) = g h (inr (inr z))

    check_walk_lem : (es : List ℕ) (D : ℕ → Type 0) → ((e : ℕ) → walk.In e es → I e ≡ true) → (s : Bk) (k : Note)
        → Fixed I W s.0 → With D k s
        → Goes (λ _ l t. With (Among es D) l t) k s (run {i = true} book_ops (check_walk y iso es) s)
    unfolding check_walk
    check_walk_lem [] D i s k f g = t_end idle f (g.0, none-among D k s g.1)
    check_walk_lem (e ∷ es) D i s k f g = told-bind (check_one_lem D e (i e (inl refl)) s k f g)
        (λ _ t l f g. told-weaker (λ _ m u g. (g.0, one-among D e es m u g.1)) (check_walk_lem es (Beside e D) (λ h p. i h (inr p)) t l f g))

  walked-iso : (e : ℕ) → walk.In e (set_bits W) → I e ≡ true
  walked-iso e p =
      let z = walk.walked-set W e p in
      let small : e % 16 ≡ e = omega (arith, z.0) in
      inside e (ap (λ (n : ℕ). bit_is_set W n) small ∙ z.1)

  module _ (flag : ℕ) (x y : Transfer) (iso : Bool) (says : (h : Readings) → Settled I x h → Comes I h y iso)
      (flagged : transfer flag ≡ true)
      (same-st : y.st ≡ x.st) where
    checks-told : (s : Bk) (k : Note) → Fixed I W s.0 → Of (Ready I flag x) k s → not (is_sof y.st) ≡ true
        → Goes (λ _ l t. Over W l t) k s (run {i = true} book_ops (check_walk y iso (set_bits (iso_outs s.0.kept.globals))) s)
    checks-told s k f g not_so =
        subst (λ (w : ℕ). Goes (λ _ l t. Over W l t) k s (run {i = true} book_ops (check_walk y iso (set_bits w)) s)) (sym f.sets)
        (told-weaker (λ _ l t z. all (λ h d. z.1 h (inl d)))
        (check_walk_lem flag x y iso says flagged (ap is_sof (sym same-st) ∙ not-true (is_sof y.st) not_so) (set_bits W) (λ _. ⊥) walked-iso s k f
        (g, λ h d. absurd d)))

    served_told : (frame : ℕ) (s : Bk) (k : Note) → Fixed I W s.0 → Of (Ready I flag x) k s
        → Goes (λ _ l t. Over W l t) k s (run {i = true} book_ops (served y iso frame) s)
    served_told frame s k f g =
        told-bind (told-cond (not (is_sof y.st) && not (eqb s.0.kept.globals.sof_frame frame))
        (λ _. lists-run (Ready I flag x) (ready_on I flag x) (of-sof frame) s k f g) (λ _. t_end idle f g))
        (λ _ t k f g. told-bind (told-cond y.late
        (λ _. lists-run (Ready I flag x) (ready_on I flag x) (of-late-walk frame (set_bits (every_iso_in t.0.kept.globals))) t k f g)
        (λ _. t_end idle f g))
        (λ _ t k f g. told-bind (told-cond (not y.busy)
        (λ _. lists-run (Ready I flag x) (ready_on I flag x) (of-dispatch (token y.st) y iso frame) t k f g)
        (λ _. t_end idle f g))
        (λ _ t k f g. told-bind (told-cond (not (is_sof y.st))
        (λ not_so. checks-told t k f g not_so)
        (λ sof. t_end idle f (a_sof x.st flag g.more g.flags g.status (ap is_sof (sym same-st) ∙ not_false (is_sof y.st) sof))))
        (λ _ t k f g. told-cond (eqb (endpoint y.st) 0)
        (λ _. over-run (of-ep0-moved (token y.st)) t k f g) (λ _. t_end idle f g)))))

  framed_st : (x : Transfer) (iso : Bool) (sof frame : ℕ) → (framed x iso sof frame).st ≡ x.st
  framed_st x iso sof frame = by (own_in x iso sof frame)
    where
      by : (u : Bool) → (cond u (released x) x).st ≡ x.st
      by true = refl
      by false = refl

  transfer_told : (flag : ℕ) → transfer flag ≡ true → (s : Bk) (k : Note) → Fixed I W s.0 → Of (Unread flag) k s
      → Goes (λ _ l t. Over W l t) k s (run {i = true} book_ops on_transfer s)
  transfer_told flag flagged s k f b =
      t_ask (no-arrival refl) f (λ m t f. t_ask (no-arrival refl) f (λ st u f. t_ask (no-arrival refl) f (λ n w f.
      let l : Note = next (Read RxLen 0) u n (next (Read IntSt 0) t st (next (Read MisSt 0) s m k)) in
      let c : Of (Began flag m st n) l w = record {
        frame = b.frame;
        later = [];
        engine = ap (λ (l : List ℕ). l ++ (m ∷ [])) b.engine;
        status = ap (λ (l : List ℕ). l ++ (st ∷ [])) b.status;
        lengths = ap (λ (l : List ℕ). l ++ (n ∷ [])) b.lengths;
        flags = b.flags;
        frames = b.frames;
      } in
      told-bind (told-cond (not (not (sie_free m)) || (not (is_sof st) && not (eqb (endpoint st) 0)))
      (λ _. lists-run (Began flag m st n) (began-on flag m st n) (of-nak st) w l f c) (λ _. t_end idle f c))
      (λ _ t k f c. t_ask (no-arrival refl) f (λ _ t f.
      told-bind (settle_told flag m st n t _ f c)
      (λ x t k f g. t_ask (no-arrival refl) f (λ frame z f₂.
      let o = t.0.kept.plain Out (endpoint x.st) in
      let i = t.0.kept.plain In (endpoint x.st) in
      let iso = iso_for (token x.st) o i in
      let sof = z.0.kept.globals.sof_frame in
      served_told flag x (framed x iso sof frame) iso (λ h g. comes-by I o i sof frame x h (f.iso (endpoint x.st)) g) flagged
      (framed_st x iso sof frame) frame z _ f₂ (record {
        more = g.more;
        before = g.before;
        frame = frame;
        settled = settled_on I x FrameNo 0 frame _ g.settled;
        status = g.status;
        flags = g.flags;
        frames = ap (λ (l : List ℕ). l ++ (frame ∷ [])) g.frames;
      }))))))))

  told_write : (flag : ℕ) (s : Bk) (k : Note) → Fixed I W s.0 → Of (Unread flag) k s → (u : Bool) (v : ℕ)
      → Goes (λ _ l t. Of (Unread flag) l t) k s (run {i = true} book_ops (when u (write IntFg 0 v)) s)
  told_write flag s k f b u v = told-cond u (λ _. t_ask (no-arrival refl) f (λ _ t l. t_end idle l b)) (λ _. t_end idle f b)

  -- the frame with which the interrupt began is read
  record Entered (h : Readings) (fs gs : List ℕ) : Type 0 where
    frame : ℕ
    engine : h.engine ≡ []
    status : h.status ≡ []
    lengths : h.lengths ≡ []
    flags : fs ≡ []
    frames : gs ≡ frame ∷ []

  entered_on : Stable silent Entered
  entered_on r e v h fs gs u b = absurd (true≢false (sym u))

  entered_told : (s : Bk) (k : Note) → Fixed I W s.0 → Of Entered k s
      → Goes (λ _ l t. Over W l t) k s (run {i = true} book_ops on_interrupt s)
  entered_told s k f b =
      t_ask (no-arrival refl) f (λ flag t f.
      let l : Note = next (Read IntFg 0) s flag k in
      let c : Of (Unread flag) l t = record {
        frame = b.frame;
        engine = b.engine;
        status = b.status;
        lengths = b.lengths;
        flags = ap (λ (l : List ℕ). l ++ (flag ∷ [])) b.flags;
        frames = b.frames;
      } in
      told-bind (told-cond (bus_rst flag) (λ _. lists-run (Unread flag) (unread-on flag) (of-masked (λ w. with_bus_rst w false)) t l f c)
      (λ _. t_end idle f c))
      (λ _ t k f b. told-bind (told-cond (suspend flag) (λ _. lists-run (Unread flag) (unread-on flag) (of-masked (λ w. with_suspend w false)) t k f b)
      (λ _. t_end idle f b))
      (λ _ t k f b. told-bind (told_write flag t k f b (fifo_ov flag) FIFO_OV)
      (λ _ t k f b. told-bind (told_write flag t k f b (hst_sof flag) HST_SOF)
      (λ _ t k f b. told-bind (told-cond (transfer flag) (λ flagged. transfer_told flag flagged t k f b) (λ not_so. t_end idle f (no_transfer flag [] b.flags not_so)))
      (λ _ t k f b. told-cond (setup_act flag) (λ _. over-run of-on-setup t k f b) (λ _. t_end idle f b)))))))

  abbrev is_refused : Answer → Bool
  is_refused (Refused n) = true
  is_refused (End n ws) = false
  is_refused NotYet = false
  is_refused (Done bytes) = false
  is_refused (Shown bytes stamp) = false

  pub interrupt_told : (s : Bk) → Fixed I W s.0 → Goes (LookedAt W) unread s (run {i = true} book_ops interrupt_code s)
  interrupt_told s f =
      let s₁ : Bk = book_ops.act no_wakes s in
      told-cond (eqb s.0.kept.globals.stage 2)
      (λ _. told-from {s = s} {t = s₁} (record { outs = λ e. refl; sets = refl; bytes = refl })
      (told-bind {P = λ (n : ℕ) (l : Note) (t : Bk). Over W l t} (told-bind
      (told-bind (t_ask (no-arrival refl) (record { iso = f.iso; sets = f.sets }) (λ frame t f.
      lists-run Entered entered_on (of-entered frame) t _ f
      (record { frame = frame; engine = refl; status = refl; lengths = refl; flags = refl; frames = refl })))
      (λ _ t k f b. entered_told t k f b))
      (λ _ t k f b. t_end idle f b))
      (λ n t k f b. t_end idle f (λ r ws _ c. over_due W k t b c))))
      (λ _. t_end idle f (λ r ws h. absurd (true≢false (ap is_refused h))))
