-- A point that is passed over: the number that was brought, and where the interrupt stands then, are a continue's.
-- Assumes nothing.
use Rattle.std.specs.Prelude.{Bool, true, false, not, cond, List, [], ◌≡◌, ℕ, zero, suc, ◌+◌, ◌*◌, ◌<◌, eqb, length}
use Rattle.std.proofs.Math.Path.{refl}
use Rattle.std.proofs.Common.{sym, ap, subst, ◌∙◌, arith}
use Rattle.regs.specs.declared.Access.{Access}
use Rattle.regs.specs.declared.Access.TheVariants.{Read}
use Rattle.regs.specs.declared.Reg.TheVariants.{IntFg, IntSt, MisSt, RxLen, FrameNo}
use Rattle.regs.specs.declared.Reg.{Reg}
use Rattle.regs.specs.Registers.{fits_in, number_of}
use Rattle.regs.specs.Flags.{bus_rst, transfer, suspend, hst_sof, fifo_ov, setup_act}
use Rattle.regs.specs.MisStatus.{sie_free}
use Rattle.state.specs.declared.Allocator.{Allocator}
use Rattle.state.specs.declared.Saved.{Saved}
use Rattle.state.specs.Driver.{Driver, none_gathered}
use Rattle.state.specs.State.{view, saved}
use Rattle.script.specs.Statics.{is_on}
use Rattle.script.specs.Answers.{Answer, Refused}
use Rattle.script.specs.Machine.{Buf, Machine, ended, continue, awaited}
use Rattle.interrupt.specs.declared.Point.{Point}
use Rattle.interrupt.specs.declared.Point.TheVariants as point
use Rattle.interrupt.specs.declared.Next.TheVariants as next
use Rattle.interrupt.specs.Points.{denote, meaning, awaits_at, fits_at}
use Rattle.interrupt.specs.Continuations.{after_flags, after_bus_rst, after_suspend, after_fifo, after_st, after_mis}
use Rattle.interrupt.specs.Laws.{interrupt-begun, host-transfer}
use Rattle.interrupt.specs.Stands.{Stands, Stops, Pins, RunsOn, halted}
use Rattle.interrupt.specs.StandsLaws.{stops_at, stored_at}
use Rattle.interrupt.specs.Resumes.{went_on_lem}
use Rattle.interrupt.specs.Sites.{on-mis, loaded-mis}
use Rattle.interrupt.specs.Suspended as under
use Rattle.interrupt.specs.SuspendedLaws as alone-laws
use Rattle.machine.specs.Lifts.{lifts, machine-lifts, saved-up}
use Rattle.machine.specs.Stands.{Resumes}
use Rattle.answer.specs.declared.Step.{Step}
use Rattle.answer.specs.declared.Step.TheVariants as step
use Rattle.machine.specs.Suspended.{decode, machine_at, machine_of, drive, resumed, answer_of, slots_fit, SavedByAnswer}
use Rattle.answer.specs.Goes.{StepResult}
use Rattle.machine.specs.GoesLaws.{proceeds}
use Rattle.machine.proofs.Lent.{as_lent}
use Rattle.machine.specs.Rows.{is_idle, stop_of}
use Rattle.machine.proofs.RowsLaws.{back, interrupt-call}
use Rattle.calls.specs.Sharing.{going, time_after}
use Rattle.calls.specs.SharingLaws.{settles}
use Rattle.calls.specs.StaysLaws.{interrupt-stays}
use Rattle.answer.specs.Parts.{step_of}
use Rattle.answer.specs.Word.{Encodes, Worded, read_word, word_of, access_word}
use Rattle.answer.specs.WordLaws as words
use Rattle.readings.specs.Readings.{Lent, lent, Begins, Continues}
use Rattle.readings.specs.Passing.{Framed, Flagged, Transferred, Looked}
use Rattle.readings.specs.Standing.{standing, stands}

-- the interrupt is under way, at that point
pub record At (p : Point) (xs : List ℕ) : Type 0 where
  pub tagged : (saved xs).tag ≡ 6
  pub decoded : under.decode (saved xs) ≡ under.Interrupt p

pub at-point : {r : ℕ} {q : Access} {p : Point} {xs ys : List ℕ} → Stands r q p xs ys → At p ys
unfolding under.encode
at-point {p = p} h = record {
  tagged = ap (λ (c : Saved). c.tag) h.stored;
  decoded = ap under.decode h.stored ∙ alone-laws.decode-encode (under.Interrupt p);
}

-- its word says the access
tells : {w : ℕ} {q : Access} {p : Point} {xs ys : List ℕ} → Stands w q p xs ys → step_of w ≡ step.Asks q
tells {w} {q} h = words.said w (step.Asks q) h.answered refl

-- mis_st is awaited, as the saved bytes have it
pub at-mis : (xs : List ℕ) (setup : Bool) → (saved xs).tag ≡ 6 → (saved xs).site ≡ 6 → setup ≡ is_on (saved xs).flag
    → At (point.Mis setup) xs
at-mis xs setup t s e = record { tagged = t; decoded = loaded-mis (saved xs) setup e (on-mis (saved xs) t s) }

-- an interrupt's continue leaves the record of bus time
continues : (i v : ℕ) (p : Point) (xs ys : List ℕ) (b b' : Buf) (time : List ℕ) (r : Step) → At p xs
    → slots_fit (view xs) b ≡ true
    → (answer_of r [] (view ys), machine_of ys b') ≡ resumed v (decode (saved xs)) (view xs) b → SavedByAnswer r xs ys
    → Continues i v (lent xs b time) r (lent ys b' time)
continues i v p xs ys b b' time r at fit h saves = record {
  did = λ a. settles i (continue v) (machine_of xs a) time b _ _ refl (drives a)
      (interrupt-stays i time v (saved xs) (view xs) a b at.tagged
      ∙ ap (λ (z : StepResult). time_after i going z.0 (view xs) time) (sym (drives a)));
  kept = as_lent (view xs) b b' fit;
  saves = saves;
}
  where
    drives : (a : Buf) → (answer_of r [] (view ys), machine_of ys (cond (slots_fit (view xs) b) b' a))
        ≡ drive (continue v) (machine_of xs a) b
    drives a = back (proceeds v (decode (saved xs)) (view xs) a b)
        (subst (λ (z : Bool). (answer_of r [] (view ys), machine_of ys (cond z b' a))
        ≡ cond z (resumed v (decode (saved xs)) (view xs) b)
        (ended (Refused 1), machine_at (decode (saved xs)) (view xs) a)) (sym fit) h)

-- from the point p, with v, to where the rest stops: its word says the answer. The state's bytes are xs at p; the call
-- ran from those with the same view
pub goes : (i v : ℕ) (p : Point) (xs ws ys : List ℕ) (b b' : Buf) (time : List ℕ) → At p xs
    → slots_fit (view xs) b ≡ true → fits_at p v ≡ true → view ws ≡ view xs → {w : ℕ}
    → Stops w ys b' (denote p v (view ws, b)) → Pins w ys
    → Continues i v (lent xs b time) (step_of w) (lent ys b' time)
goes i v p xs ws ys b b' time at fit f same {w} k h =
    let went : under.Resumes (step_of w) v xs b ys b' = record {
      called = went_on_lem (saved xs) p v (view xs) b at.decoded f
          (subst (λ (d : Driver). Stops w ys b' (denote p v (d, b))) same k);
      kept = h.1 xs;
    } in
    let there : Resumes (step_of w) v xs b ys b' = lifts at.tagged went in
    continues i v p xs ys b b' time (step_of w) at fit there.called there.kept

-- to the point p', whose access q is the answer; ws are the bytes whose view the call has made, ys those with p' saved
pub passes : (i v : ℕ) (p p' : Point) (q : Access) (xs ws ys : List ℕ) (b : Buf) (time : List ℕ) → At p xs
    → slots_fit (view xs) b ≡ true → fits_at p v ≡ true → awaited q ≡ awaits_at p'
    → {w : ℕ} → Stands w q p' ws ys → meaning (next.Asks q p') (view ws) b ≡ denote p v (view xs, b)
    → Continues i v (lent xs b time) (step.Asks q) (lent ys b time)
passes i v p p' q xs ws ys b time at fit f l h m =
    subst (λ (z : Step). Continues i v (lent xs b time) z (lent ys b time)) (tells h)
    (goes i v p xs xs ys b b time at fit f refl (stops_at h l b m) (stored_at h))

-- no row stops the interrupt's begin: it stands at its first point
pub begins : (xs ws ys : List ℕ) (b : Buf) (time : List ℕ)
    → eqb (stop_of (is_idle (decode (saved xs))) 2 (view xs).globals.stage) 0 ≡ true
    → view ws ≡ none_gathered (view xs) → {w : ℕ} → Stands w (Read FrameNo 0) point.Frame ws ys
    → Begins (lent xs b time) (step.Asks (Read FrameNo 0)) (lent ys b time)
unfolding halted
begins xs ws ys b time e v {w} h = record {
  did = λ a c. back (interrupt-call (decode (saved xs)) (view xs) a c)
      (ap (λ (z : Step). (answer_of z [] (view ys), machine_of ys c)) (sym (tells h))
      ∙ (ap (λ (m : Machine Answer Driver). (answer_of (step_of w) [] (view ys), m)) (machine-lifts ys c canonical)
      ∙ ((stops_at h refl c (interrupt-begun (view ws, c))).there ∙ simp (v, e))));
  saves = saved-up (step.Asks (Read FrameNo 0)) xs ys canonical;
  slots = refl;
  time = refl;
}
  where
    canonical : under.Canonical ys
    canonical = subst (λ (z : Step). under.SavedByAnswer z xs ys) (tells h) ((stored_at h).1 xs)

-- row 1 looks at the allocator alone
pub still-fit : (d d' : Driver) (b : Buf) → d'.allocator ≡ d.allocator → slots_fit d b ≡ true → slots_fit d' b ≡ true
unfolding slots_fit
still-fit d d' b e h = ap (λ (x : Allocator). eqb (length b) (x.count * x.size)) e ∙ h

-- the word that reads a register that no endpoint has
pub reads : (r : Reg) → Encodes (read_word (number_of r) 0) (step.Asks (Read r 0))
unfolding word_of access_word
reads r = words.says (read_word (number_of r) 0) (step.Asks (Read r 0)) (step.Asks (Read r 0)) refl (omega arith) refl

-- the same view
pub on-view : (p : Point) (v : ℕ) (b : Buf) {d d' : Driver} → d' ≡ d → denote p v (d, b) ≡ denote p v (d', b)
on-view p v b e = ap (λ (z : Driver). denote p v (z, b)) (sym e)

-- ---- the interrupt is entered

-- us: xs with the wake-ups cleared (ws) and the microframe of frame_no kept
abbrev pub Opened : ℕ → List ℕ → List ℕ → Type 0
Opened frame xs us = (ws : List ℕ) × (view ws ≡ none_gathered (view xs)) × (length ws ≡ 2999) × (length us ≡ 2999)
    × ((c : Buf) → meaning (next.Asks (Read IntFg 0) point.Flags) (view us) c ≡ denote point.Frame frame (view ws, c))
    × ((view us).allocator ≡ (view ws).allocator)

module _ (i frame : ℕ) (xs us : List ℕ) (b : Buf) (time : List ℕ)
    (free : eqb (stop_of (is_idle (decode (saved xs))) 2 (view xs).globals.stage) 0 ≡ true)
    (fit : slots_fit (view xs) b ≡ true) (wide : fits_in frame 16 ≡ true) (opened : Opened frame xs us) where
  abbrev ws : List ℕ
  ws = opened.0

  abbrev first : List ℕ
  first = standing ws point.Frame

  at_first : Stands (read_word (number_of FrameNo) 0) (Read FrameNo 0) point.Frame ws first
  at_first = stands ws opened.2 _ (Read FrameNo 0) point.Frame (reads FrameNo)

  fit-first : slots_fit (view first) b ≡ true
  fit-first = still-fit (view xs) (view first) b (ap (λ (d : Driver). d.allocator) (at_first.viewed ∙ opened.1)) fit

  -- the slots fit still
  fit-now : (ys : List ℕ) → view ys ≡ view us → slots_fit (view ys) b ≡ true
  fit-now ys e = still-fit (view xs) (view ys) b
      (ap (λ (d : Driver). d.allocator) e ∙ (opened.5 ∙ ap (λ (d : Driver). d.allocator) opened.1)) fit

  pub framed : (ys : List ℕ) {w : ℕ} → Stands w (Read IntFg 0) point.Flags us ys
      → Framed i frame (lent xs b time) (lent ys b time)
  unfolding fits_at
  framed ys h = (
    lent first b time,
    begins xs ws first b time free opened.1 at_first,
    passes i frame point.Frame point.Flags (Read IntFg 0) first us ys b time (at-point at_first) fit-first wide refl h
        (opened.4 b ∙ on-view point.Frame frame b at_first.viewed),
  )

  abbrev second : List ℕ
  second = standing us point.Flags

  at_second : Stands (read_word (number_of IntFg) 0) (Read IntFg 0) point.Flags us second
  at_second = stands us opened.3 _ (Read IntFg 0) point.Flags (reads IntFg)

  -- with int_fg, and what follows it
  pub flags-served : (flags : ℕ) → fits_in flags 6 ≡ true → (ys : List ℕ) {w : ℕ}
      → RunsOn w (denote point.Flags flags) us ys
      → Flagged (step_of w) i frame flags (lent xs b time) (lent ys b time)
  unfolding fits_at
  flags-served flags wide-flags ys h = (
    lent second b time,
    framed second at_second,
    goes i flags point.Flags second us ys b b time (at-point at_second) (fit-now second at_second.viewed) wide-flags
        (sym at_second.viewed) (h.0 b) h.1,
  )

  -- of a transfer
  module _ (flags : ℕ) (setup : Bool) (wide-flags : fits_in flags 6 ≡ true) (act : setup ≡ setup_act flags)
      (no-reset : bus_rst flags ≡ false) (no-suspend : suspend flags ≡ false) (no-fifo : fifo_ov flags ≡ false)
      (no-host : hst_sof flags ≡ false) (is-transfer : transfer flags ≡ true) where
    served : (d : Driver) → meaning (next.Asks (Read MisSt 0) (point.Mis setup)) d b ≡ denote point.Flags flags (d, b)
    unfolding after_flags after_bus_rst after_suspend after_fifo
    served d = host-transfer flags setup d b act is-transfer ∙ simp (no-reset, no-suspend, no-fifo, no-host)

    pub flagged : (ys : List ℕ) {w : ℕ} → Stands w (Read MisSt 0) (point.Mis setup) us ys
        → Flagged (step.Asks (Read MisSt 0)) i frame flags (lent xs b time) (lent ys b time)
    unfolding fits_at
    flagged ys h = (
      lent second b time,
      framed second at_second,
      passes i flags point.Flags (point.Mis setup) (Read MisSt 0) second us ys b time (at-point at_second)
          (fit-now second at_second.viewed)
          wide-flags refl h (served (view us) ∙ on-view point.Flags flags b at_second.viewed),
    )

-- ---- a transfer comes through: xs the state's bytes where mis_st is awaited, us those with the same view from which
-- the code runs

module _ (i mis st len : ℕ) (setup busy : Bool) (xs us : List ℕ) (b : Buf) (time : List ℕ)
    (here : At (point.Mis setup) xs) (same : view us ≡ view xs)
    (long : length us ≡ 2999) (fit : slots_fit (view us) b ≡ true) (wide-mis : fits_in mis 2 ≡ true)
    (is-busy : busy ≡ not (sie_free mis))
    (wide-st : fits_in st 7 ≡ true) (wide-len : fits_in len 16 ≡ true) where
  abbrev status : List ℕ
  status = standing us (point.St setup busy)

  abbrev size : List ℕ
  size = standing us (point.Len setup busy st)

  at_status : Stands (read_word (number_of IntSt) 0) (Read IntSt 0) (point.St setup busy) us status
  at_status = stands us long _ (Read IntSt 0) (point.St setup busy) (reads IntSt)

  at_size : Stands (read_word (number_of RxLen) 0) (Read RxLen 0) (point.Len setup busy st) us size
  at_size = stands us long _ (Read RxLen 0) (point.Len setup busy st) (reads RxLen)

  still : (ys : List ℕ) → view ys ≡ view us → slots_fit (view ys) b ≡ true
  still ys e = still-fit (view us) (view ys) b (ap (λ (d : Driver). d.allocator) e) fit

  looked : (d : Driver) → meaning (next.Asks (Read IntSt 0) (point.St setup busy)) d b
      ≡ denote (point.Mis setup) mis (d, b)
  unfolding after_mis
  looked d = simp is-busy

  then-size : (d : Driver) → meaning (next.Asks (Read RxLen 0) (point.Len setup busy st)) d b
      ≡ denote (point.St setup busy) st (d, b)
  unfolding after_st
  then-size d = refl

  arrives : (ys : List ℕ) {w : ℕ} → RunsOn w (denote (point.Len setup busy st) len) us ys
      → Transferred (step_of w) i mis st len (lent xs b time) (lent ys b time)
  unfolding fits_at
  arrives ys h = (
    lent status b time,
    lent size b time,
    passes i mis (point.Mis setup) (point.St setup busy) (Read IntSt 0) xs us status b time here (still xs (sym same))
        wide-mis refl at_status
        (looked (view us) ∙ on-view (point.Mis setup) mis b (sym same)),
    passes i st (point.St setup busy) (point.Len setup busy st) (Read RxLen 0) status us size b time
        (at-point at_status)
        (still status at_status.viewed) wide-st refl at_size (then-size (view us)
        ∙ on-view (point.St setup busy) st b at_status.viewed),
    goes i len (point.Len setup busy st) size us ys b b time (at-point at_size) (still size at_size.viewed) wide-len
        (sym at_size.viewed) (h.0 b) h.1,
  )

  -- by the word of what ran with int_st as the code has it
  pub transferred : (ys : List ℕ) {w : ℕ} (st' : ℕ) → st' ≡ st → RunsOn w (denote (point.Len setup busy st') len) us ys
      → Worded w (λ r. Transferred r i mis st len (lent xs b time) (lent ys b time))
  transferred ys {w} st' e h =
      let ran = subst (λ (z : ℕ). RunsOn w (denote (point.Len setup busy z) len) us ys) e h in
      (step_of w, ran.1.0, arrives ys ran)

-- the interrupt's begin with all five
module _ (i frame flags mis st len : ℕ) (setup busy : Bool) (xs us : List ℕ) (b : Buf) (time : List ℕ)
    (free : eqb (stop_of (is_idle (decode (saved xs))) 2 (view xs).globals.stage) 0 ≡ true)
    (fit : slots_fit (view xs) b ≡ true) (wide : fits_in frame 16 ≡ true) (opened : Opened frame xs us)
    (wide-flags : fits_in flags 6 ≡ true)
    (act : setup ≡ setup_act flags) (no-reset : bus_rst flags ≡ false) (no-suspend : suspend flags ≡ false)
    (no-fifo : fifo_ov flags ≡ false)
    (no-host : hst_sof flags ≡ false) (is-transfer : transfer flags ≡ true) (wide-mis : fits_in mis 2 ≡ true)
    (is-busy : busy ≡ not (sie_free mis))
    (wide-st : fits_in st 7 ≡ true) (wide-len : fits_in len 16 ≡ true) where
  abbrev third : List ℕ
  third = standing us (point.Mis setup)

  at-third : Stands (read_word (number_of MisSt) 0) (Read MisSt 0) (point.Mis setup) us third
  at-third = stands us opened.3 _ (Read MisSt 0) (point.Mis setup) (reads MisSt)

  pub all-served : (ys : List ℕ) {w : ℕ} (st' : ℕ) → st' ≡ st → RunsOn w (denote (point.Len setup busy st') len) us ys
      → Worded w (λ r. (m : Lent) × Flagged (step.Asks (Read MisSt 0)) i frame flags (lent xs b time) m
      × Transferred r i mis st len m (lent ys b time))
  all-served ys st' e h =
      let t = transferred i mis st len setup busy third us b time (at-point at-third) (sym at-third.viewed)
      opened.3
      (fit-now i frame xs us b time free fit wide opened us refl) wide-mis is-busy wide-st wide-len ys st' e h in (
        t.0,
        t.1,
        (
          lent third b time,
          flagged i frame xs us b time free fit wide opened flags setup wide-flags act no-reset no-suspend no-fifo
              no-host is-transfer third at-third,
          t.2,
        ),
      )

-- ---- looks at a SIE that is busy: P n is a point of a wait after which n looks may follow

abbrev further : ℕ → ℕ → ℕ
further zero n = n
further (suc j) n = suc (further j n)

further-sum : (j n : ℕ) → further j n ≡ n + j
further-sum zero n = omega arith
further-sum (suc j) n = let h = further-sum j n in omega (arith, h)

further-is : (j n m : ℕ) → n + suc j ≡ m → suc (further j n) ≡ m
further-is j n m e = let h = further-sum j n in omega (arith, h, e)

module _ (P : ℕ → Point) (i v : ℕ) (us : List ℕ) (b : Buf) (time : List ℕ) (long : length us ≡ 2999)
    (fit : slots_fit (view us) b ≡ true)
    (fits : (n : ℕ) → fits_at (P n) v ≡ true) (awaits : (n : ℕ) → awaited (Read MisSt 0) ≡ awaits_at (P n))
    (again : (n : ℕ) (d : Driver) → meaning (next.Asks (Read MisSt 0) (P n)) d b ≡ denote (P (suc n)) v (d, b)) where
  one-look : (n : ℕ) (xs ys : List ℕ) → At (P (suc n)) xs → view us ≡ view xs → {w : ℕ}
      → Stands w (Read MisSt 0) (P n) us ys
      → Continues i v (lent xs b time) (step.Asks (Read MisSt 0)) (lent ys b time)
  one-look n xs ys here same h =
      passes i v (P (suc n)) (P n) (Read MisSt 0) xs us ys b time here
      (still-fit (view us) (view xs) b (ap (λ (d : Driver). d.allocator) (sym same)) fit) (fits (suc n)) (awaits n) h
      (again n (view us) ∙ on-view (P (suc n)) v b (sym same))

  pub many-looks : (j n : ℕ) (xs ys : List ℕ) → At (P (suc (further j n))) xs → view us ≡ view xs → {w : ℕ}
      → Stands w (Read MisSt 0) (P n) us ys
      → Looked (suc j) i v (lent xs b time) (lent ys b time)
  many-looks zero n xs ys here same h = (
    step.Asks (Read MisSt 0),
    lent ys b time,
    refl,
    one-look n xs ys here same h,
    refl,
  )
  many-looks (suc j) n xs ys here same h =
      let zs = standing us (P (suc (further j n))) in
      let there = stands us long _ (Read MisSt 0) (P (suc (further j n))) (reads MisSt) in (
        step.Asks (Read MisSt 0),
        lent zs b time,
        refl,
        one-look (suc (further j n)) xs zs here same there,
        many-looks j n zs ys (at-point there) (sym there.viewed) h,
      )

  -- k of them, of m that were left
  pub looks_on : (k m n : ℕ) → 0 < k → n + k ≡ m → (xs ys : List ℕ) → At (P m) xs → view us ≡ view xs
      → {w : ℕ} → Stands w (Read MisSt 0) (P n) us ys → Looked k i v (lent xs b time) (lent ys b time)
  looks_on zero m n some sum xs ys here same h = absurd (omega (arith, some))
  looks_on (suc j) m n some sum xs ys here same h =
      many-looks j n xs ys (subst (λ (z : ℕ). At (P z) xs) (sym (further-is j n m sum)) here) same h
