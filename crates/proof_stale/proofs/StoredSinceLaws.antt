-- What is decided, turned away too, was stored since its slot was armed (DecidedStored, Stale.antt), over every list
-- of calls of the code. In a slot that is found changed a byte of the first word is not the mark's: the chip stored
-- it since the slot was armed (`Marked`). A packet whose length did not come with the interrupt was found in the call
-- that asked for the status (`found`, Arrivals.antt): up to the call that decides it the slot stays, and the history
-- grows
use Rattle.std.specs.Prelude.{Bool, true, false, not, cond, ◌&&◌, ◌||◌, List, [], ◌∷◌, ◌++◌, ◌⊎◌, ◌≢◌, ◌≡◌, refl, ℕ, zero, suc, ◌+◌, ◌*◌, ◌%◌, ◌<◌, eqb, ltb, length, get_or}
use Rattle.std.proofs.Common.{true≢false, inl, inr, ⊎_elim, ap, subst, sym, ◌∙◌, arith}
use Rattle.std.proofs.Math.Decide.{ℕ_discrete}
use Rattle.bits.specs.Bit.{bit_is_set}
use Rattle.regs.specs.declared.Access.{Access}
use Rattle.regs.specs.declared.Access.TheVariants.{Read, Write, Receive, Transmit, Ep0Dma, Wait, Callback}
use Rattle.regs.specs.declared.Reg.TheVariants.{IntSt}
use Rattle.regs.specs.declared.Dir.TheVariants.{Out, In}
use Rattle.regs.specs.Enables as enables
use Rattle.state.specs.Driver.{Driver}
use Rattle.state.specs.State.{view}
use Rattle.ring.specs.Marks.{mark_byte, is_marked}
use Rattle.ring.specs.Copies.{copied}
use Rattle.script.specs.Tree as tree
use Rattle.script.specs.Tree.{ends, asks}
use Rattle.script.specs.Script.{run}
use Rattle.script.specs.Simulates.{Phase}
use Rattle.script.specs.Statics.{is_on, iso_outs}
use Rattle.script.specs.Answers.{Answer, Refused, is_allocated, resultless}
use Rattle.script.specs.Handler.{stamped_interrupt}
use Rattle.script.specs.Calls.{Config, Op, interrupt, slotted, other, aside, Aside, Open, Close, Queue, aside_code}
use Rattle.script.specs.Calls.{calls, code, starting, start_row}
use Rattle.script.specs.Machine.{Buf, Event, Call, start, begin, continue, question, Ans, ended, handed, told, blank}
use Rattle.script.specs.Machine.{blank_a, Pending, idle, busy, Machine}
use Rattle.script.specs.Machine.{over, misfit, stay, lent_to, during_interrupt, halt, begun, continued, started, fed}
use Rattle.script.specs.Agree.{After, Ways, agrees, from_start}
use Rattle.machine.specs.Suspended.{driver_of, drive, machine_of}
use Rattle.proof_book.specs.Pages.{Kept, OutPage, Pages, with_out, with_in}
use Rattle.proof_book.specs.Book.{Bk, receiving, iso_of, some, waits_on, room_b, open_out, read_out, queued_in, fresh_pages}
use Rattle.proof_book.specs.Book.{book_ops, book}
use Rattle.proof_book.specs.Coupling.{Coupling}
use Rattle.proof_book.specs.FrameLaws.{at-elim}
use Rattle.proof_book.proofs.StartUpLaws.{fresh_kept}
use Rattle.proof_book.specs.StepsLaws.{none-enabled}
use Rattle.proof_book.proofs.AgreesLaws.{agree}
use Rattle.proof_book.specs.Others.{hands_out}
use Rattle.proof_book.specs.FrontPage.{CallRecord, Chip, BufferPreserved, book_step, addressed, in_interrupt, AfterEach}
use Rattle.proof_book.specs.FrontPage.{ArrivalIs, ArrivalsEach}
use Rattle.proof_book.specs.FrontPage as page
use Rattle.proof_book.proofs.FrontPageLaws.{demand-3}
use Rattle.proof_book.proofs.SlotsKeptLaws.{lent_is}
use Rattle.proof_book.specs.AnswersLaws.{tells-same, blank-access, is_handed, handed-same, fed-kept}
use Rattle.proof_book.specs.Arrivals.{Note, changed_in, reads, brings, unread, after, Arrival, with_length}
use Rattle.proof_book.specs.Arrivals.{late}
use Rattle.proof_book.specs.ArrivalScriptsLaws.{Told, t_ask}
use Rattle.proof_book.proofs.ArrivalInterruptLaws.{LookedAt}
use Rattle.proof_book.proofs.ArrivalCallsLaws.{WayTold, is-regular, told_on, start-told}
use Rattle.proof_book.proofs.ArrivalsLaws.{arrivals}
use Rattle.proof_stale.specs.Stale.{Gap, StoredIn, gap_of, up_to, its_address, switches, arms_now, Fresh, Marked}
use Rattle.proof_stale.specs.Stale.{under_way, NoneStaleEach}
use Rattle.proof_stale.specs.Stale.{FirstWordStored, DecidedStored, DecidedStoredEach, EachDecidedStored}
use Rattle.proof_stale.proofs.NothingStaleLaws.{Sub, behind, is_start, in-gap, nothing-stale}
use Rattle.proof_stale.proofs.OwnSlotLaws.{all-marked}
use Rattle.proof_stale.specs.StaleLaws.{slot_mod}

-- ---- a byte of the first word

four : (P : ℕ → Type 0) → P 0 → P 1 → P 2 → P 3 → (k : ℕ) → k < 4 → P k
four P a b c d zero l = a
four P a b c d (suc zero) l = b
four P a b c d (suc (suc zero)) l = c
four P a b c d (suc (suc (suc zero))) l = d
four P a b c d (suc (suc (suc (suc k)))) l = absurd (omega (arith, l))

-- in a slot that is not marked one differs from the mark's
some_byte : (b : Buf) (x : ℕ) → is_marked b x ≡ false → (k : ℕ) × (k < 4) × (get_or b (x + k) 0 ≢ mark_byte k)
some_byte b x h =
    elim (ℕ_discrete (get_or b (x + 0) 0) (mark_byte 0)) [
      | no z ↦ (0, omega arith, z)
      | yes p ↦ elim (ℕ_discrete (get_or b (x + 1) 0) (mark_byte 1)) [
        | no z ↦ (1, omega arith, z)
        | yes q ↦ elim (ℕ_discrete (get_or b (x + 2) 0) (mark_byte 2)) [
          | no z ↦ (2, omega arith, z)
          | yes r ↦ elim (ℕ_discrete (get_or b (x + 3) 0) (mark_byte 3)) [
            | no z ↦ (3, omega arith, z)
            | yes s ↦ absurd (true≢false (sym (all-marked b x (four (λ k. get_or b (x + k) 0 ≡ mark_byte k) p q r s)) ∙ h))
          ]
        ]
      ]
    ]

un_not : (u : Bool) → not u ≡ true → u ≡ false
un_not true h = absurd (true≢false (sym h))
un_not false h = refl

and-false : (u v : Bool) → v ≡ false → (u && v) ≡ false
and-false true v h = h
and-false false v h = refl

or_false : {u v : Bool} → u ≡ false → v ≡ false → (u || v) ≡ false
or_false {v = v} h g = ap (λ (w : Bool). w || v) h ∙ g

-- a continue that hands out an access was lent a buffer of the right length
pub handed-fits : (x : Ans Answer) (v : ℕ) (n : Machine Answer Pages) (a b : Buf) → is_handed x ≡ true
    → blank_a x ≡ blank_a
    (book_step x (continue v) n b).0
    → BufferPreserved (continue v) n a b → Chip n.st a b
handed-fits x v n a b i s lent = by (misfit calls book.driver n.st b) s lent
  where
    by : (u : Bool) → blank_a x ≡ blank_a (cond u (stay calls book.driver 1 n) (continued calls book.driver
        (fed book x) v n n.under_way_lem b)).0
        → page.when_not u (Chip n.st a b) → Chip n.st a b
    by true s lent = absurd (true≢false (sym i ∙ handed-same x (ended (calls.refusal 1)) s))
    by false s lent = lent

module _ (e : ℕ) where
  stored-wider : {t : Pages} {g h : List Gap} → Sub g h → FirstWordStored e t g → FirstWordStored e t h
  stored-wider s w = record {
    place = w.place;
    value = w.value;
    in_word = w.in_word;
    differs = w.differs;
    stored =
        s _ _ w.stored;
  }

  stored_there : {t u : Pages} {h : List Gap} → (u.outs e).slot ≡ (t.outs e).slot → FirstWordStored e t h
      → FirstWordStored e u h
  stored_there {h = h} p w = record {
    place = w.place;
    value = w.value;
    in_word = w.in_word;
    differs = w.differs;
    stored = subst (λ (x : ℕ). StoredIn h (x + w.place) w.value) (sym p) w.stored;
  }

  -- a slot that is lent changed
  found_in : (c : Call Config Op) → is_start c ≡ false → (a b : Buf) (t : Pages) (h : List Gap) → Chip t a b
      → Marked e a t h → receiving t e ≡ true
      → changed_in t b e ≡ true → FirstWordStored e t (gap_of c a b ++ h)
  found_in c no_start a b t h chip marked on changed =
      let w = some_byte b x (un_not (is_marked b x) changed) in
      let k = w.0 in
      ⊎_elim (λ p. absurd (w.2 p)) (λ s. record {
        place = k;
        value = get_or b (x + k) 0;
        in_word = w.1;
        differs =
            w.2;
        stored = s;
      })
      (fresh k w.1)
    where
      x : ℕ
      x = (t.outs e).slot

      fresh : (k : ℕ) → k < 4 → Fresh (gap_of c a b ++ h) e t k (get_or b (x + k) 0)
      fresh k l = elim (ℕ_discrete (get_or b (x + k) 0) (get_or a (x + k) 0)) [
        | yes z ↦ subst (λ (v : ℕ). Fresh (gap_of c a b ++ h) e t k v) (sym z)
            (⊎_elim (λ p. inl p) (λ s. inr (behind (gap_of c a b) h _ _ s)) (marked on k (inl l)))
        | no z ↦ inr (in-gap c no_start a b chip.long h (x + k) z)
      ]

  -- ---- what open, close and queue leave

  abbrev Left : Pages → Pages → Type 0
  Left t u = ((u.outs e).slot ≡ (t.outs e).slot) × (receiving u e ≡ receiving t e)

  abbrev LeftAt : Pages → tree.Out Bk Answer → Type 0
  LeftAt t (ends z s) = Left t s.0
  LeftAt t (asks q s f) = Unit {0}

  left-test : (t : Pages) (u : Bool) (x y : tree.Out Bk Answer) → LeftAt t x → LeftAt t y → LeftAt t (cond u x y)
  left-test t true x y p q = p
  left-test t false x y p q = q

  either_left : (t : Pages) (u : Bool) (x : Pages) → Left t x → Left t (cond u x t)
  either_left t true x h = h
  either_left t false x h = (refl, refl)

  queued-left : (t : Pages) (b : Buf) (u : Bool) (x : Bk) → Left t x.0 → Left t (cond {A = Bk} u x (t, b)).0
  queued-left t b true x h = h
  queued-left t b false x h = (refl, refl)

  module _ (t : Pages) (even : (f : ℕ) → e % 16 ≡ f % 16 → (t.outs f).slot ≡ (t.outs e).slot) (b : Buf) where
    out-left : (f : ℕ) (p : OutPage) → p.slot ≡ (t.outs f).slot → Left t (with_out t f p)
    out-left f p h = (
      at-elim (λ (o : OutPage). o.slot ≡ (t.outs e).slot) f e p t.outs (λ q. h ∙ even f q)
          (λ q. refl),
      refl,
    )

    aside-left : (o : Aside) → LeftAt t (run book_ops (aside_code o) (t, b))
    aside-left (Open f) =
        left-test t (eqb t.kept.globals.stage 2) _ _
        (left-test t (is_allocated t.kept.allocator Out f) _ _
        (left-test t (not (is_on (t.kept.plain Out f).iso)) _ _ (refl, refl)
        (left-test t (some (waits_on t Out f)) _ _
        (either_left t (some (waits_on t Out f)) (with_out t f (open_out (t.outs f)))
        (out-left f (open_out (t.outs f)) refl)) (refl, refl)))
        (refl, refl)) (refl, refl)
    aside-left (Close f) =
        left-test t (eqb t.kept.globals.stage 2) _ _
        (left-test t (is_allocated t.kept.allocator Out f) _ _
        (left-test t (t.outs f).opened _ _
        (either_left t (t.outs f).opened (with_out t f (read_out (t.outs f)))
        (out-left f (read_out (t.outs f)) refl)) (refl, refl))
        (refl, refl)) (refl, refl)
    aside-left (Queue f bytes) =
        left-test t (eqb t.kept.globals.stage 2) _ _
        (left-test t (is_allocated t.kept.allocator In f) _ _
        (left-test t (enables.is_on t.kept.globals.ep_config In f) _ _
        (left-test t (ltb t.kept.allocator.size (length bytes)) _ _ (refl, refl)
        (left-test t (not (is_on (t.kept.plain In f).iso)) _ _ (refl, refl)
        (left-test t (room_b t f (length bytes)) _ _
        (queued-left t b (room_b t f (length bytes)) (
          with_in t f (queued_in (t.ins f) bytes),
          copied b ((t.kept.plain In f).base + (t.ins f).turn * t.kept.allocator.size) bytes,
        )
        (refl, refl)) (refl, refl))))
        (refl, refl)) (refl, refl)) (refl, refl)

  -- ---- a packet that was found by the call that asked for the status

  abbrev ArrivalPending : Note → Machine Answer Pages → List Gap → Type 0
  ArrivalPending f n h = in_interrupt n.under_way_lem ≡ true → reads IntSt f.known.asked ≡ true → receiving n.st e
      ≡ true
      → f.found e ≡ true
      → FirstWordStored e n.st h

  -- a reading of the status is no receive address
  asks-status : (x : Ans Answer) (q : Access) → blank_a x ≡ handed (blank q) → reads IntSt (blank q) ≡ true
      → (addressed x e ≡ false) × (hands_out (λ q. its_address e q) x ≡ false)
  asks-status x q h r = by x (tells-same (λ z. hands_out (λ q. reads IntSt q) z) (λ _ _. refl, λ _ _. refl, λ _. refl)
      x (handed q) h
      ∙ (sym (blank-access (λ q. reads IntSt q) (λ _ _. refl, λ _ _. refl, λ _. refl) q) ∙ r))
    where
      by : (x : Ans Answer) → hands_out (λ q. reads IntSt q) x ≡ true → (addressed x e ≡ false)
          × (hands_out (λ q. its_address e q) x ≡ false)
      by (ended z) h = (refl, refl)
      by (told k) h = (refl, refl)
      by (handed (Read r f)) h = (refl, refl)
      by (handed (Write r f v)) h = (refl, refl)
      by (handed (Receive f y)) h = absurd (true≢false (sym h))
      by (handed (Transmit f y)) h = (refl, refl)
      by (handed (Ep0Dma y)) h = (refl, refl)
      by (handed (Wait k)) h = (refl, refl)
      by (handed Callback) h = (refl, refl)

  -- nor does an access that is no receive address of OUT e
  not-its : (n : Machine Answer Pages) (r : Bool) (v : ℕ) (x : Ans Answer) → hands_out (λ q. its_address e q) x ≡ false
      → arms_now e n r (continue v) x ≡ false
  not-its n r v x h = or_false (and-false (in_interrupt n.under_way_lem) _ (and-false (receiving n.st e) _ h))
      (and-false r _ (and-false (iso_of n.st Out e) _ h))

  -- what is not handed out arms nothing
  ends-unarmed : (x : Ans Answer) (n : Machine Answer Pages) (r : Bool) (c : Call Config Op) → is_handed x ≡ false
      → arms_now e n r c x ≡ false
  ends-unarmed x n r (start c) h = refl
  ends-unarmed x n r (begin o) h = and-false (switches e o) _ (and-false (iso_of n.st Out e) _ h)
  ends-unarmed x n r (continue v) h = not-its n r v x (by x h)
    where
      by : (x : Ans Answer) → is_handed x ≡ false → hands_out (λ q. its_address e q) x ≡ false
      by (ended z) h = refl
      by (told k) h = refl
      by (handed q) h = absurd (true≢false h)
  ends-unarmed x n r (question q) h = refl

  module _ (switching : Bool) (x : Ans Answer) (w : Pending Answer Pages) (t : Pages) (a c b : Buf) (h : List Gap)
      (f : Note)
      (even : (f : ℕ) → e % 16 ≡ f % 16 → (t.outs f).slot ≡ (t.outs e).slot) (marked : Marked e a t h)
      (p : ArrivalPending f (record { under_way_lem = w; st = t; buf = c }) h) where
    abbrev n : Machine Answer Pages
    n = record { under_way_lem = w; st = t; buf = c }

    abbrev after_it : Call Config Op → List Gap
    after_it k = cond (arms_now e n switching k x) [] (gap_of k a b ++ h)

    -- after call k, where the book came to y
    abbrev Next : Call Config Op → Ans Answer × Machine Answer Pages → Type 0
    Next k y = blank_a x ≡ blank_a y.0
        → ((v : ℕ) → k ≡ continue v → in_interrupt w ≡ true → addressed x e ≡ false → y.1.st.outs e ≡ t.outs e)
        → ArrivalPending (after k y.0 t b f) y.1 (after_it k)

    -- the call ends, and the interrupt stays where it was
    goes_by : (k : Call Config Op) (u : Pages) → is_handed x ≡ false → in_interrupt w ≡ true → Left t u
        → reads IntSt f.known.asked ≡ true → receiving u e ≡ true → f.found e ≡ true → FirstWordStored e u
        (after_it k)
    goes_by k u i under_way_lem l r on found =
        subst (λ (z : Bool). FirstWordStored e u (cond z [] (gap_of k a b ++ h))) (sym (ends-unarmed x n switching k i))
        (stored_there l.0 (stored-wider (behind (gap_of k a b) h) (p under_way_lem r (sym l.1 ∙ on) found)))

    not-handed : (z : Answer) → blank_a x ≡ blank_a (ended z) → is_handed x ≡ false
    not-handed z s = handed-same x (ended z) s

    never : {X : Type 0} → false ≡ true → X
    never q = absurd (true≢false (sym q))

    stays : (k : Call Config Op) (r : ℕ) → ((z : Answer) → after k (ended z) t b f ≡ f) → Next k
        (stay calls book.driver r n)
    stays k r same s m under_way_lem st on found =
        let z = calls.refusal r in
        goes_by k t (not-handed z s) under_way_lem (refl, refl)
        (sym (ap (λ (l : Note). reads IntSt l.known.asked) (same z))
        ∙ st) on
        (sym (ap (λ (l : Note). l.found e) (same z)) ∙ found)

    stays_lent : (k : Call Config Op) (r : ℕ) → ((z : Answer) → after k (ended z) t b f ≡ f)
        → Next k (stay calls book.driver r (lent_to calls book.driver n b))
    stays_lent k r same s m under_way_lem st on found = stays k r same s m under_way_lem st on found

    -- an operation that is no interrupt
    plainly : (k : Call Config Op) (o : tree.Out Bk Answer) → Next k (halt calls book.driver (fed book x) false o)
    plainly k (ends z s) i m under_way_lem = never under_way_lem
    plainly k (asks q s g) i m under_way_lem = never under_way_lem

    -- ---- begin

    begin_idle : (o : Op) → Next (begin o) (halt calls book.driver (fed book x) (calls.irq o)
        (run book_ops (code o) (t, b)))
    begin_idle interrupt = by (eqb t.kept.globals.stage 2)
      where
        by : (u : Bool) → Next (begin interrupt) (halt calls book.driver (fed book x) true
            (cond u (run {i = true} book_ops (resultless stamped_interrupt) (t, b)) (ends (Refused 4) (t, b))))
        by true i m under_way_lem st = never st
        by false i m under_way_lem st = never under_way_lem
    begin_idle (slotted o) = plainly (begin (slotted o)) (run book_ops (code (slotted o)) (t, b))
    begin_idle (other o) = plainly (begin (other o)) (run book_ops (code (other o)) (t, b))
    begin_idle (aside o) = plainly (begin (aside o)) (run book_ops (code (aside o)) (t, b))

    passes : (o : Aside) (z : tree.Out Bk Answer) → LeftAt t z → Next (begin (aside o))
        (during_interrupt calls book.driver (lent_to calls book.driver n b) z)
    passes o (ends z u) l s m under_way_lem st on found = goes_by (begin (aside o)) u.0 (not-handed z s) under_way_lem l st
        on found
    passes o (asks q u g) l s m under_way_lem st on found = stays_lent (begin (aside o)) 3 (λ z. refl) s m under_way_lem st on
        found

    begin_busy : (i : Bool) (o : Op) → Next (begin o) (cond (cond i (calls.aside o) false)
        (during_interrupt calls book.driver (lent_to calls book.driver n b) (run book_ops (code o) (t, b)))
        (stay calls book.driver 3 (lent_to calls book.driver n b)))
    begin_busy false o = stays_lent (begin o) 3 (λ z. refl)
    begin_busy true interrupt = stays_lent (begin interrupt) 3 (λ z. refl)
    begin_busy true (slotted o) = stays_lent (begin (slotted o)) 3 (λ z. refl)
    begin_busy true (other o) = stays_lent (begin (other o)) 3 (λ z. refl)
    begin_busy true (aside o) = passes o (run book_ops (aside_code o) (t, b)) (aside-left t even b o)

    begins : (v : Pending Answer Pages) (o : Op) → Next (begin o) (begun calls book.driver (fed book x) o n v b)
    begins idle o = begin_idle o
    begins (busy i q k) o = begin_busy i o

    -- ---- continue

    module _ (v : ℕ) (chip : Chip t a b) where
      asks-on : {I : ℕ → Bool} {W : ℕ} → iso_outs t.kept.globals ≡ W → in_interrupt w ≡ true
          → (o : tree.Out Bk Answer)
          → Told I W (LookedAt W) (brings v f) (t, b) o
          → Next (continue v) (halt calls book.driver (fed book x) true o)
      asks-on sets under_way_lem (ends z s) g i m on st lives found = never on
      asks-on {W = W} sets under_way_lem (asks q s k) (t_ask _ fixed _) i m on st lives found =
          let u = fed book x s.0 in
          let both = asks-status x q i st in
          let same-sets : iso_outs u.kept.globals ≡ iso_outs t.kept.globals =
          ap (λ (k : Kept). iso_outs k.globals) (fed-kept x s.0) ∙ (fixed.sets ∙ sym sets) in
          let lives' : receiving t e ≡ true = sym (ap (λ (k : ℕ). bit_is_set k (e % 16)) same-sets) ∙ lives in
          let unarmed : arms_now e n switching (continue v) x ≡ false = not-its n switching v x both.1 in
          subst (λ (z : Bool). FirstWordStored e u (cond z [] (gap_of (continue v) a b ++ h))) (sym unarmed)
          (stored_there (ap (λ (o : OutPage). o.slot) (m v refl under_way_lem both.0))
          (found_in (continue v) refl a b t h chip marked lives' found))

      goes_on_lem : (z : Pending Answer Pages) → z ≡ w → WayTold f z t → Next (continue v) (continued calls book.driver
          (fed book x) v n z b)
      goes_on_lem idle is serving = stays_lent (continue v) 15 (λ z. refl)
      goes_on_lem (busy true q k) is serving = by (over calls q v)
        where
          by : (u : Bool) → Next (continue v) (cond u (stay calls book.driver 16 (lent_to calls book.driver n b))
              (halt calls book.driver (fed book x) true (k v (t, b))))
          by true = stays_lent (continue v) 16 (λ z. refl)
          by false = asks-on serving.fixed.sets (ap in_interrupt (sym is)) (k v (t, b))
              (serving.goes v (t, b) serving.fixed)
      goes_on_lem (busy false q k) is serving = by (over calls q v)
        where
          by : (u : Bool) → Next (continue v) (cond u (stay calls book.driver 16 (lent_to calls book.driver n b))
              (halt calls book.driver (fed book x) false (k v (t, b))))
          by true = stays_lent (continue v) 16 (λ z. refl)
          by false = plainly (continue v) (k v (t, b))

    -- ---- any call

    pub next-pending : (k : Call Config Op) → BufferPreserved k n a b → WayTold f w t → Next k (book_step x k n b)
    next-pending (start g) lent serving = by (start_row g b)
      where
        by : (r : ℕ) → Next (start g) (started calls book.driver (fed book x) g r n b)
        by zero = plainly (start g) (run book_ops (starting g) (fresh_pages g, b))
        by (suc r) = stays (start g) (suc r) (λ z. refl)
    next-pending (begin o) lent serving = by (cond (calls.slots o) (misfit calls book.driver t b) false)
      where
        by : (u : Bool) → Next (begin o) (cond u (stay calls book.driver 1 n)
            (begun calls book.driver (fed book x) o n w b))
        by true = stays (begin o) 1 (λ z. refl)
        by false = begins w o
    next-pending (continue v) lent serving = by (misfit calls book.driver t b) lent
      where
        by : (u : Bool) → page.when_not u (Chip t a b) → Next (continue v) (cond u (stay calls book.driver 1 n)
            (continued calls book.driver (fed book x) v n w b))
        by true chip = stays (continue v) 1 (λ z. refl)
        by false chip = goes_on_lem v chip w refl serving
    next-pending (question q) lent serving = λ s m under_way_lem st on found. goes_by (question q) t
        (handed-same x (told (book.driver.question q t)) s) under_way_lem (refl, refl) st on found

  -- ---- every list of calls

  each : (ms : List CallRecord) (r : Bool) (xs : List ℕ) (a : Buf) {φ : Phase} (n : Machine Answer Pages) (h : List Gap)
      (f : Note) → Ways driver_of book agree calls φ (machine_of xs a).under_way_lem n.under_way_lem
      → Coupling φ a (view xs) n.st
      → WayTold f n.under_way_lem n.st → ArrivalPending f n h → Marked e a n.st h
      → page.Calls xs a n ms → AfterEach n ms → NoneStaleEach e r a n h ms → ArrivalsEach n f ms
      → DecidedStoredEach e r a n h ms
  each [] r xs a n h f w R t p g q s u z = tt
  each (m ∷ ms) r xs a n h f w R t p g q s u z =
      let c = m.event.call in
      let b = m.event.lent in
      let n' = (page.book_after m n).1 in
      let k : After driver_of book agree calls (m.answer, machine_of m.bytes m.slots) (page.book_after m n)
      = subst (λ (x : Ans Answer × Machine Answer Driver). After driver_of book agree calls x (book_step x.0 c n b))
      (sym q.0)
      (agrees driver_of book agree calls fresh_kept c b (machine_of xs a) n w R (lent_is (machine_of xs a) n R b c
      q.1)) in
      let h' = cond (arms_now e n r c m.answer) [] (up_to m a h) in
      let serving = told_on m.answer c f n b k.same (is-regular R) t in
      let next = next-pending r m.answer n.under_way_lem n.st a n.buf b h f (λ j i. slot_mod e h R j i) g p c
      q.1 t
      k.same
      (λ v is i o. s.0.sentences.unmoved e v is i o) in (
        λ d. decided m n a h f p g q.1 k.same z.0 d,
        each ms (under_way e n c m.answer r) m.bytes m.slots n' h' (after c m.answer n.st b f) k.ways
            k.rest serving
            (subst (λ (l : Note). ArrivalPending l n' h') (after_same c f n.st b (page.book_after m n).0 m.answer
            (sym k.same)) next)
            u.1 q.2 s.1 u.3 z.2,
      )
    where
      -- an answer but for its address tells the same
      after_same : (c : Call Config Op) (f : Note) (t : Pages) (l : Buf) (a b : Ans Answer) → blank_a a ≡ blank_a b
          → after c a t l f ≡ after c b t l f
      after_same (start c) f t l = tells-same (λ z. after (start c) z t l f) (λ _ _. refl, λ _ _. refl, λ _. refl)
      after_same (begin o) f t l = tells-same (λ z. after (begin o) z t l f) (λ _ _. refl, λ _ _. refl, λ _. refl)
      after_same (continue v) f t l = tells-same (λ z. after (continue v) z t l f) (λ _ _. refl, λ _ _. refl, λ _. refl)
      after_same (question q) f t l = λ _ _ _. refl

      decided : (m : CallRecord) (n : Machine Answer Pages) (a : Buf) (h : List Gap) (f : Note) → ArrivalPending f n h
          → Marked e a
          n.st h
          → BufferPreserved m.event.call n a m.event.lent → blank_a m.answer ≡ blank_a (page.book_after m n).0
          → ArrivalIs m n f → DecidedStored e m n (up_to m a h)
      decided m n a h f p g lent same arrival d = by (arrival e d).1
        where
          l : Buf
          l = m.event.lent

          v : ℕ
          v = d.brought

          chip : Chip n.st a l
          chip = handed-fits m.answer v n a l (ap is_handed d.hands)
              (subst (λ (c : Call Config Op). blank_a m.answer ≡ blank_a (book_step m.answer c n l).0)
              d.continues same)
              (subst (λ (c : Call Config Op). BufferPreserved c n a l) d.continues lent)

          by : Arrival (brings v f) n.st l e → FirstWordStored e n.st (up_to m a h)
          by (with_length c changed) =
              found_in m.event.call (ap is_start d.continues) a l n.st h chip g d.enabled changed
          by (late c reads-it gone found) = stored-wider (behind (gap_of m.event.call a l) h)
              (p d.interrupt reads-it d.enabled found)

-- any bytes, a start-up that rows 1 and 2 do not stop, and then any calls of demand 3's premise
pub decided-stored : EachDecidedStored
decided-stored c b row xs a n first is ms p e =
    each e ms false first.bytes first.slots (page.book_after first n).1 [] f begun.ways begun.rest
    told-first
    (λ under_way_lem. absurd (true≢false (sym under_way_lem ∙ quiet-first)))
    (λ on. absurd (true≢false (sym on ∙ off-first))) p.2 (demand-3 c b row xs a n first is ms p).0.1
    (nothing-stale c b row xs a n first is ms p e)
    (arrivals c b row xs a n first is ms p unread)
  where
    f : Note
    f = after first.event.call first.answer n.st first.event.lent unread

    begun : After driver_of book agree calls (first.answer, machine_of first.bytes first.slots)
        (page.book_after first n)
    begun = subst (λ (x : Ans Answer × Machine Answer Driver). After driver_of book agree calls x
        (book_step x.0 first.event.call n first.event.lent))
        (sym p.0) (subst (λ (v : Event Config Op). let x = drive v.call (machine_of xs a) v.lent in
        After driver_of book agree calls x (book_step x.0 v.call n v.lent)) (sym is)
        (rw row (from_start driver_of book agree calls fresh_kept c b row [] (machine_of xs a) n tt).0))

    told-first : WayTold f (page.book_after first n).1.under_way_lem (page.book_after first n).1.st
    told-first = subst (λ (v : Event Config Op). let y = book_step first.answer v.call n v.lent in WayTold f
        y.1.under_way_lem y.1.st) (sym is)
        (start-told first.answer c f n b row)

    -- after the start-up no interrupt is under way, and none receives
    Resting : Ans Answer × Machine Answer Pages → Type 0
    Resting y = (in_interrupt y.1.under_way_lem ≡ false) × (receiving y.1.st e ≡ false)

    rests : Resting (started calls book.driver (fed book first.answer) c zero n b)
    rests = (
      refl,
      ap (λ (k : Kept). bit_is_set (iso_outs k.globals) (e % 16)) (fed-kept first.answer (fresh_pages c))
          ∙ none-enabled (fresh_pages c).kept.globals e,
    )

    resting : Resting (page.book_after first n)
    resting = subst (λ (v : Event Config Op). Resting (book_step first.answer v.call n v.lent)) (sym is)
        (subst (λ (r : ℕ). Resting (started calls book.driver (fed book first.answer) c r n b)) (sym row) rests)

    quiet-first : in_interrupt (page.book_after first n).1.under_way_lem ≡ false
    quiet-first = resting.0

    off-first : receiving (page.book_after first n).1.st e ≡ false
    off-first = resting.1
