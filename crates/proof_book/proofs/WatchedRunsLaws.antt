-- Request Eight over every list of calls: driver and watched book agree, so the sentence holds after each call
-- (`Watched`), of the code too
use Rattle.std.specs.Prelude.{Bool, true, false, cond, ◌&&◌, List, [], ◌∷◌, ◌≢◌, ◌≡◌, refl, ℕ, zero, suc, ◌%◌, eqb}
use Rattle.std.proofs.Common.{true≢false, ap, subst, sym, ◌∙◌, eqb-true}
use Rattle.std.proofs.lemmas.Bool.{eqb-false}
use Rattle.bits.specs.Bit.{bit_is_set}
use Rattle.regs.specs.declared.Access.TheVariants.{Receive}
use Rattle.regs.specs.declared.Dir.TheVariants.{Out, In}
use Rattle.state.specs.declared.Globals.{Globals}
use Rattle.state.specs.Driver.{Driver, ep_on}
use Rattle.state.specs.Laws.{Sized}
use Rattle.state.specs.State.{view}
use Rattle.ring.specs.Out.{capped_at}
use Rattle.ring.specs.Marks.{armed}
use Rattle.script.specs.Answers.{Answer}
use Rattle.script.specs.Cells.{EpCore}
use Rattle.script.specs.Script.{Act}
use Rattle.script.specs.Script.{DmaStep, arrive, send, place}
use Rattle.script.specs.Script.{place0, dma_step_ask, Burst, switch, bus_reset_lem, burst_ask, last_of}
use Rattle.script.specs.Simulates.{Phase, quiet}
use Rattle.script.specs.Statics.{is_on, iso_outs, renewed}
use Rattle.script.specs.Calls.{Config, Op, calls, start_row}
use Rattle.script.specs.Machine.{Buf, Call, start, begin, continue, question, Event, Ans, Machine, misfit, fed, started}
use Rattle.script.specs.Agree.{Agree, After, All, Lawful, LentAlike, Ways, unless, agrees, from_start}
use Rattle.script_ops.specs.Concrete.{concrete}
use Rattle.script_ops.specs.Rings.{St, renewed_on, slot_step}
use Rattle.script_ops.specs.Late.{arms-slot, arrive-arms, slot-arms}
use Rattle.machine.specs.Suspended.{driver_of, drive, machine_of}
use Rattle.proof_book.specs.Pages.{OutPage, Pages, with_out, with_kept, kept_plain}
use Rattle.proof_book.specs.Book.{empty_out, slot_told, arrived, packet_b, receiving, iso_of, put_b, act_b, hand_b, row_b}
use Rattle.proof_book.specs.Book.{feed_b}
use Rattle.proof_book.specs.Coupling.{Coupling, Good}
use Rattle.proof_book.specs.ChipsLaws.{chip}
use Rattle.proof_book.proofs.StartUpLaws.{fresh_kept}
use Rattle.proof_book.specs.HeldLaws.{receives-iso}
use Rattle.proof_book.proofs.ArrivesLaws.{admits, admitted-changed}
use Rattle.proof_book.proofs.SwitchesLaws.{fresh-changed}
use Rattle.proof_book.proofs.UntouchedLaws.{put-leaves, act-leaves, hand-leaves, row-leaves}
use Rattle.proof_book.proofs.AgreesLaws.{agree}
use Rattle.proof_book.specs.FrontPage.{CallRecord, CallStep}
use Rattle.proof_book.specs.FrontPage as page
use Rattle.proof_book.specs.Watched.{Watch, WatchedBook, arms_by, watch_hand, watch_row, watch_act, watched, Stored}
use Rattle.proof_book.specs.Watched.{TrueLength, noted, LentBy, AllLent, TrueLengths, RunLent, TrueLengthsMade}
use Rattle.proof_book.proofs.WatchedLaws.{Clean, clean-stored, Stays, clean_moved, put_stays, act_stays}
use Rattle.proof_book.proofs.WatchedLaws.{clean_armed, true_length}
use Rattle.script.specs.TransferKinds.{allocates}

abbrev number_of : DmaStep → ℕ
number_of (arrive f n) = f
number_of (send f) = 0
number_of (place d f) = 0
number_of place0 = 0

abbrev row_of : Burst → ℕ
row_of (switch f onn) = f
row_of bus_reset_lem = 0

module _ (e n : ℕ) (packet : List ℕ) where
  -- arming n was the last
  abbrev Claim : Watch → Pages → Buf → Type 0
  Claim w t b = w.armed ≡ true → w.armings ≡ n → Clean e packet t b

  -- another endpoint's page and address
  away : (t : Pages) (f : ℕ) → eqb (e % 16) (f % 16) ≡ false → (v : Bool) (p : OutPage) (x : ℕ)
      → Stays e packet t (feed_b (Receive f x) (cond v (with_out t f p) t))
  away t f g true p x = record {
    slot = ap (λ z. (cond z (slot_told ((with_out t f p).outs f) x)
        (cond z p (t.outs e))).slot) g;
    size = refl;
  }
  away t f g false p x = record { slot = ap (λ z. (cond z (slot_told (t.outs f) x) (t.outs e)).slot) g; size = refl }

  -- the record reset, and none wait
  abbrev renewed_out : Pages → ℕ → Pages
  renewed_out t f = with_out (with_kept t (kept_plain t.kept Out f (renewed (t.kept.plain Out f)))) f
      (empty_out (t.outs f))

  away-renewed : (t : Pages) (f : ℕ) → eqb (e % 16) (f % 16) ≡ false → (v : Bool) (x : ℕ)
      → Stays e packet t (feed_b (Receive f x) (cond v (renewed_out t f) t))
  away-renewed t f g true x = record {
    slot = ap (λ z. (cond z (slot_told ((renewed_out t f).outs f) x) (cond z (empty_out (t.outs f)) (t.outs e))).slot) g;
    size = ap (λ z. (cond z (renewed (t.kept.plain Out f)) (t.kept.plain Out e)).max_len) g;
  }
  away-renewed t f g false x = away t f g false (t.outs f) x

  same-globals : (v : Bool) (t u : Pages) → u.kept.globals ≡ t.kept.globals → (cond v u t).kept.globals
      ≡ t.kept.globals
  same-globals true t u h = h
  same-globals false t u h = refl

  iso-same : {φ ψ : Phase} {b b' : Buf} {d d' : Driver} {t t' : Pages} → Coupling φ b d t → Coupling ψ b' d' t'
      → t'.kept.globals ≡ t.kept.globals
      → (f : ℕ) → is_on (ep_on d' Out f).iso ≡ is_on (ep_on d Out f).iso
  iso-same R R' h f = sym (R'.isos f) ∙ ap (λ (g : Globals). bit_is_set g.iso_out_eps (f % 16)) (R'.same.globals ∙ h
      ∙ sym R.same.globals) ∙ R.isos f

  act-watch : (q : Act) (w : Watch) → (watch_act q w).armed ≡ true → watch_act q w ≡ w
  act-watch q w = by (allocates q)
    where
      by : (u : Bool) → (cond u (arms_by false w) w).armed ≡ true → cond u (arms_by false w) w ≡ w
      by true h = absurd (true≢false (sym h))
      by false h = refl

  pub act-claims : (q : Act) (b : Buf) (d : Driver) (t : Pages) (w : Watch) → Coupling quiet b d t → Claim w t b
      → Claim (watch_act q w) (act_b q (t, b)).0 (concrete.act q (d, b)).1
  act-claims q b d t w R c a m =
      let h = act-watch q w a in
      clean_moved e packet R (act_b q (t, b)).0 (concrete.act q (d, b)).1 (act_stays e packet R q w a)
      (act-leaves R e q)
      (c (ap (λ (v : Watch). v.armed) (sym h) ∙ a) (ap (λ (v : Watch). v.armings) (sym h) ∙ m))

  -- ---- an address

  module _ (b : Buf) (d : Driver) (t : Pages) (w : Watch) (R : Coupling quiet b d t) (c : Claim w t b) where
    arrive-claims : (f k : ℕ) → let x = concrete.hand (arrive f k) (d, b) in let u
        = feed_b (Receive f x.0) (hand_b (arrive f k) (t, b)).1.0 in
        Coupling quiet x.1.1 x.1.0 u → Claim (watch_hand e (arrive f k) t w) u x.1.1
    arrive-claims f k R' = by (eqb (e % 16) (f % 16)) refl
      where
        x : ℕ × St
        x = concrete.hand (arrive f k) (d, b)

        u : Pages
        u = feed_b (Receive f x.0) (hand_b (arrive f k) (t, b)).1.0

        s : St
        s = (admits d f k, b)

        arms : receiving t f ≡ true → x.1.1 ≡ armed b (ep_on x.1.0 Out f).armed_slot
            (ep_on x.1.0 Out f).max_len
        arms v =
            let on : bit_is_set (iso_outs d.globals) (f % 16) ≡ true
            = ap (λ (g : Globals). bit_is_set (iso_outs g) (f % 16)) R.same.globals ∙ v in
            subst (λ (z : ℕ × St). z.1.1 ≡ armed b (ep_on z.1.0 Out f).armed_slot
            (ep_on z.1.0 Out f).max_len) (sym (arrive-arms f k (d, b) on))
            (arms-slot f (ep_on s.0 Out f).head s (admitted-changed d R.sized f
            (capped_at (ep_on d Out f) k)).sized)

        own : (v : Bool) → receiving t f ≡ v → e % 16 ≡ f % 16 → Claim (arms_by v w) u x.1.1
        own true v h a m = clean_armed e packet R' f h
            (iso-same R R' (same-globals (receiving t f) t (with_out t f (arrived (t.outs f) (packet_b f k (t, b))))
            refl) f
            ∙ receives-iso R f (ap (λ (g : Globals). bit_is_set (iso_outs g) (f % 16)) R.same.globals ∙ v)) b (arms v)
        own false v h a m = absurd (true≢false (sym a))

        by : (z : Bool) → eqb (e % 16) (f % 16) ≡ z → Claim (cond z (arms_by (receiving t f) w) w) u x.1.1
        by true g = own (receiving t f) refl (eqb-true (e % 16) (f % 16) g)
        by false g = λ a m. clean_moved e packet R u x.1.1 (away t f g (receiving t f) _ x.0)
            (hand-leaves R e (arrive f k) (λ f' k' p. subst (λ y. y % 16 ≢ e % 16) (ap number_of p)
            (λ z. eqb-false (e % 16) (f % 16) g (sym z)))) (c a m)

    place-claims : (f : ℕ) (x : ℕ) → Claim (watch_hand e (place Out f) t w) (feed_b (Receive f x) t) b
    place-claims f x = by (eqb (e % 16) (f % 16)) refl
      where
        by : (z : Bool) → eqb (e % 16) (f % 16) ≡ z → Claim (cond z (arms_by false w) w) (feed_b (Receive f x) t) b
        by true g a m = absurd (true≢false (sym a))
        by false g a m = clean_moved e packet R (feed_b (Receive f x) t) b (away t f g false (t.outs f) x)
            (λ k l h. refl) (c a m)

    abbrev handed : DmaStep → Pages
    handed q = feed_b (dma_step_ask q (concrete.hand q (d, b)).0) (hand_b q (t, b)).1.0

    pub hand-claims : (q : DmaStep) → let x = concrete.hand q (d, b) in let u
        = feed_b (dma_step_ask q x.0) (hand_b q (t, b)).1.0 in
        Coupling quiet x.1.1 x.1.0 u → Claim (watch_hand e q t w) u x.1.1
    hand-claims (arrive f k) R' = arrive-claims f k R'
    hand-claims (send f) R' = λ a m. clean_moved e packet R (handed (send f)) b (record { slot = refl; size = refl })
        (λ k l h. refl) (c a m)
    hand-claims (place Out f) R' = place-claims f (concrete.hand (place Out f) (d, b)).0
    hand-claims (place In f) R' = λ a m. clean_moved e packet R (handed (place In f)) b
        (record { slot = refl; size = refl }) (λ k l h. refl) (c a m)
    hand-claims place0 R' = λ a m. clean_moved e packet R (handed place0) b (record { slot = refl; size = refl })
        (λ k l h. refl) (c a m)

  -- ---- a row's step

  module _ {φ : Phase} (b : Buf) (d : Driver) (t : Pages) (w : Watch) (R : Coupling φ b d t) (c : Claim w t b) where
    slot-claims : {ψ : Phase} (f : ℕ) (onn : Bool) (k : ℕ) → let x = slot_step f k (d, b) in let u =
        feed_b (Receive f x.0) (row_b (switch f onn) (suc (suc (suc k))) (t, b)).1.0 in
        Coupling ψ x.1.1 x.1.0 u → Claim (watch_row e (switch f onn) (suc (suc (suc k))) t w) u x.1.1
    slot-claims f onn k R' = by (eqb (e % 16) (f % 16)) refl
      where
        x : ℕ × St
        x = slot_step f k (d, b)

        u : Pages
        u = feed_b (Receive f x.0) (row_b (switch f onn) (suc (suc (suc k))) (t, b)).1.0

        sized : (z : Bool) → Sized (cond z (renewed_on d f) d)
        sized true = (fresh-changed R f).sized
        sized false = R.sized

        arms : is_on (ep_on d Out f).iso ≡ true → x.1.1
            ≡ armed b (ep_on x.1.0 Out f).armed_slot (ep_on x.1.0 Out f).max_len
        arms i = subst (λ (z : ℕ × St). z.1.1 ≡ armed b (ep_on z.1.0 Out f).armed_slot
            (ep_on z.1.0 Out f).max_len) (sym (slot-arms f k (d, b) i))
            (arms-slot f k (cond (eqb k 15) (renewed_on d f) d, b) (sized (eqb k 15)))

        own : (v : Bool) → iso_of t Out f ≡ v → e % 16 ≡ f % 16 → Claim (arms_by v w) u x.1.1
        own true v h a m =
            let i : is_on (ep_on d Out f).iso ≡ true = ap (λ (p : EpCore). is_on p.iso) (R.same.plain Out f) ∙ v in
            clean_armed e packet R' f h (iso-same R R'
            (same-globals (iso_of t Out f && eqb k 15) t (renewed_out t f) refl) f ∙ i) b (arms i)
        own false v h a m = absurd (true≢false (sym a))

        by : (z : Bool) → eqb (e % 16) (f % 16) ≡ z → Claim (cond z (arms_by (iso_of t Out f) w) w) u x.1.1
        by true g = own (iso_of t Out f) refl (eqb-true (e % 16) (f % 16) g)
        by false g = λ a m. clean_moved e packet R u x.1.1 (away-renewed t f g (iso_of t Out f && eqb k 15) x.0)
            (row-leaves R e (switch f onn) (suc (suc (suc k)))
            (λ f' on' p. subst (λ y. y % 16 ≢ e % 16) (ap row_of p) (λ z. eqb-false (e % 16) (f % 16) g (sym z))))
            (c a m)

    abbrev stepped : Burst → ℕ → Pages
    stepped g k = feed_b (burst_ask g k (concrete.row g k (d, b)).0) (row_b g k (t, b)).1.0

    pub row-claims : {ψ : Phase} (g : Burst) (k : ℕ) → let x = concrete.row g k (d, b) in let u
        = feed_b (burst_ask g k x.0) (row_b g k (t, b)).1.0 in
        Coupling ψ x.1.1 x.1.0 u → Claim (watch_row e g k t w) u x.1.1
    row-claims (switch f onn) zero R' =
        λ a m. clean_moved e packet R (stepped (switch f onn) zero) b (record { slot = refl; size = refl })
        (λ k l h. refl) (c a m)
    row-claims (switch f onn) (suc zero) R' =
        λ a m. clean_moved e packet R (stepped (switch f onn) (suc zero)) b (record { slot = refl; size = refl })
        (λ k l h. refl) (c a m)
    row-claims (switch f onn) (suc (suc zero)) R' =
        λ a m. clean_moved e packet R (stepped (switch f onn) (suc (suc zero))) b (record { slot = refl; size = refl })
        (λ k l h. refl) (c a m)
    row-claims (switch f onn) (suc (suc (suc k))) R' = slot-claims f onn k R'
    row-claims bus_reset_lem k R' = λ a m. absurd (true≢false (sym a))

  -- ---- driver and watched book agree

  abbrev pub Claims : Phase → Buf → Driver → WatchedBook → Type 0
  Claims φ b d s = Coupling φ b d s.pages × Claim s.watch s.pages b

  abbrev pub agreed : Agree driver_of (watched e)
  agreed = record {
    Coupling = Claims;
    Good = λ q b s. Good q b s.pages;
    Chip = λ s b b'. Stored e n packet s b b';
    chip = λ b b' φ d s r c. (
      chip b b' φ d s.pages r.0 c.chip,
      λ a m. clean-stored e packet s.pages b b'
          (r.1 a m) (c.alone a m),
    );
    size = λ φ b d s r. agree.size φ b d s.pages r.0;
    answer = λ q φ b d s r. agree.answer q φ b d s.pages r.0;
    unfed = λ q h s. ap (λ (p : Pages). record { pages = p; watch = s.watch }) (agree.unfed q h s.pages);
    good_bare = λ q h b s. agree.good_bare q h b s.pages;
    get = λ c b d s r. agree.get c b d s.pages r.0;
    put = λ c v b d s r. let z = agree.put c v b d s.pages r.0 in (
      z.0,
      (
        z.1,
        λ a m. clean_moved e packet r.0 (put_b c v (s.pages, b)).0 (concrete.put c v (d, b)).1
            (put_stays e packet r.0 c v)
            (put-leaves r.0 e c v) (r.1 a m),
      ),
    );
    is = λ q b d s r. agree.is q b d s.pages r.0;
    look = λ q b d s r. agree.look q b d s.pages r.0;
    fetch = λ q b d s r. agree.fetch q b d s.pages r.0;
    act = λ q b d s r. let z = agree.act q b d s.pages r.0 in
        (z.0, (z.1, act-claims q b d s.pages s.watch r.0 r.1));
    hand = λ q b d s r. let z = agree.hand q b d s.pages r.0 in
        ((z.0, hand-claims b d s.pages s.watch r.0 r.1 q z.0), z.1);
    first = λ g b d s r. let z = agree.first g b d s.pages r.0 in
        (z.0, (z.1, row-claims b d s.pages s.watch r.0 r.1 g (last_of g) z.1), z.2);
    next = λ g k b d s r. let z = agree.next g k b d s.pages r.0 in
        (z.0, (z.1, row-claims b d s.pages s.watch r.0 r.1 g k z.1), z.2);
    finish = λ g b d s r. (agree.finish g b d s.pages r.0, r.1);
  }

  fresh_claims : (c : Config) (b : Buf) → start_row c b ≡ zero
      → Claims quiet b (driver_of.fresh c) ((watched e).driver.fresh c)
  fresh_claims c b h = (fresh_kept c b h, λ a m. absurd (true≢false (sym a)))

  -- ---- every list of calls

  found : {x : Ans Answer × Machine Answer Driver} {y : Ans Answer × Machine Answer WatchedBook}
      → After driver_of (watched e) agreed calls x y
      → TrueLength e n packet x.1.st x.1.buf y.1.st
  found {x} {y} k b' s a m small whole last =
      true_length e packet (chip x.1.buf b' k.phase x.1.st y.1.st.pages k.rest.0 s.chip)
      (clean-stored e packet y.1.st.pages x.1.buf b' (k.rest.1 a m) (s.alone a m)) small whole last

  each : (vs : List (Event Config Op)) (m : Machine Answer Driver) (y : Machine Answer WatchedBook)
      → All driver_of (watched e) agreed calls fresh_claims vs m y → TrueLengths e n packet vs m y
  each [] m y a = tt
  each (v ∷ vs) m y a = (found a.0, each vs _ _ a.1)

  lent-as : (g : Bool) (X : Type 0) → page.when_not g X → unless driver_of (watched e) agreed calls g X
  lent-as true X p = tt
  lent-as false X p = p

  lent_is : (c : Call Config Op) (m : Machine Answer Driver) (y : Machine Answer WatchedBook) (b : Buf)
      → LentBy e n packet c m y b
      → LentAlike driver_of (watched e) agreed calls c m y b
  lent_is (start c) m y b p = tt
  lent_is (begin o) m y b p = lent-as (cond (calls.slots o) (misfit calls driver_of m.st b) false)
      (Stored e n packet y.st m.buf b) p
  lent_is (continue v) m y b p = lent-as (misfit calls driver_of m.st b) (Stored e n packet y.st m.buf b) p
  lent_is (question q) m y b p = p

  lawful : (vs : List (Event Config Op)) (m : Machine Answer Driver) (y : Machine Answer WatchedBook)
      → AllLent e n packet vs m y
      → Lawful driver_of (watched e) agreed calls fresh_claims vs m y
  lawful [] m y p = tt
  lawful (v ∷ vs) m y p = (lent_is v.call m y v.lent p.0, lawful vs _ _ p.1)

  -- the first call is a start-up that rows 1 and 2 do not stop, on whatever was before; every later call is lent the
  -- slot buffer as the last one left it, but for the chip's stores
  pub true-lengths : (c : Config) (b : Buf) → start_row c b ≡ zero
      → (vs : List (Event Config Op)) (m : Machine Answer Driver) (y : Machine Answer WatchedBook)
      → let x = started calls driver_of (λ s. s) c zero m b in
      let z = started calls (watched e).driver (fed (watched e) x.0) c zero y b in
      AllLent e n packet vs x.1 z.1 → TrueLengths e n packet vs x.1 z.1
  true-lengths c b row vs m y p = each vs _ _ (from_start driver_of (watched e) agreed calls fresh_claims c b row vs m y
      (lawful vs _ _ p)).1

  -- ---- of the code

  pub made-agrees : (m : CallRecord) {φ : Phase} (xs : List ℕ) (a : Buf) (y : Machine Answer WatchedBook)
      → Ways driver_of (watched e) agreed calls φ (machine_of xs a).under_way_lem y.under_way_lem
      → Claims φ a (view xs) y.st → CallStep xs a m
      → LentBy e n packet m.event.call (machine_of xs a) y m.event.lent
      → After driver_of (watched e) agreed calls (m.answer, machine_of m.bytes m.slots)
      (noted e m.answer m.event.call y m.event.lent)
  made-agrees m xs a y w r did l =
      subst (λ (z : Ans Answer × Machine Answer Driver). After driver_of (watched e) agreed calls z
      (noted e z.0 m.event.call y m.event.lent)) (sym did)
      (agrees driver_of (watched e) agreed calls fresh_claims m.event.call m.event.lent (machine_of xs a) y w r
      (lent_is m.event.call (machine_of xs a) y m.event.lent l))

  made_each : (ms : List CallRecord) {φ : Phase} (xs : List ℕ) (a : Buf) (y : Machine Answer WatchedBook)
      → Ways driver_of (watched e) agreed calls φ (machine_of xs a).under_way_lem y.under_way_lem
      → Claims φ a (view xs) y.st → RunLent e n packet xs a y ms
      → TrueLengthsMade e n packet y ms
  made_each [] xs a y w r h = tt
  made_each (m ∷ ms) xs a y w r h =
      let k = made-agrees m xs a y w r h.0 h.1 in
      (found k, made_each ms m.bytes m.slots _ k.ways k.rest h.2)

  pub start-agrees : (c : Config) (b : Buf) → start_row c b ≡ zero
      → (xs : List ℕ) (a : Buf) (y : Machine Answer WatchedBook) (first : CallRecord)
      → first.event ≡ record { call = start c; lent = b } → CallStep xs a first
      → After driver_of (watched e) agreed calls (first.answer, machine_of first.bytes first.slots)
      (started calls (watched e).driver (fed (watched e) first.answer) c zero y b)
  start-agrees c b row xs a y first v did =
      let q : (first.answer, machine_of first.bytes first.slots)
      ≡ started calls driver_of (λ s. s) c zero (machine_of xs a) b
      = subst (λ (v : Event Config Op). (first.answer, machine_of first.bytes first.slots)
      ≡ drive v.call (machine_of xs a) v.lent) v did
      ∙ ap (λ k. started calls driver_of (λ s. s) c k (machine_of xs a) b) row in
      subst (λ (z : Ans Answer × Machine Answer Driver). After driver_of (watched e) agreed calls z
      (started calls (watched e).driver (fed (watched e) z.0) c zero y b)) (sym q)
      (from_start driver_of (watched e) agreed calls fresh_claims c b row [] (machine_of xs a) y tt).0

  -- any bytes, a start-up that rows 1 and 2 do not stop, and then any calls whose contracts say what they are steps of
  pub code-true-lengths : (c : Config) (b : Buf) → start_row c b ≡ zero
      → (xs : List ℕ) (a : Buf) (y : Machine Answer WatchedBook) (first : CallRecord)
      → first.event ≡ record { call = start c; lent = b } → CallStep xs a first → (ms : List CallRecord)
      → let z = started calls (watched e).driver (fed (watched e) first.answer) c zero y b in
      RunLent e n packet first.bytes first.slots z.1 ms → TrueLengthsMade e n packet z.1 ms
  code-true-lengths c b row xs a y first v did ms h =
      let k = start-agrees c b row xs a y first v did in
      made_each ms first.bytes first.slots _ k.ways k.rest h
