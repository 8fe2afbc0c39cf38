-- Demand 3: what FrontPage.antt says holds after every call of every list that an accepted start-up begins, of the
-- Rattle code (`demand-3`) and of the machine of calls that the state's bytes are (`machine-demand-3`)
use Rattle.std.specs.Prelude.{Bool, true, false, cond, ◌&&◌, List, [], ◌∷◌, ◌++◌, ◌≡◌, refl, ℕ, zero, ◌≤◌, ◌<◌, eqb, length}
use Rattle.std.proofs.Common.{true≢false, ap, subst, sym, ◌∙◌, arith}
use Rattle.std.proofs.lemmas.List.{map-append, length-map}
use Rattle.regs.specs.declared.Dir.{Dir}
use Rattle.regs.specs.declared.Dir.TheVariants.{Out, In}
use Rattle.state.specs.State.{view}
use Rattle.state.specs.Driver.{Driver, ep_on}
use Rattle.ring.specs.Slot.{count_of}
use Rattle.ring.specs.Laws.{waiting-length}
use Rattle.script.specs.Simulates.{Phase}
use Rattle.script.specs.Statics.{flag}
use Rattle.script.specs.Cells.{EpCore}
use Rattle.script.specs.Answers.{Answer, Refused, NotYet, Shown, ok}
use Rattle.script.specs.Calls.{Config, Op, slotted, PollWrite, aside, Aside, Open, Close, Queue, calls, start_row}
use Rattle.script.specs.Machine.{Buf, Call, start, begin, continue, Event, Ans, ended, handed, told, blank_a, Machine}
use Rattle.script.specs.Machine.{Pending}
use Rattle.script.specs.Machine.{fed, started}
use Rattle.script.specs.Agree.{After, Ways, GoodA, agrees, from_start}
use Rattle.machine.specs.Suspended.{driver_of, drive, machine_of}
use Rattle.proof_book.specs.Pages.{Packet, bytes_of, stamps_of, Pages}
use Rattle.proof_book.specs.Book.{iso_of, book}
use Rattle.proof_book.specs.Coupling.{Coupling, Short, lens_of}
use Rattle.proof_book.specs.HeldLaws.{held-length}
use Rattle.proof_book.proofs.StartUpLaws.{fresh_kept}
use Rattle.proof_book.proofs.AgreesLaws.{agree}
use Rattle.proof_book.specs.LedgerLaws as ledger
use Rattle.proof_book.proofs.ReadRoomCallsLaws.{RoomKept, steps, start-kept}
use Rattle.proof_book.specs.FrontPage.{CallRecord, CallStep, book_after, book_step, BufferPreserved, ring_bytes}
use Rattle.proof_book.specs.FrontPage.{ring_stamps, EmptiedIn, BeingSent, Sends, emptied, Compared}
use Rattle.proof_book.specs.FrontPage.{done, Sentences, AfterCall, Counted, none, AfterEach, LengthsEach}
use Rattle.proof_book.specs.FrontPage.{OthersEach, AnswersEach, Demand3}
use Rattle.proof_book.specs.FrontPage as page
use Rattle.proof_book.specs.MachineRuns.{Premise, AfterEvents}
use Rattle.proof_book.proofs.SlotsKeptLaws.{kept-unwritten, lies-inside, lent_is}
use Rattle.proof_book.proofs.AsidesLaws.{Opened, opened-by, Closed, closed-by, Queued, queued_by}
use Rattle.proof_book.proofs.WritePollsLaws.{is_not_yet, Polled, write_polled}
use Rattle.proof_book.proofs.PollsWholeLaws.{ended_same, one-call}
use Rattle.proof_book.proofs.PollsWaitLaws.{poll_waits}
use Rattle.proof_book.proofs.BookCallsLaws.{Fine, start_fine, start-lost, start-anew, call-fine}
use Rattle.proof_book.proofs.BookCallsLaws as steps_of
use Rattle.proof_book.specs.StopsLaws.{stopped_leaves}
use Rattle.proof_book.proofs.RefusedCallsLaws.{is_start, refusal_leaves}
use Rattle.proof_book.proofs.EnablingLaws.{enabling_resets}
use Rattle.proof_book.proofs.BusResetsLaws.{bus_reset_empties, begin_empties}
use Rattle.proof_book.proofs.SendingCallsLaws.{Sending, SendingAfter, after_call, start-after, start-emptied}
use Rattle.proof_book.proofs.SendingCallsLaws.{sends-of, told-source}
use Rattle.proof_book.proofs.ContinueCallsLaws.{GoesOn, start-onto, goes_on_lem, continues-of}
use Rattle.proof_book.specs.AdvanceBeginsLaws.{advance_begins}
use Rattle.proof_book.proofs.SlotsToldLaws.{begin_slot}
use Rattle.proof_book.proofs.ToldLaws.{disabled_leaves, enabled_is, enabled_receives, slot_told_lem, unmoved_slot}
use Rattle.proof_book.proofs.ToldLaws.{asides_end, polls_end, enabling_ends}
use Rattle.proof_book.proofs.BeginSendsLaws.{begin_sends, enabling_places}
use Rattle.proof_book.proofs.EarlyCallsLaws.{Early, no_start, start-early, early-call}
use Rattle.proof_book.specs.Lengths.{Known, learnt}
use Rattle.proof_book.proofs.LengthCallsLaws.{WayTold, regular, told_on, start-told, length_is}
use Rattle.proof_book.specs.Others.{releasing, Names, under_way, call_names, Away, SamePage}
use Rattle.proof_book.proofs.ArrivalsLaws.{arrivals}
use Rattle.proof_book.proofs.LoadCallsLaws.{loads-each}
use Rattle.proof_book.proofs.AllocatedLaws.{sorts-each}
use Rattle.proof_book.proofs.ArrivalOrderLaws.{arrivals-in-order}
use Rattle.proof_book.proofs.WritesLaws.{writes}
use Rattle.proof_book.proofs.AsideRowsLaws.{asides_rows}
use Rattle.proof_book.proofs.OthersCallsLaws.{WaySpared, call_goes, start-spared, under_same}

-- an access that releases no bus reset's flag empties none
no-emptying : (w : Pending Answer Pages) (z : Ans Answer) → releasing z ≡ false → page.emptying w z ≡ false
no-emptying w z h = by (page.in_interrupt w)
  where
    by : (u : Bool) → cond u false (releasing z) ≡ false
    by true = refl
    by false = h

-- ---- from the relation of driver and book

module _ {φ : Phase} {b : Buf} {d : Driver} {t : Pages} (R : Coupling φ b d t) (e : ℕ) where
  ring-length : length (ring_bytes d b e) ≡ length (t.outs e).waiting
  ring-length = ap (λ (w : List (List ℕ)). length w) (R.outs e).held.waits
      ∙ length-map (t.outs e).waiting (λ (q : Packet). q.bytes)

  stamps-read : stamps_of (t.outs e).read ++ ring_stamps d e ≡ stamps_of (t.outs e).admitted
  stamps-read =
      let p = t.outs e in
      ap (λ (w : List ℕ). stamps_of p.read ++ w) (R.outs e).stamps
      ∙ sym (map-append (λ (q : Packet). q.stamp) p.read p.waiting) ∙ ap stamps_of (R.outs e).ledger

  open-counts : (t.outs e).opened ≡ true → 0 < count_of (ep_on d Out e)
  open-counts h = (R.outs e).shows (ap (λ (n : ℕ). eqb n 0) ((R.outs e).opened ∙ ap flag h))

  open-first : (t.outs e).opened ≡ true → (q : Packet) × (w : List Packet) × ((t.outs e).waiting ≡ q ∷ w)
  open-first h = by (t.outs e).waiting refl
    where
      by : (w : List Packet) → (t.outs e).waiting ≡ w → (q : Packet) × (v : List Packet) × ((t.outs e).waiting ≡ q ∷ v)
      by [] k = absurd (omega (
        arith,
        open-counts h,
        held-length (R.outs e).held,
        ap
            (λ (w : List Packet). length (bytes_of w)) k,
      ))
      by (q ∷ w) k = (q, w, k)

  open-there : (t.outs e).opened ≡ true → 0 < length (ring_bytes d b e)
  open-there h = omega (arith, open-counts h, waiting-length b (ep_on d Out e) (lens_of d Out e))

  short-each : (m : ℕ) (earlier later : List Packet) (q : Packet) → Short m (earlier ++ (q ∷ later)) → length q.bytes
      ≤ m
  short-each m [] later q h = h.0
  short-each m (p ∷ earlier) later q h = short-each m earlier later q h.1

  within : (earlier later : List Packet) (q : Packet) → (t.outs e).waiting ≡ earlier ++ (q ∷ later) → length q.bytes
      ≤ (t.kept.plain Out e).max_len
  within earlier later q k =
      let s = subst (λ (m : ℕ). Short m (t.outs e).waiting) (ap (λ (p : EpCore). p.max_len) (R.same.plain Out e))
      (R.outs e).short in
      short-each (t.kept.plain Out e).max_len earlier later q
      (subst (λ (w : List Packet). Short (t.kept.plain Out e).max_len w) k s)

-- ---- one call

-- after an accepted start-up
abbrev Anew : Pages → ℕ → Type 0
Anew t e = ((t.outs e).lost ≡ 0) × ((t.outs e).waiting ≡ []) × ((t.outs e).opened ≡ false) × ((t.outs e).admitted ≡ [])
    × ((t.outs e).read ≡ []) × EmptiedIn (t.ins e)

-- before a call that is no first start-up
record Before (m : Machine Answer Driver) (n : Machine Answer Pages) : Type 0 where
  phase : Phase
  rest : Coupling phase m.buf m.st n.st
  room : RoomKept m
  fine : Fine n
  sending : Sending n
  onto : GoesOn n
  early : Early n

abbrev is_told : Ans Answer → Bool
is_told (ended a) = false
is_told (handed q) = false
is_told (told n) = true

told_same : (z : Ans Answer) (k : ℕ) → blank_a z ≡ told k → z ≡ told k
told_same (ended a) k h = absurd (true≢false (sym (ap is_told h)))
told_same (handed q) k h = absurd (true≢false (sym (ap is_told h)))
told_same (told n) k h = h

abbrev not_yet : Ans Answer → Bool
not_yet (ended z) = is_not_yet z
not_yet (handed q) = false
not_yet (told k) = false

-- where the book agrees after it
abbrev Agrees : Call Config Op → Buf → Machine Answer Driver → Machine Answer Pages → Type 0
Agrees c l m n = let x = drive c m l in After driver_of book agree calls x (book_step x.0 c n l)

abbrev Holds-after : Call Config Op → Buf → Machine Answer Driver → Machine Answer Pages → Type 0
Holds-after c l m n = let x = drive c m l in AfterCall c l n x.0 x.1.st x.1.buf
    (book_step x.0 c n l).1.st

module _ (c : Call Config Op) (l : Buf) (m : Machine Answer Driver)
    (n : Machine Answer Pages) (a : Agrees c l m n) (before : is_start c ≡ false → Before m n) where
  abbrev x : Ans Answer × Machine Answer Driver
  x = drive c m l

  abbrev y : Ans Answer × Machine Answer Pages
  y = book_step x.0 c n l

  -- of a call that ends at once: the book's answer is the driver's
  same_end : (z : Answer) → x.0 ≡ ended z → y.0 ≡ ended z
  same_end z h = ended_same y.0 z (sym (ap blank_a h) ∙ a.same)

  most-15 : is_start c ≡ false → (e : ℕ) → length (n.st.outs e).waiting ≤ 15
  most-15 h e = ledger.at_most_15 (before h).rest e

  of-open : (e : ℕ) (z : Answer) → c ≡ begin (aside (Open e)) → x.0 ≡ ended z → Opened n.st e z y.1.st
  of-open e z p q = subst (λ (c : Call Config Op). (book_step x.0 c n l).0 ≡ ended z
      → Opened n.st e z (book_step x.0 c n l).1.st)
      (sym p) (opened-by x.0 e n l z) (same_end z q)

  module _ (e : ℕ) (p : c ≡ begin (aside (Close e))) where
    opened-first : (n.st.outs e).opened ≡ true → (q : Packet) × (w : List Packet) × ((n.st.outs e).waiting ≡ q ∷ w)
    opened-first = open-first (before (ap is_start p)).rest e

    of-close : (z : Answer) → x.0 ≡ ended z → Closed n.st e opened-first z y.1.st
    of-close z q = subst (λ (c : Call Config Op). (book_step x.0 c n l).0 ≡ ended z
        → Closed n.st e opened-first z (book_step x.0 c n l).1.st) (sym p)
        (closed-by x.0 e n l opened-first z) (same_end z q)

  module _ (e : ℕ) (bytes : List ℕ) (p : c ≡ begin (aside (Queue e bytes))) where
    most-2 : length (n.st.ins e).waiting ≤ 2
    most-2 = ledger.at_most_2 (before (ap is_start p)).rest e

    of-queue : (z : Answer) → x.0 ≡ ended z → Queued n.st e bytes most-2 z y.1.st
    of-queue z q = subst (λ (c : Call Config Op). (book_step x.0 c n l).0 ≡ ended z
        → Queued n.st e bytes most-2 z (book_step x.0 c n l).1.st) (sym p)
        (queued_by x.0 e bytes n l most-2 z) (same_end z q)

  -- a write's poll: its answer is the book's
  module _ (e : ℕ) (bytes : List ℕ) (p : c ≡ begin (slotted (PollWrite e bytes))) where
    of-write : Polled x.0 e bytes n l y
    of-write = subst (λ (c : Call Config Op). Polled x.0 e bytes n l (book_step x.0 c n l)) (sym p)
        (write_polled x.0 e bytes n l)

    same-poll : x.0 ≡ ended of-write.answer
    same-poll = ended_same x.0 of-write.answer (sym (ap blank_a of-write.ends_with) ∙ sym a.same)

  compared : Compared c n.st x.0 x.1.st x.1.buf y.1.st
  compared = record {
    ring = λ e. (a.rest.outs e).held.waits;
    stamps = λ e. (a.rest.outs e).stamps;
    open_shows = λ e stamp bytes p q. (of-open e (Shown bytes stamp) p q).shows stamp bytes refl;
    poll_waits = λ e len p q iso. poll_waits x.0 e len n l
        (subst (λ (c : Call Config Op). blank_a x.0 ≡ blank_a (book_step x.0 c n l).0) p a.same) q iso;
    poll_gives = λ e len bytes p q iso. let k = before (ap is_start p) in one-call c l m n k.rest k.room.state a e
        len bytes p q iso;
    write_waits = λ e bytes p q iso fits.
        let z : ended NotYet ≡ ended (of-write e bytes p).answer = sym q ∙ same-poll e bytes p in
        let two = (of-write e bytes p).wrote.waits (sym (ap not_yet z)) iso fits in
        omega (arith, two, ledger.at_most_2 (before (ap is_start p)).rest e);
    row_12 = λ e p q. (of-open e (Refused 12) p q).none refl;
    row_14 = λ e p q. (of-close e p (Refused 14) q).none refl;
    close_reads = λ e p q. (of-close e p ok q).reads refl;
    overruns_answers = λ e p. told_same x.0 _ (a.same
        ∙ ap (λ (c : Call Config Op). blank_a (book_step x.0 c n l).0) p);
    row_13 = λ e bytes p q. (of-queue e bytes p (Refused 13) q).full refl;
    queue_joins = λ e bytes p q. (of-queue e bytes p ok q).joins refl;
    write_joins = λ e bytes p q. (of-write e bytes p).wrote.joins (sym (ap done (same-poll e bytes p)) ∙ q);
    write_leaves = λ e bytes p q. (of-write e bytes p).wrote.leaves
        (sym (ap (λ (z : Ans Answer). done z && iso_of n.st In e) (same-poll e bytes p)) ∙ q);
    load_holds = λ e z q. (subst (λ (w : Ans Answer). GoodA driver_of book agree calls w x.1.buf y.1.st) q
        a.good).0;
  }

  refused_leaves : (o : Aside) (r : ℕ) → c ≡ begin (aside o) → x.0 ≡ ended (Refused r) → y.1.st ≡ n.st
  refused_leaves (Open e) r p q = (of-open e (Refused r) p q).leaves r refl
  refused_leaves (Close e) r p q = (of-close e p (Refused r) q).leaves r refl
  refused_leaves (Queue e bytes) r p q = (of-queue e bytes p (Refused r) q).leaves r refl

  sentences : ((e : ℕ) → Counted c l x.0 e (n.st.outs e) (y.1.st.outs e)) → SendingAfter x.0 n.st y
      → ((e : ℕ) → BeingSent n.st e → Sends e n.st y.1.st)
      → Sentences c l n x.0 x.1.st x.1.buf y.1.st
  sentences counted sent ends = record {
    read_then_waiting = ledger.read-then-queued a.rest;
    read_then_stamps = stamps-read a.rest;
    at_most_15 = λ e. omega (arith, ring-length a.rest e, ledger.at_most_15 a.rest e);
    capped = λ e. within a.rest e;
    open_waits = open-there a.rest;
    decided = λ e d. let h = ap is_start d.continues in steps_of.decided c x.0 e n (before h).fine l a.same
        (most-15 h e) d;
    unmoved_slot = λ e v p i r g. unmoved_slot c x.0 e v n (before (ap is_start p)).onto l a.same p i r g;
    begin_slot = λ o e p w g. begin_slot c x.0 o e n (before (ap is_start p)).fine l p w g;
    disabled_leaves = λ e v p i g. disabled_leaves c x.0 e v n (before (ap is_start p)).fine l p i g;
    enabled_is = enabled_is a.rest;
    enabled_receives = enabled_receives a.rest;
    slot_told_lem = slot_told_lem c x.0 n l a.same;
    ep0_told = λ z q. (subst (λ (w : Ans Answer). GoodA driver_of book agree calls w x.1.buf y.1.st) q
        a.good).0;
    asides_end = asides_end c x.0 n l a.same;
    polls_end = polls_end c x.0 n l a.same;
    asides_rows = asides_rows c x.0 n l a.same;
    enabling_ends = enabling_ends c x.0 n l a.same;
    unmoved = λ e v p i g. let k = before (ap is_start p) in steps_of.unmoved c x.0 e v n k.fine l a.same p i g;
    unmoved_out = λ e v p i g. let k = before (ap is_start p) in (continues-of c x.0 e v n k.fine k.sending
        k.onto l p).outs a.same i g;
    unmoved_in = λ e v p i g. let k = before (ap is_start p) in (continues-of c x.0 e v n k.fine k.sending
        k.onto l p).spares a.same i g;
    load_passes = λ e v p i. let k = before (ap is_start p) in (continues-of c x.0 e v n k.fine k.sending
        k.onto l p).passes a.same i;
    length_0 = λ e v p i g. let k = before (ap is_start p) in (continues-of c x.0 e v n k.fine k.sending
        k.onto l p).empties a.same i g;
    advance_begins = λ e f p. advance_begins c x.0 e f n l a.same p;
    early_leaves = λ g. (early-call x.0 c n (before (no_start g)).early l).leaves g;
    refusal_leaves = λ r g e. let z = refusal_leaves c x.0 n (λ h. (before h).fine) l a.same (Refused r) refl g in
        (z.outs e, z.ins e);
    not_yet_leaves = λ g e. let z = refusal_leaves c x.0 n (λ h. (before h).fine) l a.same NotYet refl g in
        (z.outs e, z.ins e);
    stopped_leaves = stopped_leaves x.0 n l c;
    refused_leaves = refused_leaves;
    counted = counted;
    at_most_2 = ledger.at_most_2 a.rest;
    sent_in_order = ledger.once-in-order a.rest;
    passed_then_waiting = λ e. (a.rest.ins e).ledger;
    sent_is = λ e. (a.rest.ins e).reached;
    starts_anew = λ g p row e. subst (λ (c : Call Config Op). Anew (book_step x.0 c n l).1.st e) (sym p)
        (subst (λ (r : ℕ). Anew (started calls book.driver (fed book x.0) g r n l).1.st e) (sym row)
        (let z = start-anew x.0 g n l e in (z.0, z.1, z.2, z.3, z.4, start-emptied x.0 g n l e)));
    enabling_resets = λ dir e on q p g. let k = before (ap is_start p) in enabling_resets c x.0 dir e on q n k.fine
        l a.same p g;
    bus_reset_empties = λ v p i g. let k = before (ap is_start p) in bus_reset_empties c x.0 v n k.fine l a.same
        p i g;
    begin_empties = λ o p g. begin_empties c x.0 o n (before (ap is_start p)).fine l a.same p g;
    load_sends = λ e z v p i g. let k = before (ap is_start p) in (continues-of c x.0 e v n k.fine k.sending
        k.onto l p).sends z a.same i g;
    load_moves = λ e z v p i g.
        let k = before (ap is_start p) in
        let w = continues-of c x.0 e v n k.fine k.sending k.onto l p in
        w.moves z a.same (no-emptying n.under_way_lem x.0 (ap releasing g)) g (w.sends z a.same i g).3;
    begin_sends = λ o e z p f m g. begin_sends c x.0 o e z n l a.same p f m g;
    enabling_places = λ e f z on p g. enabling_places c x.0 e f z on n l a.same p g;
    sending_ends = ends;
    load_tells = told-source sent a.same;
    unwritten = kept-unwritten a;
    inside = lies-inside a;
  }

-- a first start-up, on whatever was before
start-sent : (c : Config) (l : Buf) → start_row c l ≡ zero → (m : Machine Answer Driver) (n : Machine Answer Pages)
    → SendingAfter (drive (start c) m l).0 n.st (book_step (drive (start c) m l).0 (start c) n l)
start-sent c l row m n =
    let a = (drive (start c) m l).0 in
    subst (λ (r : ℕ). SendingAfter a n.st (started calls book.driver (fed book a) c r n l)) (sym row)
    (start-after a c n l)

start-emptied-by : (c : Config) (l : Buf) → start_row c l ≡ zero
    → (m : Machine Answer Driver) (n : Machine Answer Pages) (e : ℕ)
    → EmptiedIn ((book_step (drive (start c) m l).0 (start c) n l).1.st.ins e)
start-emptied-by c l row m n e =
    let a = (drive (start c) m l).0 in
    subst (λ (r : ℕ). EmptiedIn ((started calls book.driver (fed book a) c r n l).1.st.ins e)) (sym row)
    (start-emptied a c n l e)

first-start : (c : Config) (l : Buf) → start_row c l ≡ zero
    → (m : Machine Answer Driver) (n : Machine Answer Pages) → Agrees (start c) l m n → Holds-after (start c) l m n
first-start c l row m n a = record {
  compared = compared (start c) l m n a (λ h. absurd (true≢false h));
  sentences = sentences (start c) l m n a (λ h. absurd (true≢false h))
      (λ e. none c refl row
      (ap (λ (r : ℕ). ((started calls book.driver (fed book (drive (start c) m l).0) c r n l).1.st.outs e).lost) row
      ∙ start-lost (drive (start c) m l).0 c n l e))
      (start-sent c l row m n)
      (λ e _. emptied (start-emptied-by c l row m n e));
}

sent-after : (c : Call Config Op) (l : Buf) (m : Machine Answer Driver) (n : Machine Answer Pages) → Before m n
    → SendingAfter (drive c m l).0 n.st (book_step (drive c m l).0 c n l)
sent-after c l m n k = after_call (drive c m l).0 c n k.sending l

later-call : (c : Call Config Op) (l : Buf) (m : Machine Answer Driver) (n : Machine Answer Pages) → Before m n
    → Agrees c l m n → Holds-after c l m n
later-call c l m n k a = record {
  compared = compared c l m n a (λ _. k);
  sentences = sentences c l m n a (λ _. k) (λ e. steps_of.counted (drive c m l).0 e n k.fine l c a.same
      (ledger.at_most_15 a.rest e))
      (sent-after c l m n k) (λ e s. sends-of k.rest a.rest e s ((sent-after c l m n k).fates e s));
}

-- ---- lists

-- machines that agree
record Agreeing (m : Machine Answer Driver) (n : Machine Answer Pages) : Type 0 where
  before : Before m n
  ways : Ways driver_of book agree calls before.phase m.under_way_lem n.under_way_lem

one : (c : Call Config Op) (l : Buf) (m : Machine Answer Driver) (n : Machine Answer Pages) → Agreeing m n
    → BufferPreserved c n m.buf l
    → let x = drive c m l in Holds-after c l m n × Agreeing x.1 (book_step x.0 c n l).1
one c l m n k p =
    let a : Agrees c l m n = agrees driver_of book agree calls fresh_kept c l m n k.ways k.before.rest
    (lent_is m n k.before.rest l c p) in (
      later-call c l m n k.before a,
      record {
        before = record {
          phase = a.phase;
          rest = a.rest;
          room = steps c m k.before.room l;
          fine = call-fine (drive c m l).0 c n k.before.fine l;
          sending = (sent-after c l m n k.before).machine;
          onto = goes_on_lem (drive c m l).0 c n k.before.onto l;
          early = (early-call (drive c m l).0 c n k.before.early l).machine;
        };
        ways = a.ways;
      },
    )

-- an accepted start-up
module _ (c : Config) (b : Buf) (row : start_row c b ≡ zero) (m : Machine Answer Driver) (n : Machine Answer Pages) where
  start_is : drive (start c) m b ≡ started calls driver_of (λ s. s) c zero m b
  start_is = ap (λ (r : ℕ). started calls driver_of (λ s. s) c r m b) row

  start-agrees : Agrees (start c) b m n
  start-agrees = rw row (from_start driver_of book agree calls fresh_kept c b row [] m n tt).0

  begins : let x = drive (start c) m b in Holds-after (start c) b m n
      × Agreeing x.1 (book_step x.0 (start c) n b).1
  begins =
      let a = start-agrees in (
        first-start c b row m n a,
        record {
          ways = a.ways;
          before = record {
            phase = a.phase;
            rest = a.rest;
            room = subst (λ (z : Ans Answer × Machine Answer Driver). RoomKept z.1) (sym start_is)
                (start-kept c m b row);
            fine = subst (λ (r : ℕ). Fine (started calls book.driver (fed book (drive (start c) m b).0) c r n b).1)
                (sym row) (start_fine (drive (start c) m b).0 c n b);
            sending = (start-sent c b row m n).machine;
            onto = subst (λ (r : ℕ). GoesOn (started calls book.driver (fed book (drive (start c) m b).0) c r n
                b).1)
                (sym row) (start-onto (drive (start c) m b).0 c n b);
            early = subst (λ (r : ℕ). Early (started calls book.driver (fed book (drive (start c) m b).0) c r n
                b).1)
                (sym row) (start-early (drive (start c) m b).0 c n b);
          };
        },
      )

-- of the machine
events : (es : List (Event Config Op)) (m : Machine Answer Driver) (n : Machine Answer Pages) → Agreeing m n
    → Premise es m n → AfterEvents es m n
events [] m n k p = tt
events (e ∷ es) m n k p = let z = one e.call e.lent m n k p.0 in (z.0, events es _ _ z.1 p.1)

pub machine-demand-3 : (c : Config) (b : Buf) → start_row c b ≡ zero
    → (es : List (Event Config Op)) (m : Machine Answer Driver) (n : Machine Answer Pages)
    → Premise (record { call = start c; lent = b } ∷ es) m n
    → AfterEvents (record { call = start c; lent = b } ∷ es) m n
machine-demand-3 c b row es m n p = let z = begins c b row m n in (z.0, events es _ _ z.1 p.1)

-- of the code: a call does as its contract says
abbrev Said : CallRecord → Machine Answer Pages → Type 0
Said m n = AfterCall m.event.call m.event.lent n m.answer (view m.bytes) m.slots (book_after m n).1.st
    × Agreeing (machine_of m.bytes m.slots) (book_after m n).1

said : (xs : List ℕ) (a : Buf) (n : Machine Answer Pages) (m : CallRecord) → CallStep xs a m
    → (let x = drive m.event.call (machine_of xs a) m.event.lent in
    Holds-after m.event.call m.event.lent (machine_of xs a) n
    × Agreeing x.1 (book_step x.0 m.event.call n m.event.lent).1) → Said m n
said xs a n m did h = subst (λ (x : Ans Answer × Machine Answer Driver).
    AfterCall m.event.call m.event.lent n x.0 x.1.st x.1.buf
    (book_step x.0 m.event.call n m.event.lent).1.st
    × Agreeing x.1 (book_step x.0 m.event.call n m.event.lent).1) (sym did) h

code : (ms : List CallRecord) (xs : List ℕ) (a : Buf) (n : Machine Answer Pages) → Agreeing (machine_of xs a) n
    → page.Calls xs a n ms → AfterEach n ms
code [] xs a n k p = tt
code (m ∷ ms) xs a n k p =
    let z = said xs a n m p.0 (one m.event.call m.event.lent (machine_of xs a) n k p.1) in
    (z.0, code ms m.bytes m.slots _ z.1 p.2)

-- the book's answer is the driver's, but for an address
same_answer : (xs : List ℕ) (a : Buf) (n : Machine Answer Pages) (m : CallRecord) → Agreeing (machine_of xs a) n
    → CallStep xs a m
    → BufferPreserved m.event.call n a m.event.lent → blank_a m.answer ≡ blank_a (book_after m n).0
same_answer xs a n m k did p =
    let c = m.event.call in
    let l = m.event.lent in
    subst (λ (x : Ans Answer × Machine Answer Driver). blank_a x.0 ≡ blank_a (book_step x.0 c n l).0) (sym did)
    (agrees driver_of book agree calls fresh_kept c l (machine_of xs a) n k.ways k.before.rest
    (lent_is (machine_of xs a) n k.before.rest l c p)).same

-- a call: the book's answer, and what is so after it
made : (xs : List ℕ) (a : Buf) (n : Machine Answer Pages) (m : CallRecord) → Agreeing (machine_of xs a) n
    → CallStep xs a m
    → BufferPreserved m.event.call n a m.event.lent → (blank_a m.answer ≡ blank_a (book_after m n).0)
    × Said m n
made xs a n m k did p = (
  same_answer xs a n m k did p,
  said xs a n m did
      (one m.event.call m.event.lent (machine_of xs a) n k p),
)

-- the lengths of those that arrive, by what was brought
lengths : (ms : List CallRecord) (xs : List ℕ) (a : Buf) (n : Machine Answer Pages) (f : Known)
    → Agreeing (machine_of xs a) n → WayTold f n.under_way_lem n.st
    → page.Calls xs a n ms → LengthsEach n f ms
lengths [] xs a n f k w p = tt
lengths (m ∷ ms) xs a n f k w p =
    let c = m.event.call in
    let l = m.event.lent in
    let z = made xs a n m k p.0 p.1 in (
      λ e d q h. length_is c m.answer e n k.before.rest k.before.fine f w l z.0 d q h,
      lengths ms m.bytes m.slots _ _ z.1.1 (told_on m.answer c f n l z.0 (regular k.before.rest) w)
          p.2,
    )

-- the pages of the endpoints not named
others : (ms : List CallRecord) (xs : List ℕ) (a : Buf) (n : Machine Answer Pages) (f : Names)
    → Agreeing (machine_of xs a) n → WaySpared f n.under_way_lem
    → page.Calls xs a n ms → OthersEach n f ms
others [] xs a n f k w p = tt
others (m ∷ ms) xs a n f k w p =
    let z = made xs a n m k p.0 p.1 in
    let y = call_goes m.answer m.event.call f n m.event.lent w in (
      λ r d e h. y.pages z.0 r d e h,
      others ms m.bytes m.slots _ _ z.1.1
          (subst (λ (g : Names). WaySpared g (book_after m n).1.under_way_lem)
          (under_same m.event.call m.answer (book_after m n).0 f z.0) y.under_way_lem) p.2,
    )

-- the book's answers
answers : (ms : List CallRecord) (xs : List ℕ) (a : Buf) (n : Machine Answer Pages) → Agreeing (machine_of xs a) n
    → page.Calls xs a n ms → AnswersEach n ms
answers [] xs a n k p = tt
answers (m ∷ ms) xs a n k p =
    let z = made xs a n m k p.0 p.1 in (z.0, answers ms m.bytes m.slots _ z.1.1 p.2)

pub demand-3 : Demand3
demand-3 c b row xs a n first is ms p =
    let z = said xs a n first p.0 (subst (λ (v : Event Config Op). let x
    = drive v.call (machine_of xs a) v.lent in
    Holds-after v.call v.lent (machine_of xs a) n
    × Agreeing x.1 (book_step x.0 v.call n v.lent).1) (sym is) (begins c b row (machine_of xs a) n)) in (
      (z.0, code ms first.bytes first.slots _ z.1 p.2),
      λ k.
          let f = learnt first.event.call first.answer k in
          let w = subst (λ (v : Event Config Op). let y = book_step first.answer v.call n v.lent in WayTold f
          y.1.under_way_lem y.1.st) (sym is)
          (start-told first.answer c f n b row) in (
            λ e d. absurd (starts d.brought d.continues),
            lengths ms first.bytes first.slots _ f z.1 w p.2,
          ),
      λ k.
          let f = under_way first.event.call first.answer k in
          let w = subst (λ (v : Event Config Op). WaySpared f
          (book_step first.answer v.call n v.lent).1.under_way_lem) (sym is) (start-spared
          first.answer c f n b row) in (
            subst (λ (v : Event Config Op). releasing first.answer ≡ false → (d : Dir) (e : ℕ)
                → Away (call_names v.call k) d e
                → SamePage d e n.st (book_after first n).1.st) (sym is) (λ r d e h. absurd h),
            others ms first.bytes first.slots _ f z.1 w p.2,
          ),
      λ k. (
        λ e d. absurd (starts d.brought d.continues),
        λ v r ws g. absurd (starts v g),
        arrivals c b row xs a n first is ms p k,
      ),
      λ k. (λ e d. absurd (starts d.brought d.continues), arrivals-in-order c b row xs a n first is ms p k),
      λ k. let w = writes c b row xs a n first is ms p k in (λ e x v l g. absurd (starts v g), w.0, w.1),
      (first-same, answers ms first.bytes first.slots _ z.1 p.2),
      λ k. (
        λ e v l g. absurd (starts v g),
        λ e v r ws l g. absurd (starts v g),
        loads-each c b row xs a n first is ms p k,
      ),
      λ f. sorts-each c b row xs a n first is ms p f,
    )
  where
    first-same : blank_a first.answer ≡ blank_a (book_after first n).0
    first-same = subst (λ (x : Ans Answer × Machine Answer Driver).
        blank_a x.0 ≡ blank_a (book_step x.0 first.event.call n first.event.lent).0) (sym p.0)
        (subst (λ (v : Event Config Op). let x = drive v.call (machine_of xs a) v.lent in
        blank_a x.0 ≡ blank_a (book_step x.0 v.call n v.lent).0) (sym is)
        (start-agrees c b row (machine_of xs a) n).same)

    starts : (v : ℕ) → first.event.call ≡ continue v → ⊥
    starts v g = true≢false (sym (ap (λ (e : Event Config Op). is_start e.call) is) ∙ ap is_start g)
