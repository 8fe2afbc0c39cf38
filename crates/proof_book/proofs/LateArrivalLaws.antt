-- Request Eight in the call that decides an arrival, over every list of calls (LateArrival.antt): two books are kept of
-- the same driver, so they have the same slots and maxima, and the marks tell the length of Eight's history
use Rattle.std.specs.Prelude.{Bool, true, false, cond, List, [], ◌∷◌, ◌++◌, ◌≡◌, ℕ, zero, ◌+◌, min, length, get_or}
use Rattle.std.proofs.Common.{ap, subst, sym, ◌∙◌, arith, length-append}
use Rattle.regs.specs.declared.Access.{Access}
use Rattle.regs.specs.declared.Dir.TheVariants.{Out}
use Rattle.state.specs.Driver.{Driver, ep_on}
use Rattle.state.specs.State.{view}
use Rattle.ring.specs.Marks.{marked_len}
use Rattle.ring.specs.Copies.{bytes_at}
use Rattle.script.specs.Cells.{EpCore}
use Rattle.script.specs.Simulates.{Phase}
use Rattle.script.specs.Answers.{Answer}
use Rattle.script.specs.Calls.{Config, Op, calls, start_row}
use Rattle.script.specs.Machine.{Buf, Event, Call, start, continue, Machine, Ans, handed, misfit, stay, continued, fed}
use Rattle.script.specs.Machine.{started}
use Rattle.script.specs.Agree.{After, Ways, agrees, from_start}
use Rattle.machine.specs.Suspended.{driver_of, drive, machine_of}
use Rattle.proof_book.specs.Pages.{Packet, Pages}
use Rattle.proof_book.specs.Book.{book}
use Rattle.proof_book.specs.Coupling.{Coupling}
use Rattle.proof_book.proofs.StartUpLaws.{fresh_kept}
use Rattle.proof_book.specs.ChipsLaws.{chip}
use Rattle.proof_book.proofs.AgreesLaws.{agree}
use Rattle.proof_book.specs.Lengths.{Known, learnt, length_of}
use Rattle.proof_book.specs.FrontPage.{CallRecord, CallStep, book_step, Decides, Decided, admitted, turned_away}
use Rattle.proof_book.specs.FrontPage.{AfterEach, LengthIs, LengthsEach}
use Rattle.proof_book.specs.FrontPage as page
use Rattle.proof_book.proofs.FrontPageLaws.{demand-3}
use Rattle.proof_book.proofs.SlotsKeptLaws.{lent_is}
use Rattle.proof_book.specs.Watched.{WatchedBook, watched, slot_at, most, Stored, LentBy, RunLent}
use Rattle.proof_book.specs.Watched as watch
use Rattle.proof_book.proofs.WatchedLaws.{clean-stored, true_length}
use Rattle.proof_book.proofs.WatchedRunsLaws.{Claims, agreed, made-agrees, start-agrees}
use Rattle.proof_book.specs.LateArrival.{ByMarks, StoredWhole, JoinEach}

-- two books of one driver
same-slot : (e : ℕ) {φ ψ : Phase} {b b' : Buf} {d : Driver} {t t' : Pages} → Coupling φ b d t → Coupling ψ b' d t'
    → slot_at e t' ≡ slot_at e t
same-slot e R R' = sym (R'.outs e).slot ∙ (R.outs e).slot

-- the last of a list
last_same : (w : List Packet) (x y : Packet) → w ++ (x ∷ []) ≡ w ++ (y ∷ []) → x ≡ y
last_same [] x y h = ap (front x) h
  where
    front : Packet → List Packet → Packet
    front p [] = p
    front p (q ∷ qs) = q
last_same (z ∷ w) x y h = last_same w x y (ap rest h)
  where
    rest : List Packet → List Packet
    rest [] = []
    rest (q ∷ qs) = qs

-- a continue that is handed an access is lent a buffer of the right length
taken : (u : Bool) {X : Type 0} (m : Machine Answer Driver) (z : Ans Answer × Machine Answer Driver) (a : Ans Answer)
    (q : Access)
    → a ≡ (cond u (stay calls driver_of 1 m) z).0 → a ≡ handed q → page.when_not u X → X
taken true m z a q h g x = let w : ◌≡◌ {A = ℕ} 0 1 = cc in absurd (omega arith)
taken false m z a q h g x = x

module _ (e k : ℕ) (packet : List ℕ) where
  -- ---- one call

  module _ (xs : List ℕ) (a : Buf) (m : CallRecord) (n : Machine Answer Pages) (f : Known)
      (y : Machine Answer WatchedBook) (did : CallStep xs a m)
      (lent : LentBy e k packet m.event.call (machine_of xs a) y m.event.lent) where
    abbrev l : Buf
    l = m.event.lent

    abbrev c : Call Config Op
    c = m.event.call

    stored : Decides c n m.answer e → Stored e k packet y.st a l
    stored d =
        let v = d.brought in
        let did' : m.answer ≡ (drive (continue v) (machine_of xs a) l).0 =
        subst (λ (c : Call Config Op). m.answer ≡ (drive c (machine_of xs a) l).0) d.continues
        (ap (λ (z : Ans Answer × Machine Answer Driver). z.0) did) in
        let lent' : LentBy e k packet (continue v) (machine_of xs a) y l =
        subst (λ (c : Call Config Op). LentBy e k packet c (machine_of xs a) y l) d.continues lent in
        taken (misfit calls driver_of (view xs) l) (machine_of xs a)
        (continued calls driver_of (λ s. s) v (machine_of xs a) (machine_of xs a).under_way_lem l)
        m.answer _ did' d.hands lent'

    module _ {φ ψ : Phase} (R : Coupling φ a (view xs) n.st) (r : Claims e k packet ψ a (view xs) y.st)
        (d : Decides c n m.answer e)
        (s : StoredWhole e k packet y.st.watch n.st l) where
      at : (ep_on (view xs) Out e).armed_slot ≡ slot_at e n.st
      at = (R.outs e).slot

      up_to : (ep_on (view xs) Out e).max_len ≡ most e n.st
      up_to = ap (λ (p : EpCore). p.max_len) (R.same.plain Out e)

      -- the length by the marks, and the bytes of that length, as the history has them
      by-history : (marked_len l (slot_at e n.st) (most e n.st) ≡ length packet)
          × (bytes_at l (slot_at e n.st) (length packet) ≡ packet)
      by-history =
          let w = stored d in
          let t = y.st.pages in
          let z = true_length e packet (chip a l ψ (view xs) t r.0 w.chip)
          (clean-stored e packet t a l (r.1 s.armed s.armings) (w.alone s.armed s.armings))
          (omega (arith, s.small, up_to)) (λ j h. ap (λ x. get_or l (x + j) 0) (same-slot e R r.0) ∙ s.whole j h) s.last in
          subst (λ (x : ℕ). (marked_len l x (most e n.st) ≡ length packet) × (bytes_at l x (length packet) ≡ packet)) at
          (subst (λ (x : ℕ). (marked_len l (ep_on (view xs) Out e).armed_slot x ≡ length packet)
          × (bytes_at l (ep_on (view xs) Out e).armed_slot (length packet) ≡ packet)) up_to z)

      module _ (marks : ByMarks f.readings e) (lengths : LengthIs m n f) (q : Packet)
          (h : ((page.book_after m n).1.st.outs e).waiting ≡ (n.st.outs e).waiting ++ (q ∷ [])) where
        -- the length that the call records
        recorded : length q.bytes ≡ length packet
        recorded =
            let z = lengths e d q h in
            let o = ap (λ (x : ℕ). min (length_of f.readings e x) (most e n.st)) by-history.0 in
            let p = ap (λ (x : ℕ). min x (most e n.st)) (marks (length packet)) in
            let u = z ∙ o ∙ p in
            omega (arith, u, s.small)

        joins : Decided l (n.st.outs e) ((page.book_after m n).1.st.outs e) → q.bytes ≡ packet
        joins (admitted q' few is w g i j k) =
            let same : q' ≡ q = last_same (n.st.outs e).waiting q' q (sym w ∙ h) in
            subst (λ (x : Packet). x.bytes ≡ bytes_at l (slot_at e n.st) (length x.bytes)) same is
            ∙ ap (bytes_at l (slot_at e n.st)) recorded ∙ by-history.1
        joins (turned_away full w g i j k) =
            absurd (omega (
              arith,
              ap (λ (x : List Packet). length x) (sym w ∙ h),
              length-append (n.st.outs e).waiting
                  (q ∷ []),
            ))

  -- ---- every list of calls

  each : (ms : List CallRecord) (xs : List ℕ) (a : Buf) {φ ψ : Phase} (n : Machine Answer Pages) (f : Known)
      (y : Machine Answer WatchedBook)
      → Ways driver_of book agree calls φ (machine_of xs a).under_way_lem n.under_way_lem → Coupling φ a (view xs) n.st
      → Ways driver_of (watched e) (agreed e k packet) calls ψ (machine_of xs a).under_way_lem y.under_way_lem
      → Claims e k packet ψ a (view xs) y.st
      → page.Calls xs a n ms → RunLent e k packet xs a y ms → AfterEach n ms → LengthsEach n f ms
      → JoinEach e k packet n f y ms
  each [] xs a n f y w R v r p h s z = tt
  each (m ∷ ms) xs a n f y w R v r p h s z =
      let c = m.event.call in
      let b = m.event.lent in
      let k' : After driver_of book agree calls (m.answer, machine_of m.bytes m.slots) (page.book_after m n)
      = subst (λ (x : Ans Answer × Machine Answer Driver). After driver_of book agree calls x (book_step x.0 c n b))
      (sym p.0)
      (agrees driver_of book agree calls fresh_kept c b (machine_of xs a) n w R
      (lent_is (machine_of xs a) n R b c p.1)) in
      let y' = made-agrees e k packet m xs a y v r h.0 h.1 in (
        λ d marks stored q g. joins xs a m n (learnt c m.answer f) y h.0 h.1 R r d stored marks z.0 q g
            (s.0.sentences.decided e d),
        each ms m.bytes m.slots (page.book_after m n).1 (learnt c m.answer f)
            (watch.noted e m.answer c y b).1
            k'.ways k'.rest y'.ways y'.rest p.2 h.2 s.1 z.1,
      )

  -- any bytes, a start-up that rows 1 and 2 do not stop, and then any calls of demand 3's premise and Eight's
  pub late-arrivals : (c : Config) (b : Buf) → start_row c b ≡ zero → (xs : List ℕ) (a : Buf) (n : Machine Answer Pages)
      (y : Machine Answer WatchedBook) (first : CallRecord)
      → first.event ≡ record { call = start c; lent = b } → (ms : List CallRecord) → page.Calls xs a n (first ∷ ms)
      → let z = started calls (watched e).driver (fed (watched e) first.answer) c zero y b in
      RunLent e k packet first.bytes first.slots z.1 ms → (f : Known)
      → JoinEach e k packet (page.book_after first n).1 (learnt first.event.call first.answer f) z.1 ms
  late-arrivals c b row xs a n y first is ms p h f =
      let d = demand-3 c b row xs a n first is ms p in
      let v = start-agrees e k packet c b row xs a y first is p.0 in
      each ms first.bytes first.slots (page.book_after first n).1 (learnt first.event.call first.answer f)
      (started calls (watched e).driver (fed (watched e) first.answer) c zero y b).1
      begun.ways begun.rest v.ways v.rest p.2 h d.0.1 (d.1 f).1
    where
      begun : After driver_of book agree calls (first.answer, machine_of first.bytes first.slots)
          (page.book_after first n)
      begun = subst (λ (x : Ans Answer × Machine Answer Driver). After driver_of book agree calls x
          (book_step x.0 first.event.call n first.event.lent))
          (sym p.0) (subst (λ (v : Event Config Op). let x = drive v.call (machine_of xs a) v.lent in
          After driver_of book agree calls x (book_step x.0 v.call n v.lent)) (sym is)
          (rw row (from_start driver_of book agree calls fresh_kept c b row [] (machine_of xs a) n tt).0))
