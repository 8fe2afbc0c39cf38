-- A late packet of real samples is whole (Samples.antt): `samples-whole`; 12-bit samples meet its premise:
-- `twelve-bits`
use Rattle.std.specs.Prelude.{Bool, true, false, not, cond, ◌&&◌, List, [], ◌∷◌, ◌++◌, ◌⊎◌, ◌≢◌, ◌≡◌, refl, ℕ, zero, suc, ◌+◌, ◌*◌, ◌/◌, ◌%◌, ◌≤◌, ◌<◌, min, length, get_or, drop}
use Rattle.std.proofs.Common.{inl, inr, ⊎_elim, ap, subst, sym, ◌∙◌, arith, ne_eqb, le-ltb, length-append, length-take, length-drop, get_or-drop, get_or-take, ext_get_or}
use Rattle.std.proofs.Math.Decide.{ℕ_discrete}
use Rattle.regs.specs.declared.Dir.TheVariants.{Out}
use Rattle.state.specs.Driver.{Driver, ep_on}
use Rattle.state.specs.State.{view}
use Rattle.ring.specs.Marks.{mark, mark_byte, is_mark, is_marked}
use Rattle.ring.specs.Words.{one-differs}
use Rattle.ring.specs.Finds.{LastDiffers}
use Rattle.ring.specs.Copies.{bytes_at}
use Rattle.script.specs.Simulates.{Phase}
use Rattle.script.specs.Answers.{Answer}
use Rattle.script.specs.Calls.{Config, Op, calls}
use Rattle.script.specs.Cells.{EpCore}
use Rattle.script.specs.Machine.{Buf, Event, Call, Machine, Ans, blank_a}
use Rattle.script.specs.Agree.{After, Ways, agrees, from_start}
use Rattle.machine.specs.Suspended.{driver_of, drive, machine_of}
use Rattle.proof_book.specs.Pages.{Packet, Pages}
use Rattle.proof_book.specs.Book.{receiving, book}
use Rattle.proof_book.specs.Coupling.{Coupling}
use Rattle.proof_book.proofs.StartUpLaws.{fresh_kept}
use Rattle.proof_book.proofs.AgreesLaws.{agree}
use Rattle.proof_book.specs.HeldLaws.{Words}
use Rattle.proof_book.proofs.SwitchesLaws.{slot-words}
use Rattle.proof_book.specs.Lengths.{Known, learnt, length_of}
use Rattle.proof_book.specs.FrontPage.{CallRecord, book_step, Decides, Decided, admitted, turned_away, AfterEach}
use Rattle.proof_book.specs.FrontPage.{LengthIs}
use Rattle.proof_book.specs.FrontPage.{LengthsEach, BufferPreserved}
use Rattle.proof_book.specs.AnswersLaws.{is_handed}
use Rattle.proof_book.specs.FrontPage as page
use Rattle.proof_book.proofs.FrontPageLaws.{demand-3}
use Rattle.proof_book.proofs.SlotsKeptLaws.{lent_is}
use Rattle.proof_book.specs.Watched.{WatchedBook}
use Rattle.proof_book.specs.Watched as watch
use Rattle.proof_book.specs.LateArrival.{JoinsAsReceived, JoinEach}
use Rattle.proof_book.proofs.LateArrivalLaws.{late-arrivals}
use Rattle.proof_stale.specs.Stale.{maximum}
use Rattle.proof_stale.specs.StaleLaws.{of-receiving}
use Rattle.proof_stale.proofs.NothingStaleLaws.{last_same}
use Rattle.proof_stale.proofs.StoredSinceLaws.{handed-fits}
use Rattle.proof_stale.specs.Samples.{high_byte, packed, Each, Unmarked, unsigned, signed, offset}
use Rattle.proof_stale.specs.Samples.{SamplesIn, NeverShort, SamplesEach, SamplesWhole}

-- ---- 12-bit samples

pub twelve-bits : (v : ℕ) → v < 4096 → Unmarked (unsigned v) × Unmarked (signed v) × Unmarked (offset v)
twelve-bits v l = (
  (λ h. omega (arith, l, h), λ h. omega (arith, l, h)),
  (λ h. omega (arith, l, h), λ h. omega (arith, l, h)),
  (λ h. omega (arith, l, h), λ h. omega (arith, l, h)),
)

-- ---- bytes of a packet

packed-long : (vs : List ℕ) → length (packed vs) ≡ 2 * length vs
packed-long [] = refl
packed-long (v ∷ vs) = let z = packed-long vs in omega (arith, z)

high-at : (vs : List ℕ) (i : ℕ) → i < length vs → get_or (packed vs) (2 * i + 1) 0 ≡ high_byte (get_or vs i 0)
high-at [] i l = absurd (omega (arith, l))
high-at (v ∷ vs) zero l = refl
high-at (v ∷ vs) (suc i) l =
    let z : 2 * suc i + 1 ≡ suc (suc (2 * i + 1)) = omega arith in
    ap (λ (j : ℕ). get_or (packed (v ∷ vs)) j 0) z ∙ high-at vs i (omega (arith, l))

unmarked-at : (vs : List ℕ) → Each Unmarked vs → (i : ℕ) → i < length vs → Unmarked (get_or vs i 0)
unmarked-at [] s i l = absurd (omega (arith, l))
unmarked-at (v ∷ vs) s zero l = s.0
unmarked-at (v ∷ vs) s (suc i) l = unmarked-at vs s.1 i (omega (arith, l))

-- at the places of high bytes the mark has A5 or 5A
odd-mark : (i : ℕ) → (mark_byte (2 * i + 1) ≡ 0xA5) ⊎ (mark_byte (2 * i + 1) ≡ 0x5A)
odd-mark i = elim (ℕ_discrete (i % 2) 0) [
  | yes h ↦ inl (ap (λ (j : ℕ). get_or mark j 0) (let z : (2 * i + 1) % 4 ≡ 1 = omega (arith, h) in z))
  | no h ↦ inr (ap (λ (j : ℕ). get_or mark j 0) (let z : (2 * i + 1) % 4 ≡ 3 = omega (arith, h) in z))
]

high-differs : (vs : List ℕ) → Each Unmarked vs → (i : ℕ) → i < length vs → get_or (packed vs) (2 * i + 1) 0 ≢ mark_byte
    (2 * i + 1)
high-differs vs s i l h =
    let u = unmarked-at vs s i l in
    let z : high_byte (get_or vs i 0) ≡ mark_byte (2 * i + 1) = sym (high-at vs i l) ∙ h in
    ⊎_elim (λ q. u.0 (z ∙ q)) (λ q. u.1 (z ∙ q)) (odd-mark i)

-- the last byte differs from the mark's at its place
pub samples-differ : (vs : List ℕ) → Each Unmarked vs → LastDiffers (length (packed vs)) (packed vs)
samples-differ vs s k h g =
    let long = packed-long vs in
    let i : ℕ = k / 2 in
    let z : k ≡ 2 * i + 1 = omega (arith, long, h) in
    high-differs vs s i (omega (arith, long, h)) (subst (λ (j : ℕ). get_or (packed vs) j 0 ≡ mark_byte j) z g)

-- the premise is needed: of one sample with the high byte A5 the last byte is the mark's, so a late one loses it
pub hit-by-the-mark : LastDiffers (length (packed (0xA500 ∷ []))) (packed (0xA500 ∷ [])) → ⊥
hit-by-the-mark h = h 1 refl refl

-- and the first word from the mark
pub samples-arrive : (vs : List ℕ) → Each Unmarked vs → 0 < length vs → (b : Buf) (x : ℕ) → x + 4 ≤ length b
    → ((k : ℕ) → k < length (packed vs) → get_or b (x + k) 0 ≡ get_or (packed vs) k 0) → is_marked b x ≡ false
unfolding is_marked
samples-arrive vs s some b x room whole =
    ap (λ (u : Bool). cond u true (is_mark (drop x b) 0)) (le-ltb (length b) (x + 4) room)
    ∙ one-differs (drop x b) 0 1 (omega arith) (ne_eqb _ _ (λ h. high-differs vs s 0 some
    (sym (whole 1 (omega (arith, some, packed-long vs))) ∙ (sym (get_or-drop x b 1 0) ∙ h))))

-- ---- one call

module _ (e k : ℕ) (vs : List ℕ) (unmarked : Each Unmarked vs) where
  abbrev packet : List ℕ
  packet = packed vs

  module _ (m : CallRecord) (n : Machine Answer Pages) (f : Known) (y : Machine Answer WatchedBook)
      (lengths : LengthIs m n f)
      (decided : (d : Decides m.event.call n m.answer e)
      → Decided m.event.lent (n.st.outs e) ((page.book_after m n).1.st.outs e)) where
    abbrev l : Buf
    l = m.event.lent

    abbrev at : ℕ
    at = (n.st.outs e).slot

    -- the interrupt told the received length
    on-time : (room : at + length packet ≤ length l) (d : Decides m.event.call n m.answer e)
        → ((j : ℕ) → length_of f.readings e j ≡ length packet) → SamplesIn e vs n.st l → (q : Packet)
        → ((page.book_after m n).1.st.outs e).waiting ≡ (n.st.outs e).waiting ++ (q ∷ []) → q.bytes ≡ packet
    on-time room d told s q h = by (decided d)
      where
        recorded : length q.bytes ≡ length packet
        recorded =
            let z = lengths e d q h ∙ ap (λ (j : ℕ). min j (maximum e n.st)) (told _) in
            omega (arith, z, s.small)

        its-bytes : bytes_at l at (length packet) ≡ packet
        its-bytes = ext_get_or 0 (bytes_at l at (length packet)) packet
            (omega (arith, length-take (length packet) (drop at l), length-drop at l, room))
            (λ j i. let g : j < length packet = omega (arith, i, length-take (length packet) (drop at l)) in
            get_or-take (length packet) (drop at l) j 0 g ∙ (get_or-drop at l j 0 ∙ s.whole j g))

        by : Decided l (n.st.outs e) ((page.book_after m n).1.st.outs e) → q.bytes ≡ packet
        by (admitted q' few is w g i j k) =
            let same : q' ≡ q = last_same (n.st.outs e).waiting q' q (sym w ∙ h) in
            subst (λ (x : Packet). x.bytes ≡ bytes_at l at (length x.bytes)) same is
            ∙ (ap (bytes_at l at) recorded ∙ its-bytes)
        by (turned_away full w g i j k) =
            absurd (omega (
              arith,
              ap (λ (x : List Packet). length x) (sym w ∙ h),
              length-append
                  (n.st.outs e).waiting (q ∷ []),
            ))

    never-short : ((d : Decides m.event.call n m.answer e) → SamplesIn e vs n.st l → at + length packet ≤
        length l)
        → JoinsAsReceived e k packet m n f y → NeverShort e k vs m n f y.st.watch
    never-short room joins d late armed many s q h = ⊎_elim
        (λ marks. joins d marks (record {
          armed = armed;
          armings = many;
          small = s.small;
          whole = s.whole;
          last =
              samples-differ vs unmarked;
        }) q h)
        (λ told. on-time (room d s) d told s q h) late

  -- ---- where the slot lies

  module _ {φ : Phase} {a : Buf} {d : Driver} {t : Pages} (R : Coupling φ a d t) where
    maximum-is : (ep_on d Out e).max_len ≡ maximum e t
    maximum-is = ap (λ (p : EpCore). p.max_len) (R.same.plain Out e)

    slot-room : (n : ℕ) → n ≤ maximum e t → (t.outs e).slot + n ≤ length a
    slot-room n small = omega (
      arith,
      small,
      maximum-is,
      (R.outs e).held.least,
      (R.outs e).slot,
      (R.outs e).upto,
      (R.outs e).held.placed.inside,
    )

    word_room : receiving t e ≡ true → (t.outs e).slot + 4 ≤ length a
    word_room on =
        let w : Words (ep_on d Out e).stride = slot-words R e (of-receiving e [] R on) in
        omega (
          arith,
          w.0,
          w.1,
          (R.outs e).held.least,
          (R.outs e).slot,
          (R.outs e).upto,
          (R.outs e).held.placed.inside,
        )

  -- ---- every list of calls

  each : (ms : List CallRecord) (xs : List ℕ) (a : Buf) {φ : Phase} (n : Machine Answer Pages) (f : Known)
      (y : Machine Answer WatchedBook)
      → Ways driver_of book agree calls φ (machine_of xs a).under_way_lem n.under_way_lem → Coupling φ a (view xs) n.st
      → page.Calls xs a n ms → AfterEach n ms → LengthsEach n f ms → JoinEach e k packet n f y ms → SamplesEach e k vs
      a n f y ms
  each [] xs a n f y w R p s z j = tt
  each (m ∷ ms) xs a n f y w R p s z j =
      let c = m.event.call in
      let b = m.event.lent in
      let l = learnt c m.answer f in
      let n' = (page.book_after m n).1 in
      let h : After driver_of book agree calls (m.answer, machine_of m.bytes m.slots) (page.book_after m n)
      = subst (λ (x : Ans Answer × Machine Answer Driver). After driver_of book agree calls x (book_step x.0 c n b))
      (sym p.0)
      (agrees driver_of book agree calls fresh_kept c b (machine_of xs a) n w R (lent_is (machine_of xs a) n R b c
      p.1)) in
      let long : (d : Decides c n m.answer e) → length b ≡ length a =
      λ d. (handed-fits m.answer d.brought n a b (ap is_handed d.hands)
      (subst (λ (g : Call Config Op). blank_a m.answer ≡ blank_a (book_step m.answer g n b).0) d.continues
      h.same)
      (subst (λ (g : Call Config Op). BufferPreserved g n a b) d.continues p.1)).long in (
        never-short m n l y z.0 (λ d. s.0.sentences.decided e d)
            (λ d i. omega (arith, slot-room R (length packet) i.small, long d)) j.0,
        λ on some same i. ap not (samples-arrive vs unmarked some b (n.st.outs e).slot
            (omega (arith, word_room R on, same)) i.whole),
        each ms m.bytes m.slots n' l (watch.noted e m.answer c y b).1 h.ways h.rest p.2 s.1
            z.1 j.1,
      )

pub samples-whole : SamplesWhole
samples-whole e k vs unmarked c b row xs a n y first is ms p h f =
    let d = demand-3 c b row xs a n first is ms p in
    each e k vs unmarked ms first.bytes first.slots (page.book_after first n).1
    (learnt first.event.call first.answer f) _
    begun.ways begun.rest p.2 d.0.1 (d.1 f).1 (late-arrivals e k (packed vs) c b row xs a n y first is
    ms p h f)
  where
    begun : After driver_of book agree calls (first.answer, machine_of first.bytes first.slots)
        (page.book_after first n)
    begun = subst (λ (x : Ans Answer × Machine Answer Driver). After driver_of book agree calls x
        (book_step x.0 first.event.call n first.event.lent))
        (sym p.0) (subst (λ (v : Event Config Op). let x = drive v.call (machine_of xs a) v.lent in
        After driver_of book agree calls x (book_step x.0 v.call n v.lent)) (sym is)
        (rw row (from_start driver_of book agree calls fresh_kept c b row [] (machine_of xs a) n tt).0))
