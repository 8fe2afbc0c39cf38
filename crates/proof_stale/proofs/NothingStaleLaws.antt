-- NO OLD SAMPLE IS READ AGAIN, over every list of calls of the code (Stale.antt): `nothing-stale`
use Rattle.std.specs.Prelude.{Bool, true, false, not, cond, ◌&&◌, ◌||◌, List, [], ◌∷◌, ◌++◌, ◌⊎◌, ◌≢◌, ◌≡◌, ℕ, zero, suc, ◌+◌, ◌%◌, ◌≤◌, ◌<◌, eqb, length, get_or, drop}
use Rattle.std.proofs.Common.{true≢false, inl, inr, ⊎_elim, ap, subst, sym, ◌∙◌, arith, eq-eqb, ne_eqb, eqb-true, length-append, get_or-drop, get_or-take}
use Rattle.std.proofs.Math.Path.{refl}
use Rattle.std.proofs.Math.Decide.{ℕ_discrete}
use Rattle.bits.specs.Bit.{bit_is_set}
use Rattle.regs.specs.declared.Access.{Access}
use Rattle.regs.specs.declared.Access.TheVariants.{Read, Write, Receive, Transmit, Ep0Dma, Wait, Callback}
use Rattle.regs.specs.declared.Dir.TheVariants.{Out, In}
use Rattle.state.specs.declared.Allocator.{Allocator}
use Rattle.state.specs.declared.Globals.{Globals}
use Rattle.state.specs.Driver.{Driver}
use Rattle.state.specs.State.{view}
use Rattle.alloc.specs.Alloc.{allocated_ins}
use Rattle.ring.specs.Marks.{mark_byte}
use Rattle.ring.specs.Copies.{bytes_at}
use Rattle.script.specs.Cells.{EpCore}
use Rattle.script.specs.Script.{switch, bus_reset_lem}
use Rattle.script.specs.Simulates.{Phase, quiet, mid}
use Rattle.script.specs.Statics.{is_on, iso_outs}
use Rattle.script.specs.Answers.{Answer}
use Rattle.script.specs.Calls.{Config, Op, interrupt, slotted, other, aside, SetEnabled, PollRead, BeginWrite}
use Rattle.script.specs.Calls.{PollWrite, PollDataOut, BeginDataIn, calls, start_row}
use Rattle.script.specs.Machine.{Buf, Event, Call, start, begin, continue, question, Machine, Pending, idle, busy, Ans}
use Rattle.script.specs.Machine.{ended, handed, told, blank_a, misfit, stay, continued, fed, started, call}
use Rattle.script.specs.Agree.{After, Ways, both_idle, both_busy, LentAlike, unless, agrees, from_start}
use Rattle.machine.specs.Suspended.{driver_of, drive, machine_of}
use Rattle.proof_book.specs.Pages.{Packet, Pages}
use Rattle.proof_book.specs.Book.{receiving, iso_of, book}
use Rattle.proof_book.specs.Others.{hands_out}
use Rattle.proof_book.specs.Coupling.{Coupling}
use Rattle.proof_book.proofs.StartUpLaws.{fresh_kept}
use Rattle.proof_book.proofs.AgreesLaws.{agree}
use Rattle.proof_book.specs.Lengths.{Known, learnt, nothing_read}
use Rattle.proof_book.specs.FrontPage.{CallRecord, CallStep, Elsewhere, Chip, BufferPreserved, book_step, Decides}
use Rattle.proof_book.specs.FrontPage.{Decided, admitted, turned_away, AfterEach, LengthIs, LengthsEach}
use Rattle.proof_book.specs.FrontPage as page
use Rattle.proof_book.proofs.FrontPageLaws.{demand-3}
use Rattle.proof_book.proofs.SlotsKeptLaws.{lent_is}
use Rattle.proof_book.specs.Watched.{slot_at, most}
use Rattle.proof_stale.specs.Stale.{Gap, StoredIn, its_address, arms_now, under_way, gap_of, up_to, Fresh, NoneStale}
use Rattle.proof_stale.specs.Stale.{FreshSlot, NoneStaleEach, NothingStale}
use Rattle.proof_stale.specs.Counted.{CountedEach, Arms, Seen, seen, one_more, deciding, switching, addressing}
use Rattle.proof_stale.specs.Counted.{Anew, noted, since}
use Rattle.proof_stale.specs.StaleLaws.{armed_to, live, Clean, Gapped, of-receiving}
use Rattle.proof_stale.specs.StaleRunsLaws.{or_true, Stored, Claims, agreed, fresh_claims}
use Rattle.proof_stale.specs.StaleKeptLaws.{Timely, timely, start_timely, call_timely}
use Rattle.proof_stale.specs.StaleArmsLaws.{Arming, is_i, gives, start_arms, call_arms, go_counts}
use Rattle.proof_stale.specs.StaleEnablesLaws.{enabling-arms}
use Rattle.proof_stale.specs.StaleRowLaws.{Rowing, call_rows, row_counts}
use Rattle.proof_book.specs.AnswersLaws.{is_handed, handed-same}
use Rattle.proof_stale.specs.StaleGrowsLaws.{Growing, begin-grows, go-grows, start-grows}

-- ---- two books of one driver

module _ {φ ψ : Phase} {b : Buf} {d : Driver} {t u : Pages} (R : Coupling φ b d t) (R' : Coupling ψ b d u) where
  same-slot : (e : ℕ) → slot_at e u ≡ slot_at e t
  same-slot e = sym (R'.outs e).slot ∙ (R.outs e).slot

  same-most : (e : ℕ) → most e u ≡ most e t
  same-most e = ap (λ (p : EpCore). p.max_len) (sym (R'.same.plain Out e) ∙ R.same.plain Out e)

  same-globals : u.kept.globals ≡ t.kept.globals
  same-globals = sym R'.same.globals ∙ R.same.globals

  same-allocator : u.kept.allocator ≡ t.kept.allocator
  same-allocator = sym R'.same.allocator ∙ R.same.allocator

  same-receiving : (e : ℕ) → receiving u e ≡ receiving t e
  same-receiving e = ap (λ (g : Globals). bit_is_set (iso_outs g) (e % 16)) same-globals

  elsewhere : (k : ℕ) → Elsewhere u k → Elsewhere t k
  elsewhere k z = record {
    outs = λ e h. subst (λ (x : ℕ). (k < x) ⊎ (x + t.kept.allocator.size ≤ k)) (same-slot e)
        (subst (λ (a : Allocator). (k < slot_at e u) ⊎ (slot_at e u + a.size ≤ k)) same-allocator
        (z.outs e (ap (λ (a : Allocator). bit_is_set (allocated_ins a Out) (e % 16)) same-allocator ∙ h)));
    ep0 = λ h. subst (λ (g : Globals). (k < g.ep0_buf) ⊎ (g.ep0_buf + t.kept.allocator.size ≤ k)) same-globals
        (subst (λ (a : Allocator). (k < u.kept.globals.ep0_buf) ⊎ (u.kept.globals.ep0_buf + a.size ≤ k))
        same-allocator
        (z.ep0 (ap (λ (g : Globals). g.stage) same-globals ∙ h)));
  }

  chip-same : (b' : Buf) → Chip t b b' → Chip u b b'
  chip-same b' c = record { long = c.long; others = λ k z. c.others k (elsewhere k z) }

-- ---- gaps

abbrev pub Sub : List Gap → List Gap → Type 0
Sub g h = (x v : ℕ) → StoredIn g x v → StoredIn h x v

pub behind : (f g : List Gap) → Sub g (f ++ g)
behind [] g x v s = s
behind (z ∷ f) g x v s = inr (behind f g x v s)

abbrev pub is_start : Call Config Op → Bool
is_start (start c) = true
is_start (begin o) = false
is_start (continue v) = false
is_start (question q) = false

-- what changed in a gap is in it
pub in-gap : (c : Call Config Op) → is_start c ≡ false → (a b : Buf) → length b ≡ length a → (g : List Gap) (x : ℕ)
    → get_or b x 0 ≢ get_or a x 0
    → StoredIn (gap_of c a b ++ g) x (get_or b x 0)
in-gap c s a b l g x n = by c s
  where
    here : (u : Bool) → u ≡ true → StoredIn (cond u (record { left = a; lent = b } ∷ []) [] ++ g) x (get_or b x 0)
    here true p = inl (refl, λ q. n (sym q))
    here false p = absurd (true≢false (sym p))

    by : (c : Call Config Op) → is_start c ≡ false → StoredIn (gap_of c a b ++ g) x (get_or b x 0)
    by (start c) s = absurd (true≢false s)
    by (begin o) s = here (eqb (length b) (length a)) (eq-eqb (length b) (length a) l)
    by (continue v) s = here (eqb (length b) (length a)) (eq-eqb (length b) (length a) l)
    by (question q) s = here (eqb (length b) (length a)) (eq-eqb (length b) (length a) l)

-- the last of a list
pub last_same : (w : List Packet) (x y : Packet) → w ++ (x ∷ []) ≡ w ++ (y ∷ []) → x ≡ y
last_same [] x y h = ap (front x) h
  where
    front : Packet → List Packet → Packet
    front p [] = p
    front p (q ∷ qs) = q
last_same (z ∷ w) x y h = last_same w x y (ap rest h)
  where
    rest : List Packet → List Packet
    rest [] = []
    rest (q ∷ qs) = qs

-- a continue that is handed an access is lent a buffer of the right length
taken : (u : Bool) {X : Type 0} (m : Machine Answer Driver) (z : Ans Answer × Machine Answer Driver) (a : Ans Answer)
    (q : Access)
    → a ≡ (cond u (stay calls driver_of 1 m) z).0 → a ≡ handed q → page.when_not u X → X
taken true m z a q h g x = let w : ◌≡◌ {A = ℕ} 0 1 = cc in absurd (omega arith)
taken false m z a q h g x = x

module _ (e : ℕ) where
  receiving-live : {φ : Phase} {b : Buf} {d : Driver} {t : Pages} → Coupling φ b d t → receiving t e ≡ true → live e φ t
      ≡ true
  receiving-live {φ = quiet} R l = l
  receiving-live {φ = mid bus_reset_lem n} R l = l
  receiving-live {φ = mid (switch f on) n} {t = t} R l = by (eqb (e % 16) (f % 16))
    where
      by : (z : Bool) → cond z (iso_of t Out e) (receiving t e) ≡ true
      by true = sym (ap (λ (p : EpCore). is_on p.iso) (R.same.plain Out e)) ∙ of-receiving e [] R l
      by false = l

  blank-gives : (z : Ans Answer) → gives e z ≡ gives e (blank_a z)
  blank-gives (ended x) = refl
  blank-gives (told n) = refl
  blank-gives (handed (Read r f)) = refl
  blank-gives (handed (Write r f v)) = refl
  blank-gives (handed (Receive f x)) = refl
  blank-gives (handed (Transmit f x)) = refl
  blank-gives (handed (Ep0Dma x)) = refl
  blank-gives (handed (Wait n)) = refl
  blank-gives (handed Callback) = refl

  driver_i : Pending Answer Driver → Bool
  driver_i idle = false
  driver_i (busy i q k) = i

  book-i : {φ : Phase} {w : Pending Answer Driver} {v : Pending Answer Pages} → Ways driver_of book agree calls φ w v
      → page.in_interrupt v ≡ driver_i w
  unfolding driver_i
  book-i both_idle = refl
  book-i (both_busy i q f k) = refl

  seen-i : (h : List Gap) (n : ℕ) {φ : Phase} {w : Pending Answer Driver} {v : Pending Answer Seen}
      → Ways driver_of (seen e) (agreed e h n) calls φ w v → is_i e v ≡ driver_i w
  unfolding driver_i
  seen-i h n both_idle = refl
  seen-i h n (both_busy i q f k) = refl

  -- the two machines agree, for each history that has these gaps
  record At (h : List Gap) (n : ℕ) (m : Machine Answer Driver) (y : Machine Answer Seen) : Type 0 where
    phase : Phase
    ways : Ways driver_of (seen e) (agreed e h n) calls phase m.under_way_lem y.under_way_lem
    rest : Claims e h n phase m.buf m.st y.st

  abbrev Inv : Machine Answer Driver → Machine Answer Seen → List Gap → Type 0
  Inv m y g = (h : List Gap) (n : ℕ) → y.st.armings ≤ n → (y.st.armings ≡ n → Sub g h) → At h n m y

  -- ---- one call

  module _ (m : Machine Answer Driver) {φ : Phase} (n : Machine Answer Pages) (R : Coupling φ m.buf m.st n.st)
      (y : Machine Answer Seen)
      (g : List Gap) (i : Inv m y g) (c : Call Config Op) (b : Buf) (lent : BufferPreserved c n m.buf b) where
    abbrev a : Buf
    a = m.buf

    abbrev g₁ : List Gap
    g₁ = gap_of c a b ++ g

    abbrev x : Ans Answer × Machine Answer Driver
    x = drive c m b

    abbrev y' : Machine Answer Seen
    y' = (call calls (seen e).driver (fed (seen e) x.0) c y b).1

    module _ (h : List Gap) (k : ℕ) (r : At h k m y) (sub : y.st.armings ≡ k → Sub g₁ h) (no_start : is_start c
        ≡ false) where
      gapped : Chip n.st a b → y.st.armings ≡ k → Gapped e h y.st.pages a b
      gapped p q j l = elim (ℕ_discrete (get_or b (slot_at e y.st.pages + j) 0)
          (get_or a (slot_at e y.st.pages + j) 0)) [
            | yes z ↦ inl z
            | no z ↦ inr (sub q _ _ (in-gap c no_start a b p.long g (slot_at e y.st.pages + j) z))
          ]

      stored : Chip n.st a b → Stored e h k y.st a b
      stored p = record { chip = chip-same R r.rest.0 b p; gapped = gapped p }

    same_misfit : {ψ : Phase} → Coupling ψ a m.st y.st.pages → misfit calls driver_of m.st b
        ≡ misfit calls book.driver n.st b
    same_misfit z = ap (λ (k : ℕ). not (eqb (length b) k)) (agree.size φ a m.st n.st R)

    module _ (h : List Gap) (k : ℕ) (r : At h k m y) (sub : y.st.armings ≡ k → Sub g₁ h) where
      un_by : is_start c ≡ false → (v : Bool) → page.when_not v (Chip n.st a b)
          → unless driver_of (seen e) (agreed e h k) calls v (Stored e h k y.st a b)
      un_by s true p = tt
      un_by s false p = stored h k r sub s p

      un : (f : Bool → Bool) → page.when_not (f (misfit calls book.driver n.st b)) (Chip n.st a b) → is_start c
          ≡ false
          → unless driver_of (seen e) (agreed e h k) calls (f (misfit calls driver_of m.st b))
          (Stored e h k y.st a b)
      un f p s = un_by s (f (misfit calls driver_of m.st b))
          (subst (λ (v : Bool). page.when_not (f v) (Chip n.st a b)) (sym (same_misfit r.rest.0)) p)

      of : (c' : Call Config Op) → BufferPreserved c' n a b → (is_start c' ≡ false → is_start c ≡ false)
          → LentAlike driver_of (seen e) (agreed e h k) calls c' m y b
      of (start c) p s = tt
      of (begin o) p s = un (λ u. cond (calls.slots o) u false) p (s refl)
      of (continue v) p s = un (λ u. u) p (s refl)
      of (question q) p s = stored h k r sub (s refl) p

      alike : LentAlike driver_of (seen e) (agreed e h k) calls c m y b
      alike = of c lent (λ s. s)

      after : At h k x.1 y'
      after =
          let z = agrees driver_of (seen e) (agreed e h k) calls (fresh_claims e h k) c b m y r.ways r.rest
          alike in
          record { phase = z.phase; ways = z.ways; rest = z.rest }

    -- the counted book's answer is the driver's, but for an address
    answers : (h : List Gap) (k : ℕ) → At h k m y → (y.st.armings ≡ k → Sub g₁ h)
        → blank_a x.0 ≡ blank_a (call calls (seen e).driver (fed (seen e) x.0) c y b).0
    answers h k r sub = (agrees driver_of (seen e) (agreed e h k) calls (fresh_claims e h k) c b m y r.ways r.rest
        (alike h k r sub)).same

  -- ---- the history goes on

  abbrev Goes_on : Call Config Op → Buf → Buf → Machine Answer Seen → List Gap → Ans Answer × Machine Answer Driver
      → Machine Answer Seen → Type 0
  Goes_on c a b y g x y' = Inv x.1 y' (since y.st.armings y'.st.armings (gap_of c a b ++ g)) × Timely e y'
      × Growing e y'

  same_since : (k : ℕ) (h : List Gap) → since k k h ≡ h
  same_since k h = ap (λ (u : Bool). cond u h []) (eq-eqb k k refl)

  module _ (m : Machine Answer Driver) {φ : Phase} (n : Machine Answer Pages) (R : Coupling φ m.buf m.st n.st)
      (y : Machine Answer Seen)
      (g : List Gap) (i : Inv m y g) (t : Timely e y) (w : Growing e y) where
    -- any call but a start-up
    later : (c : Call Config Op) (b : Buf) → BufferPreserved c n m.buf b → let x = drive c m b in
        let y' = (call calls (seen e).driver (fed (seen e) x.0) c y b).1 in
        y.st.armings ≤ y'.st.armings → Growing e y' → Goes_on c m.buf b y g x y'
    later c b lent le grows =
        let x = drive c m b in
        let y' = (call calls (seen e).driver (fed (seen e) x.0) c y b).1 in
        let sub₁ : (h : List Gap) (k : ℕ) → y'.st.armings ≤ k
        → (y'.st.armings ≡ k → Sub (since y.st.armings y'.st.armings (gap_of c m.buf b ++ g)) h)
        → y.st.armings ≡ k → Sub (gap_of c m.buf b ++ g) h =
        λ h k up sub q. let z : y'.st.armings ≡ k = omega (arith, le, up, q) in
        subst (λ (f : List Gap). Sub f h) (ap (λ (j : ℕ). since y.st.armings j (gap_of c m.buf b ++ g))
        (z ∙ sym q)
        ∙ same_since y.st.armings (gap_of c m.buf b ++ g)) (sub z) in (
          λ h k up sub. after m n R y g i c b lent h k
              (i h k (omega (arith, le, up)) (λ q u v s. sub₁ h k up sub q u v (behind (gap_of c m.buf b) g u v s)))
              (sub₁ h k up sub),
          call_timely e x.0 c y b t,
          grows,
        )

    start_goes : (c : Config) (b : Buf) (r : ℕ) → start_row c b ≡ r → let x = started calls driver_of (λ s. s) c r m b in
        Goes_on (start c) m.buf b y g x (started calls (seen e).driver (fed (seen e) x.0) c r y b).1
    start_goes c b zero row = (
      λ h k up sub.
          let z = (from_start driver_of (seen e) (agreed e h k) calls (fresh_claims e h k) c b row [] m y tt).0 in
          record { phase = z.phase; ways = z.ways; rest = z.rest },
      start_timely e (started calls driver_of (λ s. s) c zero m b).0 c y b,
      start-grows e (started calls driver_of (λ s. s) c zero m b).0 c y b,
    )
    start_goes c b (suc r) row = (subst (λ (f : List Gap). Inv m y f) (sym (same_since y.st.armings g)) i, t, w)

    goes : (c : Call Config Op) (b : Buf) → BufferPreserved c n m.buf b → let x = drive c m b in
        Goes_on c m.buf b y g x (call calls (seen e).driver (fed (seen e) x.0) c y b).1
    goes (start c) b lent = start_goes c b (start_row c b) refl
    goes (begin o) b lent = let z = begin-grows e (drive (begin o) m b).0 o y b w in later (begin o) b lent z.0
        z.1
    goes (continue v) b lent = let z = go-grows e (drive (continue v) m b).0 v y b w in later (continue v) b lent
        z.0 z.1
    goes (question q) b lent = later (question q) b lent (omega arith) w

  -- ---- what it says

  module _ (xs : List ℕ) (a : Buf) {φ : Phase} (n : Machine Answer Pages) (R : Coupling φ a (view xs) n.st)
      (y : Machine Answer Seen)
      (g : List Gap) (i : Inv (machine_of xs a) y g) (t : Timely e y) (m : CallRecord) (did : CallStep xs a m)
      (lent : BufferPreserved m.event.call n a m.event.lent) where
    abbrev l : Buf
    l = m.event.lent

    abbrev g₂ : List Gap
    g₂ = up_to m a g

    abbrev now : At g₂ y.st.armings (machine_of xs a) y
    now = i g₂ y.st.armings (omega arith) (λ _. behind (gap_of m.event.call a l) g)

    chipped : Decides m.event.call n m.answer e → Chip n.st a l
    chipped d =
        let v = d.brought in
        let same : misfit calls driver_of (view xs) l ≡ misfit calls book.driver n.st l =
        ap (λ (k : ℕ). not (eqb (length l) k)) (agree.size φ a (view xs) n.st R) in
        let did' : m.answer ≡ (drive (continue v) (machine_of xs a) l).0 =
        subst (λ (c : Call Config Op). m.answer ≡ (drive c (machine_of xs a) l).0) d.continues
        (ap (λ (z : Ans Answer × Machine Answer Driver). z.0) did) in
        let lent' : BufferPreserved (continue v) n a l
        = subst (λ (c : Call Config Op). BufferPreserved c n a l) d.continues lent in
        taken (misfit calls driver_of (view xs) l) (machine_of xs a)
        (continued calls driver_of (λ s. s) v (machine_of xs a) (machine_of xs a).under_way_lem l)
        m.answer _ did' d.hands (subst (λ (u : Bool). page.when_not u (Chip n.st a l)) (sym same) lent')

    clean_now : Decides m.event.call n m.answer e → Clean e g₂ y.st.pages l
    clean_now d = ((agreed e g₂ y.st.armings).chip a l now.phase (view xs) y.st now.rest
        (stored (machine_of xs a) n R y g i m.event.call l lent g₂ y.st.armings now (λ _ u v s. s)
        (ap is_start d.continues) (chipped d))).1
        (timely e y t) refl (or_true y.st.armed (receiving-live now.rest.0 (same-receiving R now.rest.0 e
        ∙ d.enabled)))

    slot_is : slot_at e y.st.pages ≡ slot_at e n.st
    slot_is = same-slot R now.rest.0 e

    module _ (f : Known) (lengths : LengthIs m n f) where
      none_stale : ((d : Decides m.event.call n m.answer e)
          → Decided l (n.st.outs e) ((page.book_after m n).1.st.outs e)) → NoneStale e m n g₂
      none_stale decided d q h k lt = by (decided d)
        where
          short : length q.bytes ≤ most e n.st
          short = let z = lengths e d q h in omega (arith, z)

          by : Decided l (n.st.outs e) ((page.book_after m n).1.st.outs e)
              → Fresh g₂ e n.st k (get_or q.bytes k 0)
          by (turned_away full w o p r s) =
              absurd (omega (
                arith,
                ap (λ (x : List Packet). length x) (sym w ∙ h),
                length-append
                    (n.st.outs e).waiting (q ∷ []),
              ))
          by (admitted q' few is w o p r s) =
              let same : q' ≡ q = last_same (n.st.outs e).waiting q' q (sym w ∙ h) in
              let bytes : q.bytes ≡ bytes_at l (slot_at e n.st) (length q.bytes) =
              subst (λ (x : Packet). x.bytes ≡ bytes_at l (slot_at e n.st) (length x.bytes)) same is in
              let byte : get_or l (slot_at e n.st + k) 0 ≡ get_or q.bytes k 0 =
              sym (ap (λ (x : List ℕ). get_or x k 0) bytes
              ∙ (get_or-take (length q.bytes) (drop (slot_at e n.st) l) k 0 lt
              ∙ get_or-drop (slot_at e n.st) l k 0)) in
              let lk : k < armed_to (most e y.st.pages) = omega (arith, short, same-most R now.rest.0 e) in
              let z = subst (λ (x : ℕ). (get_or l (x + k) 0 ≡ mark_byte k) ⊎ StoredIn g₂ (x + k) (get_or l (x + k) 0))
              slot_is (clean_now d k lk) in
              subst (λ (v : ℕ). (v ≡ mark_byte k) ⊎ StoredIn g₂ (slot_at e n.st + k) v) byte z

    -- the call that decides arms
    same_answer : blank_a m.answer ≡ blank_a (call calls (seen e).driver (fed (seen e) m.answer) m.event.call y
        l).0
    same_answer = subst (λ (z : Ans Answer × Machine Answer Driver). blank_a z.0
        ≡ blank_a (call calls (seen e).driver (fed (seen e) z.0) m.event.call y l).0)
        (sym did) (answers (machine_of xs a) n R y g i m.event.call l lent g₂ y.st.armings now (λ _ u v s. s))

    since_more : (noted e m y).st.armings ≡ y.st.armings + 1 → since y.st.armings (noted e m y).st.armings g₂
        ≡ []
    since_more more = ap (λ (u : Bool). cond u g₂ []) (ne_eqb y.st.armings (noted e m y).st.armings
        (λ q. omega (arith, more, q)))

    -- a call that arms counts, and arms last
    module _ (r : Bool) (rowing : Rowing e r y) where
      abbrev Counted : Call Config Op → Type 0
      Counted c = let z = (call calls (seen e).driver (fed (seen e) m.answer) c y l).1 in
          (z.st.armings ≡ y.st.armings + 1) × (z.st.armed ≡ true)

      given : (x : ℕ) → m.answer ≡ handed (Receive e x)
          → gives e (call calls (seen e).driver (fed (seen e) m.answer) m.event.call y l).0 ≡ true
      given x hands = blank-gives (call calls (seen e).driver (fed (seen e) m.answer) m.event.call y l).0
          ∙ ap (gives e) (sym same_answer) ∙ ap (λ (z : Ans Answer). gives e (blank_a z)) hands ∙ eq-eqb (e % 16)
          (e % 16) refl

      same_iso : iso_of n.st Out e ≡ true → iso_of y.st.pages Out e ≡ true
      same_iso iso = ap (λ (p : EpCore). is_on p.iso) (sym (now.rest.0.same.plain Out e) ∙ R.same.plain Out e)
          ∙ iso

      one : (u : Bool) → u ≡ true → one_more u y.st.armings ≡ y.st.armings + 1
      one u h = ap (λ (v : Bool). one_more v y.st.armings) h

      counted : Ways driver_of book agree calls φ (machine_of xs a).under_way_lem n.under_way_lem → Arming e y → Arms e r m n
          → Counted
          m.event.call
      counted w arms (switching on q is iso hands) =
          subst (λ (c : Call Config Op). is_handed (call calls (seen e).driver (fed (seen e) m.answer) c y l).0 ≡
          true → Counted c) (sym is)
          (enabling-arms e m.answer y l on (same_iso iso))
          (handed-same (call calls (seen e).driver (fed (seen e) m.answer) m.event.call y l).0 m.answer
          (sym same_answer) ∙ ap is_handed hands)
      counted w arms (deciding d) =
          let inside : is_i e y.under_way_lem ≡ true = seen-i g₂ y.st.armings now.ways
          ∙ (sym (book-i w) ∙ d.interrupt) in
          let on : receiving y.st.pages e ≡ true = same-receiving R now.rest.0 e ∙ d.enabled in
          subst (λ (c : Call Config Op). gives e (call calls (seen e).driver (fed (seen e) m.answer) c y l).0 ≡
          true → Counted c)
          (sym d.continues) (λ h. let z = go_counts e m.answer d.brought y l arms inside h
          in (z.0 ∙ one _ on, z.1 on))
          (given d.address d.hands)
      counted w arms (addressing v x is under iso hands) =
          let on : iso_of y.st.pages Out e ≡ true = same_iso iso in
          subst (λ (c : Call Config Op). gives e (call calls (seen e).driver (fed (seen e) m.answer) c y l).0 ≡
          true → Counted c)
          (sym is) (λ h. let z = row_counts e m.answer v y l (rowing under) h in (z.0 ∙ one _ on, z.1 on))
          (given x hands)

      anew : Ways driver_of book agree calls φ (machine_of xs a).under_way_lem n.under_way_lem → Arming e y → Anew e r m n
          (since y.st.armings (noted e m y).st.armings g₂)
      anew w arms o = since_more (counted w arms o).0

      rows_on : Rowing e (under_way e n m.event.call m.answer r) (noted e m y)
      rows_on = call_rows e m.answer n r y l same_iso rowing m.event.call
          (handed-same m.answer (call calls (seen e).driver (fed (seen e) m.answer) m.event.call y l).0
          same_answer)

  -- after a call
  fresh_now : (xs : List ℕ) (a : Buf) {φ : Phase} (n : Machine Answer Pages) → Coupling φ a (view xs) n.st
      → (y : Machine Answer Seen) (g : List Gap)
      → Inv (machine_of xs a) y g → Timely e y → (y.st.armed ≡ true) ⊎ (receiving n.st e ≡ true) → FreshSlot e a
      n.st g
  fresh_now xs a n R y g i t on k word =
      let now = i g y.st.armings (omega arith) (λ _ u v s. s) in
      let lk : k < armed_to (most e y.st.pages) =
      ⊎_elim (λ l. omega (arith, l)) (λ l. omega (arith, l, same-most R now.rest.0 e)) word in
      subst (λ (x : ℕ). (get_or a (x + k) 0 ≡ mark_byte k) ⊎ StoredIn g (x + k) (get_or a (x + k) 0))
      (same-slot R now.rest.0 e)
      (now.rest.1 (timely e y t) refl (⊎_elim (λ h. ap (λ (u : Bool). u || live e now.phase y.st.pages) h)
      (λ h. or_true y.st.armed (receiving-live now.rest.0 (same-receiving R now.rest.0 e ∙ h))) on) k lk)

  -- ---- every list of calls

  each : (ms : List CallRecord) (r : Bool) (xs : List ℕ) (a : Buf) {φ : Phase} (n : Machine Answer Pages) (f : Known)
      (y : Machine Answer Seen) (g : List Gap)
      → Ways driver_of book agree calls φ (machine_of xs a).under_way_lem n.under_way_lem → Coupling φ a (view xs) n.st
      → Inv (machine_of xs a) y g → Timely e y → Growing e y → Arming e y → Rowing e r y
      → page.Calls xs a n ms → AfterEach n ms → LengthsEach n f ms → CountedEach e r a n y g ms
  each [] r xs a n f y g w R i t u o q p s z = tt
  each (m ∷ ms) r xs a n f y g w R i t u o q p s z =
      let c = m.event.call in
      let b = m.event.lent in
      let n' = (page.book_after m n).1 in
      let g' = since y.st.armings (noted e m y).st.armings (up_to m a g) in
      let k : After driver_of book agree calls (m.answer, machine_of m.bytes m.slots) (page.book_after m n)
      = subst (λ (x : Ans Answer × Machine Answer Driver). After driver_of book agree calls x (book_step x.0 c n b))
      (sym p.0)
      (agrees driver_of book agree calls fresh_kept c b (machine_of xs a) n w R
      (lent_is (machine_of xs a) n R b c p.1)) in
      let j : Goes_on c a b y g (m.answer, machine_of m.bytes m.slots) (noted e m y)
      = subst (λ (x : Ans Answer × Machine Answer Driver). Goes_on c a b y g x
      (call calls (seen e).driver (fed (seen e) x.0) c y b).1) (sym p.0)
      (goes (machine_of xs a) n R y g i t u c b p.1) in (
        none_stale xs a n R y g i t m p.0 p.1 (learnt c m.answer f) z.0 (λ d. s.0.sentences.decided e d),
        anew xs a n R y g i t m p.0 p.1 r q w o,
        λ on. fresh_now m.bytes m.slots n' k.rest (noted e m y) g' j.0 j.1 (inr on),
        λ arms. fresh_now m.bytes m.slots n' k.rest (noted e m y) g' j.0 j.1
            (inl (counted xs a n R y g i t m p.0 p.1 r q w o arms).1),
        each ms (under_way e n c m.answer r) m.bytes m.slots n' (learnt c m.answer f) (noted e m y) g'
            k.ways k.rest j.0 j.1 j.2
            (call_arms e m.answer c y b o) (rows_on xs a n R y g i t m p.0 p.1 r q) p.2 s.1 z.1,
      )

-- ---- by the calls and answers alone

and_left : (a b : Bool) → (a && b) ≡ true → a ≡ true
and_left true b h = refl
and_left false b h = absurd (true≢false (sym h))

or_split : (a b : Bool) → (a || b) ≡ true → (a ≡ true) ⊎ (b ≡ true)
or_split true b h = inl refl
or_split false b h = inr h

and_right : (a b : Bool) → (a && b) ≡ true → b ≡ true
and_right true b h = h
and_right false b h = absurd (true≢false (sym h))

wider : (f g h : List Gap) → Sub g h → Sub (f ++ g) (f ++ h)
wider [] g h s x v p = s x v p
wider (z ∷ f) g h s x v p = ⊎_elim (λ q. inl q) (λ q. inr (wider f g h s x v q)) p

module _ (e : ℕ) where
  its-address : (a : Ans Answer) → hands_out (λ q. its_address e q) a ≡ true → (x : ℕ) × (a ≡ handed (Receive e x))
  its-address (handed (Receive f x)) h = (x, ap (λ (k : ℕ). handed (Receive k x)) (eqb-true f e h))
  its-address (ended z) h = absurd (true≢false (sym h))
  its-address (told k) h = absurd (true≢false (sym h))
  its-address (handed (Read r f)) h = absurd (true≢false (sym h))
  its-address (handed (Write r f w)) h = absurd (true≢false (sym h))
  its-address (handed (Transmit f x)) h = absurd (true≢false (sym h))
  its-address (handed (Ep0Dma x)) h = absurd (true≢false (sym h))
  its-address (handed (Wait k)) h = absurd (true≢false (sym h))
  its-address (handed Callback) h = absurd (true≢false (sym h))

  -- a call that arms by its answer does
  module _ (m : CallRecord) (n : Machine Answer Pages) (r : Bool) where
    by-go : (v : ℕ) → m.event.call ≡ continue v → arms_now e n r (continue v) m.answer ≡ true → Arms e r m n
    by-go v p h =
        let its = hands_out (λ q. its_address e q) m.answer in
        ⊎_elim
        (λ i.
        let on = and_right (page.in_interrupt n.under_way_lem) (receiving n.st e && its) i in
        let x = its-address m.answer (and_right (receiving n.st e) its on) in
        deciding (record {
          brought = v;
          address = x.0;
          continues = p;
          interrupt = and_left (page.in_interrupt n.under_way_lem) (receiving n.st e && its) i;
          enabled = and_left (receiving n.st e) its on;
          hands = x.1;
        }))
        (λ i.
        let on = and_right r (iso_of n.st Out e && its) i in
        let x = its-address m.answer (and_right (iso_of n.st Out e) its on) in
        addressing v x.0 p (and_left r (iso_of n.st Out e && its) i) (and_left (iso_of n.st Out e) its on)
        x.1)
        (or_split (page.in_interrupt n.under_way_lem && (receiving n.st e && its)) (r && (iso_of n.st Out e && its))
        h)

    by-switch : (f : ℕ) (on : Bool) (a : Ans Answer) → m.event.call ≡ begin (slotted (SetEnabled Out f on))
        → m.answer ≡ a
        → arms_now e n r (begin (slotted (SetEnabled Out f on))) a ≡ true → Arms e r m n
    by-switch f on (handed x) p q h =
        let r = and_right (eqb f e) (iso_of n.st Out e && true) h in
        switching on x (p ∙ ap (λ (k : ℕ). begin (slotted (SetEnabled Out k on)))
        (eqb-true f e (and_left (eqb f e) (iso_of n.st Out e && true) h)))
        (and_left (iso_of n.st Out e) true r) q
    by-switch f on (ended z) p q h = absurd (true≢false
        (sym (and_right (iso_of n.st Out e) false (and_right (eqb f e) (iso_of n.st Out e && false) h))))
    by-switch f on (told k) p q h = absurd (true≢false
        (sym (and_right (iso_of n.st Out e) false (and_right (eqb f e) (iso_of n.st Out e && false) h))))

    by-begin : (o : Op) → m.event.call ≡ begin o → arms_now e n r (begin o) m.answer ≡ true → Arms e r m n
    by-begin interrupt p h = absurd (true≢false (sym h))
    by-begin (slotted (SetEnabled Out f on)) p h = by-switch f on m.answer p refl h
    by-begin (slotted (SetEnabled In f on)) p h = absurd (true≢false (sym h))
    by-begin (slotted (PollRead f k)) p h = absurd (true≢false (sym h))
    by-begin (slotted (BeginWrite f bytes)) p h = absurd (true≢false (sym h))
    by-begin (slotted (PollWrite f bytes)) p h = absurd (true≢false (sym h))
    by-begin (slotted (PollDataOut k)) p h = absurd (true≢false (sym h))
    by-begin (slotted (BeginDataIn bytes first last)) p h = absurd (true≢false (sym h))
    by-begin (other o) p h = absurd (true≢false (sym h))
    by-begin (aside o) p h = absurd (true≢false (sym h))

    arms_by_lem : (c : Call Config Op) → m.event.call ≡ c → arms_now e n r c m.answer ≡ true → Arms e r m n
    arms_by_lem (start c) p h = absurd (true≢false (sym h))
    arms_by_lem (begin o) p h = by-begin o p h
    arms_by_lem (continue v) p h = by-go v p h
    arms_by_lem (question q) p h = absurd (true≢false (sym h))

  fresh-wider : (g h : List Gap) → Sub g h → (t : Pages) (k v : ℕ) → Fresh g e t k v → Fresh h e t k v
  fresh-wider g h s t k v f = ⊎_elim (λ p. inl p) (λ p. inr (s ((t.outs e).slot + k) v p)) f

  since-sub : (j k : ℕ) (g : List Gap) → Sub (since j k g) g
  since-sub j k g = by (eqb j k)
    where
      by : (u : Bool) → Sub (cond u g []) g
      by true x v p = p
      by false x v p = absurd p

  anew-sub : (m : CallRecord) (n : Machine Answer Pages) (r : Bool) (g h : List Gap) (u : Bool) → arms_now e n r
      m.event.call m.answer ≡ u
      → Anew e r m n g → Sub g h → Sub g (cond u [] h)
  anew-sub m n r g h true p z s = subst (λ (f : List Gap). Sub f []) (sym (z (arms_by_lem m n r m.event.call refl p)))
      (λ x v q. q)
  anew-sub m n r g h false p z s = s

  plainly : (ms : List CallRecord) (r : Bool) (a : Buf) (n : Machine Answer Pages) (y : Machine Answer Seen)
      (g h : List Gap) → Sub g h
      → CountedEach e r a n y g ms → NoneStaleEach e r a n h ms
  plainly [] r a n y g h s c = tt
  plainly (m ∷ ms) r a n y g h s c =
      let f = gap_of m.event.call a m.event.lent in
      let n' = (page.book_after m n).1 in
      let g' = since y.st.armings (noted e m y).st.armings (f ++ g) in
      let h' = cond (arms_now e n r m.event.call m.answer) [] (f ++ h) in
      let w : Sub (f ++ g) (f ++ h) = wider f g h s in
      let z : Sub g' h' = anew-sub m n r g' (f ++ h) (arms_now e n r m.event.call m.answer) refl c.1
      (λ x v q. w x v (since-sub y.st.armings (noted e m y).st.armings (f ++ g) x v q)) in (
        λ d q p k l. fresh-wider (f ++ g) (f ++ h) w n.st k (get_or q.bytes k 0) (c.0 d q p k l),
        λ on k l. fresh-wider g' h' z n'.st k (get_or m.slots ((n'.st.outs e).slot + k) 0) (c.2 on k l),
        λ arms. let o = arms_by_lem m n r m.event.call refl arms in
            subst (λ (f : List Gap). FreshSlot e m.slots n'.st f) (c.1 o) (c.3 o),
        plainly ms (under_way e n m.event.call m.answer r) m.slots n' (noted e m y) g' h' z c.4,
      )

-- any bytes, a start-up that rows 1 and 2 do not stop, and then any calls of demand 3's premise
pub nothing-stale : NothingStale
nothing-stale c b row xs a n first is ms p e =
    let d = demand-3 c b row xs a n first is ms p in
    plainly e ms false first.slots (page.book_after first n).1 (noted e first y) [] [] (λ x v q. q)
    (each e ms false first.bytes first.slots (page.book_after first n).1
    (learnt first.event.call first.answer known) (noted e first y) []
    begun.ways begun.rest fresh.0 fresh.1 fresh.2 arming (λ h. absurd (true≢false (sym h))) p.2
    d.0.1 (d.1 known).1)
  where
    -- what the counted book was before does not matter
    y : Machine Answer Seen
    y = record { under_way_lem = idle; st = record { pages = n.st; armings = 0; early = false; armed = false }; buf = a }

    known : Known
    known = record { asked = Callback; readings = nothing_read }

    begun : After driver_of book agree calls (first.answer, machine_of first.bytes first.slots)
        (page.book_after first n)
    begun = subst (λ (x : Ans Answer × Machine Answer Driver). After driver_of book agree calls x
        (book_step x.0 first.event.call n first.event.lent))
        (sym p.0) (subst (λ (v : Event Config Op). let x = drive v.call (machine_of xs a) v.lent in
        After driver_of book agree calls x (book_step x.0 v.call n v.lent)) (sym is)
        (rw row (from_start driver_of book agree calls fresh_kept c b row [] (machine_of xs a) n tt).0))

    Fresh-start : Ans Answer × Machine Answer Driver → Machine Answer Seen → Type 0
    Fresh-start x y' = Inv e x.1 y' [] × Timely e y' × Growing e y'

    starts : (r : ℕ) → r ≡ zero → let x = started calls driver_of (λ s. s) c r (machine_of xs a) b in
        Fresh-start x (started calls (seen e).driver (fed (seen e) x.0) c r y b).1
    starts (suc r) h = let w : ◌≡◌ {A = ℕ} (suc r) 0 = h in absurd (omega (arith, w))
    starts zero h = (
      λ g k up sub.
          let z = (from_start driver_of (seen e) (agreed e g k) calls (fresh_claims e g k) c b row [] (machine_of xs a) y
          tt).0 in
          record { phase = z.phase; ways = z.ways; rest = z.rest },
      start_timely e (started calls driver_of (λ s. s) c zero (machine_of xs a) b).0 c y b,
      start-grows e (started calls driver_of (λ s. s) c zero (machine_of xs a) b).0 c y b,
    )

    arming : Arming e (noted e first y)
    arming = subst (λ (v : Event Config Op). Arming e (call calls (seen e).driver (fed (seen e) first.answer)
        v.call y v.lent).1) (sym is)
        (start_arms e first.answer c y b row)

    fresh : Fresh-start (first.answer, machine_of first.bytes first.slots) (noted e first y)
    fresh = subst (λ (x : Ans Answer × Machine Answer Driver). Fresh-start x
        (call calls (seen e).driver (fed (seen e) x.0) first.event.call y
        first.event.lent).1) (sym p.0)
        (subst (λ (v : Event Config Op). let x = drive v.call (machine_of xs a) v.lent in
        Fresh-start x (call calls (seen e).driver (fed (seen e) x.0) v.call y v.lent).1) (sym is)
        (starts (start_row c b) row))
