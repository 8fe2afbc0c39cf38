-- Which IN endpoints an interrupt loads, over every list of calls: what is left of an interrupt goes on with what it
-- was brought (`WayLoads`); each of its calls loads where it may, and the one that ends it has loaded where it had to
use Rattle.std.specs.Prelude.{Bool, true, false, cond, List, [], ◌∷◌, ◌≡◌, refl, ℕ, zero, suc, ◌%◌, ◌<◌}
use Rattle.std.proofs.Common.{true≢false, ap, subst, sym, ◌∙◌}
use Rattle.regs.specs.declared.Access.{Access}
use Rattle.regs.specs.declared.Dir.{Dir}
use Rattle.regs.specs.declared.Dir.TheVariants.{Out, In}
use Rattle.state.specs.State.{view}
use Rattle.state.specs.Driver.{Driver}
use Rattle.script_ops.specs.Records.{plain_of}
use Rattle.script.specs.Tree as tree
use Rattle.script.specs.Tree.{ends, asks}
use Rattle.script.specs.Cells.{EpCore}
use Rattle.script.specs.Script.{run}
use Rattle.script.specs.Simulates.{Phase}
use Rattle.script.specs.Statics.{is_on}
use Rattle.script.specs.Answers.{Answer, Refused, End, NotYet, Done, Shown}
use Rattle.script.specs.Calls.{Config, Op, interrupt, slotted, other, aside, Aside, aside_code}
use Rattle.script.specs.Calls.{interrupt_code, calls, code, starting, start_row}
use Rattle.script.specs.Machine.{Buf, Event, Call, start, begin, continue, question, Ans, ended, handed, told}
use Rattle.script.specs.Machine.{blank_a, Awaits}
use Rattle.script.specs.Machine.{Pending, idle, busy, Machine, over, misfit, stay, lent_to, during_interrupt, halt, begun}
use Rattle.script.specs.Machine.{continued}
use Rattle.script.specs.Machine.{started, fed}
use Rattle.script.specs.Agree.{After, Ways, agrees, from_start}
use Rattle.machine.specs.Suspended.{driver_of, drive, machine_of}
use Rattle.proof_book.specs.Pages.{Kept, Pages}
use Rattle.proof_book.specs.Book.{Bk, iso_of, fresh_pages, book_ops, book}
use Rattle.proof_book.specs.Coupling.{Coupling}
use Rattle.proof_book.specs.CellsLaws.{ep_on-by}
use Rattle.proof_book.proofs.StartUpLaws.{fresh_kept}
use Rattle.proof_book.proofs.AgreesLaws.{agree}
use Rattle.proof_book.proofs.SlotsKeptLaws.{lent_is}
use Rattle.proof_book.specs.FrontPage.{CallRecord, book_step, in_interrupt, LoadsEach}
use Rattle.proof_book.specs.FrontPage as page
use Rattle.proof_book.specs.Loads.{Heard, hears, handing, unheard, hearing, Values, values_of, last_in}
use Rattle.proof_book.specs.Loads.{loads_in}
use Rattle.proof_book.specs.Loads.{Loads, none}
use Rattle.proof_book.specs.Loads as loads
use Rattle.proof_book.specs.LoadScriptsLaws.{At, at-kept, Told, t_end, t_ask}
use Rattle.proof_book.proofs.LoadInterruptLaws.{interrupt_told, Finished}
use Rattle.proof_book.proofs.ArrivalCallsLaws.{KeptAt, aside-kept}
use Rattle.proof_book.specs.AnswersLaws.{tells-same, fed-kept}

abbrev is_handed : Ans Answer → Bool
is_handed (ended z) = false
is_handed (handed q) = true
is_handed (told k) = false

abbrev end_of : Ans Answer → Answer
end_of (ended z) = z
end_of (handed q) = NotYet
end_of (told n) = NotYet

abbrev is_refused : Answer → Bool
is_refused (Refused n) = true
is_refused (End n ws) = false
is_refused NotYet = false
is_refused (Done bytes) = false
is_refused (Shown bytes stamp) = false

-- numbers count modulo 16
pub record Periodic (t : Pages) : Type 0 where
  pub outs : (e f : ℕ) → e % 16 ≡ f % 16 → iso_of t Out e ≡ iso_of t Out f
  pub ins : (e f : ℕ) → e % 16 ≡ f % 16 → t.kept.plain In e ≡ t.kept.plain In f

module _ (E : ℕ) (small : E < 16) where
  -- what is left of an interrupt
  pub record Serving (f : Heard) (k : ℕ → Bk → tree.Out Bk Answer) (t : Pages) : Type 0 where
    pub values : Values
    pub even : (e f : ℕ) → e % 16 ≡ f % 16 → values.outs e ≡ values.outs f
    pub last : ℕ
    pub sof : ℕ
    pub at : At E values last sof t
    pub goes : (v : ℕ) (u : Bk) → At E values last sof u.0
        → Told E values (Finished E small values even) (hears v f) last (k v u)

  abbrev pub WayLoads : Heard → Pending Answer Pages → Pages → Type 0
  WayLoads f idle t = Unit {0}
  WayLoads f (busy false a k) t = Unit {0}
  WayLoads f (busy true a k) t = Serving f k t

  serving_on : {f : Heard} {k : ℕ → Bk → tree.Out Bk Answer} {t u : Pages} → u.kept ≡ t.kept → Serving f k t
      → Serving f k u
  serving_on h s = record {
    values = s.values;
    even = s.even;
    last = s.last;
    sof = s.sof;
    at = at-kept h s.at;
    goes = s.goes;
  }

  -- the values of a book
  at_own_lem : (t : Pages) → Periodic t → At E (values_of t E) (last_in t E) t.kept.globals.sof_frame t
  at_own_lem t p = record {
    outs = λ e. refl;
    iso = λ x c. ap (λ (r : EpCore). is_on r.iso) (p.ins x E c);
    last = λ x c. ap (λ (r : EpCore). r.last_frame) (p.ins x E c);
    paced = refl;
    every = refl;
    sof = refl;
  }

  -- ---- one call; x: the driver's answer, of which the book is told

  module _ (x : Ans Answer) where
    abbrev halts : Bool → tree.Out Bk Answer → Ans Answer × Machine Answer Pages
    halts i o = halt calls book.driver (fed book x) i o

    plainly : (f : Heard) (o : tree.Out Bk Answer) → let y = halts false o in WayLoads f y.1.under_way_lem y.1.st
    plainly f (ends z t) = tt
    plainly f (asks q t k) = tt

    halted : (c : Ans Answer → Heard) (h : Heard) → ((q : Access) → c (handed q) ≡ handing q h)
        → {J : Values} (even : (e f : ℕ) → e % 16 ≡ f % 16 → J.outs e ≡ J.outs f) {L : ℕ} (o : tree.Out Bk Answer)
        → Told E J (Finished E small J even) h L o → let y
        = halts true o in WayLoads (c y.0) y.1.under_way_lem y.1.st
    halted c h e even (ends z u) w = tt
    halted c h e {J} even (asks q u k) (t_ask {M = M} {S = S} b m l a g) = subst
        (λ (f : Heard). Serving f k (fed book x u.0)) (sym (e q))
        (serving_on (fed-kept x u.0) (record { values = J; even = even; last = M; sof = S; at = a; goes = g }))

    module _ (f : Heard) (t : Pages) (p : Periodic t) (c b : Buf) where
      begin_idle : (o : Op) → let y = halts (calls.irq o) (run book_ops (code o) (t, b)) in WayLoads
          (hearing (begin o) y.0 t f) y.1.under_way_lem y.1.st
      begin_idle interrupt = halted (λ a. hearing (begin interrupt) a t f) (unheard t) (λ q. refl) p.outs
          (run book_ops interrupt_code (t, b))
          (interrupt_told E small (values_of t E) p.outs (t, b) (unheard t) (last_in t E)
          t.kept.globals.sof_frame (at_own_lem t p) refl)
      begin_idle (slotted o) = let z = run book_ops (code (slotted o)) (t, b) in plainly
          (hearing (begin (slotted o)) (halts false z).0 t f) z
      begin_idle (other o) = let z = run book_ops (code (other o)) (t, b) in plainly
          (hearing (begin (other o)) (halts false z).0 t f) z
      begin_idle (aside o) = let z = run book_ops (code (aside o)) (t, b) in plainly
          (hearing (begin (aside o)) (halts false z).0 t f) z

      module _ (a : Awaits) (k : ℕ → Bk → tree.Out Bk Answer) (s : Serving f k t) where
        abbrev n : Machine Answer Pages
        n = record { under_way_lem = busy true a k; st = t; buf = c }

        passing : (o : Aside) (z : tree.Out Bk Answer) → KeptAt t.kept z
            → let y = during_interrupt calls book.driver (lent_to calls book.driver n b) z in WayLoads
            (hearing (begin (aside o)) y.0 t f) y.1.under_way_lem y.1.st
        passing o (ends z u) h = serving_on h s
        passing o (asks q u g) h = s

        begin_busy : (o : Op) → let y = begun calls book.driver (fed book x) o n (busy true a k) b in WayLoads
            (hearing (begin o) y.0 t f)
            y.1.under_way_lem y.1.st
        begin_busy interrupt = s
        begin_busy (slotted o) = s
        begin_busy (other o) = s
        begin_busy (aside o) = passing o (run book_ops (aside_code o) (t, b)) (aside-kept o t b)

        go_busy : (v : ℕ) (u : Bool) → let y = cond u (stay calls book.driver 16
            (lent_to calls book.driver n b)) (halts true (k v (t, b))) in
            WayLoads (hearing (continue v) y.0 t f) y.1.under_way_lem y.1.st
        go_busy v true = s
        go_busy v false = halted (λ a. hearing (continue v) a t f) (hears v f) (λ q. refl) s.even (k v (t, b))
            (s.goes v (t, b) s.at)

    abbrev Stays : Call Config Op → Heard → Pages → Ans Answer × Machine Answer Pages → Type 0
    Stays c f t y = WayLoads (hearing c y.0 t f) y.1.under_way_lem y.1.st

    either : (c : Call Config Op) (f : Heard) (t : Pages) (u : Bool) (y z : Ans Answer × Machine Answer Pages)
        → Stays c f t y → Stays c f t z
        → Stays c f t (cond u y z)
    either c f t true y z p q = p
    either c f t false y z p q = q

    begun_loads : (f : Heard) (o : Op) (w : Pending Answer Pages) (t : Pages) (c b : Buf) → Periodic t → WayLoads f w t
        → Stays (begin o) f t (begun calls book.driver (fed book x) o (record { under_way_lem = w; st = t; buf = c }) w
        b)
    begun_loads f o idle t c b r h = begin_idle f t r c b o
    begun_loads f o (busy true a k) t c b r h = begin_busy f t r c b a k h o
    begun_loads f o (busy false a k) t c b r h = tt

    continued_loads : (f : Heard) (v : ℕ) (w : Pending Answer Pages) (t : Pages) (c b : Buf) → Periodic t
        → WayLoads f w t
        → Stays (continue v) f t (continued calls book.driver (fed book x) v
        (record { under_way_lem = w; st = t; buf = c }) w b)
    continued_loads f v idle t c b r h = tt
    continued_loads f v (busy true a k) t c b r h = go_busy f t r c b a k h v (over calls a v)
    continued_loads f v (busy false a k) t c b r h =
        either (continue v) f t (over calls a v) (stay calls book.driver 16
        (lent_to calls book.driver (record { under_way_lem = busy false a k; st = t; buf = c }) b))
        (halts false (k v (t, b))) tt (plainly (hearing (continue v) (halts false (k v (t, b))).0 t f) (k v (t, b)))

    started_loads : (f : Heard) (g : Config) (r : ℕ) (n : Machine Answer Pages) (b : Buf)
        → WayLoads f n.under_way_lem n.st
        → Stays (start g) f n.st (started calls book.driver (fed book x) g r n b)
    started_loads f g zero n b h = let z = run book_ops (starting g) (fresh_pages g, b) in plainly
        (hearing (start g) (halts false z).0 n.st f) z
    started_loads f g (suc r) n b h = h

    call_loads : (c : Call Config Op) (f : Heard) (n : Machine Answer Pages) (b : Buf) → Periodic n.st
        → WayLoads f n.under_way_lem n.st
        → Stays c f n.st (book_step x c n b)
    call_loads (start g) f n b r h = started_loads f g (start_row g b) n b h
    call_loads (begin o) f n b r h = either (begin o) f n.st
        (cond (calls.slots o) (misfit calls book.driver n.st b) false)
        (stay calls book.driver 1 n) (begun calls book.driver (fed book x) o n n.under_way_lem b) h
        (begun_loads f o n.under_way_lem n.st n.buf b r h)
    call_loads (continue v) f n b r h = either (continue v) f n.st (misfit calls book.driver n.st b)
        (stay calls book.driver 1 n)
        (continued calls book.driver (fed book x) v n n.under_way_lem b) h
        (continued_loads f v n.under_way_lem n.st n.buf b r h)
    call_loads (question q) f n b r h = h

  -- after an accepted start-up no interrupt is under way
  pub start_loads : (x : Ans Answer) (g : Config) (f : Heard) (n : Machine Answer Pages) (b : Buf) → start_row g b ≡ zero
      → let y = book_step x (start g) n b in WayLoads f y.1.under_way_lem y.1.st
  start_loads x g f n b row = subst (λ (r : ℕ). let y = started calls book.driver
      (fed book x) g r n b in WayLoads f y.1.under_way_lem y.1.st) (sym row)
      (plainly x f (run book_ops (starting g) (fresh_pages g, b)))

  -- an answer but for its address tells the same
  hearing_same : (c : Call Config Op) (f : Heard) (t : Pages) (a b : Ans Answer) → blank_a a ≡ blank_a b
      → hearing c a t f ≡ hearing c b t f
  hearing_same (start c) f t = tells-same (λ z. hearing (start c) z t f) (λ _ _. refl, λ _ _. refl, λ _. refl)
  hearing_same (begin o) f t = tells-same (λ z. hearing (begin o) z t f) (λ _ _. refl, λ _ _. refl, λ _. refl)
  hearing_same (continue v) f t = tells-same (λ z. hearing (continue v) z t f) (λ _ _. refl, λ _ _. refl, λ _. refl)
  hearing_same (question q) f t = λ _ _ _. refl

  pub loads_on : (x : Ans Answer) (c : Call Config Op) (f : Heard) (n : Machine Answer Pages) (b : Buf)
      → blank_a x ≡ blank_a (book_step x c n b).0
      → Periodic n.st → WayLoads f n.under_way_lem n.st → let y
      = book_step x c n b in WayLoads (hearing c x n.st f)
      y.1.under_way_lem y.1.st
  loads_on x c f n b same r h =
      let y = book_step x c n b in
      subst (λ (g : Heard). WayLoads g y.1.under_way_lem y.1.st) (hearing_same c f n.st y.0 x (sym same))
      (call_loads x c f n b r h)

  -- ---- the call itself

  module _ (x : Ans Answer) (v : ℕ) (n : Machine Answer Pages) (b : Buf) (f : Heard) (p : Periodic n.st) where
    abbrev J : Values
    J = values_of n.st E

    -- what the book answers, and its state then
    abbrev Does : Ans Answer × Machine Answer Pages → Type 0
    Does y = Loads (hears v f) J E (last_in n.st E) (last_in y.1.st E) (loads_in f.known.asked y.0 E)
        × ((r : ℕ) (ws : List ℕ) → y.0 ≡ ended (End r ws)
        → loads.SentAll (hears v f) J E (last_in y.1.st E) y.1.st.kept.globals.sof_frame)

    stays : (r : ℕ) (m : Machine Answer Pages) → m.st ≡ n.st → Does (ended (Refused r), m)
    stays r m h = (
      none (ap (λ (t : Pages). last_in t E) h),
      λ i ws k. absurd
          (true≢false (ap (λ (z : Ans Answer). is_refused (end_of z)) k)),
    )

    module _ {J' : Values} (even : (e f : ℕ) → e % 16 ≡ f % 16
        → J'.outs e ≡ J'.outs f) {L S : ℕ} (a₀ : At E J' L S n.st) where
      same_values : J' ≡ J
      same_values = λ i. record {
        outs = λ e. sym (a₀.outs e) i;
        iso = sym (a₀.iso E refl) i;
        paced = sym a₀.paced i;
        every = sym a₀.every i;
      }

      does : (o : tree.Out Bk Answer) → Told E J' (Finished E small J' even) (hears v f) L o
          → Does (halt calls book.driver (fed book x) true o)
      does (ends z t) (t_end {S = S'} a p) = (
        none (a.last E refl ∙ sym (a₀.last E refl)),
        λ r ws k. subst (λ (j : Values). loads.SentAll (hears v f) j E (last_in t.0 E)
            t.0.kept.globals.sof_frame) same_values
            (subst (λ (w : ℕ). loads.SentAll (hears v f) J' E (last_in t.0 E) w) (sym a.sof)
            (subst (λ (l : ℕ). loads.SentAll (hears v f) J' E l S') (sym (a.last E refl)) (p r ws (ap end_of k)))),
      )
      does (asks q t g) (t_ask {M = M} b m l a h) = (
        subst (λ (c : Bool). Loads (hears v f) J E (last_in n.st E) (last_in (fed book x t.0) E) c) (sym m)
            (subst (λ (j : Values). Loads (hears v f) j E (last_in n.st E)
            (last_in (fed book x t.0) E) b) same_values
            (subst (λ (w : ℕ). Loads (hears v f) J' E (last_in n.st E) w b)
            (sym (ap (λ (k : Kept). (k.plain In E).last_frame) (fed-kept x t.0) ∙ a.last E refl))
            (subst (λ (w : ℕ). Loads (hears v f) J' E w M b) (sym (a₀.last E refl)) l))),
        λ r ws k. absurd (true≢false (ap is_handed k)),
      )

    way_does : (w : Pending Answer Pages) → WayLoads f w n.st → in_interrupt w ≡ true
        → Does (continued calls book.driver (fed book x) v n w b)
    way_does idle s i = absurd (true≢false (sym i))
    way_does (busy false q r) s i = absurd (true≢false (sym i))
    way_does (busy true q r) s i = by (over calls q v)
      where
        by : (u : Bool) → Does (cond u (stay calls book.driver 16 (lent_to calls book.driver n b))
            (halt calls book.driver (fed book x) true
            (r v (n.st, b))))
        by true = stays 16 (lent_to calls book.driver n b) refl
        by false = does s.even s.at (r v (n.st, b)) (s.goes v (n.st, b) s.at)

    call_does : WayLoads f n.under_way_lem n.st → in_interrupt n.under_way_lem ≡ true
        → Does (book_step x (continue v) n b)
    call_does s i = by (misfit calls book.driver n.st b)
      where
        by : (u : Bool) → Does (cond u (stay calls book.driver 1 n)
            (continued calls book.driver (fed book x) v n n.under_way_lem b))
        by true = stays 1 n refl
        by false = way_does n.under_way_lem s i

-- ---- of driver and book that agree

module _ {φ : Phase} {b : Buf} {d : Driver} {t : Pages} (R : Coupling φ b d t) where
  even-plain : (dir : Dir) (e f : ℕ) → e % 16 ≡ f % 16 → t.kept.plain dir e ≡ t.kept.plain dir f
  even-plain dir e f h = sym (R.same.plain dir e) ∙ ap plain_of (ep_on-by d dir e f h) ∙ R.same.plain dir f

  pub is-periodic : Periodic t
  is-periodic = record {
    outs = λ e f h. ap (λ (p : EpCore). is_on p.iso) (even-plain Out e f h);
    ins = even-plain In;
  }

ended-as : (y : Ans Answer) (z : Answer) → blank_a y ≡ ended z → y ≡ ended z
ended-as (ended x) z h = h
ended-as (handed q) z h = absurd (true≢false (ap is_handed h))
ended-as (told k) z h = h

-- ---- every list of calls

one : (m : CallRecord) (n : Machine Answer Pages) (f : Heard) → Periodic n.st
    → ((e : ℕ) (h : e < 16) → WayLoads e h f n.under_way_lem n.st)
    → blank_a m.answer ≡ blank_a (page.book_after m n).0 → page.LoadIs m n f × page.NoneUnsent m n f
one m n f p s same = (
  λ e v low is i.
      let z = does e v low is i in
      subst (λ (b : Bool). Loads (hears v f) (values_of n.st e) e (last_in n.st e)
      (last_in (page.book_after m n).1.st e) b)
      (tells-same (λ a. loads_in f.known.asked a e) (λ _ _. refl, λ _ _. refl, λ _. refl) (page.book_after m n).0
      m.answer (sym same)) z.0,
  λ e v r ws low is i h. (does e v low is i).1 r ws (ended-as (page.book_after m n).0 (End r ws)
      (sym same ∙ ap blank_a h)),
)
  where
    does : (e v : ℕ) (low : e < 16) → m.event.call ≡ continue v → in_interrupt n.under_way_lem ≡ true
        → Does e low m.answer v n m.event.lent f p (page.book_after m n)
    does e v low is i = subst (λ (c : Call Config Op). Does e low m.answer v n m.event.lent f p
        (book_step m.answer c n m.event.lent))
        (sym is) (call_does e low m.answer v n m.event.lent f p (s e low) i)

each : (ms : List CallRecord) (xs : List ℕ) (a : Buf) {φ : Phase} (n : Machine Answer Pages) (f : Heard)
    → Ways driver_of book agree calls φ (machine_of xs a).under_way_lem n.under_way_lem → Coupling φ a (view xs) n.st
    → ((e : ℕ) (h : e < 16) → WayLoads e h f n.under_way_lem n.st) → page.Calls xs a n ms → LoadsEach n f ms
each [] xs a n f w R t p = tt
each (m ∷ ms) xs a n f w R t p =
    let c = m.event.call in
    let b = m.event.lent in
    let k : After driver_of book agree calls (m.answer, machine_of m.bytes m.slots) (page.book_after m n)
    = subst (λ (x : Ans Answer × Machine Answer Driver). After driver_of book agree calls x (book_step x.0 c n b))
    (sym p.0)
    (agrees driver_of book agree calls fresh_kept c b (machine_of xs a) n w R
    (lent_is (machine_of xs a) n R b c p.1)) in
    let z = one m n f (is-periodic R) t k.same in (
      z.0,
      z.1,
      each ms m.bytes m.slots (page.book_after m n).1 (hearing c m.answer n.st f) k.ways k.rest
          (λ e h. loads_on e h m.answer c f n b k.same (is-periodic R) (t e h)) p.2,
    )

-- any bytes, a start-up that rows 1 and 2 do not stop, and then any calls of demand 3's premise
pub loads-each : (c : Config) (b : Buf) → start_row c b ≡ zero
    → (xs : List ℕ) (a : Buf) (n : Machine Answer Pages) (first : CallRecord)
    → first.event ≡ record { call = start c; lent = b } → (ms : List CallRecord) → page.Calls xs a n (first ∷ ms)
    → (f : Heard) → LoadsEach (page.book_after first n).1 (hearing first.event.call first.answer n.st f) ms
loads-each c b row xs a n first is ms p f =
    each ms first.bytes first.slots (page.book_after first n).1 g begun-as.ways begun-as.rest told_of p.2
  where
    begun-as : After driver_of book agree calls (first.answer, machine_of first.bytes first.slots)
        (page.book_after first n)
    begun-as = subst (λ (x : Ans Answer × Machine Answer Driver). After driver_of book agree calls x
        (book_step x.0 first.event.call n first.event.lent))
        (sym p.0) (subst (λ (v : Event Config Op). let x = drive v.call (machine_of xs a) v.lent in
        After driver_of book agree calls x (book_step x.0 v.call n v.lent)) (sym is)
        (rw row (from_start driver_of book agree calls fresh_kept c b row [] (machine_of xs a) n tt).0))

    g : Heard
    g = hearing first.event.call first.answer n.st f

    told_of : (e : ℕ) (h : e < 16) → WayLoads e h g (page.book_after first n).1.under_way_lem
        (page.book_after first n).1.st
    told_of e h = subst (λ (v : Event Config Op). let y = book_step first.answer v.call n
        v.lent in WayLoads e h g y.1.under_way_lem y.1.st) (sym is)
        (start_loads e h first.answer c g n b row)
