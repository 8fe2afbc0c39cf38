-- What an arrival is, over every list of calls: what is left of an interrupt goes on with what it was brought and lent
-- (`WayTold`); the call that decides an arrival found one, and the call that ends an interrupt which checks has looked
-- at all
use Rattle.std.specs.Prelude.{Bool, true, false, not, cond, ◌||◌, List, ◌≡◌, refl, ℕ, zero, suc, ◌+◌, ◌*◌, ◌%◌, ◌<◌, eqb, ltb, length}
use Rattle.std.proofs.Common.{true≢false, ap, subst, sym, ◌∙◌, arith}
use Rattle.regs.specs.declared.Access.{Access}
use Rattle.regs.specs.declared.Access.TheVariants.{Receive, Callback}
use Rattle.regs.specs.declared.Dir.TheVariants.{Out, In}
use Rattle.regs.specs.Enables as enables
use Rattle.bits.specs.Bit.{bit_is_set}
use Rattle.bits.specs.WalkLaws as walk
use Rattle.state.specs.declared.Globals.{Globals}
use Rattle.state.specs.Driver.{Driver}
use Rattle.ring.specs.Copies.{copied}
use Rattle.script.specs.Tree as tree
use Rattle.script.specs.Tree.{ends, asks}
use Rattle.script.specs.Cells.{EpCore}
use Rattle.script.specs.Script.{run}
use Rattle.script.specs.Simulates.{Phase}
use Rattle.script.specs.Statics.{is_on, iso_outs}
use Rattle.script.specs.Answers.{Answer, Refused, End, NotYet, Done, Shown, is_allocated}
use Rattle.script.specs.Calls.{Config, Op, interrupt, slotted, other, aside, Aside, Open, Close, Queue, aside_code}
use Rattle.script.specs.Calls.{interrupt_code, calls, code, starting, start_row}
use Rattle.script.specs.Machine.{Buf, Call, start, begin, continue, question, Ans, ended, handed, told, blank_a, Awaits}
use Rattle.script.specs.Machine.{Pending, idle, busy, Machine, over, misfit, stay, lent_to, during_interrupt, halt, begun}
use Rattle.script.specs.Machine.{continued}
use Rattle.script.specs.Machine.{started, fed}
use Rattle.proof_book.specs.Pages.{Kept, Pages, with_out, with_in}
use Rattle.proof_book.specs.Book.{Bk, iso_of, receiving, some, waits_on, room_b, open_out, read_out, queued_in}
use Rattle.proof_book.specs.Book.{fresh_pages, book_ops, book}
use Rattle.proof_book.specs.Coupling.{Coupling}
use Rattle.proof_book.specs.HeldLaws.{receives-iso}
use Rattle.proof_book.specs.FrontPage.{book_step, in_interrupt, Decides}
use Rattle.proof_book.specs.Arrivals.{Note, brings, checks, due, looks, asking, unread, after, Arrival}
use Rattle.proof_book.proofs.LengthCallsLaws.{regular}
use Rattle.proof_book.specs.ArrivalScriptsLaws.{Fixed, Even, Told, t_end, t_ask, seen_same}
use Rattle.proof_book.proofs.ArrivalInterruptLaws.{interrupt_told, LookedAt}
use Rattle.proof_book.proofs.BookCallsLaws.{same-receive}
use Rattle.proof_book.specs.AnswersLaws.{tells-same, fed-kept}

-- of the kept values
pub record Regular (t : Pages) : Type 0 where
  pub even : Even (λ e. iso_of t Out e)
  pub inside : (e : ℕ) → bit_is_set (iso_outs t.kept.globals) (e % 16) ≡ true → iso_of t Out e ≡ true

-- what is left of an interrupt
pub record Serving (f : Note) (k : ℕ → Bk → tree.Out Bk Answer) (t : Pages) : Type 0 where
  pub isos : ℕ → Bool
  pub set : ℕ
  pub fixed : Fixed isos set t
  pub goes : (v : ℕ) (u : Bk) → Fixed isos set u.0 → Told isos set (LookedAt set) (brings v f) u (k v u)

abbrev pub WayTold : Note → Pending Answer Pages → Pages → Type 0
WayTold f idle t = Unit {0}
WayTold f (busy false a k) t = Unit {0}
WayTold f (busy true a k) t = Serving f k t

-- the kept values stay
serving_on : {f : Note} {k : ℕ → Bk → tree.Out Bk Answer} {t u : Pages} → u.kept ≡ t.kept → Serving f k t
    → Serving f k u
serving_on h s = record {
  isos = s.isos;
  set = s.set;
  fixed = record {
    iso = λ e. ap (λ (k : Kept). is_on (k.plain Out e).iso) h ∙ s.fixed.iso e;
    sets = ap (λ (k : Kept). iso_outs k.globals) h ∙ s.fixed.sets;
  };
  goes = s.goes;
}

-- ---- open, close and queue leave the kept values

abbrev pub KeptAt : Kept → tree.Out Bk Answer → Type 0
KeptAt k (ends a s) = s.0.kept ≡ k
KeptAt k (asks q s f) = Unit {0}

kept_test : (k : Kept) (u : Bool) (x y : tree.Out Bk Answer) → KeptAt k x → KeptAt k y → KeptAt k (cond u x y)
kept_test k true x y p q = p
kept_test k false x y p q = q

either-kept : (t : Pages) (u : Bool) (x : Pages) → x.kept ≡ t.kept → (cond u x t).kept ≡ t.kept
either-kept t true x h = h
either-kept t false x h = refl

queued-kept : (t : Pages) (b : Buf) (u : Bool) (x : Bk) → x.0.kept ≡ t.kept → (cond {A = Bk} u x (t, b)).0.kept
    ≡ t.kept
queued-kept t b true x h = h
queued-kept t b false x h = refl

pub aside-kept : (o : Aside) (t : Pages) (b : Buf) → KeptAt t.kept (run book_ops (aside_code o) (t, b))
aside-kept (Open e) t b =
    kept_test t.kept (eqb t.kept.globals.stage 2) _ _
    (kept_test t.kept (is_allocated t.kept.allocator Out e) _ _
    (kept_test t.kept (not (is_on (t.kept.plain Out e).iso)) _ _ refl
    (kept_test t.kept (some (waits_on t Out e)) _ _ (either-kept t (some (waits_on t Out e))
    (with_out t e (open_out (t.outs e))) refl) refl))
    refl) refl
aside-kept (Close e) t b =
    kept_test t.kept (eqb t.kept.globals.stage 2) _ _
    (kept_test t.kept (is_allocated t.kept.allocator Out e) _ _
    (kept_test t.kept (t.outs e).opened _ _ (either-kept t (t.outs e).opened (with_out t e (read_out (t.outs e)))
    refl) refl)
    refl) refl
aside-kept (Queue e bytes) t b =
    kept_test t.kept (eqb t.kept.globals.stage 2) _ _
    (kept_test t.kept (is_allocated t.kept.allocator In e) _ _
    (kept_test t.kept (enables.is_on t.kept.globals.ep_config In e) _ _
    (kept_test t.kept (ltb t.kept.allocator.size (length bytes)) _ _ refl
    (kept_test t.kept (not (is_on (t.kept.plain In e).iso)) _ _ refl
    (kept_test t.kept (room_b t e (length bytes)) _ _
    (queued-kept t b (room_b t e (length bytes)) (
      with_in t e (queued_in (t.ins e) bytes),
      copied b ((t.kept.plain In e).base + (t.ins e).turn
          * t.kept.allocator.size) bytes,
    ) refl) refl)))
    refl) refl) refl

-- ---- one call; x: the driver's answer, of which the book is told

module _ (x : Ans Answer) where
  abbrev halts : Bool → tree.Out Bk Answer → Ans Answer × Machine Answer Pages
  halts i o = halt calls book.driver (fed book x) i o

  plainly : (f : Note) (o : tree.Out Bk Answer) → let y = halts false o in WayTold f y.1.under_way_lem y.1.st
  plainly f (ends z t) = tt
  plainly f (asks q t k) = tt

  -- c: after an answer of the book's; h: with what was brought before the outcome o
  halted : (c : Ans Answer → Note) (h : Note) (t : Pages) (b : Buf) → ((q : Access) → c (handed q) ≡ asking q t b h)
      → {I : ℕ → Bool} {W : ℕ} (o : tree.Out Bk Answer)
      → Told I W (LookedAt W) h (t, b) o
      → let y = halts true o in WayTold (c y.0) y.1.under_way_lem y.1.st
  halted c h t b e (ends z u) w = tt
  halted c h t b e {I} {W} (asks q u k) (t_ask m fixed g)
      = subst (λ (f : Note). Serving f k (fed book x u.0)) (sym (e q))
      (serving_on (fed-kept x u.0) (record { isos = I; set = W; fixed = fixed; goes = g }))

  module _ (f : Note) (t : Pages) (r : Regular t) (c b : Buf) where
    -- with nothing under way
    begin_idle : (o : Op) → let y = halts (calls.irq o) (run book_ops (code o) (t, b)) in WayTold
        (after (begin o) y.0 t b f) y.1.under_way_lem y.1.st
    begin_idle interrupt = halted (λ a. after (begin interrupt) a t b f) unread t b (λ q. refl)
        (run book_ops interrupt_code (t, b))
        (interrupt_told (λ e. iso_of t Out e) (iso_outs t.kept.globals) r.even r.inside (t, b)
        (record { iso = λ e. refl; sets = refl }))
    begin_idle (slotted o) = let z = run book_ops (code (slotted o)) (t, b) in plainly
        (after (begin (slotted o)) (halts false z).0 t b f) z
    begin_idle (other o) = let z = run book_ops (code (other o)) (t, b) in plainly
        (after (begin (other o)) (halts false z).0 t b f) z
    begin_idle (aside o) = let z = run book_ops (code (aside o)) (t, b) in plainly
        (after (begin (aside o)) (halts false z).0 t b f) z

    module _ (a : Awaits) (k : ℕ → Bk → tree.Out Bk Answer) (s : Serving f k t) where
      abbrev n : Machine Answer Pages
      n = record { under_way_lem = busy true a k; st = t; buf = c }

      -- a call that falls in an interrupt
      passing : (o : Aside) (z : tree.Out Bk Answer) → KeptAt t.kept z
          → let y = during_interrupt calls book.driver (lent_to calls book.driver n b) z in WayTold
          (after (begin (aside o)) y.0 t b f) y.1.under_way_lem y.1.st
      passing o (ends z u) h = serving_on h s
      passing o (asks q u g) h = s

      begin_busy : (o : Op) → let y = begun calls book.driver (fed book x) o n (busy true a k) b in WayTold
          (after (begin o) y.0 t b f)
          y.1.under_way_lem y.1.st
      begin_busy interrupt = s
      begin_busy (slotted o) = s
      begin_busy (other o) = s
      begin_busy (aside o) = passing o (run book_ops (aside_code o) (t, b)) (aside-kept o t b)

      go_busy : (v : ℕ) (u : Bool) → let y = cond u (stay calls book.driver 16 (lent_to calls book.driver n b))
          (halts true (k v (t, b))) in
          WayTold (after (continue v) y.0 t b f) y.1.under_way_lem y.1.st
      go_busy v true = s
      go_busy v false = halted (λ a. after (continue v) a t b f) (brings v f) t b (λ q. refl) (k v (t, b))
          (s.goes v (t, b) s.fixed)

  abbrev Stays : Call Config Op → Note → Pages → Buf → Ans Answer × Machine Answer Pages → Type 0
  Stays c f t b y = WayTold (after c y.0 t b f) y.1.under_way_lem y.1.st

  either : (c : Call Config Op) (f : Note) (t : Pages) (b : Buf) (u : Bool) (y z : Ans Answer × Machine Answer Pages)
      → Stays c f t b y → Stays c f t b z
      → Stays c f t b (cond u y z)
  either c f t b true y z p q = p
  either c f t b false y z p q = q

  begun-told : (f : Note) (o : Op) (w : Pending Answer Pages) (t : Pages) (c b : Buf) → Regular t → WayTold f w t
      → Stays (begin o) f t b (begun calls book.driver (fed book x) o (record { under_way_lem = w; st = t; buf = c }) w
      b)
  begun-told f o idle t c b r h = begin_idle f t r c b o
  begun-told f o (busy true a k) t c b r h = begin_busy f t r c b a k h o
  begun-told f o (busy false a k) t c b r h = tt

  continued-told : (f : Note) (v : ℕ) (w : Pending Answer Pages) (t : Pages) (c b : Buf) → Regular t → WayTold f w t
      → Stays (continue v) f t b (continued calls book.driver (fed book x) v
      (record { under_way_lem = w; st = t; buf = c }) w b)
  continued-told f v idle t c b r h = tt
  continued-told f v (busy true a k) t c b r h = go_busy f t r c b a k h v (over calls a v)
  continued-told f v (busy false a k) t c b r h =
      either (continue v) f t b (over calls a v) (stay calls book.driver 16
      (lent_to calls book.driver (record { under_way_lem = busy false a k; st = t; buf = c }) b))
      (halts false (k v (t, b))) tt (plainly (after (continue v) (halts false (k v (t, b))).0 t b f) (k v (t, b)))

  started-told : (f : Note) (g : Config) (r : ℕ) (n : Machine Answer Pages) (b : Buf) → WayTold f n.under_way_lem n.st
      → Stays (start g) f n.st b (started calls book.driver (fed book x) g r n b)
  started-told f g zero n b h = let z = run book_ops (starting g) (fresh_pages g, b) in plainly
      (after (start g) (halts false z).0 n.st b f) z
  started-told f g (suc r) n b h = h

  pub call-told : (c : Call Config Op) (f : Note) (n : Machine Answer Pages) (b : Buf) → Regular n.st
      → WayTold f n.under_way_lem n.st
      → Stays c f n.st b (book_step x c n b)
  call-told (start g) f n b r h = started-told f g (start_row g b) n b h
  call-told (begin o) f n b r h = either (begin o) f n.st b
      (cond (calls.slots o) (misfit calls book.driver n.st b) false)
      (stay calls book.driver 1 n) (begun calls book.driver (fed book x) o n n.under_way_lem b) h
      (begun-told f o n.under_way_lem n.st n.buf b r h)
  call-told (continue v) f n b r h = either (continue v) f n.st b (misfit calls book.driver n.st b)
      (stay calls book.driver 1 n)
      (continued calls book.driver (fed book x) v n n.under_way_lem b) h
      (continued-told f v n.under_way_lem n.st n.buf b r h)
  call-told (question q) f n b r h = h

-- after an accepted start-up no interrupt is under way
pub start-told : (x : Ans Answer) (g : Config) (f : Note) (n : Machine Answer Pages) (b : Buf) → start_row g b ≡ zero
    → let y = book_step x (start g) n b in WayTold f y.1.under_way_lem y.1.st
start-told x g f n b row = subst (λ (r : ℕ). let y = started calls book.driver (fed book x) g r n b in WayTold f
    y.1.under_way_lem y.1.st) (sym row)
    (plainly x f (run book_ops (starting g) (fresh_pages g, b)))

-- an answer but for its address tells the same
after_same : (c : Call Config Op) (f : Note) (t : Pages) (l : Buf) (a b : Ans Answer) → blank_a a ≡ blank_a b
    → after c a t l f ≡ after c b t l f
after_same (start c) f t l = tells-same (λ z. after (start c) z t l f) (λ _ _. refl, λ _ _. refl, λ _. refl)
after_same (begin o) f t l = tells-same (λ z. after (begin o) z t l f) (λ _ _. refl, λ _ _. refl, λ _. refl)
after_same (continue v) f t l = tells-same (λ z. after (continue v) z t l f) (λ _ _. refl, λ _ _. refl, λ _. refl)
after_same (question q) f t l = λ _ _ _. refl

pub told_on : (x : Ans Answer) (c : Call Config Op) (f : Note) (n : Machine Answer Pages) (b : Buf) → blank_a x
    ≡ blank_a (book_step x c n b).0 → Regular n.st
    → WayTold f n.under_way_lem n.st → let y = book_step x c n b in WayTold (after c x n.st b f) y.1.under_way_lem
    y.1.st
told_on x c f n b same r h =
    let y = book_step x c n b in
    subst (λ (g : Note). WayTold g y.1.under_way_lem y.1.st) (after_same c f n.st b y.0 x (sym same))
    (call-told x c f n b r h)

-- ---- of driver and book that agree

module _ {φ : Phase} {b : Buf} {d : Driver} {t : Pages} (R : Coupling φ b d t) where
  pub is-regular : Regular t
  is-regular = record {
    even = (regular R).iso;
    inside = λ e h. ap (λ (p : EpCore). is_on p.iso) (sym (R.same.plain Out e))
        ∙ receives-iso R e (ap (λ (g : Globals). bit_is_set (iso_outs g) (e % 16)) R.same.globals ∙ h);
  }

-- ---- the call that decides, and the one that ends

abbrev access_of : Ans Answer → Access
access_of (ended z) = Callback
access_of (handed q) = q
access_of (told n) = Callback

abbrev is_handed : Ans Answer → Bool
is_handed (ended z) = false
is_handed (handed q) = true
is_handed (told k) = false

abbrev end_of : Ans Answer → Answer
end_of (ended z) = z
end_of (handed q) = NotYet
end_of (told n) = NotYet

abbrev is_refused : Answer → Bool
is_refused (Refused n) = true
is_refused (End n ws) = false
is_refused NotYet = false
is_refused (Done bytes) = false
is_refused (Shown bytes stamp) = false

module _ (a : Ans Answer) (v : ℕ) (n : Machine Answer Pages) (b : Buf) (f : Note) where
  -- what is decided is an arrival
  abbrev Finds : ℕ → Ans Answer × Machine Answer Pages → Type 0
  Finds e y = (x : ℕ) → y.0 ≡ handed (Receive e x) → receiving n.st e ≡ true → iso_of n.st Out e ≡ true
      → (checks (brings v f) ≡ true) × Arrival (brings v f) n.st b e

  -- all were looked at
  abbrev Misses : Ans Answer × Machine Answer Pages → Type 0
  Misses y = (r : ℕ) (ws : List ℕ) → y.0 ≡ ended (End r ws) → due (brings v f) ≡ true → (e : ℕ) → e < 16
      → receiving n.st e ≡ true
      → (f.looked e || looks (brings v f) n.st b (ended (End r ws)) e) ≡ true

  no_access : {X : Type 0} (z : Answer) (e x : ℕ) → ended z ≡ handed (Receive e x) → X
  no_access z e x k = absurd (true≢false (sym (ap is_handed k)))

  refused-ends : {X : Type 0} (i r : ℕ) (ws : List ℕ) → ◌≡◌ {A = Ans Answer} (ended (Refused i)) (ended (End r ws)) → X
  refused-ends i r ws k = absurd (true≢false (ap (λ (z : Ans Answer). is_refused (end_of z)) k))

  module _ {I : ℕ → Bool} {W : ℕ} (fixed : Fixed I W n.st) where
    found : (e : ℕ) (o : tree.Out Bk Answer) → Told I W (LookedAt W) (brings v f) (n.st, b) o
        → Finds e (halt calls book.driver (fed book a) true o)
    found e (ends z t) w x k on iso = no_access z e x k
    found e (asks q t g) (t_ask m l u) x k on iso = m.decides e x (ap access_of k) on (sym (fixed.iso e) ∙ iso)

    missed : (o : tree.Out Bk Answer) → Told I W (LookedAt W) (brings v f) (n.st, b) o
        → Misses (halt calls book.driver (fed book a) true o)
    missed (asks q t g) w r ws k c e small on = absurd (true≢false (ap is_handed k))
    missed (ends z t) (t_end i l p) r ws k c e small on =
        let same : e % 16 ≡ e = omega (arith, small) in
        let set : bit_is_set W e ≡ true = ap (λ (m : ℕ). bit_is_set m e) (sym fixed.sets)
        ∙ ap (λ (j : ℕ). bit_is_set (iso_outs n.st.kept.globals) j) (sym same) ∙ on in
        sym (seen_same (brings v f) (n.st, b) t i e) ∙ p r ws (ap end_of k) c e (walk.walks-set W e small set)

  way_finds : (e : ℕ) (w : Pending Answer Pages) → WayTold f w n.st → in_interrupt w ≡ true
      → Finds e (continued calls book.driver (fed book a) v n w b)
  way_finds e idle s i = absurd (true≢false (sym i))
  way_finds e (busy false q r) s i = absurd (true≢false (sym i))
  way_finds e (busy true q r) s i = by (over calls q v)
    where
      by : (u : Bool) → Finds e (cond u (stay calls book.driver 16 (lent_to calls book.driver n b))
          (halt calls book.driver (fed book a) true (r v
          (n.st, b))))
      by true = λ x k on iso. no_access (Refused 16) e x k
      by false = found s.fixed e (r v (n.st, b)) (s.goes v (n.st, b) s.fixed)

  way-misses : (w : Pending Answer Pages) → WayTold f w n.st → in_interrupt w ≡ true
      → Misses (continued calls book.driver (fed book a) v n w b)
  way-misses idle s i = absurd (true≢false (sym i))
  way-misses (busy false q r) s i = absurd (true≢false (sym i))
  way-misses (busy true q r) s i = by (over calls q v)
    where
      by : (u : Bool) → Misses (cond u (stay calls book.driver 16 (lent_to calls book.driver n b))
          (halt calls book.driver (fed book a) true (r v
          (n.st, b))))
      by true = λ r ws k. refused-ends 16 r ws k
      by false = missed s.fixed (r v (n.st, b)) (s.goes v (n.st, b) s.fixed)

  call-finds : (e : ℕ) → WayTold f n.under_way_lem n.st → in_interrupt n.under_way_lem ≡ true
      → Finds e (book_step a (continue v) n b)
  call-finds e s i = by (misfit calls book.driver n.st b)
    where
      by : (u : Bool) → Finds e (cond u (stay calls book.driver 1 n)
          (continued calls book.driver (fed book a) v n n.under_way_lem b))
      by true = λ x k on iso. no_access (Refused 1) e x k
      by false = way_finds e n.under_way_lem s i

  call-misses : WayTold f n.under_way_lem n.st → in_interrupt n.under_way_lem ≡ true
      → Misses (book_step a (continue v) n b)
  call-misses s i = by (misfit calls book.driver n.st b)
    where
      by : (u : Bool) → Misses (cond u (stay calls book.driver 1 n)
          (continued calls book.driver (fed book a) v n n.under_way_lem b))
      by true = λ r ws k. refused-ends 1 r ws k
      by false = way-misses n.under_way_lem s i

pub arrival-is : (c : Call Config Op) (a : Ans Answer) (e : ℕ) (n : Machine Answer Pages) → Regular n.st → (f : Note)
    → WayTold f n.under_way_lem n.st
    → (b : Buf) → blank_a a ≡ blank_a (book_step a c n b).0 → (d : Decides c n a e)
    → (checks (brings d.brought f) ≡ true) × Arrival (brings d.brought f) n.st b e
arrival-is c a e n g f s b same d =
    let same' : blank_a a ≡ blank_a (book_step a (continue d.brought) n b).0
    = subst (λ (c : Call Config Op). blank_a a ≡ blank_a (book_step a c n b).0) d.continues same in
    let z = same-receive (book_step a (continue d.brought) n b).0 a e d.address (sym same') d.hands in
    call-finds a d.brought n b f e s d.interrupt z.0 z.1 d.enabled (g.inside e d.enabled)

pub none-missed : (c : Call Config Op) (a : Ans Answer) (n : Machine Answer Pages) (f : Note)
    → WayTold f n.under_way_lem n.st
    → (b : Buf) → blank_a a ≡ blank_a (book_step a c n b).0 → (v r : ℕ) (ws : List ℕ) → c ≡ continue v
    → in_interrupt n.under_way_lem ≡ true → a ≡ ended (End r ws)
    → due (brings v f) ≡ true → (e : ℕ) → e < 16 → receiving n.st e ≡ true
    → (f.looked e || looks (brings v f) n.st b a e) ≡ true
none-missed c a n f s b same v r ws is i h k e small on =
    let same' : blank_a a ≡ blank_a (book_step a (continue v) n b).0
    = subst (λ (c : Call Config Op). blank_a a ≡ blank_a (book_step a c n b).0) is same in
    let z : (book_step a (continue v) n b).0 ≡ ended (End r ws)
    = ended_same (book_step a (continue v) n b).0 (End r ws) (sym same' ∙ ap blank_a h) in
    subst (λ (a : Ans Answer). (f.looked e || looks (brings v f) n.st b a e) ≡ true) (sym h)
    (call-misses a v n b f s i r ws z k e small on)
  where
    ended_same : (y : Ans Answer) (z : Answer) → blank_a y ≡ ended z → y ≡ ended z
    ended_same (ended x) z h = h
    ended_same (handed q) z h = absurd (true≢false (ap is_handed h))
    ended_same (told k) z h = h
