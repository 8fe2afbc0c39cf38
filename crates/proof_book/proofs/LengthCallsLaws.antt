-- The length of an arrival over every list of calls: what is left of an interrupt goes on with the readings that it was
-- brought (`WayTold`), and the call that decides an arrival gives it the length that they tell
use Rattle.std.specs.Prelude.{Bool, true, false, not, cond, List, [], ◌∷◌, ◌++◌, ◌≡◌, refl, ℕ, zero, suc, ◌+◌, ◌*◌, ◌%◌, ◌≤◌, min, eqb, ltb, length, drop}
use Rattle.std.proofs.Common.{true≢false, ap₂, subst, sym, ◌∙◌, arith, eqb-true, length-take, length-drop}
use Rattle.std.proofs.Math.Path.{ap}
use Rattle.std.proofs.Math.ListN.{get_or}
use Rattle.regs.specs.declared.Access.{Access}
use Rattle.regs.specs.declared.Access.TheVariants.{Receive, Callback}
use Rattle.regs.specs.declared.Dir.TheVariants.{Out, In}
use Rattle.regs.specs.Enables as enables
use Rattle.bits.specs.Bit.{bit_is_set}
use Rattle.state.specs.declared.Allocator.{Allocator}
use Rattle.state.specs.declared.Globals.{Globals}
use Rattle.state.specs.Driver.{Driver, key, no_ep, ep_on}
use Rattle.ring.specs.Marks.{marked_len}
use Rattle.ring.specs.Copies.{bytes_at, copied}
use Rattle.script.specs.Tree as tree
use Rattle.script.specs.Tree.{ends, asks}
use Rattle.script.specs.Cells.{EpCore}
use Rattle.script.specs.Script.{run}
use Rattle.script.specs.Simulates.{Phase}
use Rattle.script.specs.Statics.{is_on, iso_outs}
use Rattle.script.specs.Answers.{Answer, Refused, is_allocated}
use Rattle.script.specs.Calls.{Config, Op, interrupt, slotted, other, aside, Aside, Open, Close, Queue, aside_code}
use Rattle.script.specs.Calls.{interrupt_code, calls, code, starting, start_row}
use Rattle.script.specs.Machine.{Buf, Call, start, begin, continue, question, Ans, ended, handed, told, blank, blank_a}
use Rattle.script.specs.Machine.{Awaits}
use Rattle.script.specs.Machine.{Pending, idle, busy, Machine, over, misfit, stay, lent_to, during_interrupt, halt, begun}
use Rattle.script.specs.Machine.{continued}
use Rattle.script.specs.Machine.{started, fed}
use Rattle.script_ops.specs.Records.{plain_of}
use Rattle.proof_book.specs.Pages.{Packet, OutPage, Kept, Pages, with_out, with_in}
use Rattle.proof_book.specs.Book.{Bk, iso_of, receiving, some, waits_on, room_b, open_out, read_out, queued_in, arrived}
use Rattle.proof_book.specs.Book.{joined, overrun, fresh_pages, book_ops, book}
use Rattle.proof_book.specs.Coupling.{Coupling}
use Rattle.proof_book.specs.HeldLaws.{receives-iso}
use Rattle.proof_book.specs.FrontPage.{book_step, in_interrupt, Decides}
use Rattle.proof_book.specs.Lengths.{Readings, Known, nothing_read, bringing, learnt, length_of, length_at}
use Rattle.proof_book.specs.LengthScriptsLaws.{Evens, Fixed, Told, t_ask}
use Rattle.proof_book.proofs.LengthInterruptLaws.{interrupt_told}
use Rattle.proof_book.specs.BookTracksLaws.{ask}
use Rattle.proof_book.proofs.BookCountsLaws.{Followed}
use Rattle.proof_book.proofs.BookCallsLaws.{WayFine, Fine, fed-page, same-receive}
use Rattle.proof_book.specs.AnswersLaws.{blank-access, tells-same, fed-kept}

abbrev Any : Answer → Readings → Type 0
Any a h = Unit {0}

-- what is left of an interrupt
pub record Serving (f : Known) (k : ℕ → Bk → tree.Out Bk Answer) (t : Pages) : Type 0 where
  isos : ℕ → Bool
  maxima : ℕ → ℕ
  even : Evens isos maxima
  fixed : Fixed isos maxima t
  goes : (v : ℕ) (u : Bk) → Fixed isos maxima u.0 → Told isos maxima Any (bringing f.asked v f.readings) u
      (k v u)

abbrev pub WayTold : Known → Pending Answer Pages → Pages → Type 0
WayTold f idle t = Unit {0}
WayTold f (busy false a k) t = Unit {0}
WayTold f (busy true a k) t = Serving f k t

-- the kept values stay
serving_on : {f : Known} {k : ℕ → Bk → tree.Out Bk Answer} {t u : Pages} → u.kept ≡ t.kept → Serving f k t
    → Serving f k u
serving_on {t = t} {u = u} h s = record {
  isos = s.isos;
  maxima = s.maxima;
  even = s.even;
  fixed = record {
    iso = λ e. ap (λ (k : Kept). is_on (k.plain Out e).iso) h ∙ s.fixed.iso e;
    most = λ e. ap (λ (k : Kept). (k.plain Out e).max_len) h ∙ s.fixed.most e;
  };
  goes = s.goes;
}

-- ---- open, close and queue leave the kept values

abbrev KeptAt : Kept → tree.Out Bk Answer → Type 0
KeptAt k (ends a s) = s.0.kept ≡ k
KeptAt k (asks q s f) = Unit {0}

kept_test : (k : Kept) (u : Bool) (x y : tree.Out Bk Answer) → KeptAt k x → KeptAt k y → KeptAt k (cond u x y)
kept_test k true x y p q = p
kept_test k false x y p q = q

either-kept : (t : Pages) (u : Bool) (x : Pages) → x.kept ≡ t.kept → (cond u x t).kept ≡ t.kept
either-kept t true x h = h
either-kept t false x h = refl

queued-kept : (t : Pages) (b : Buf) (u : Bool) (x : Bk) → x.0.kept ≡ t.kept → (cond {A = Bk} u x (t, b)).0.kept
    ≡ t.kept
queued-kept t b true x h = h
queued-kept t b false x h = refl

aside-kept : (o : Aside) (t : Pages) (b : Buf) → KeptAt t.kept (run book_ops (aside_code o) (t, b))
aside-kept (Open e) t b =
    kept_test t.kept (eqb t.kept.globals.stage 2) _ _
    (kept_test t.kept (is_allocated t.kept.allocator Out e) _ _
    (kept_test t.kept (not (is_on (t.kept.plain Out e).iso)) _ _ refl
    (kept_test t.kept (some (waits_on t Out e)) _ _ (either-kept t (some (waits_on t Out e))
    (with_out t e (open_out (t.outs e))) refl) refl))
    refl) refl
aside-kept (Close e) t b =
    kept_test t.kept (eqb t.kept.globals.stage 2) _ _
    (kept_test t.kept (is_allocated t.kept.allocator Out e) _ _
    (kept_test t.kept (t.outs e).opened _ _ (either-kept t (t.outs e).opened (with_out t e (read_out (t.outs e)))
    refl) refl)
    refl) refl
aside-kept (Queue e bytes) t b =
    kept_test t.kept (eqb t.kept.globals.stage 2) _ _
    (kept_test t.kept (is_allocated t.kept.allocator In e) _ _
    (kept_test t.kept (enables.is_on t.kept.globals.ep_config In e) _ _
    (kept_test t.kept (ltb t.kept.allocator.size (length bytes)) _ _ refl
    (kept_test t.kept (not (is_on (t.kept.plain In e).iso)) _ _ refl
    (kept_test t.kept (room_b t e (length bytes)) _ _
    (queued-kept t b (room_b t e (length bytes)) (
      with_in t e (queued_in (t.ins e) bytes),
      copied b ((t.kept.plain In e).base + (t.ins e).turn
          * t.kept.allocator.size) bytes,
    ) refl) refl)))
    refl) refl) refl

-- numbers count modulo 16 in the kept values
abbrev pub Regular : Pages → Type 0
Regular t = Evens (λ e. iso_of t Out e) (λ e. (t.kept.plain Out e).max_len)

-- ---- one call; x: the driver's answer, of which the book is told

module _ (x : Ans Answer) where
  abbrev halts : Bool → tree.Out Bk Answer → Ans Answer × Machine Answer Pages
  halts i o = halt calls book.driver (fed book x) i o

  plainly : (f : Known) (o : tree.Out Bk Answer) → let y = halts false o in WayTold f y.1.under_way_lem y.1.st
  plainly f (ends z t) = tt
  plainly f (asks q t k) = tt

  halted : (c : Call Config Op) (f : Known) (h : Readings)
      → ((q : Access) → learnt c (handed q) f ≡ record { asked = blank q; readings = h })
      → {I : ℕ → Bool} {M : ℕ → ℕ} → Evens I M → {s : Bk} (o : tree.Out Bk Answer) → Told I M Any h s o
      → let y = halts true o in WayTold (learnt c y.0 f) y.1.under_way_lem y.1.st
  halted c f h e even (ends z t) w = tt
  halted c f h e {I} {M} even (asks q t k) (t_ask m fixed g)
      = subst (λ (f : Known). Serving f k (fed book x t.0)) (sym (e q))
      (serving_on (fed-kept x t.0) (record {
        isos = I;
        maxima = M;
        even = even;
        fixed = fixed;
        goes = λ v u l. subst (λ (h : Readings). Told I M Any h u (k v u))
            (sym (blank-access (λ p. bringing p v h) (λ _ _. refl, λ _ _. refl, λ _. refl) q)) (g v u l);
      }))

  module _ (f : Known) (t : Pages) (r : Regular t) (c b : Buf) where
    -- with nothing under way
    begin_idle : (o : Op) → let y = halts (calls.irq o) (run book_ops (code o) (t, b)) in WayTold
        (learnt (begin o) y.0 f) y.1.under_way_lem y.1.st
    begin_idle interrupt = halted (begin interrupt) f nothing_read (λ q. refl) r (run book_ops interrupt_code (t, b))
        (interrupt_told r (t, b) (record { iso = λ e. refl; most = λ e. refl }))
    begin_idle (slotted o) = let z = run book_ops (code (slotted o)) (t, b) in plainly
        (learnt (begin (slotted o)) (halts false z).0 f) z
    begin_idle (other o) = let z = run book_ops (code (other o)) (t, b) in plainly
        (learnt (begin (other o)) (halts false z).0 f) z
    begin_idle (aside o) = let z = run book_ops (code (aside o)) (t, b) in plainly
        (learnt (begin (aside o)) (halts false z).0 f) z

    module _ (a : Awaits) (k : ℕ → Bk → tree.Out Bk Answer) (s : Serving f k t) where
      abbrev n : Machine Answer Pages
      n = record { under_way_lem = busy true a k; st = t; buf = c }

      -- a call that falls in an interrupt
      passing : (o : Aside) (z : tree.Out Bk Answer) → KeptAt t.kept z
          → let y = during_interrupt calls book.driver (lent_to calls book.driver n b) z in WayTold
          (learnt (begin (aside o)) y.0 f) y.1.under_way_lem y.1.st
      passing o (ends z u) h = serving_on h s
      passing o (asks q u g) h = s

      begin_busy : (o : Op) → let y = begun calls book.driver (fed book x) o n (busy true a k) b in WayTold
          (learnt (begin o) y.0 f)
          y.1.under_way_lem y.1.st
      begin_busy interrupt = s
      begin_busy (slotted o) = s
      begin_busy (other o) = s
      begin_busy (aside o) = passing o (run book_ops (aside_code o) (t, b)) (aside-kept o t b)

      go_busy : (v : ℕ) (u : Bool) → let y = cond u (stay calls book.driver 16 (lent_to calls book.driver n b))
          (halts true (k v (t, b))) in
          WayTold (learnt (continue v) y.0 f) y.1.under_way_lem y.1.st
      go_busy v true = s
      go_busy v false = halted (continue v) f (bringing f.asked v f.readings) (λ q. refl) s.even (k v (t, b))
          (s.goes v (t, b) s.fixed)

  abbrev Stays : Call Config Op → Known → Ans Answer × Machine Answer Pages → Type 0
  Stays c f y = WayTold (learnt c y.0 f) y.1.under_way_lem y.1.st

  either : (c : Call Config Op) (f : Known) (u : Bool) (y z : Ans Answer × Machine Answer Pages) → Stays c f y
      → Stays c f z → Stays c f (cond u y z)
  either c f true y z p q = p
  either c f false y z p q = q

  begun-told : (f : Known) (o : Op) (w : Pending Answer Pages) (t : Pages) (c b : Buf) → Regular t → WayTold f w t
      → Stays (begin o) f (begun calls book.driver (fed book x) o (record { under_way_lem = w; st = t; buf = c }) w b)
  begun-told f o idle t c b r h = begin_idle f t r c b o
  begun-told f o (busy true a k) t c b r h = begin_busy f t r c b a k h o
  begun-told f o (busy false a k) t c b r h = tt

  continued-told : (f : Known) (v : ℕ) (w : Pending Answer Pages) (t : Pages) (c b : Buf) → Regular t → WayTold f w t
      → Stays (continue v) f (continued calls book.driver (fed book x) v (record { under_way_lem = w; st = t; buf = c })
      w b)
  continued-told f v idle t c b r h = tt
  continued-told f v (busy true a k) t c b r h = go_busy f t r c b a k h v (over calls a v)
  continued-told f v (busy false a k) t c b r h =
      either (continue v) f (over calls a v) (stay calls book.driver 16
      (lent_to calls book.driver (record { under_way_lem = busy false a k; st = t; buf = c }) b))
      (halts false (k v (t, b))) tt (plainly (learnt (continue v) (halts false (k v (t, b))).0 f) (k v (t, b)))

  started-told : (f : Known) (g : Config) (r : ℕ) (n : Machine Answer Pages) (b : Buf)
      → WayTold f n.under_way_lem n.st
      → Stays (start g) f (started calls book.driver (fed book x) g r n b)
  started-told f g zero n b h = let z = run book_ops (starting g) (fresh_pages g, b) in plainly
      (learnt (start g) (halts false z).0 f) z
  started-told f g (suc r) n b h = h

  pub call-told : (c : Call Config Op) (f : Known) (n : Machine Answer Pages) (b : Buf) → Regular n.st
      → WayTold f n.under_way_lem n.st
      → Stays c f (book_step x c n b)
  call-told (start g) f n b r h = started-told f g (start_row g b) n b h
  call-told (begin o) f n b r h = either (begin o) f (cond (calls.slots o) (misfit calls book.driver n.st b)
      false) (stay calls book.driver 1 n)
      (begun calls book.driver (fed book x) o n n.under_way_lem b) h
      (begun-told f o n.under_way_lem n.st n.buf b r h)
  call-told (continue v) f n b r h = either (continue v) f (misfit calls book.driver n.st b)
      (stay calls book.driver 1 n)
      (continued calls book.driver (fed book x) v n n.under_way_lem b) h
      (continued-told f v n.under_way_lem n.st n.buf b r h)
  call-told (question q) f n b r h = h

-- after an accepted start-up no interrupt is under way
pub start-told : (x : Ans Answer) (g : Config) (f : Known) (n : Machine Answer Pages) (b : Buf) → start_row g b ≡ zero
    → let y = book_step x (start g) n b in WayTold f y.1.under_way_lem y.1.st
start-told x g f n b row = subst (λ (r : ℕ). let y = started calls book.driver (fed book x) g r n b in WayTold f
    y.1.under_way_lem y.1.st) (sym row)
    (plainly x f (run book_ops (starting g) (fresh_pages g, b)))

-- an answer but for its address tells the same
learnt-same : (c : Call Config Op) (f : Known) (a b : Ans Answer) → blank_a a ≡ blank_a b → learnt c a f ≡ learnt c b f
learnt-same (start c) f = tells-same (λ z. learnt (start c) z f) (λ _ _. refl, λ _ _. refl, λ _. refl)
learnt-same (begin o) f = tells-same (λ z. learnt (begin o) z f) (λ _ _. refl, λ _ _. refl, λ _. refl)
learnt-same (continue v) f = tells-same (λ z. learnt (continue v) z f) (λ _ _. refl, λ _ _. refl, λ _. refl)
learnt-same (question q) f = λ _ _ _. refl

pub told_on : (x : Ans Answer) (c : Call Config Op) (f : Known) (n : Machine Answer Pages) (b : Buf) → blank_a x
    ≡ blank_a (book_step x c n b).0 → Regular n.st
    → WayTold f n.under_way_lem n.st → let y = book_step x c n b in WayTold (learnt c x f) y.1.under_way_lem y.1.st
told_on x c f n b same r h =
    let y = book_step x c n b in
    subst (λ (g : Known). WayTold g y.1.under_way_lem y.1.st)
    (learnt-same c f y.0 x (sym same)) (call-told x c f n b r h)

-- ---- an arrival

abbrev last : Packet → List Packet → Packet
last d [] = d
last d (q ∷ l) = last q l

last_is : (d : Packet) (l : List Packet) (q : Packet) → last d (l ++ (q ∷ [])) ≡ q
last_is d [] q = refl
last_is d (p ∷ l) q = last_is p l q

longer : (l : List Packet) (q : Packet) → length (l ++ (q ∷ [])) ≡ suc (length l)
longer [] q = refl
longer (p ∷ l) q = ap suc (longer l q)

-- the packet that joined is the one that arrived
joined_is : (p : OutPage) (k q : Packet) → (arrived p k).waiting ≡ p.waiting ++ (q ∷ []) → q ≡ k
joined_is p k q = by (ltb (length p.waiting) 15)
  where
    by : (u : Bool) → (cond u (joined p k) (overrun p)).waiting ≡ p.waiting ++ (q ∷ []) → q ≡ k
    by true h = sym (last_is q p.waiting q) ∙ ap (λ (l : List Packet). last q l) (sym h) ∙ last_is q p.waiting k
    by false h = absurd (omega (arith, ap (λ (l : List Packet). length l) h, longer p.waiting q))

module _ (a : Ans Answer) (e x v : ℕ) (n : Machine Answer Pages) (h : Fine n) (b : Buf) (f : Known)
    (on : receiving n.st e ≡ true) (iso : iso_of
    n.st Out e ≡ true) where
  -- the packet that arrives, of that length
  abbrev Arrived : Ans Answer × Machine Answer Pages → Type 0
  Arrived y = y.0 ≡ handed (Receive e x) → (length b ≡ n.st.kept.allocator.count * n.st.kept.allocator.size)
      × (k : Packet) × (k.bytes ≡ bytes_at b (n.st.outs e).slot
      (length_at (bringing f.asked v f.readings) b n.st e))
      × ((y.1.st.outs e).waiting ≡ (arrived (n.st.outs e) k).waiting)

  abbrev is_end : Ans Answer → Bool
  is_end (ended z) = true
  is_end (handed q) = false
  is_end (told k) = true

  no_end : {X : Type 0} (z : Answer) → ended z ≡ handed (Receive e x) → X
  no_end z k = absurd (true≢false (ap is_end k))

  abbrev access_of : Ans Answer → Access
  access_of (ended z) = Callback
  access_of (handed q) = q
  access_of (told n) = Callback

  module _ (fits : length b ≡ n.st.kept.allocator.count * n.st.kept.allocator.size) where
    outcome : {I : ℕ → Bool} {M : ℕ → ℕ} → Fixed I M n.st → (o : tree.Out Bk Answer) → Followed (n.st, b) o
        → Told I M Any (bringing f.asked v f.readings) (n.st, b) o
        → Arrived (halt calls book.driver (fed book a) true o)
    outcome fixed (ends z t) w u k = no_end z k
    outcome {I} {M} fixed (asks q t g) (ask j m w) (t_ask m' l u) k =
        let z = m'.page e x (ap access_of k) on (sym (fixed.iso e) ∙ iso) in (
          fits,
          z.0,
          z.1 ∙ ap (λ (most : ℕ). bytes_at b (n.st.outs e).slot
              (min (length_of (bringing f.asked v f.readings) e (marked_len b (n.st.outs e).slot most)) most))
              (sym (fixed.most e)),
          fed-page (λ p. p.waiting) (λ p x. refl) a t.0 j e ∙ ap (λ (p : OutPage). p.waiting) z.2,
        )

    wide_by : (u : Bool) (y : Ans Answer × Machine Answer Pages) → Arrived y
        → Arrived (cond u (stay calls book.driver 16 (lent_to calls book.driver n b)) y)
    wide_by true y s k = no_end (Refused 16) k
    wide_by false y s k = s k

    way_by : (w : Pending Answer Pages) → WayFine w → WayTold f w n.st → in_interrupt w ≡ true
        → Arrived (continued calls book.driver (fed book a) v n w b)
    way_by idle g s i k = absurd (true≢false (sym i))
    way_by (busy true q r) g s i k = wide_by (over calls q v) _
        (outcome s.fixed (r v (n.st, b)) (g v (n.st, b) h.pages).0 (s.goes v
        (n.st, b) s.fixed)) k
    way_by (busy false q r) g s i k = absurd (true≢false (sym i))

  fits_by : (u : Bool) → not (eqb (length b) (n.st.kept.allocator.count * n.st.kept.allocator.size)) ≡ u
      → WayTold f n.under_way_lem n.st
      → in_interrupt n.under_way_lem ≡ true
      → Arrived (cond u (stay calls book.driver 1 n)
      (continued calls book.driver (fed book a) v n n.under_way_lem b))
  fits_by true m s i k = no_end (Refused 1) k
  fits_by false m s i k = way_by (eqb-true (length b) _ (not_false _ m)) n.under_way_lem h.under_way_lem s i k
    where
      not_false : (u : Bool) → not u ≡ false → u ≡ true
      not_false true h = refl
      not_false false h = absurd (true≢false h)

-- ---- of driver and book that agree

module _ {φ : Phase} {b : Buf} {d : Driver} {t : Pages} (R : Coupling φ b d t) where
  ep-even : (e f : ℕ) → e % 16 ≡ f % 16 → ep_on d Out e ≡ ep_on d Out f
  unfolding ep_on key
  ep-even e f h = ap (λ (j : ℕ). get_or d.eps j no_ep) h

  plain-even : (e f : ℕ) → e % 16 ≡ f % 16 → t.kept.plain Out e ≡ t.kept.plain Out f
  plain-even e f h = sym (R.same.plain Out e) ∙ ap plain_of (ep-even e f h) ∙ R.same.plain Out f

  pub regular : Regular t
  regular = record {
    iso = λ e f h. ap (λ (p : EpCore). is_on p.iso) (plain-even e f h);
    most = λ e f h. ap (λ (p : EpCore). p.max_len) (plain-even e f h);
  }

  is_iso_lem : (e : ℕ) → receiving t e ≡ true → iso_of t Out e ≡ true
  is_iso_lem e h = ap (λ (p : EpCore). is_on p.iso) (sym (R.same.plain Out e))
      ∙ receives-iso R e (ap (λ (g : Globals). bit_is_set (iso_outs g) (e % 16)) R.same.globals ∙ h)

  -- so many bytes of its slot, up to the maximum
  in-slot : (l : Buf) (e k : ℕ) → length l ≡ t.kept.allocator.count * t.kept.allocator.size → k
      ≤ (t.kept.plain Out e).max_len
      → length (bytes_at l (t.outs e).slot k) ≡ k
  in-slot l e k m s =
      let max-same : (ep_on d Out e).max_len ≡ (t.kept.plain Out e).max_len
      = ap (λ (p : EpCore). p.max_len) (R.same.plain Out e) in
      let long : length b ≡ t.kept.allocator.count * t.kept.allocator.size = R.long
      ∙ ap (λ (a : Allocator). a.count * a.size) R.same.allocator in
      omega (
        arith,
        length-take k (drop (t.outs e).slot l),
        length-drop (t.outs e).slot l,
        (R.outs e).upto,
        (R.outs e).held.placed.inside,
        (R.outs e).held.least,
        max-same,
        long,
        m,
        s,
      )

-- where an arrival is decided: the packet that joined has the length that the interrupt's readings tell, else the one
-- by the marks, capped
pub length_is : {φ : Phase} {m : Buf} {d : Driver} (c : Call Config Op) (a : Ans Answer) (e : ℕ)
    (n : Machine Answer Pages) → Coupling φ m d n.st
    → Fine n → (f : Known)
    → WayTold f n.under_way_lem n.st → (b : Buf) → let y = book_step a c n b in blank_a a ≡ blank_a y.0
    → Decides c n a e
    → (q : Packet) → (y.1.st.outs e).waiting ≡ (n.st.outs e).waiting ++ (q ∷ []) → length q.bytes
    ≡ length_at (learnt c a f).readings b n.st e
length_is c a e n R h f s b same d q w =
    subst (λ (z : Call Config Op × Ans Answer). blank_a a ≡ blank_a (book_step a z.0 n b).0
    → ((book_step a z.0 n b).1.st.outs e).waiting ≡ (n.st.outs e).waiting ++ (q ∷ [])
    → length q.bytes ≡ length_at (learnt z.0 z.1 f).readings b n.st e)
    (sym (ap₂ (λ (c : Call Config Op) (a : Ans Answer). (c, a)) d.continues d.hands))
    (λ same w.
    let z = same-receive (book_step a (continue d.brought) n b).0 a e d.address (sym same) d.hands in
    let p = fits_by a e z.0 d.brought n h b f d.enabled (is_iso_lem R e d.enabled)
    (misfit calls book.driver n.st b) refl s
    d.interrupt z.1 in
    let is : q ≡ p.1 = joined_is (n.st.outs e) p.1 q (sym p.3 ∙ w) in
    let k : ℕ = length_at (bringing f.asked d.brought f.readings) b n.st e in
    let below : k ≤ (n.st.kept.plain Out e).max_len = omega arith in
    ap (λ (q : Packet). length q.bytes) is ∙ ap (λ (l : List ℕ). length l) p.2 ∙ in-slot R b e k p.0 below)
    same w
