-- "Endpoint sets are walked lowest number first": in one interrupt arrivals are decided in rising order of their
-- endpoints, so each at most once. Over every list of calls of the code
use Rattle.std.specs.Prelude.{Bool, true, false, not, cond, ◌&&◌, ◌||◌, List, [], ◌∷◌, ◌≡◌, refl, ℕ, zero, suc, ◌≤◌, eqb}
use Rattle.std.proofs.Common.{true≢false, ap, subst, sym, ◌∙◌, arith}
use Rattle.bits.specs.Walk.{set_bits}
use Rattle.bits.specs.WalkLaws as walk
use Rattle.regs.specs.declared.Access.{Access}
use Rattle.regs.specs.declared.Access.TheVariants.{Read, Write, Receive, Transmit, Ep0Dma, Wait, Callback}
use Rattle.regs.specs.declared.Reg.{Reg}
use Rattle.regs.specs.declared.Reg.TheVariants.{IntSt}
use Rattle.regs.specs.declared.Dir.TheVariants.{Out, In}
use Rattle.regs.specs.Status.{endpoint, token, is_sof}
use Rattle.regs.specs.MisStatus.{sie_free}
use Rattle.regs.specs.Flags.{bus_rst, transfer, suspend, hst_sof, fifo_ov, setup_act, HST_SOF, FIFO_OV}
use Rattle.regs.specs.IntEn.{with_bus_rst, with_suspend}
use Rattle.state.specs.State.{view}
use Rattle.state.specs.Driver.{Driver}
use Rattle.script.specs.declared.Transfer.{Transfer}
use Rattle.script.specs.Tree as tree
use Rattle.script.specs.Tree.{ends, asks, bind_out}
use Rattle.script.specs.Script.{Script, run, changed}
use Rattle.script.specs.Simulates.{Phase}
use Rattle.script.specs.Statics.{iso_outs, every_iso_in}
use Rattle.script.specs.IsoOut.{arriving, entry, check_one, check_walk}
use Rattle.script.specs.Handler.{entered, looks, settle, iso_for, framed, served, on_transfer, on_interrupt}
use Rattle.script.specs.Script.{write, when, no_wakes}
use Rattle.regs.specs.declared.Reg.TheVariants.{IntFg}
use Rattle.script.specs.Answers.{Answer}
use Rattle.script.specs.Calls.{Config, Op, interrupt, slotted, other, aside, Aside, aside_code, interrupt_code, calls}
use Rattle.script.specs.Calls.{code, starting, start_row}
use Rattle.script.specs.Machine.{Buf, Event, Call, start, begin, continue, question, Ans, ended, handed, told, blank_a}
use Rattle.script.specs.Machine.{Pending, idle, busy, Machine, over, misfit, stay, lent_to, during_interrupt, halt, begun}
use Rattle.script.specs.Machine.{continued, started, fed}
use Rattle.script.specs.Agree.{After, Ways, agrees, from_start}
use Rattle.machine.specs.Suspended.{driver_of, drive, machine_of}
use Rattle.proof_book.specs.Pages.{Pages}
use Rattle.proof_book.specs.Book.{Bk, book_ops, book, fresh_pages}
use Rattle.proof_book.specs.Coupling.{Coupling}
use Rattle.proof_book.proofs.StartUpLaws.{fresh_kept}
use Rattle.proof_book.proofs.AgreesLaws.{agree}
use Rattle.proof_book.specs.FrontPage.{CallRecord, book_step, in_interrupt, Decides, OrderEach}
use Rattle.proof_book.specs.Arrivals.{past_endpoint, above}
use Rattle.proof_book.specs.FrontPage as page
use Rattle.proof_book.proofs.SlotsKeptLaws.{lent_is}
use Rattle.proof_book.specs.BookDecidesLaws.{is_receive}
use Rattle.proof_book.proofs.BookCallsLaws.{same-receive}
use Rattle.proof_book.specs.AnswersLaws.{tells-same}
use Rattle.proof_book.specs.QuietPartsLaws.{NoPacketArrives, freely, q_ret, q_bind, q_test, q_read, q_write}
use Rattle.proof_book.specs.QuietPartsLaws.{q_wait, q_callback, q_get}
use Rattle.proof_book.specs.QuietPartsLaws.{q_put, q_is, q_look, q_fetch, q_complete, q_no_wakes, q_waken, q_send}
use Rattle.proof_book.specs.QuietPartsLaws.{nak-freely}
use Rattle.proof_book.specs.QuietPartsLaws.{of-sof, of-late-walk, of-dispatch, of-ep0-moved, of-on-setup}
use Rattle.proof_book.specs.QuietPartsLaws.{of-microframe, of-masked}

-- ---- scripts

data Rises {A : Type 0} (P : ℕ → Type 0) : ℕ → tree.Out Bk A → Type 0 where
  r_end : {b : ℕ} {a : A} {t : Bk} → P b → Rises P b (ends a t)
  r_ask : {b : ℕ} {q : Access} {t : Bk} {k : ℕ → Bk → tree.Out Bk A} → ((e x : ℕ) → q ≡ Receive e x → b ≤ e)
      → ((v : ℕ) (u : Bk) → Rises P (past_endpoint q b) (k v u)) → Rises P b (asks q t k)

abbrev number_of : Access → ℕ
number_of (Read r e) = 0
number_of (Write r e v) = 0
number_of (Receive e x) = e
number_of (Transmit e x) = 0
number_of (Ep0Dma x) = 0
number_of (Wait n) = 0
number_of Callback = 0

none : {b : ℕ} {q : Access} → is_receive q ≡ false → (e x : ℕ) → q ≡ Receive e x → b ≤ e
none h e x a = absurd (true≢false (sym (ap is_receive a) ∙ h))

r_bind : {A B : Type 0} {P Q : ℕ → Type 0} {b : ℕ} {o : tree.Out Bk A} {f : A → Bk → tree.Out Bk B}
    → Rises P b o → ((a : A) (t : Bk) (c : ℕ) → P c → Rises Q c (f a t)) → Rises Q b (bind_out o f)
r_bind (r_end p) k = k _ _ _ p
r_bind (r_ask m g) k = r_ask m (λ v u. r_bind (g v u) k)

r-cond : {A : Type 0} {P : ℕ → Type 0} {b : ℕ} (u : Bool) {o p : tree.Out Bk A} → Rises P b o → Rises P b p
    → Rises P b (cond u o p)
r-cond true x y = x
r-cond false x y = y

-- a part in which none arrives
quiet : {reads : Reg → Bool} {A : Type 0} {p : Script true A} {P : ℕ → Type 0} → NoPacketArrives reads A p
    → (s : Bk) (b : ℕ) → P b → Rises P b (run book_ops p s)
quiet q_ret s b h = r_end h
quiet (q_bind x y) s b h = r_bind (quiet x s b h) (λ a t c j. quiet (y a) t c j)
quiet (q_test {b = true} x y) s b h = quiet x s b h
quiet (q_test {b = false} x y) s b h = quiet y s b h
quiet (q_read u x) s b h = r_ask (none refl) (λ v t. quiet (x v) t b h)
quiet (q_write x) s b h = r_ask (none refl) (λ v t. quiet x t b h)
quiet (q_wait x) s b h = r_ask (none refl) (λ v t. quiet x t b h)
quiet (q_callback x) s b h = r_ask (none refl) (λ v t. quiet x t b h)
quiet (q_get x) s b h = quiet (x _) s b h
quiet (q_put x) s b h = quiet x _ b h
quiet (q_is x) s b h = quiet (x _) s b h
quiet (q_look x) s b h = quiet (x _) s b h
quiet (q_fetch x) s b h = quiet (x _) s b h
quiet (q_complete x) s b h = quiet x _ b h
quiet (q_no_wakes x) s b h = quiet x _ b h
quiet (q_waken x) s b h = quiet x _ b h
quiet (q_send x) s b h = r_ask (none refl) (λ v t. quiet x t b h)

abbrev Any : ℕ → Type 0
Any b = Unit {0}

-- the check
one : (y : Transfer) (iso : Bool) (e b : ℕ) → b ≤ e → (s : Bk)
    → Rises (λ c. c ≤ suc e) b (run {i = true} book_ops (check_one y iso e) s)
one y iso e b h s =
    let low : b ≤ suc e = omega (arith, h) in
    let same : suc e ≤ suc e = omega arith in
    let here : (f x : ℕ) → Receive e 0 ≡ Receive f x → b ≤ f = λ f x a. subst (λ (f : ℕ). b ≤ f) (ap number_of a) h in
    r-cond (book_ops.is (changed e) s)
    (r-cond (entry y iso e) (r_ask here (λ v u. r_end same))
    (r_ask {q = Read IntSt 0} (none refl) (λ st t. r-cond (arriving st e) (r_end low)
    (r_ask here (λ v u. r_end same)))))
    (r_end low)

walks : (y : Transfer) (iso : Bool) (es : List ℕ) (b c : ℕ) → b ≤ c → walk.Rising c es → (s : Bk)
    → Rises Any b (run {i = true} book_ops (check_walk y iso es) s)
unfolding check_walk
walks y iso [] b c h r s = r_end tt
walks y iso (e ∷ es) b c h r s =
    let low : b ≤ e = omega (arith, h, r.0) in
    r_bind (one y iso e b low s) (λ _ t d k. walks y iso es d (suc e) k r.1 t)

ruleset quietly = (
  q_ret,
  q_bind,
  q_test,
  q_read,
  q_write,
  q_wait,
  q_callback,
  q_get,
  q_put,
  q_is,
  q_look,
  q_fetch,
  q_complete,
  q_no_wakes,
  q_waken,
  q_send,
)

looks-freely : (n : ℕ) → NoPacketArrives freely Unit (looks n)
unfolding looks
looks-freely zero = search quietly
looks-freely (suc n) = q_bind (q_read refl (λ v. q_ret)) (λ m. q_test q_ret (looks-freely n))

of-settle : (x : Transfer) → NoPacketArrives freely Transfer (settle x)
of-settle x = search (looks-freely, nak-freely, quietly) depth 40

-- none was decided yet
abbrev None : ℕ → Type 0
None b = b ≤ 0

of-served : (y : Transfer) (iso : Bool) (frame : ℕ) (s : Bk) (b : ℕ) → None b
    → Rises Any b (run {i = true} book_ops (served y iso frame) s)
of-served y iso frame s b h =
    r_bind (r-cond (not (is_sof y.st) && not (eqb s.0.kept.globals.sof_frame frame))
    (quiet {P = None} (of-sof frame) s b h) (r_end h))
    (λ _ t b h. r_bind (r-cond y.late (quiet {P = None}
    (of-late-walk frame (set_bits (every_iso_in t.0.kept.globals))) t b h) (r_end h))
    (λ _ t b h. r_bind (r-cond (not y.busy) (quiet {P = None} (of-dispatch (token y.st) y iso frame) t b h)
    (r_end h))
    (λ _ t b h. r_bind (r-cond (not (is_sof y.st))
    (walks y iso (set_bits (iso_outs t.0.kept.globals)) b 0 h (walk.walk-rises (iso_outs t.0.kept.globals)) t)
    (r_end tt))
    (λ _ t b h. r-cond (eqb (endpoint y.st) 0) (quiet {P = Any} (of-ep0-moved (token y.st)) t b tt) (r_end tt)))))

of-transfer : (s : Bk) (b : ℕ) → None b → Rises Any b (run {i = true} book_ops on_transfer s)
of-transfer s b h =
    r_ask (none refl) (λ m t. r_ask (none refl) (λ st u. r_ask (none refl) (λ n w.
    r_bind (r-cond (not (not (sie_free m)) || (not (is_sof st) && not (eqb (endpoint st) 0)))
    (quiet {P = None} (nak-freely st) w b h) (r_end h))
    (λ _ t b h. r_ask (none refl) (λ _ t.
    r_bind (quiet {P = None} (of-settle (entered m st n)) t b h)
    (λ x t b h. r_ask (none refl) (λ frame z.
    let iso = iso_for (token x.st) (t.0.kept.plain Out (endpoint x.st))
    (t.0.kept.plain In (endpoint x.st)) in
    of-served (framed x iso z.0.kept.globals.sof_frame frame) iso frame z b h)))))))

told_write : (u : Bool) (v : ℕ) (s : Bk) (b : ℕ) → None b
    → Rises None b (run {i = true} book_ops (when u (write IntFg 0 v)) s)
told_write u v s b h = r-cond u (r_ask (none refl) (λ _ t. r_end h)) (r_end h)

of-entered : (s : Bk) (b : ℕ) → None b → Rises Any b (run {i = true} book_ops on_interrupt s)
of-entered s b h =
    r_ask (none refl) (λ flag t.
    r_bind (r-cond (bus_rst flag) (quiet {P = None} (of-masked (λ w. with_bus_rst w false)) t b h) (r_end h))
    (λ _ t b h. r_bind (r-cond (suspend flag) (quiet {P = None} (of-masked (λ w. with_suspend w false)) t b h) (r_end h))
    (λ _ t b h. r_bind (told_write (fifo_ov flag) FIFO_OV t b h)
    (λ _ t b h. r_bind (told_write (hst_sof flag) HST_SOF t b h)
    (λ _ t b h. r_bind (r-cond (transfer flag) (of-transfer t b h) (r_end tt))
    (λ _ t b h. r-cond (setup_act flag) (quiet {P = Any} of-on-setup t b tt) (r_end tt)))))))

interrupt-rises : (s : Bk) → Rises Any 0 (run {i = true} book_ops interrupt_code s)
interrupt-rises s =
    r-cond (eqb s.0.kept.globals.stage 2)
    (r_bind {P = Any} (r_bind {P = Any}
    (r_bind {P = None} (quiet of-microframe (book_ops.act no_wakes s) 0 (omega arith)) (λ _ t b h. of-entered t b h))
    (λ _ t b h. r_end tt))
    (λ n t b h. r_end tt))
    (r_end tt)

-- ---- calls

abbrev WayRises : ℕ → Pending Answer Pages → Type 0
WayRises b idle = Unit {0}
WayRises b (busy false a k) = Unit {0}
WayRises b (busy true a k) = (v : ℕ) (u : Bk) → Rises Any b (k v u)

module _ (x : Ans Answer) where
  abbrev halts : Bool → tree.Out Bk Answer → Ans Answer × Machine Answer Pages
  halts i o = halt calls book.driver (fed book x) i o

  abbrev Stays : Call Config Op → ℕ → Ans Answer × Machine Answer Pages → Type 0
  Stays c b y = WayRises (above c y.0 b) y.1.under_way_lem

  plainly : (b : ℕ) (o : tree.Out Bk Answer) → WayRises b (halts false o).1.under_way_lem
  plainly b (ends z t) = tt
  plainly b (asks q t k) = tt

  halted : (c : Ans Answer → ℕ) (b : ℕ) → ((q : Access) → c (handed q) ≡ past_endpoint q b) → (o : tree.Out Bk Answer)
      → Rises Any b o
      → WayRises (c (halts true o).0) (halts true o).1.under_way_lem
  halted c b e (ends z t) w = tt
  halted c b e (asks q t k) (r_ask m g) = subst (λ (d : ℕ). (v : ℕ) (u : Bk) → Rises Any d (k v u)) (sym (e q)) g

  either : (c : Call Config Op) (b : ℕ) (u : Bool) (y z : Ans Answer × Machine Answer Pages) → Stays c b y → Stays c b z
      → Stays c b (cond u y z)
  either c b true y z p q = p
  either c b false y z p q = q

  begin_idle : (o : Op) (b : ℕ) (s : Bk) → Stays (begin o) b (halts (calls.irq o) (run book_ops (code o) s))
  begin_idle interrupt b s = halted (λ a. above (begin interrupt) a b) 0 (λ q. refl) (run book_ops interrupt_code s)
      (interrupt-rises s)
  begin_idle (slotted o) b s = let z = run book_ops (code (slotted o)) s in plainly
      (above (begin (slotted o)) (halts false z).0 b) z
  begin_idle (other o) b s = let z = run book_ops (code (other o)) s in plainly
      (above (begin (other o)) (halts false z).0 b) z
  begin_idle (aside o) b s = let z = run book_ops (code (aside o)) s in plainly
      (above (begin (aside o)) (halts false z).0 b) z

  passing : (b : ℕ) (o : Aside) (m : Machine Answer Pages) (z : tree.Out Bk Answer) → WayRises b m.under_way_lem
      → Stays (begin (aside o)) b (during_interrupt calls book.driver m z)
  passing b o m (ends z u) h = h
  passing b o m (asks q u g) h = h

  begun-rises : (b : ℕ) (o : Op) (n : Machine Answer Pages) (w : Pending Answer Pages) → n.under_way_lem ≡ w → (l : Buf)
      → WayRises b w
      → Stays (begin o) b (begun calls book.driver (fed book x) o n w l)
  begun-rises b o n idle p l h = begin_idle o b (n.st, l)
  begun-rises b interrupt n (busy true a k) p l h = subst (WayRises b) (sym p) h
  begun-rises b (slotted o) n (busy true a k) p l h = subst (WayRises b) (sym p) h
  begun-rises b (other o) n (busy true a k) p l h = subst (WayRises b) (sym p) h
  begun-rises b (aside o) n (busy true a k) p l h = passing b o (lent_to calls book.driver n l)
      (run book_ops (aside_code o) (n.st, l))
      (subst (WayRises b) (sym p) h)
  begun-rises b o n (busy false a k) p l h = subst (WayRises b) (sym p) h

  continued-rises : (b v : ℕ) (n : Machine Answer Pages) (w : Pending Answer Pages) → n.under_way_lem ≡ w → (l : Buf)
      → WayRises b w
      → Stays (continue v) b (continued calls book.driver (fed book x) v n w l)
  continued-rises b v n idle p l h = subst (WayRises b) (sym p) tt
  continued-rises b v n (busy true a k) p l h = either (continue v) b (over calls a v)
      (stay calls book.driver 16 (lent_to calls book.driver n l))
      (halts true (k v (n.st, l))) (subst (WayRises b) (sym p) h)
      (halted (λ z. above (continue v) z b) b (λ q. refl) (k v (n.st, l)) (h v (n.st, l)))
  continued-rises b v n (busy false a k) p l h = either (continue v) b (over calls a v)
      (stay calls book.driver 16 (lent_to calls book.driver n l))
      (halts false (k v (n.st, l))) (subst (WayRises b) (sym p) h)
      (plainly (above (continue v) (halts false (k v (n.st, l))).0 b) (k v (n.st, l)))

  started-rises : (b : ℕ) (g : Config) (r : ℕ) (n : Machine Answer Pages) (l : Buf) → WayRises b n.under_way_lem
      → Stays (start g) b (started calls book.driver (fed book x) g r n l)
  started-rises b g zero n l h = let z = run book_ops (starting g) (fresh_pages g, l) in plainly
      (above (start g) (halts false z).0 b) z
  started-rises b g (suc r) n l h = h

  call-rises : (c : Call Config Op) (b : ℕ) (n : Machine Answer Pages) (l : Buf) → WayRises b n.under_way_lem
      → Stays c b (book_step x c n l)
  call-rises (start g) b n l h = started-rises b g (start_row g l) n l h
  call-rises (begin o) b n l h = either (begin o) b (cond (calls.slots o) (misfit calls book.driver n.st l)
      false)
      (stay calls book.driver 1 n) (begun calls book.driver (fed book x) o n n.under_way_lem l) h
      (begun-rises b o n n.under_way_lem refl l h)
  call-rises (continue v) b n l h = either (continue v) b (misfit calls book.driver n.st l)
      (stay calls book.driver 1 n)
      (continued calls book.driver (fed book x) v n n.under_way_lem l) h
      (continued-rises b v n n.under_way_lem refl l h)
  call-rises (question q) b n l h = h

above_same : (c : Call Config Op) (b : ℕ) (a z : Ans Answer) → blank_a a ≡ blank_a z → above c a b ≡ above c z b
above_same (start c) b = tells-same (λ z. above (start c) z b) (λ _ _. refl, λ _ _. refl, λ _. refl)
above_same (begin o) b = tells-same (λ z. above (begin o) z b) (λ _ _. refl, λ _ _. refl, λ _. refl)
above_same (continue v) b = tells-same (λ z. above (continue v) z b) (λ _ _. refl, λ _ _. refl, λ _. refl)
above_same (question q) b = λ _ _ _. refl

abbrev is_handed : Ans Answer → Bool
is_handed (ended z) = false
is_handed (handed q) = true
is_handed (told k) = false

abbrev access_of : Ans Answer → Access
access_of (ended z) = Callback
access_of (handed q) = q
access_of (told n) = Callback

module _ (a : Ans Answer) (b e x v : ℕ) (n : Machine Answer Pages) (l : Buf) where
  abbrev Low : Ans Answer × Machine Answer Pages → Type 0
  Low y = y.0 ≡ handed (Receive e x) → b ≤ e

  low : (o : tree.Out Bk Answer) → Rises Any b o → Low (halt calls book.driver (fed book a) true o)
  low (ends z t) w k = absurd (true≢false (sym (ap is_handed k)))
  low (asks q t f) (r_ask m g) k = m e x (ap access_of k)

  by_way : (w : Pending Answer Pages) → WayRises b w → in_interrupt w ≡ true
      → Low (continued calls book.driver (fed book a) v n w l)
  by_way idle h i = absurd (true≢false (sym i))
  by_way (busy false q r) h i = absurd (true≢false (sym i))
  by_way (busy true q r) h i = by (over calls q v)
    where
      by : (u : Bool) → Low (cond u (stay calls book.driver 16 (lent_to calls book.driver n l))
          (halt calls book.driver (fed book a) true (r v (n.st, l))))
      by true = λ k. absurd (true≢false (sym (ap is_handed k)))
      by false = low (r v (n.st, l)) (h v (n.st, l))

  by_call : WayRises b n.under_way_lem → in_interrupt n.under_way_lem ≡ true → Low (book_step a (continue v) n l)
  by_call h i = by (misfit calls book.driver n.st l)
    where
      by : (u : Bool) → Low (cond u (stay calls book.driver 1 n)
          (continued calls book.driver (fed book a) v n n.under_way_lem l))
      by true = λ k. absurd (true≢false (sym (ap is_handed k)))
      by false = by_way n.under_way_lem h i

in_order_lem : (c : Call Config Op) (a : Ans Answer) (b e : ℕ) (n : Machine Answer Pages) → WayRises b n.under_way_lem
    → (l : Buf)
    → blank_a a ≡ blank_a (book_step a c n l).0 → Decides c n a e → b ≤ e
in_order_lem c a b e n h l same d =
    let same' : blank_a a ≡ blank_a (book_step a (continue d.brought) n l).0
    = subst (λ (c : Call Config Op). blank_a a ≡ blank_a (book_step a c n l).0) d.continues same in
    let z = same-receive (book_step a (continue d.brought) n l).0 a e d.address (sym same') d.hands in
    by_call a b e z.0 d.brought n l h d.interrupt z.1

-- ---- every list of calls

each : (ms : List CallRecord) (xs : List ℕ) (a : Buf) {φ : Phase} (n : Machine Answer Pages) (b : ℕ)
    → Ways driver_of book agree calls φ (machine_of xs a).under_way_lem n.under_way_lem → Coupling φ a (view xs) n.st
    → WayRises b n.under_way_lem
    → page.Calls xs a n ms → OrderEach n b ms
each [] xs a n b w R t p = tt
each (m ∷ ms) xs a n b w R t p =
    let c = m.event.call in
    let l = m.event.lent in
    let k : After driver_of book agree calls (m.answer, machine_of m.bytes m.slots) (page.book_after m n)
    = subst (λ (x : Ans Answer × Machine Answer Driver). After driver_of book agree calls x (book_step x.0 c n l))
    (sym p.0)
    (agrees driver_of book agree calls fresh_kept c l (machine_of xs a) n w R
    (lent_is (machine_of xs a) n R l c p.1)) in (
      λ e d. in_order_lem c m.answer b e n t l k.same d,
      each ms m.bytes m.slots (page.book_after m n).1 (above c m.answer b) k.ways k.rest
          (subst (λ (d : ℕ). WayRises d (page.book_after m n).1.under_way_lem)
          (above_same c b (page.book_after m n).0 m.answer (sym k.same))
          (call-rises m.answer c b n l t)) p.2,
    )

pub arrivals-in-order : (c : Config) (b : Buf) → start_row c b ≡ zero
    → (xs : List ℕ) (a : Buf) (n : Machine Answer Pages) (first : CallRecord)
    → first.event ≡ record { call = start c; lent = b } → (ms : List CallRecord) → page.Calls xs a n (first ∷ ms)
    → (d : ℕ) → OrderEach (page.book_after first n).1 (above first.event.call first.answer d) ms
arrivals-in-order c b row xs a n first is ms p d =
    each ms first.bytes first.slots (page.book_after first n).1 _ begun'.ways begun'.rest rises p.2
  where
    begun' : After driver_of book agree calls (first.answer, machine_of first.bytes first.slots)
        (page.book_after first n)
    begun' = subst (λ (x : Ans Answer × Machine Answer Driver). After driver_of book agree calls x
        (book_step x.0 first.event.call n first.event.lent))
        (sym p.0) (subst (λ (v : Event Config Op). let x = drive v.call (machine_of xs a) v.lent in
        After driver_of book agree calls x (book_step x.0 v.call n v.lent)) (sym is)
        (rw row (from_start driver_of book agree calls fresh_kept c b row [] (machine_of xs a) n tt).0))

    rises : WayRises (above first.event.call first.answer d) (page.book_after first n).1.under_way_lem
    rises = subst (λ (v : Event Config Op). WayRises (above first.event.call first.answer d)
        (book_step first.answer v.call n v.lent).1.under_way_lem) (sym is)
        (subst (λ (r : ℕ). WayRises (above first.event.call first.answer d)
        (started calls book.driver (fed book first.answer) c r n b).1.under_way_lem) (sym row)
        (plainly first.answer (above first.event.call first.answer d)
        (run book_ops (starting c) (fresh_pages c, b))))
