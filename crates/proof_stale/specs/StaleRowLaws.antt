-- Each receive address with which an isochronous OUT is enabled or disabled arms its slot: of the row's begin
-- StaleEnablesLaws.antt says so, here are its continues
use Rattle.std.specs.Prelude.{Bool, true, false, cond, ◌&&◌, ◌≡◌, refl, ℕ, zero, suc, ◌+◌, ◌%◌, eqb}
use Rattle.std.proofs.Common.{true≢false, ap, subst, sym, ◌∙◌, eqb-true}
use Rattle.regs.specs.declared.Access.{Access}
use Rattle.regs.specs.declared.Dir.TheVariants.{Out, In}
use Rattle.script.specs.Tree as tree
use Rattle.script.specs.Tree.{ends, asks, bind_out}
use Rattle.script.specs.Script.{Script, run, rows, ret, bind, test, ◌>>=◌, ◌>>◌, row, switch, fetch, gathered, no_wakes}
use Rattle.script.specs.Bus.{set_enabled_out}
use Rattle.script.specs.Statics.{wake}
use Rattle.script.specs.Answers.{Answer, End, is_allocated, resultless}
use Rattle.script.specs.Calls.{Config, Op, interrupt, slotted, other, aside, SetEnabled, PollRead, BeginWrite}
use Rattle.script.specs.Calls.{PollWrite}
use Rattle.script.specs.Calls.{PollDataOut, BeginDataIn, calls, code, starting, start_row}
use Rattle.script.specs.Machine.{Buf, Call, start, begin, continue, question, Ans, ended, handed, told, Pending, idle}
use Rattle.script.specs.Machine.{busy}
use Rattle.script.specs.Machine.{Machine, over, misfit, stay, lent_to, during_interrupt, halt, begun, continued, started}
use Rattle.script.specs.Machine.{fed}
use Rattle.script.specs.Machine.{call}
use Rattle.proof_book.specs.Pages.{Pages}
use Rattle.proof_book.specs.Book.{iso_of}
use Rattle.proof_book.specs.FrontPage.{gives_to}
use Rattle.proof_book.specs.AnswersLaws.{is_handed}
use Rattle.proof_stale.specs.Stale.{switches, under_way}
use Rattle.proof_stale.specs.Counted.{Seen, one_more, seen}
use Rattle.proof_stale.specs.StaleArmsLaws.{gives}

module _ (e : ℕ) where
  abbrev iso : Seen × Buf → Bool
  iso s = iso_of s.0.pages Out e

  -- at an access: one more at its receive address, where it is isochronous
  abbrev At : ℕ → Bool → Access → Seen × Buf → Type 0
  At m r q s = (s.0.armings ≡ one_more (gives_to q e && r) m) × ((gives_to q e && r) ≡ true → s.0.armed ≡ true)

  pub data Rows {A : Type 0} : ℕ → Bool → tree.Out (Seen × Buf) A → Type 0 where
    end : {m : ℕ} {r : Bool} {a : A} {s : Seen × Buf} → Rows m r (ends a s)
    ask : {m : ℕ} {r : Bool} {q : Access} {s : Seen × Buf} {k : ℕ → Seen × Buf → tree.Out (Seen × Buf) A} → At m r q s
        → ((v : ℕ) (t : Seen × Buf) → Rows t.0.armings (iso t) (k v t)) → Rows m r (asks q s k)

  none : {X : Type 0} → false ≡ true → X
  none h = absurd (true≢false (sym h))

  rows_bind : {A B : Type 0} {m : ℕ} {r : Bool} {o : tree.Out (Seen × Buf) A} {f : A → Seen × Buf → tree.Out
      (Seen × Buf) B}
      → Rows m r o → ((m : ℕ) (r : Bool) (a : A) (t : Seen × Buf) → Rows m r (f a t)) → Rows m r (bind_out o f)
  rows_bind {m = m} {r = r} (end {a = a} {s = s}) g = g m r a s
  rows_bind (ask p x) g = ask p (λ v t. rows_bind (x v t) g)

  rows_row : {A : Type 0} (on : Bool) (j : ℕ) {f : Seen × Buf → tree.Out (Seen × Buf) A}
      → ((m : ℕ) (r : Bool) (t : Seen × Buf) → Rows m r (f t)) → (s : Seen × Buf)
      → Rows s.0.armings (iso s) (rows (seen e).driver.ops (switch e on) j f s)
  rows_row on zero g s = ask (refl, none) (λ v t. g t.0.armings (iso t) t)
  rows_row on (suc zero) g s = ask (refl, none) (λ v t. rows_row on zero g t)
  rows_row on (suc (suc zero)) g s = ask (refl, none) (λ v t. rows_row on (suc zero) g t)
  rows_row on (suc (suc (suc k))) g s = ask (refl, λ h. h) (λ v t. rows_row on (suc (suc k)) g t)

  rows_then : {A B : Type 0} (p : Script false A) (f : A → Script false B) (s : Seen × Buf) (m : ℕ) (r : Bool)
      → Rows m r (run (seen e).driver.ops p s)
      → ((m : ℕ) (r : Bool) (a : A) (t : Seen × Buf) → Rows m r (run (seen e).driver.ops (f a) t))
      → Rows m r (run (seen e).driver.ops (bind p f) s)
  rows_then p f s m r x g = rows_bind {f = λ a t. run (seen e).driver.ops (f a) t} x g

  -- ---- the operation

  abbrev Runs : (o : Op) → Seen × Buf → Type 0
  Runs o s = Rows s.0.armings (iso s) (run (seen e).driver.ops (code o) s)

  by_test : (m : ℕ) (r : Bool) (u : Bool) (x z : tree.Out (Seen × Buf) Answer) → Rows m r x → Rows m r z → Rows m r
      (cond u x z)
  by_test m r true x z p q = p
  by_test m r false x z p q = q

  abbrev body : Bool → Bool → Script false Answer
  body on z = resultless (do
    test z (row (switch e on)) (set_enabled_out e on)
    wake Out e)

  body_rows : (on z : Bool) (s : Seen × Buf) → z ≡ true → Rows s.0.armings (iso s)
      (run (seen e).driver.ops (body on z) s)
  body_rows on true s h =
      let t = (seen e).driver.ops.act no_wakes s in
      let m = s.0.armings in
      let r = iso s in
      let row-and-wake : Script false Unit = bind (test true (row (switch e on)) (set_enabled_out e on))
      (λ _. wake Out e) in
      rows_then (bind row-and-wake (λ _. ret 0)) (λ n. bind (fetch gathered) (λ w. ret (End n w))) t m r
      (rows_then row-and-wake (λ _. ret 0) t m r
      (rows_then (test true (row (switch e on)) (set_enabled_out e on)) (λ _. wake Out e) t m r
      (rows_row on 18 {f = λ u. ends tt u} (λ m r u. end) t) (λ m r a u. end)) (λ m r a u. end)) (λ m r a u. end)
  body_rows on false s h = none h

  switch_rows : (on : Bool) (s : Seen × Buf) → iso s ≡ true → Runs (slotted (SetEnabled Out e on)) s
  switch_rows on s h = by_test _ _ (eqb s.0.pages.kept.globals.stage 2) _ _
      (by_test _ _ (is_allocated s.0.pages.kept.allocator Out e) _ _ (body_rows on (iso s) s h) end) end

  and_left : (a b : Bool) → (a && b) ≡ true → a ≡ true
  and_left true b h = refl
  and_left false b h = none h

  and_right : (a b : Bool) → (a && b) ≡ true → b ≡ true
  and_right true b h = h
  and_right false b h = none h

  op_rows : (o : Op) (u : Bool) (s : Seen × Buf) → (u ≡ true → iso s ≡ true) → (switches e o && u) ≡ true → Runs o s
  op_rows (slotted (SetEnabled Out f on)) u s h p =
      subst (λ (j : ℕ). Runs (slotted (SetEnabled Out j on)) s) (sym (eqb-true f e (and_left (eqb f e) u p)))
      (switch_rows on s (h (and_right (eqb f e) u p)))
  op_rows interrupt u s h p = none p
  op_rows (slotted (SetEnabled In f on)) u s h p = none p
  op_rows (slotted (PollRead f k)) u s h p = none p
  op_rows (slotted (BeginWrite f bytes)) u s h p = none p
  op_rows (slotted (PollWrite f bytes)) u s h p = none p
  op_rows (slotted (PollDataOut k)) u s h p = none p
  op_rows (slotted (BeginDataIn bytes first last)) u s h p = none p
  op_rows (other o) u s h p = none p
  op_rows (aside o) u s h p = none p

  -- ---- the machine

  abbrev RowsWay : Pending Answer Seen → Type 0
  RowsWay idle = Unit {0}
  RowsWay (busy i q k) = (v : ℕ) (t : Seen × Buf) → Rows t.0.armings (iso t) (k v t)

  -- s: it is being enabled or disabled
  abbrev pub Rowing : Bool → Machine Answer Seen → Type 0
  Rowing s y = s ≡ true → RowsWay y.under_way_lem

  module _ (a : Ans Answer) where
    abbrev tells : Seen → Seen
    tells s = fed (seen e) a s

    told_armings : (z : Ans Answer) (s : Seen) → (fed (seen e) z s).armings ≡ s.armings
    told_armings (ended x) s = refl
    told_armings (handed q) s = refl
    told_armings (told n) s = refl

    told_armed : (z : Ans Answer) (s : Seen) → (fed (seen e) z s).armed ≡ s.armed
    told_armed (ended x) s = refl
    told_armed (handed q) s = refl
    told_armed (told n) s = refl

    abbrev halts : Bool → tree.Out (Seen × Buf) Answer → Ans Answer × Machine Answer Seen
    halts i o = halt calls (seen e).driver tells i o

    halted : (i : Bool) (o : tree.Out (Seen × Buf) Answer) (m : ℕ) (r : Bool) → (is_handed (halts i o).0 ≡ true
        → Rows m r o)
        → RowsWay (halts i o).1.under_way_lem
    halted i (ends z s) m r h = tt
    halted i (asks q s k) m r h = of (h refl)
      where
        of : Rows m r (asks q s k) → (v : ℕ) (t : Seen × Buf) → Rows t.0.armings (iso t) (k v t)
        of (ask x f) = f

    module _ (n : Machine Answer Pages) (s : Bool) (y : Machine Answer Seen) (b : Buf)
        (same : iso_of n.st Out e ≡ true → iso_of y.st.pages Out e ≡ true) (g : Rowing s y) where
      abbrev Next : Call Config Op → Ans Answer × Machine Answer Seen → Type 0
      Next c z = is_handed a ≡ is_handed z.0 → Rowing (under_way e n c a s) z.1

      either : (c : Call Config Op) (u : Bool) (x z : Ans Answer × Machine Answer Seen) → Next c x → Next c z → Next c
          (cond u x z)
      either c true x z p q = p
      either c false x z p q = q

      begin_stays : (o : Op) (k : ℕ) (m : Machine Answer Seen) → m.under_way_lem ≡ y.under_way_lem → Next (begin o)
          (stay calls (seen e).driver k m)
      begin_stays o k m w h p = subst RowsWay (sym w)
          (g (sym (ap (λ (u : Bool). cond u (switches e o && iso_of n.st Out e) s) h) ∙ p))

      begins : (o : Op) (w : Pending Answer Seen) → w ≡ y.under_way_lem
          → Next (begin o) (begun calls (seen e).driver tells o y w b)
      begins o idle w = λ h p. halted (calls.irq o) (run (seen e).driver.ops (code o) (y.st, b)) y.st.armings
          (iso (y.st, b))
          (λ hands. op_rows o (iso_of n.st Out e) (y.st, b) same
          (sym (ap (λ (u : Bool). cond u (switches e o && iso_of n.st Out e) s) (h ∙ hands)) ∙ p))
      begins o (busy i q k) w = either (begin o) (cond i (calls.aside o) false) _ _
          (beside_stays (run (seen e).driver.ops (code o) (y.st, b)))
          (begin_stays o 3 (lent_to calls (seen e).driver y b) refl)
        where
          beside_stays : (z : tree.Out (Seen × Buf) Answer) → Next (begin o) (during_interrupt calls (seen e).driver
              (lent_to calls (seen e).driver y b) z)
          beside_stays (ends z t) h p = g (sym (ap (λ (u : Bool). cond u (switches e o && iso_of n.st Out e) s) h)
              ∙ p)
          beside_stays (asks r t f) h p = g (sym (ap (λ (u : Bool). cond u (switches e o && iso_of n.st Out e) s) h)
              ∙ p)

      goes : (v : ℕ) (w : Pending Answer Seen) → w ≡ y.under_way_lem
          → Next (continue v) (continued calls (seen e).driver tells v y w b)
      goes v idle w = λ h p. g p
      goes v (busy i q k) w = either (continue v) (over calls q v) _ _ (λ h p. g p)
          (λ h p. halted i (k v (y.st, b)) y.st.armings (iso (y.st, b)) (λ _. subst RowsWay (sym w) (g p) v
          (y.st, b)))

      pub call_rows : (c : Call Config Op) → Next c (call calls (seen e).driver tells c y b)
      call_rows (start c) = by (start_row c b)
        where
          by : (r : ℕ) → Next (start c) (started calls (seen e).driver tells c r y b)
          by zero h p = halted false (run (seen e).driver.ops (starting c) ((seen e).driver.fresh c, b)) 0 false
              (λ hands. none (sym (ap (λ (u : Bool). cond u false s) (h ∙ hands)) ∙ p))
          by (suc r) h p = g (sym (ap (λ (u : Bool). cond u false s) h) ∙ p)
      call_rows (begin o) = either (begin o) (cond (calls.slots o) (misfit calls (seen e).driver y.st b) false) _ _
          (begin_stays o 1 y refl) (begins o y.under_way_lem refl)
      call_rows (continue v) = either (continue v) (misfit calls (seen e).driver y.st b) _ _ (λ h p. g p)
          (goes v y.under_way_lem refl)
      call_rows (question q) = λ h p. g p

    -- at its receive address
    abbrev Counts : Machine Answer Seen → Ans Answer × Machine Answer Seen → Type 0
    Counts y z = gives e z.0 ≡ true → (z.1.st.armings ≡ one_more (iso_of y.st.pages Out e) y.st.armings)
        × (iso_of y.st.pages Out e ≡ true → z.1.st.armed ≡ true)

    either_counts : (y : Machine Answer Seen) (u : Bool) (x z : Ans Answer × Machine Answer Seen) → Counts y x
        → Counts y z → Counts y (cond u x z)
    either_counts y true x z p q = p
    either_counts y false x z p q = q

    halt_counts : (y : Machine Answer Seen) (i : Bool) (o : tree.Out (Seen × Buf) Answer) → Rows y.st.armings
        (iso_of y.st.pages Out e) o
        → Counts y (halts i o)
    halt_counts y i (ends z s) h g = none g
    halt_counts y i (asks q s k) (ask p f) g = (
      told_armings a s.0 ∙ (p.0 ∙ ap (λ (u : Bool). one_more (u && iso_of y.st.pages Out e) y.st.armings) g),
      λ on. told_armed a s.0 ∙ p.1 (ap (λ (u : Bool). u && iso_of y.st.pages Out e) g ∙ on),
    )

    goes_counts : (v : ℕ) (y : Machine Answer Seen) (b : Buf) (w : Pending Answer Seen) → RowsWay w
        → Counts y (continued calls (seen e).driver tells v y w b)
    goes_counts v y b idle h = λ g. none g
    goes_counts v y b (busy i q k) h = either_counts y (over calls q v) _ _ (λ g. none g)
        (halt_counts y i (k v (y.st, b)) (h v (y.st, b)))

    pub row_counts : (v : ℕ) (y : Machine Answer Seen) (b : Buf) → RowsWay y.under_way_lem → Counts y
        (call calls (seen e).driver tells (continue v) y b)
    row_counts v y b h = either_counts y (misfit calls (seen e).driver y.st b) _ _ (λ g. none g)
        (goes_counts v y b y.under_way_lem h)
