-- A driver and a book whose operations agree one by one agree over every list of calls
use Rattle.std.specs.Prelude.{Bool, true, false, not, cond, List, [], ◌∷◌, ◌≡◌, refl, ℕ, zero, suc, eqb, length}
use Rattle.std.proofs.Common.{ap, subst, sym, ◌∙◌}
use Rattle.regs.specs.declared.Access.{Access}
use Rattle.regs.specs.declared.Access.TheVariants.{Read, Write, Receive, Transmit, Ep0Dma, Wait, Callback}
use Rattle.regs.specs.declared.Dir.TheVariants.{Out, In}
use Rattle.script.specs.Tree as tree
use Rattle.script.specs.Cells.{Cell, Val}
use Rattle.script.specs.Script.{Test, Look, Fetch, Act, DmaStep, arrive, send, place, place0}
use Rattle.script.specs.Script.{dma_step_ask, Burst, last_of, burst_ask}
use Rattle.script.specs.Simulates.{Rels, Sim, end, ask, alike, Phase, quiet, mid, Fits, Bare}
use Rattle.script.specs.Machine.{Buf, Question, Call, start, begin, continue, question, Event, Ans, ended, handed}
use Rattle.script.specs.Machine.{told}
use Rattle.script.specs.Machine.{Awaits, awaited, Pending, idle, busy, Machine, Calls, Instance, Book, fed, blank}
use Rattle.script.specs.Machine.{blank_a, over, misfit, stay, lent_to, during_interrupt, halt, begun, continued}
use Rattle.script.specs.Machine.{started, call}

-- what is to be shown of a driver D and a book K, operation by operation
pub record Agree {C S T : Type 0} (D : Instance C S) (K : Book C T) : Type 1 where
  -- the relation of buffer, driver and book between calls; what the book promises of an access once told; the chip's
  -- stores
  pub Coupling : Phase → Buf → S → T → Type 0
  pub Good : Access → Buf → T → Type 0
  pub Chip : T → Buf → Buf → Type 0
  pub chip : (b b' : Buf) (φ : Phase) (s : S) (t : T) → Coupling φ b s t → Chip t b b' → Coupling φ b' s t
  pub size : (φ : Phase) (b : Buf) (s : S) (t : T) → Coupling φ b s t → D.size s ≡ K.driver.size t
  pub answer : (q : Question) (φ : Phase) (b : Buf) (s : S) (t : T) → Coupling φ b s t → D.question q s
      ≡ K.driver.question q t
  pub unfed : (q : Access) → Bare q → (t : T) → K.feed q t ≡ t
  pub good_bare : (q : Access) → Bare q → (b : Buf) (t : T) → Good q b t
  pub get : (c : Cell) (b : Buf) (s : S) (t : T) → Coupling quiet b s t → D.ops.get c (s, b)
      ≡ K.driver.ops.get c (t, b)
  pub put : (c : Cell) (v : Val c) (b : Buf) (s : S) (t : T)
      → Coupling quiet b s t → ((D.ops.put c v (s, b)).1 ≡ (K.driver.ops.put c v (t, b)).1)
      × Coupling quiet (D.ops.put c v (s, b)).1 (D.ops.put c v (s, b)).0 (K.driver.ops.put c v (t, b)).0
  pub is : (q : Test) (b : Buf) (s : S) (t : T) → Coupling quiet b s t → D.ops.is q (s, b)
      ≡ K.driver.ops.is q (t, b)
  pub look : (q : Look) (b : Buf) (s : S) (t : T) → Coupling quiet b s t → D.ops.look q (s, b)
      ≡ K.driver.ops.look q (t, b)
  pub fetch : (q : Fetch) (b : Buf) (s : S) (t : T) → Coupling quiet b s t → D.ops.fetch q (s, b)
      ≡ K.driver.ops.fetch q (t, b)
  pub act : (q : Act) (b : Buf) (s : S) (t : T) → Coupling quiet b s t
      → ((D.ops.act q (s, b)).1 ≡ (K.driver.ops.act q (t, b)).1)
      × Coupling quiet (D.ops.act q (s, b)).1 (D.ops.act q (s, b)).0 (K.driver.ops.act q (t, b)).0
  pub hand : (q : DmaStep) (b : Buf) (s : S) (t : T) → Coupling quiet b s t → let x = D.ops.hand q (s, b) in
      let t' = K.feed (dma_step_ask q x.0) (K.driver.ops.hand q (t, b)).1.0 in
      Coupling quiet x.1.1 x.1.0 t' × Good (dma_step_ask q x.0) x.1.1 t'
  pub first : (g : Burst) (b : Buf) (s : S) (t : T) → Coupling quiet b s t → let n = last_of g in
      let x = D.ops.row g n (s, b) in let t' = K.feed (burst_ask g n x.0) (K.driver.ops.row g n (t, b)).1.0 in
      (blank (burst_ask g n x.0) ≡ blank (burst_ask g n (K.driver.ops.row g n (t, b)).0))
      × Coupling (mid g n) x.1.1 x.1.0 t' × Good (burst_ask g n x.0) x.1.1 t'
  pub next : (g : Burst) (n : ℕ) (b : Buf) (s : S) (t : T) → Coupling (mid g (suc n)) b s t
      → let x = D.ops.row g n (s, b) in let t' = K.feed (burst_ask g n x.0)
      (K.driver.ops.row g n (t, b)).1.0 in
      (blank (burst_ask g n x.0) ≡ blank (burst_ask g n (K.driver.ops.row g n (t, b)).0))
      × Coupling (mid g n) x.1.1 x.1.0 t' × Good (burst_ask g n x.0) x.1.1 t'
  pub finish : (g : Burst) (b : Buf) (s : S) (t : T) → Coupling (mid g zero) b s t → Coupling quiet b s t

pub blank-hand : (q : DmaStep) (x y : ℕ) → blank (dma_step_ask q x) ≡ blank (dma_step_ask q y)
blank-hand (arrive e n) x y = refl
blank-hand (send e) x y = refl
blank-hand (place Out e) x y = refl
blank-hand (place In e) x y = refl
blank-hand place0 x y = refl

module _ {C S T : Type 0} (D : Instance C S) (K : Book C T) (M : Agree D K) where
  -- inside a call: the same bytes are before both
  pub record In-call (φ : Phase) (x : S × Buf) (y : T × Buf) : Type 0 where
    pub bytes : x.1 ≡ y.1
    pub rest : M.Coupling φ x.1 x.0 y.0

  -- where it hands out an access
  pub record Handed (φ : Phase) (q q' : Access) (x : S × Buf) (y : T × Buf) : Type 0 where
    pub same : blank q ≡ blank q'
    pub rest : M.Coupling φ x.1 x.0 (K.feed q y.0)
    pub good : M.Good q x.1 (K.feed q y.0)

  pub moved : {A : Type 0} (f : T × Buf → A) {φ : Phase} {x : S × Buf} {y : T × Buf} → In-call φ x y → f (y.0, x.1)
      ≡ f y
  moved f {x = x} {y = y} r = ap (λ b. f (y.0, b)) r.bytes

  abbrev pub rels : Rels D.ops K.driver.ops
  rels = record {
    R = In-call;
    At = Handed;
    bare = λ q p {s} {t} h. record {
      same = refl;
      rest = subst (λ z. M.Coupling quiet s.1 s.0 z) (sym (M.unfed q p t.0)) h.rest;
      good = M.good_bare q p _ _;
    };
    gets = λ c {s} {t} h. M.get c s.1 s.0 t.0 h.rest ∙ moved (K.driver.ops.get c) h;
    puts = λ c v {s} {t} h. subst (λ b. In-call quiet (D.ops.put c v s) (K.driver.ops.put c v (t.0, b)))
        h.bytes (let z = M.put c v s.1 s.0 t.0 h.rest in record { bytes = z.0; rest = z.1 });
    tests = λ q {s} {t} h. M.is q s.1 s.0 t.0 h.rest ∙ moved (K.driver.ops.is q) h;
    looks = λ q {s} {t} h. M.look q s.1 s.0 t.0 h.rest ∙ moved (K.driver.ops.look q) h;
    fetches = λ q {s} {t} h. M.fetch q s.1 s.0 t.0 h.rest ∙ moved (K.driver.ops.fetch q) h;
    acts = λ q {s} {t} h. subst (λ b. In-call quiet (D.ops.act q s) (K.driver.ops.act q (t.0, b)))
        h.bytes (let z = M.act q s.1 s.0 t.0 h.rest in record { bytes = z.0; rest = z.1 });
    hands = λ q {s} {t} h. subst
        (λ b. Handed quiet (dma_step_ask q (D.ops.hand q s).0) (dma_step_ask q (K.driver.ops.hand q (t.0, b)).0)
        (D.ops.hand q s).1 (K.driver.ops.hand q (t.0, b)).1) h.bytes
        (let z = M.hand q s.1 s.0 t.0 h.rest in record {
          same = blank-hand q _ _;
          rest = z.0;
          good
              = z.1;
        });
    first = λ g {s} {t} h. subst
        (λ b. Handed (mid g (last_of g)) (burst_ask g (last_of g) (D.ops.row g (last_of g) s).0)
        (burst_ask g (last_of g) (K.driver.ops.row g (last_of g) (t.0, b)).0)
        (D.ops.row g (last_of g) s).1 (K.driver.ops.row g (last_of g) (t.0, b)).1) h.bytes
        (let z = M.first g s.1 s.0 t.0 h.rest in record { same = z.0; rest = z.1; good = z.2 });
    next = λ g n {s} {t} h. subst
        (λ b. Handed (mid g n) (burst_ask g n (D.ops.row g n s).0)
        (burst_ask g n (K.driver.ops.row g n (t.0, b)).0)
        (D.ops.row g n s).1 (K.driver.ops.row g n (t.0, b)).1) h.bytes
        (let z = M.next g n s.1 s.0 t.0 h.rest in record { same = z.0; rest = z.1; good = z.2 });
    over = λ g {s} {t} h. record { bytes = h.bytes; rest = M.finish g s.1 s.0 t.0 h.rest };
  }

  module _ {Op A : Type 0} (L : Calls C Op A) where
    -- between calls: what is under way, and in which phase
    pub data Ways : Phase → Pending A S → Pending A T → Type 0 where
      both_idle : Ways quiet idle idle
      both_busy : (i : Bool) (a : Awaits) {φ : Phase} {k : ℕ → S × Buf → tree.Out (S × Buf) A}
          {k' : ℕ → T × Buf → tree.Out (T × Buf) A}
          → Fits i φ → ((v : ℕ) (s : S × Buf) (t : T × Buf) → In-call φ s t → Sim rels i (k v s) (k' v t))
          → Ways φ (busy i a k) (busy i a k')

    abbrev pub GoodA : Ans A → Buf → T → Type 0
    GoodA (ended a) b t = Unit {0}
    GoodA (handed q) b t = M.Good q b t
    GoodA (told n) b t = Unit {0}

    -- after a call: the same answer but for addresses, machines that agree, and what the book promises of the access
    pub record After (m : Ans A × Machine A S) (d : Ans A × Machine A T) : Type 0 where
      pub same : blank_a m.0 ≡ blank_a d.0
      pub phase : Phase
      pub ways : Ways phase m.1.under_way_lem d.1.under_way_lem
      pub rest : M.Coupling phase m.1.buf m.1.st d.1.st
      pub good : GoodA m.0 m.1.buf d.1.st

    -- the driver's call, and the book's, which is told the driver's answer
    abbrev pub drive : Call C Op → Machine A S → Buf → Ans A × Machine A S
    drive c m b = call L D (λ s. s) c m b

    abbrev pub write_up : Ans A → Call C Op → Machine A T → Buf → Ans A × Machine A T
    write_up x c d b = call L K.driver (fed K x) c d b

    -- what is lent: to a start-up, or where the length is wrong (row 1), any buffer; else the one that the last call
    -- left, but for the chip's stores
    abbrev pub unless : Bool → Type 0 → Type 0
    unless true X = Unit {0}
    unless false X = X

    abbrev pub LentAlike : Call C Op → Machine A S → Machine A T → Buf → Type 0
    LentAlike (start c) m d b = Unit {0}
    LentAlike (begin o) m d b = unless (cond (L.slots o) (misfit L D m.st b) false) (M.Chip d.st m.buf b)
    LentAlike (continue v) m d b = unless (misfit L D m.st b) (M.Chip d.st m.buf b)
    LentAlike (question q) m d b = M.Chip d.st m.buf b

    awaited_blank : (q : Access) → awaited q ≡ awaited (blank q)
    awaited_blank (Read r e) = refl
    awaited_blank (Write r e x) = refl
    awaited_blank (Receive e x) = refl
    awaited_blank (Transmit e x) = refl
    awaited_blank (Ep0Dma x) = refl
    awaited_blank (Wait n) = refl
    awaited_blank Callback = refl

    -- accesses that are the same but for addresses await the same
    awaited_same : (q q' : Access) → blank q ≡ blank q' → awaited q ≡ awaited q'
    awaited_same q q' p = awaited_blank q ∙ (ap awaited p ∙ sym (awaited_blank q'))

    both_ask : (i : Bool) (q q' : Access) → blank q ≡ blank q'
        → {φ : Phase} {k : ℕ → S × Buf → tree.Out (S × Buf) A} {k' : ℕ → T × Buf → tree.Out (T × Buf) A}
        → Fits i φ → ((v : ℕ) (s : S × Buf) (t : T × Buf) → In-call φ s t → Sim rels i (k v s) (k' v t))
        → Ways φ (busy i (awaited q) k) (busy i (awaited q') k')
    both_ask i q q' e {φ = φ} {k = k} {k' = k'} p h =
        subst (λ a. Ways φ (busy i (awaited q) k) (busy i a k')) (awaited_same q q' e) (both_busy i (awaited q) p h)

    halts : (i : Bool) {o : tree.Out (S × Buf) A} {u : tree.Out (T × Buf) A}
        → Sim rels i o u → After (halt L D (λ s. s) i o) (halt L K.driver (fed K (halt L D (λ s. s) i o).0) i u)
    halts i (end e r) = record { same = ap ended e; phase = quiet; ways = both_idle; rest = r.rest; good = tt }
    halts i (ask {q = q} {q' = q'} φ p x k) =
        record {
          same = ap handed x.same;
          phase = φ;
          ways = both_ask i q q' x.same p k;
          rest = x.rest;
          good
              = x.good;
        }

    -- refused: nothing changes
    stays : (n : ℕ) {φ : Phase} (m : Machine A S) (d : Machine A T) → Ways φ m.under_way_lem d.under_way_lem
        → M.Coupling φ m.buf m.st d.st → After (stay L D n m) (stay L K.driver n d)
    stays n {φ = φ} m d w r = record { same = refl; phase = φ; ways = w; rest = r; good = tt }

    besides : {i : Bool} (m : Machine A S) (d : Machine A T) → Ways quiet m.under_way_lem d.under_way_lem
        → M.Coupling quiet m.buf m.st d.st → {o : tree.Out (S × Buf) A} {u : tree.Out (T × Buf) A}
        → Sim rels i o u → After (during_interrupt L D m o) (during_interrupt L K.driver d u)
    besides m d w r (end e h) = record { same = ap ended e; phase = quiet; ways = w; rest = h.rest; good = tt }
    besides m d w r (ask φ p x k) = stays 3 m d w r

    -- while an operation is under way
    asides : (g : Bool) {i : Bool} {φ : Phase} (j : Bool) → Fits j φ
        → (m : Machine A S) (d : Machine A T) → Ways φ m.under_way_lem d.under_way_lem
        → M.Coupling φ m.buf m.st d.st
        → {o : tree.Out (S × Buf) A} {u : tree.Out (T × Buf) A} → (φ ≡ quiet → Sim rels i o u)
        → After (cond (cond j g false) (during_interrupt L D m o) (stay L D 3 m))
        (cond (cond j g false) (during_interrupt L K.driver d u) (stay L K.driver 3 d))
    asides true {φ = quiet} true p m d w r h = besides m d w r (h refl)
    asides true {φ = mid g n} true p m d w r h = absurd p
    asides false true p m d w r h = stays 3 m d w r
    asides g false p m d w r h = stays 3 m d w r

    begins : (o : Op) {φ : Phase} (m : Machine A S) (d : Machine A T) (b : Buf) {w : Pending A S} {w' : Pending A T}
        → Ways φ m.under_way_lem d.under_way_lem → Ways φ w w' → M.Coupling φ b m.st d.st
        → After (begun L D (λ s. s) o m w b) (begun L K.driver (fed K (begun L D (λ s. s) o m w b).0) o d w' b)
    begins o m d b v both_idle r = halts (L.irq o) (alike rels (L.code o) (m.st, b) (d.st, b)
        (record { bytes = refl; rest = r }))
    begins o m d b v (both_busy i a p k) r = asides (L.aside o) i p (lent_to L D m b) (lent_to L K.driver d b) v r
        (λ e. alike rels (L.code o) (m.st, b) (d.st, b)
        (record { bytes = refl; rest = subst (λ φ. M.Coupling φ b m.st d.st) e r }))

    wides : (g : Bool) {φ : Phase} {i : Bool} (m : Machine A S) (d : Machine A T) → Ways φ m.under_way_lem d.under_way_lem
        → M.Coupling φ m.buf m.st d.st → {o : tree.Out (S × Buf) A} {u : tree.Out (T × Buf) A}
        → Sim rels i o u
        → let x = cond g (stay L D 16 m) (halt L D (λ s. s) i o) in After x
        (cond g (stay L K.driver 16 d) (halt L K.driver (fed K x.0) i u))
    wides true m d w r h = stays 16 m d w r
    wides false m d w r h = halts _ h

    continues : (n : ℕ) {φ : Phase} (m : Machine A S) (d : Machine A T) (b : Buf) {w : Pending A S} {w' : Pending A T}
        → Ways φ m.under_way_lem d.under_way_lem → Ways φ w w' → M.Coupling φ b m.st d.st
        → After (continued L D (λ s. s) n m w b) (continued L K.driver (fed K (continued L D (λ s. s) n m w b).0) n
        d w' b)
    continues n m d b v both_idle r = stays 15 (lent_to L D m b) (lent_to L K.driver d b) v r
    continues n m d b v (both_busy i a p h) r =
        wides (over L a n) (lent_to L D m b) (lent_to L K.driver d b) v r
        (h n (m.st, b) (d.st, b) (record { bytes = refl; rest = r }))

    -- row 1 is the same for both
    fitted : (g g' : Bool) → g ≡ g' → {φ : Phase} (m : Machine A S) (d : Machine A T)
        → Ways φ m.under_way_lem d.under_way_lem → M.Coupling φ m.buf m.st d.st
        → {X : Type 0} → unless g X → (x : Ans A × Machine A S) (y : Ans A → Ans A × Machine A T)
        → (X → After x (y x.0))
        → let z = cond g (stay L D 1 m) x in After z (cond g' (stay L K.driver 1 d) (y z.0))
    fitted true g' e m d w r p x y f = subst (λ g. After (stay L D 1 m)
        (cond g (stay L K.driver 1 d) (y (ended (L.refusal 1))))) e (stays 1 m d w r)
    fitted false g' e m d w r p x y f = subst (λ g. After x (cond g (stay L K.driver 1 d) (y x.0))) e (f p)

    module _ (fresh : (c : C) (b : Buf) → L.refuses c b ≡ zero
        → M.Coupling quiet b (D.fresh c) (K.driver.fresh c)) where
      starting : (c : C) (b : Buf) (n : ℕ) → L.refuses c b ≡ n → {φ : Phase} (m : Machine A S) (d : Machine A T)
          → Ways φ m.under_way_lem d.under_way_lem → M.Coupling φ m.buf m.st d.st
          → let z = started L D (λ s. s) c n m b in After z (started L K.driver (fed K z.0) c n d b)
      starting c b zero e m d w r = halts false (alike rels (L.starts c) (D.fresh c, b) (K.driver.fresh c, b)
          (record { bytes = refl; rest = fresh c b e }))
      starting c b (suc n) e m d w r = stays (suc n) m d w r

      -- one call
      pub agrees : (c : Call C Op) (b : Buf) {φ : Phase} (m : Machine A S) (d : Machine A T)
          → Ways φ m.under_way_lem d.under_way_lem → M.Coupling φ m.buf m.st d.st → LentAlike c m d b
          → After (drive c m b) (write_up (drive c m b).0 c d b)
      agrees (start c) b m d w r l = starting c b (L.refuses c b) refl m d w r
      agrees (begin o) b {φ = φ} m d w r l =
          fitted _ _ (ap (λ n. cond (L.slots o) (not (eqb (length b) n)) false) (M.size φ m.buf m.st d.st r))
          m d w r l
          (begun L D (λ s. s) o m m.under_way_lem b) (λ x. begun L K.driver (fed K x) o d d.under_way_lem b)
          (λ k. begins o m d b w w (M.chip m.buf b φ m.st d.st r k))
      agrees (continue v) b {φ = φ} m d w r l =
          fitted _ _ (ap (λ n. not (eqb (length b) n)) (M.size φ m.buf m.st d.st r)) m d w r l
          (continued L D (λ s. s) v m m.under_way_lem b) (λ x. continued L K.driver (fed K x) v d d.under_way_lem b)
          (λ k. continues v m d b w w (M.chip m.buf b φ m.st d.st r k))
      agrees (question q) b {φ = φ} m d w r l =
          let r' = M.chip m.buf b φ m.st d.st r l in
          record { same = ap told (M.answer q φ b m.st d.st r'); phase = φ; ways = w; rest = r'; good = tt }

      -- a list of calls, each lent what the last one left but for the chip's stores
      abbrev pub Lawful : List (Event C Op) → Machine A S → Machine A T → Type 0
      Lawful [] m d = Unit {0}
      Lawful (e ∷ es) m d =
          let x = drive e.call m e.lent in
          let y = write_up x.0 e.call d e.lent in
          LentAlike e.call m d e.lent × Lawful es x.1 y.1

      -- they agree after each call
      abbrev pub All : List (Event C Op) → Machine A S → Machine A T → Type 0
      All [] m d = Unit {0}
      All (e ∷ es) m d =
          let x = drive e.call m e.lent in
          let y = write_up x.0 e.call d e.lent in
          After x y × All es x.1 y.1

      -- EVERY list of calls
      pub always : (es : List (Event C Op)) {φ : Phase} (m : Machine A S) (d : Machine A T)
          → Ways φ m.under_way_lem d.under_way_lem → M.Coupling φ m.buf m.st d.st → Lawful es m d → All es m d
      always [] m d w r l = tt
      always (e ∷ es) m d w r l =
          let a = agrees e.call e.lent m d w r l.0 in
          (a, always es _ _ a.ways a.rest l.1)

      -- demand 3, once the operations agree: every list of calls that follows an accepted start-up, from whatever was
      -- before
      pub from_start : (c : C) (b : Buf) → L.refuses c b ≡ zero
          → (es : List (Event C Op)) (m : Machine A S) (d : Machine A T)
          → let x = started L D (λ s. s) c zero m b in let y = started L K.driver (fed K x.0) c zero d b in
          Lawful es x.1 y.1 → After x y × All es x.1 y.1
      from_start c b e es m d l =
          let a = halts false (alike rels (L.starts c) (D.fresh c, b) (K.driver.fresh c, b)
          (record { bytes = refl; rest = fresh c b e })) in
          (a, always es _ _ a.ways a.rest l)
