-- The rules of `Pair`: how two scripts that line up are composed
use Rattle.std.specs.Prelude.{Bool, true, false, ◌≡◌, refl, ℕ, zero, suc, ◌≤◌}
use Rattle.std.proofs.Common.{true≢false, subst, sym}
use Rattle.regs.specs.declared.Reg.{Reg}
use Rattle.regs.specs.declared.Reg.TheVariants.{IntFg, IntSt, MisSt, RxLen, FrameNo, Ctrl, IntEn, DevAd, HostCtrl}
use Rattle.regs.specs.declared.Reg.TheVariants.{EpConfig, EpType, EpBufMod, EpMaxLen, EpTLen, EpRxCtrl, EpTxCtrl}
use Rattle.regs.specs.declared.Access.{Access}
use Rattle.regs.specs.declared.Access.TheVariants.{Read, Write, Receive, Transmit, Ep0Dma, Wait, Callback}
use Rattle.script.specs.Tree.{Out, ends, asks, bind_out}
use Rattle.script.specs.Cells.{Cell, Val}
use Rattle.script.specs.Every.{same_reg}
use Rattle.script.specs.Script.{Script, run, ret, bind, test, ◌>>◌, when, read, write, wait, callback, get, put, is}
use Rattle.script.specs.Script.{look}
use Rattle.script.specs.Script.{fetch, act, hand, row, rows, Test, Look, Fetch, Act, DmaStep, dma_step_ask, Burst, last_of}
use Rattle.script.specs.Script.{burst_ask, dma, arrive, send, place, place0}
use Rattle.regs.specs.declared.Dir.{Dir}
use Rattle.regs.specs.declared.Dir.TheVariants as dir-of
use Rattle.script.specs.Simulates.{quiet, mid, Fits}
use Rattle.script_ops.specs.Rings.{St, row_on}
use Rattle.script_ops.specs.Concrete.{concrete, get_on, put_on, is_of, look_of, fetch_of, act_on, hand_on}
use Rattle.proof_isolation.specs.EqualExcept.{Channel, LowEquiv}
use Rattle.proof_isolation.specs.LikesLaws.{like-sym}
use Rattle.proof_isolation.specs.Whose.{sof}
use Rattle.proof_isolation.specs.Apart.{Reads, Brings, ownable, Next, next, Another, never, elsewhere, Its}
use Rattle.proof_isolation.specs.Apart.{status_read, SameNext, same_next, Matched, plain, nexts}
use Rattle.proof_isolation.specs.Apart.{status, receive, Past, gone, waits, Without, without_ask, ApartBy, end}
use Rattle.proof_isolation.specs.Apart.{both, left, right, owns}
use Rattle.proof_isolation.specs.Apart.{Apart, PairBy, Pair}

abbrev pub Eq : {A : Type 0} → A → A → Type 0
Eq a b = a ≡ b

abbrev pub Any : {A B : Type 0} → A → B → Type 0
Any a b = Unit {0}

reads-sym : (x st : ℕ) (r : Reg) (v v' : ℕ) → Reads x st r v v' → Reads x st r v' v
reads-sym x st IntSt v v' h = (h.1, h.0)
reads-sym x st RxLen v v' h = λ z. sym (h z)
reads-sym x st IntFg v v' h = sym h
reads-sym x st MisSt v v' h = sym h
reads-sym x st FrameNo v v' h = sym h
reads-sym x st Ctrl v v' h = sym h
reads-sym x st IntEn v v' h = sym h
reads-sym x st DevAd v v' h = sym h
reads-sym x st HostCtrl v v' h = sym h
reads-sym x st EpConfig v v' h = sym h
reads-sym x st EpType v v' h = sym h
reads-sym x st EpBufMod v v' h = sym h
reads-sym x st EpMaxLen v v' h = sym h
reads-sym x st EpTLen v v' h = sym h
reads-sym x st EpRxCtrl v v' h = sym h
reads-sym x st EpTxCtrl v v' h = sym h

pub brings-sym : (x st : ℕ) (q : Access) (v v' : ℕ) → Brings x st q v v' → Brings x st q v' v
brings-sym x st (Read r e) v v' h = reads-sym x st r v v' h
brings-sym x st (Write r e y) v v' h = tt
brings-sym x st (Receive e y) v v' h = tt
brings-sym x st (Transmit e y) v v' h = tt
brings-sym x st (Ep0Dma y) v v' h = tt
brings-sym x st (Wait n) v v' h = tt
brings-sym x st Callback v v' h = tt

-- every call has accesses in no row
pub rests : (i : Bool) → Fits i quiet
rests true = tt
rests false = tt

abbrev stop : St → Out St (Unit {0})
stop s = ends tt s

-- step n of a row in both runs: the same number is handed out, and the two states are the same but for x's data
abbrev pub Steps : Channel → Burst → ℕ → St → St → Type 0
Steps c g n s t = ((row_on g n s).0 ≡ (row_on g n t).0) × LowEquiv c (mid g n) (row_on g n s).1 (row_on g n t).1

-- ---- whose access it is, after a bind

module _ {x : ℕ} {A B : Type 0} (f : A → St → Out St B) where
  next-bind : {o : Out St A} → Next x o → Next x (bind_out o f)
  next-bind (next h) = next h

  pub another-bind : {q : Access} {o : Out St A} → Another x q o → Another x q (bind_out o f)
  another-bind (never h) = never h
  another-bind (elsewhere h) = elsewhere (next-bind h)

  pub its-bind : {q : Access} {o : Out St A} → Its x q o → Its x q (bind_out o f)
  its-bind status = status
  its-bind receive = receive

module _ {A B C D : Type 0} (f : A → St → Out St C) (g : B → St → Out St D) where
  next-binds : {o : Out St A} {u : Out St B} → SameNext o u → SameNext (bind_out o f) (bind_out u g)
  next-binds (same_next h) = same_next h

  matched-bind : {q : Access} {o : Out St A} {u : Out St B} → Matched q o u → Matched q (bind_out o f) (bind_out u g)
  matched-bind (plain h) = plain h
  matched-bind (nexts h) = nexts (next-binds h)

pub next-sym : {A B : Type 0} {o : Out St A} {u : Out St B} → SameNext o u → SameNext u o
next-sym (same_next h) = same_next (λ x. sym (h x))

pub matched-sym : {A B : Type 0} {q : Access} {o : Out St A} {u : Out St B} → Matched q o u → Matched q u o
matched-sym (plain h) = plain h
matched-sym (nexts h) = nexts (next-sym h)

dma-plain : (dir : Dir) (e y : ℕ) → status_read (dma dir e y) ≡ false
dma-plain dir-of.Out e y = refl
dma-plain dir-of.In e y = refl

hand-plain : (q : DmaStep) (y : ℕ) → status_read (dma_step_ask q y) ≡ false
hand-plain (arrive e n) y = refl
hand-plain (send e) y = refl
hand-plain (place dir e) y = dma-plain dir e y
hand-plain place0 y = refl

-- no interrupt's
no-interrupt : {X : Type 0} → false ≡ true → X
no-interrupt e = absurd (true≢false (sym e))

-- what follows hands out no access made for x or for one below it
first-without : {e : ℕ} {A : Type 0} {q : Access} {s : St} {k : ℕ → St → Out St A} → Without e (asks q s k) → (t : St)
    → Another e q (k sof t)
first-without (without_ask n k) t = n t

pub past_of : {x : ℕ} {A : Type 0} (u : Out St A) → ((e : ℕ) → e ≤ x → Without e u) → Past x u
past_of (ends a s) h = gone
past_of (asks q s k) h = waits (λ e l t. first-without (h e l) t)

past_after : {x : ℕ} {A B : Type 0} {u : Out St A} (g : A → St → Out St B) → Past x u
    → ((a : A) (e : ℕ) (t : St) → Without e (g a t)) → Past x (bind_out u g)
past_after g gone h = past_of (g _ _) (λ e l. h _ e _)
past_after g (waits n) h = waits (λ e l s. another-bind g (n e l s))

module _ {ch : Channel} {st : ℕ} where
  -- ---- outcomes

  unfoldable pub apart_more : {i : Bool} {A B : Type 0} {P Q : A → B → Type 0} {m : Bool} {o : Out St A} {u : Out St B}
      → ((a : A) (b : B) → P a b → Q a b) → ApartBy ch st i P m o u → ApartBy ch st i Q m o u
  apart_more f (end q l) = end (f _ _ q) l
  apart_more f (both φ w p p' l k) = both φ w p p' l (λ v v' s t b r. apart_more f (k v v' s t b r))
  apart_more f (left w p z k) = left w p z (λ v s l. apart_more f (k v s l))
  apart_more f (right w p z k) = right w p z (λ v t l. apart_more f (k v t l))
  apart_more f (owns w w' l k k') = owns w w' l (λ v s t r. apart_more f (k v s t r))
      (λ v s t r. apart_more f (k' v s t r))

  -- either run may be named first
  unfoldable pub apart_flip : {i : Bool} {A B : Type 0} {Q : A → B → Type 0} {m : Bool} {o : Out St A} {u : Out St B}
      → ApartBy ch st i Q m o u → ApartBy ch st i (λ b a. Q a b) m u o
  apart_flip (end q l) = end q (like-sym l)
  apart_flip (both {q = q} φ f p p' l k) =
      both φ (f.0, λ e s t. matched-sym (f.1 e t s)) p' p (like-sym l)
      (λ v v' s t b r. apart_flip (k v' v t s (brings-sym ch.number st q v v' b) (like-sym r)))
  apart_flip (left w p z k) = right w p z (λ v s l. apart_flip (k v s l))
  apart_flip (right w p z k) = left w p z (λ v t l. apart_flip (k v t l))
  apart_flip (owns w w' l k k') = owns w' w (like-sym l) (λ v t s r. apart_flip (k' v s t (like-sym r)))
      (λ v t s r. apart_flip (k v s t (like-sym r)))

  pub apart-later : {m i : Bool} {A B : Type 0} {Q : A → B → Type 0} {o : Out St A} {u : Out St B} → Apart ch st i Q o u
      → ApartBy ch st i Q m o u
  apart-later (end q l) = end q l
  apart-later (both φ f p p' l k) = both φ f p p' l (λ v v' s t b r. apart-later (k v v' s t b r))

  -- x's own accesses come after
  apart-bind : {m i : Bool} {A B C D : Type 0} {P : A
      → B → Type 0} {Q : C → D → Type 0} {o : Out St A} {u : Out St B} {f : A → St → Out St C} {g : B → St → Out St D}
      → Apart ch st i P o u → ((a : A) (b : B) (s t : St) → P a b → LowEquiv ch quiet s t
      → ApartBy ch st i Q m (f a s) (g b t))
      → ApartBy ch st i Q m (bind_out o f) (bind_out u g)
  apart-bind (end q l) h = h _ _ _ _ q l
  apart-bind {f = f} {g = g} (both φ z p p' l k) h = both φ (z.0, λ e s t. matched-bind f g (z.1 e s t))
      (λ e s. another-bind f (p e s)) (λ e s. another-bind g (p' e s)) l (λ v v' s t b r. apart-bind (k v v' s t b r) h)

  -- or before; then what follows hands out none made for an isochronous OUT endpoint
  apart-before : {i : Bool} {A B C D : Type 0} {P : A
      → B → Type 0} {Q : C → D → Type 0} {m : Bool} {o : Out St A} {u : Out St B} {f : A → St → Out St C} {g : B → St → Out St D}
      → ApartBy ch st i P m o u → ((a : A) (b : B) (s t : St) → P a b → LowEquiv ch quiet s t
      → Apart ch st i Q (f a s) (g b t))
      → ((a : A) (e : ℕ) (s : St) → Without e (f a s)) → ((b : B) (e : ℕ) (t : St) → Without e (g b t))
      → ApartBy ch st i Q m (bind_out o f) (bind_out u g)
  apart-before (end q l) h x x' = apart-later (h _ _ _ _ q l)
  apart-before {f = f} {g = g} (both φ z p p' l k) h x x'
      = both φ (z.0, λ e s t. matched-bind f g (z.1 e s t)) (λ e s. another-bind f (p e s))
      (λ e s. another-bind g (p' e s)) l (λ v v' s t b r. apart-before (k v v' s t b r) h x x')
  apart-before {f = f} {g = g} (left w p z k) h x x' = left (w.0, λ s. its-bind f (w.1 s))
      (past_after g p x') z (λ v s l. apart-before (k v s l) h x x')
  apart-before {f = f} {g = g} (right w p z k) h x x' = right (w.0, λ s. its-bind g (w.1 s))
      (past_after f p x) z (λ v t l. apart-before (k v t l) h x x')
  apart-before {f = f} {g = g} (owns w w' l k k') h x x'
      = owns (w.0, λ s. its-bind f (w.1 s)) (w'.0, λ s. its-bind g (w'.1 s)) l
      (λ v s t r. apart-before (k v s t r) h x x') (λ v s t r. apart-before (k' v s t r) h x x')

  -- ---- composed scripts

  pub p-later : {m i : Bool} {A B : Type 0} {Q : A → B → Type 0} {p : Script i A} {p' : Script i B} → Pair ch st Q p p'
      → PairBy ch st m Q p p'
  p-later h = record { on = λ s t l. apart-later (h.on s t l) }

  module _ {m i : Bool} {A B : Type 0} {Q : A → B → Type 0} where
    pub p_ret : {a : A} {b : B} → Q a b → PairBy ch st m {i = i} Q (ret a) (ret b)
    p_ret q = record { on = λ s t r. end q r }

    pub p_bind : {C D : Type 0} {P : C → D → Type 0} {p : Script i C} {p' : Script i D} {f : C → Script i A}
        {g : D → Script i B}
        → Pair ch st P p p' → ((c : C) (d : D) → P c d → PairBy ch st m Q (f c) (g d))
        → PairBy ch st m Q (bind p f) (bind p' g)
    p_bind h k = record { on = λ s t r. apart-bind (h.on s t r) (λ c d s t q r. (k c d q).on s t r) }

    -- the same value on both sides
    pub p-same : {C : Type 0} {p p' : Script i C} {f : C → Script i A} {g : C → Script i B}
        → Pair ch st Eq p p' → ((c : C) → PairBy ch st m Q (f c) (g c)) → PairBy ch st m Q (bind p f) (bind p' g)
    p-same {f = f} {g = g} h k = p_bind h (λ c d e. subst (λ z. PairBy ch st m Q (f c) (g z)) e (k c))

    pub p-then : {C D : Type 0} {p : Script i C} {p' : Script i D} {q : Script i A} {q' : Script i B}
        → Pair ch st Any p p' → PairBy ch st m Q q q' → PairBy ch st m Q (p >> q) (p' >> q')
    p-then h k = p_bind h (λ _ _ _. k)

    -- the first of the two has x's own accesses
    pub p-before : {C D : Type 0} {P : C → D → Type 0} {p : Script i C} {p' : Script i D} {f : C → Script i A}
        {g : D → Script i B}
        → PairBy ch st m P p p' → ((c : C) (d : D) → P c d → Pair ch st Q (f c) (g d))
        → ((c : C) (e : ℕ) (s : St) → Without e (run concrete (f c) s))
        → ((d : D) (e : ℕ) (s : St) → Without e (run concrete (g d) s)) → PairBy ch st m Q (bind p f) (bind p' g)
    p-before h k x x' = record { on = λ s t r. apart-before (h.on s t r) (λ c d s t q r. (k c d q).on s t r) x x' }

    pub p-before-then : {C D : Type 0} {p : Script i C} {p' : Script i D} {q : Script i A} {q' : Script i B}
        → PairBy ch st m Any p p' → Pair ch st Q q q' → ((e : ℕ) (s : St) → Without e (run concrete q s))
        → ((e : ℕ) (s : St) → Without e (run concrete q' s))
        → PairBy ch st m Q (p >> q) (p' >> q')
    p-before-then h k x x' = p-before h (λ _ _ _. k) (λ _. x) (λ _. x')

    pub p_test : {p q : Script i A} {p' q' : Script i B} (b : Bool) → (b ≡ true → PairBy ch st m Q p p')
        → (b ≡ false → PairBy ch st m Q q q') → PairBy ch st m Q (test b p q) (test b p' q')
    p_test true h k = record { on = λ s t r. (h refl).on s t r }
    p_test false h k = record { on = λ s t r. (k refl).on s t r }

    pub p-tests : {p q : Script i A} {p' q' : Script i B} {b c : Bool} → b ≡ c → (b ≡ true → PairBy ch st m Q p p')
        → (b ≡ false → PairBy ch st m Q q q') → PairBy ch st m Q (test b p q) (test c p' q')
    p-tests {p = p} {q = q} {p' = p'} {q' = q'} {b = b} e h k
        = subst (λ z. PairBy ch st m Q (test b p q) (test z p' q')) e (p_test b h k)

    -- a bind's first part by its own parts
    pub p-bind-test : {C D : Type 0} {p q : Script i C} {p' q' : Script i D} {f : C → Script i A} {g : D → Script i B}
        (b : Bool)
        → (b ≡ true → PairBy ch st m Q (bind p f) (bind p' g)) → (b ≡ false → PairBy ch st m Q (bind q f) (bind q' g))
        → PairBy ch st m Q (bind (test b p q) f) (bind (test b p' q') g)
    p-bind-test true h k = record { on = λ s t r. (h refl).on s t r }
    p-bind-test false h k = record { on = λ s t r. (k refl).on s t r }

  module _ {i : Bool} where
    pub p-when : {m : Bool} {p p' : Script i Unit} (b : Bool) → (b ≡ true → PairBy ch st m Any p p')
        → PairBy ch st m Any (when b p) (when b p')
    p-when b h = p_test b h (λ _. p_ret tt)

    -- ---- single steps

    -- but for the status
    pub p_read : (r : Reg) (e : ℕ) → same_reg r IntSt ≡ false
        → Pair ch st {i = i} (Reads ch.number st r) (read r e) (read r e)
    p_read r e h = record {
      on = λ s t l. both quiet (rests i, λ _ _ _. plain h) (λ _ _. never h) (λ _ _. never h) l
          (λ v v' s t b l. end b l);
    }

    pub p_write : (r : Reg) (e v : ℕ) → Pair ch st {i = i} Any (write r e v) (write r e v)
    p_write r e v = record {
      on = λ s t l. both quiet (rests i, λ _ _ _. plain refl) (λ _ _. never refl)
          (λ _ _. never refl) l (λ v v' s t b l. end tt l);
    }

    pub p_wait : (n : ℕ) → Pair ch st {i = i} Any (wait n) (wait n)
    p_wait n = record {
      on = λ s t l. both quiet (rests i, λ _ _ _. plain refl) (λ _ _. never refl) (λ _ _. never refl)
          l (λ v v' s t b l. end tt l);
    }

    pub p_callback : Pair ch st {i = i} Any callback callback
    p_callback = record {
      on = λ s t l. both quiet (rests i, λ _ _ _. plain refl) (λ _ _. never refl)
          (λ _ _. never refl) l (λ v v' s t b l. end tt l);
    }

    pub p_get : (c : Cell) (P : Val c → Val c → Type 0)
        → ((s t : St) → LowEquiv ch quiet s t → P (get_on c s) (get_on c t)) → Pair ch st {i = i} P (get c) (get c)
    p_get c P h = record { on = λ s t l. end (h s t l) l }

    pub p_put : (c : Cell) (v v' : Val c) → ((s t : St) → LowEquiv ch quiet s t
        → LowEquiv ch quiet (put_on c v s) (put_on c v' t))
        → Pair ch st {i = i} Any (put c v) (put c v')
    p_put c v v' h = record { on = λ s t l. end tt (h s t l) }

    pub p_is : (q : Test) → ((s t : St) → LowEquiv ch quiet s t → is_of q s ≡ is_of q t)
        → Pair ch st {i = i} Eq (is q) (is q)
    p_is q h = record { on = λ s t l. end (h s t l) l }

    pub p_look : (q : Look) → ((s t : St) → LowEquiv ch quiet s t → look_of q s ≡ look_of q t)
        → Pair ch st {i = i} Eq (look q) (look q)
    p_look q h = record { on = λ s t l. end (h s t l) l }

    pub p_fetch : (q : Fetch) → ((s t : St) → LowEquiv ch quiet s t → fetch_of q s ≡ fetch_of q t)
        → Pair ch st {i = i} Eq (fetch q) (fetch q)
    p_fetch q h = record { on = λ s t l. end (h s t l) l }

    pub p-act : (q : Act) → ((s t : St) → LowEquiv ch quiet s t → LowEquiv ch quiet (act_on q s) (act_on q t))
        → Pair ch st {i = i} Any (act q) (act q)
    p-act q h = record { on = λ s t l. end tt (h s t l) }

    pub p-hand : (q : DmaStep) → ((y : ℕ) → ownable ch.number (dma_step_ask q y) ≡ false)
        → ((s t : St) → LowEquiv ch quiet s t → ((hand_on q s).0 ≡ (hand_on q t).0)
        × LowEquiv ch quiet (hand_on q s).1 (hand_on q t).1)
        → Pair ch st {i = i} Any (hand q) (hand q)
    p-hand q n h = record {
      on = λ s t l. subst
          (λ y. Apart ch st i Any (asks (dma_step_ask q (hand_on q s).0) (hand_on q s).1 (λ _ t. ends tt t))
          (asks (dma_step_ask q y) (hand_on q t).1 (λ _ t. ends tt t))) (h s t l).0
          (both quiet (rests i, λ _ _ _. plain (hand-plain q _)) (λ _ _. never (n _)) (λ _ _. never (n _)) (h s t l).1
          (λ v v' s t b l. end tt l));
    }

  -- ---- a row of accesses

  module _ (g : Burst) (next : (n : ℕ) (s t : St) → LowEquiv ch (mid g (suc n)) s t → Steps ch g n s t)
      (over : (s t : St) → LowEquiv ch (mid g zero) s t → LowEquiv ch quiet s t) where
    steps : (n : ℕ) (s t : St) → Steps ch g n s t → Apart ch st false Any (rows concrete g n stop s)
        (rows concrete g n stop t)
    steps zero s t x = subst (λ y. Apart ch st false Any (rows concrete g zero stop s)
        (asks (burst_ask g zero y) (row_on g zero t).1 (λ _ t. stop t))) x.0
        (both (mid g zero) (tt, λ e s t. no-interrupt e) no-interrupt no-interrupt x.1
        (λ v v' s t b l. end tt (over s t l)))
    steps (suc n) s t x = subst
        (λ y. Apart ch st false Any (rows concrete g (suc n) stop s)
        (asks (burst_ask g (suc n) y) (row_on g (suc n) t).1 (λ _ t. rows concrete g n stop t))) x.0
        (both (mid g (suc n)) (tt, λ e s t. no-interrupt e) no-interrupt no-interrupt x.1
        (λ v v' s t b l. steps n s t (next n s t l)))

    pub p-row : ((s t : St) → LowEquiv ch quiet s t → Steps ch g (last_of g) s t) → Pair ch st Any (row g) (row g)
    p-row first = record { on = λ s t l. steps (last_of g) s t (first s t l) }
