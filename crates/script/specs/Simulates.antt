-- Two states with related operations run EVERY script alike
use Rattle.std.specs.Prelude.{Bool, true, false, ◌≡◌, refl, ℕ, zero, suc}
use Rattle.std.proofs.Common.{subst}
use Rattle.regs.specs.declared.Access.{Access}
use Rattle.regs.specs.declared.Access.TheVariants.{Read, Write, Receive, Transmit, Ep0Dma, Wait, Callback}
use Rattle.script.specs.Tree as tree
use Rattle.script.specs.Tree.{ends, asks, Prog, bind_out}
use Rattle.script.specs.Cells.{Cell, Val}
use Rattle.script.specs.Script.{Script, Ops, run, rows, Test, Look, Fetch, Act, DmaStep, dma_step_ask, Burst}
use Rattle.script.specs.Script.{last_of}
use Rattle.script.specs.Script.{burst_ask, ret, bind, test, read_then, write_then, wait_then, callback_then}
use Rattle.script.specs.Script.{get_then, put_then, is_then, look_then, fetch_then, act_then, hand_then, row_then}

-- at rest, or in a row after its step of that number
pub data Phase : Type 0 where
  quiet : Phase
  mid : Burst → ℕ → Phase

-- no row occurs in an interrupt
abbrev pub Fits : Bool → Phase → Type 0
Fits true quiet = Unit {0}
Fits true (mid g n) = ⊥
Fits false φ = Unit {0}

-- an access that carries no address
abbrev pub Bare : Access → Type 0
Bare (Read r e) = Unit {0}
Bare (Write r e v) = Unit {0}
Bare (Receive e x) = ⊥
Bare (Transmit e x) = ⊥
Bare (Ep0Dma x) = ⊥
Bare (Wait n) = Unit {0}
Bare Callback = Unit {0}

-- the operations of two states agree: equal results, related states; `At` where an access is handed out
pub record Rels {S T : Type 0} (O : Ops S) (P : Ops T) : Type 1 where
  pub R : Phase → S → T → Type 0
  pub At : Phase → Access → Access → S → T → Type 0
  pub bare : (q : Access) → Bare q → {s : S} {t : T} → R quiet s t → At quiet q q s t
  pub gets : (c : Cell) {s : S} {t : T} → R quiet s t → O.get c s ≡ P.get c t
  pub puts : (c : Cell) (v : Val c) {s : S} {t : T} → R quiet s t → R quiet (O.put c v s) (P.put c v t)
  pub tests : (q : Test) {s : S} {t : T} → R quiet s t → O.is q s ≡ P.is q t
  pub looks : (q : Look) {s : S} {t : T} → R quiet s t → O.look q s ≡ P.look q t
  pub fetches : (q : Fetch) {s : S} {t : T} → R quiet s t → O.fetch q s ≡ P.fetch q t
  pub acts : (q : Act) {s : S} {t : T} → R quiet s t → R quiet (O.act q s) (P.act q t)
  pub hands : (q : DmaStep) {s : S} {t : T} → R quiet s t
      → At quiet (dma_step_ask q (O.hand q s).0) (dma_step_ask q (P.hand q t).0) (O.hand q s).1 (P.hand q t).1
  pub first : (g : Burst) {s : S} {t : T} → R quiet s t
      → At (mid g (last_of g)) (burst_ask g (last_of g) (O.row g (last_of g) s).0)
      (burst_ask g (last_of g) (P.row g (last_of g) t).0) (O.row g (last_of g) s).1 (P.row g (last_of g) t).1
  pub next : (g : Burst) (n : ℕ) {s : S} {t : T} → R (mid g (suc n)) s t
      → At (mid g n) (burst_ask g n (O.row g n s).0) (burst_ask g n (P.row g n t).0) (O.row g n s).1
      (P.row g n t).1
  pub over : (g : Burst) {s : S} {t : T} → R (mid g zero) s t → R quiet s t

module _ {S T : Type 0} {O : Ops S} {P : Ops T} (E : Rels O P) where
  -- two outcomes: the same end with related states, or accesses that agree, after which they go on alike whatever is
  -- brought and whatever becomes of the states, so long as these are related
  pub data Sim (i : Bool) {A : Type 0} : tree.Out S A → tree.Out T A → Type 0 where
    end : {a b : A} {s : S} {t : T} → a ≡ b → E.R quiet s t → Sim i (ends a s) (ends b t)
    ask : {q q' : Access} {s : S} {t : T} {k : ℕ → S → tree.Out S A} {k' : ℕ → T → tree.Out T A} (φ : Phase) → Fits i φ
        → E.At φ q q' s t → ((v : ℕ) (s : S) (t : T) → E.R φ s t → Sim i (k v s) (k' v t))
        → Sim i (asks q s k) (asks q' t k')

  bind_sim : {i : Bool} {A B : Type 0} {o : tree.Out S A} {u : tree.Out T A} {f : A → Prog S B} {g : A → Prog T B}
      → Sim i o u → ((a : A) (s : S) (t : T) → E.R quiet s t → Sim i (f a s) (g a t))
      → Sim i (bind_out o f) (bind_out u g)
  bind_sim {i = i} {f = f} {g = g} (end {a = a} {s = s} {t = t} e r) h
      = subst (λ b. Sim i (f a s) (g b t)) e (h a s t r)
  bind_sim (ask φ p x k) h = ask φ p x (λ v s t r. bind_sim (k v s t r) h)

  fits : (i : Bool) → Fits i quiet
  fits true = tt
  fits false = tt

  rows_next : {A : Type 0} (g : Burst) (n : ℕ) {k : S → tree.Out S A} {k' : T → tree.Out T A}
      → ((s : S) (t : T) → E.R quiet s t → Sim false (k s) (k' t))
      → (s : S) (t : T) → E.R (mid g (suc n)) s t → Sim false (rows O g n k s) (rows P g n k' t)
  rows_next g zero h s t r = ask (mid g zero) tt (E.next g zero r) (λ v s t r. h s t (E.over g r))
  rows_next g (suc n) h s t r = ask (mid g (suc n)) tt (E.next g (suc n) r) (λ v. rows_next g n h)

  rows_first : {A : Type 0} (g : Burst) (n : ℕ) {k : S → tree.Out S A} {k' : T → tree.Out T A}
      → ((s : S) (t : T) → E.R quiet s t → Sim false (k s) (k' t)) → (s : S) (t : T)
      → E.At (mid g n) (burst_ask g n (O.row g n s).0) (burst_ask g n (P.row g n t).0) (O.row g n s).1
      (P.row g n t).1
      → Sim false (rows O g n k s) (rows P g n k' t)
  rows_first g zero h s t x = ask (mid g zero) tt x (λ v s t r. h s t (E.over g r))
  rows_first g (suc n) h s t x = ask (mid g (suc n)) tt x (λ v. rows_next g n h)

  pub alike : {i : Bool} {A : Type 0} (p : Script i A) (s : S) (t : T) → E.R quiet s t → Sim i (run O p s) (run P p t)
  alike (ret a) s t r = end refl r
  alike (bind p f) s t r = bind_sim (alike p s t r) (λ a. alike (f a))
  alike (test true p q) s t r = alike p s t r
  alike (test false p q) s t r = alike q s t r
  alike {i = i} (read_then e j k) s t r = ask quiet (fits i) (E.bare (Read e j) tt r) (λ v. alike (k v))
  alike {i = i} (write_then e j v p) s t r = ask quiet (fits i) (E.bare (Write e j v) tt r) (λ _. alike p)
  alike {i = i} (wait_then n p) s t r = ask quiet (fits i) (E.bare (Wait n) tt r) (λ _. alike p)
  alike {i = i} (callback_then p) s t r = ask quiet (fits i) (E.bare Callback tt r) (λ _. alike p)
  alike {i = i} (get_then c k) s t r = subst (λ v. Sim i (run O (k (O.get c s)) s) (run P (k v) t)) (E.gets c r)
      (alike (k (O.get c s)) s t r)
  alike (put_then c v p) s t r = alike p _ _ (E.puts c v r)
  alike {i = i} (is_then q k) s t r = subst (λ v. Sim i (run O (k (O.is q s)) s) (run P (k v) t)) (E.tests q r)
      (alike (k (O.is q s)) s t r)
  alike {i = i} (look_then q k) s t r = subst (λ v. Sim i (run O (k (O.look q s)) s) (run P (k v) t)) (E.looks q r)
      (alike (k (O.look q s)) s t r)
  alike {i = i} (fetch_then q k) s t r = subst (λ v. Sim i (run O (k (O.fetch q s)) s) (run P (k v) t))
      (E.fetches q r) (alike (k (O.fetch q s)) s t r)
  alike (act_then q p) s t r = alike p _ _ (E.acts q r)
  alike {i = i} (hand_then q p) s t r = ask quiet (fits i) (E.hands q r) (λ _. alike p)
  alike (row_then g p) s t r = rows_first g (last_of g) (alike p) s t (E.first g r)
