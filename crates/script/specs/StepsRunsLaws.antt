-- Laws on the definitions of StepsRuns.antt: over any accesses, and over any states
use Rattle.std.specs.Prelude.{Bool, true, false, not, ◌||◌, ◌≡◌, refl, ℕ, zero, suc, eqb}
use Rattle.std.proofs.Common.{true≢false, subst, sym, eqb-true}
use Rattle.regs.specs.declared.Access.{Access}
use Rattle.regs.specs.declared.Reg.{Reg}
use Rattle.regs.specs.declared.Reg.TheVariants.{IntFg, DevAd, EpConfig}
use Rattle.regs.specs.Registers.{number_of}
use Rattle.script.specs.Tree as tree
use Rattle.script.specs.Tree.{bind_out}
use Rattle.script.specs.Script.{Script, ret, bind, test, read_then, write_then, wait_then, callback_then}
use Rattle.script.specs.Script.{get_then}
use Rattle.script.specs.Script.{put_then, is_then, look_then, fetch_then, act_then, hand_then, row_then, Ops, run}
use Rattle.script.specs.Script.{rows, DmaStep, dma_step_ask, Burst, burst_ask, switch, bus_reset_lem, last_of}
use Rattle.script.specs.Every.{same_reg}
use Rattle.script.specs.EveryLaws.{Only}
use Rattle.script.specs.Steps.{Kind, turning, resetting, queueing, code_of, is, may_address, may_write, may_ask}
use Rattle.script.specs.Steps.{may_put, may_act, may_row, When, Asks, Steps}
use Rattle.script.specs.StepsRuns.{Holds, end, ask, Keeps}

pub if-true : (b : Bool) (X : Type 0) → When b X → b ≡ true
if-true true X x = refl
if-true false X x = absurd x

pub if-so : (b : Bool) {X : Type 0} → When b X → X
if-so true x = x
if-so false x = absurd x

abbrev pub Handed : {i : Bool} {A : Type 0} → Kind → DmaStep → Script i A → Type 0
Handed k q p = ((x : ℕ) → Asks k (dma_step_ask q x)) × Steps k p

-- ---- accesses

or_left : (a b : Bool) → a ≡ true → (a || b) ≡ true
or_left true b h = refl
or_left false b h = absurd (true≢false (sym h))

or_right : (a b : Bool) → b ≡ true → (a || b) ≡ true
or_right true b h = refl
or_right false b h = h

pub or_else : (a b : Bool) → a ≡ false → (a || b) ≡ true → b ≡ true
or_else true b h g = absurd (true≢false h)
or_else false b h g = g

-- a call is of one kind
pub kinds-apart : (k j l : Kind) → eqb (code_of j) (code_of l) ≡ false → is k j ≡ true → is k l ≡ false
kinds-apart k j l g h = subst (λ (n : ℕ). eqb n (code_of l) ≡ false) (sym (eqb-true (code_of k) (code_of j) h)) g

-- the registers that not any call may write
module _ (k : Kind) (r : Reg) (v : ℕ) (h : may_write k (number_of r) v ≡ true) where
  by_number_lem : (q : Reg) → same_reg r q ≡ true → may_write k (number_of q) v ≡ true
  by_number_lem q g = subst (λ (n : ℕ). may_write k n v ≡ true) (eqb-true (number_of r) (number_of q) g) h

  pub writes-address : same_reg r DevAd ≡ true → may_address k v ≡ true
  writes-address g = by_number_lem DevAd g

  pub writes-flag : same_reg r IntFg ≡ true → (not (eqb v 1) || is k resetting) ≡ true
  writes-flag g = by_number_lem IntFg g

  pub writes-config : same_reg r EpConfig ≡ true → (is k turning || is k resetting) ≡ true
  writes-config g = by_number_lem EpConfig g

-- the accesses of a row are among those of its kind
row-asks : (k : Kind) (g : Burst) → may_row k g ≡ true → (n x : ℕ) → may_ask k (burst_ask g n x) ≡ true
row-asks k (switch e on) h zero x = or_left (is k turning) (is k resetting) h
row-asks k (switch e on) h (suc zero) x = refl
row-asks k (switch e on) h (suc (suc zero)) x = refl
row-asks k (switch e on) h (suc (suc (suc n))) x = refl
row-asks k bus_reset_lem h zero x = h
row-asks k bus_reset_lem h (suc zero) x = refl
row-asks k bus_reset_lem h (suc (suc zero)) x = refl
row-asks k bus_reset_lem h (suc (suc (suc n))) x = or_right (is k turning) (is k resetting) h

-- what a law over the accesses of a kind of calls is told: Ok of each that it may hand out
module _ {Ok : Access → Type 0} (k : Kind) (ok : (q : Access) → may_ask k q ≡ true → Ok q) where
  told : (q : Access) → Asks k q → Ok q
  told q x = ok q (if-true (may_ask k q) (Unit {0}) x)

  -- each access of a script like a call of that kind
  pub accesses : {i : Bool} {A : Type 0} (p : Script i A) → Steps k p → Only Ok p
  accesses (ret a) x = tt
  accesses (bind p f) x = (accesses p x.0, λ a. accesses (f a) (x.1 a))
  accesses (test b p q) x = (accesses p x.0, accesses q x.1)
  accesses (read_then r e f) x = (told _ x.0, λ v. accesses (f v) (x.1 v))
  accesses (write_then r e v p) x = (told _ x.0, accesses p x.1)
  accesses (wait_then n p) x = (told _ x.0, accesses p x.1)
  accesses (callback_then p) x = (told _ x.0, accesses p x.1)
  accesses (get_then c f) x = λ v. accesses (f v) (x v)
  accesses (put_then c v p) x = accesses p (if-so (may_put k c v) x)
  accesses (is_then q f) x = λ b. accesses (f b) (x b)
  accesses (look_then q f) x = λ n. accesses (f n) (x n)
  accesses (fetch_then q f) x = λ l. accesses (f l) (x l)
  accesses (act_then q p) x = accesses p (if-so (may_act k q) x)
  accesses (hand_then q p) x = let y : Handed k q p = if-so (not (is k queueing)) x in
      (λ n. told _ (y.0 n), accesses p y.1)
  accesses (row_then g p) x =
      (λ n y. ok _ (row-asks k g (if-true (may_row k g) (Steps k p) x) n y), accesses p (if-so (may_row k g) x))

-- ---- states

module _ {S : Type 0} {K : S → Type 0} where
  pub holds-bind : {A B : Type 0} {o : tree.Out S A} {f : A → S → tree.Out S B}
      → Holds K o → ((a : A) (s : S) → K s → Holds K (f a s)) → Holds K (bind_out o f)
  holds-bind (end h) g = g _ _ h
  holds-bind (ask h x) g = ask h (λ v t j. holds-bind (x v t j) g)

  pub holds_rows : {A : Type 0} (O : Ops S) (g : Burst) → ((n : ℕ) (s : S) → K s → K (O.row g n s).1)
      → (n : ℕ) {f : S → tree.Out S A}
      → ((t : S) → K t → Holds K (f t)) → (s : S) → K s → Holds K (rows O g n f s)
  holds_rows O g m zero x s j = ask (m zero s j) (λ v t l. x t l)
  holds_rows O g m (suc n) x s j = ask (m (suc n) s j) (λ v t l. holds_rows O g m n x t l)

module _ {S : Type 0} {O : Ops S} {K : S → Type 0} {k : Kind} (m : Keeps O K k) where
  -- a script like a call of that kind, run from K
  pub holds-run : {i : Bool} {A : Type 0} (p : Script i A) → Steps k p → (s : S) → K s → Holds K (run O p s)
  holds-run (ret a) x s j = end j
  holds-run (bind p f) x s j = holds-bind (holds-run p x.0 s j) (λ a t l. holds-run (f a) (x.1 a) t l)
  holds-run (test true p q) x s j = holds-run p x.0 s j
  holds-run (test false p q) x s j = holds-run q x.1 s j
  holds-run (read_then r e f) x s j = ask j (λ v t l. holds-run (f v) (x.1 v) t l)
  holds-run (write_then r e v p) x s j = ask j (λ _ t l. holds-run p x.1 t l)
  holds-run (wait_then n p) x s j = ask j (λ _ t l. holds-run p x.1 t l)
  holds-run (callback_then p) x s j = ask j (λ _ t l. holds-run p x.1 t l)
  holds-run (get_then c f) x s j = holds-run (f (O.get c s)) (x (O.get c s)) s j
  holds-run (put_then c v p) x s j = holds-run p (if-so (may_put k c v) x) (O.put c v s)
      (m.put c v (if-true (may_put k c v) (Steps k p) x) s j)
  holds-run (is_then q f) x s j = holds-run (f (O.is q s)) (x (O.is q s)) s j
  holds-run (look_then q f) x s j = holds-run (f (O.look q s)) (x (O.look q s)) s j
  holds-run (fetch_then q f) x s j = holds-run (f (O.fetch q s)) (x (O.fetch q s)) s j
  holds-run (act_then q p) x s j = holds-run p (if-so (may_act k q) x) (O.act q s)
      (m.act q (if-true (may_act k q) (Steps k p) x) s j)
  holds-run (hand_then q p) x s j =
      let y : Handed k q p = if-so (not (is k queueing)) x in
      ask (m.hand q (if-true (not (is k queueing)) (Handed k q p) x) s j) (λ _ t l. holds-run p y.1 t l)
  holds-run (row_then g p) x s j =
      holds_rows O g (m.row g (if-true (may_row k g) (Steps k p) x)) (last_of g)
      (λ t l. holds-run p (if-so (may_row k g) x) t l) s j
