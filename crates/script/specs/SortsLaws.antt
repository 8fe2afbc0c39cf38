-- The readings of composed scripts while the sorts stay: the rules of ReadingsLaws, with what a test and a cell say
use Rattle.std.specs.Prelude.{Bool, true, false, ◌≡◌, ℕ, zero, suc, ◌+◌, ◌*◌, ◌≤◌, length}
use mathlib.Core.List.{List, [], ◌∷◌}
use Rattle.std.proofs.Common.{suc-mul, arith}
use Rattle.regs.specs.declared.Reg.{Reg}
use Rattle.script.specs.Tree as tree
use Rattle.script.specs.Cells.{Cell, Val}
use Rattle.script.specs.Script.{Script, Ops, run, Test, Look, Fetch, Act, DmaStep, dma_step_ask, ret, bind, test}
use Rattle.script.specs.Script.{◌>>◌, done, when, read, write, callback, get, put, is, look, fetch, act, hand}
use Rattle.script.specs.Statics.{modify_reg}
use Rattle.script.specs.Readings.{reading, Continues, readings}
use Rattle.script.specs.ReadingsLaws.{hand-quiet}
use Rattle.script.specs.Every.{Chip, Every, at_end, at_ask}
use Rattle.script.specs.EveryLaws.{every_bind, every-cond, every_more}
use Rattle.script.specs.TransferKinds.{TransferKinds, Shows, Sorted, allocates, Along}

-- the readings that were handed out
abbrev pub counted : Chip
counted = record { Holds = ℕ; Brings = λ _ _ _. Unit {0}; after = λ n q. n + reading q }

-- between an access and the next call K stays
abbrev pub Staying : {S : Type 0} → (S → Type 0) → S → S → Type 0
Staying K s t = K s → K t

abbrev pub Any : {A : Type 0} → A → Type 0
Any a = Unit {0}

-- from K, and while it stays: at most n readings, and at the end K and Q of the answer
pub record Reads {S : Type 0} (O : Ops S) (K : S → Type 0) {i : Bool} {A : Type 0} (n : ℕ) (Q : A → Type 0)
    (p : Script i A) : Type 0 where
  pub on : (h : ℕ) (s : S) → K s → Every counted (Staying K) Any (λ m a t. (m ≤ h + n) × K t × Q a) h (run O p s)

-- ---- on a path

module _ {S A : Type 0} {K : S → Type 0} {Q : A → Type 0} where
  so_far : {n h : ℕ} {o : tree.Out S A} → Every counted (Staying K) Any (λ m a t. (m ≤ n) × K t × Q a) h o → h ≤ n
  so_far (at_end x) = x.0
  so_far (at_ask {s = s} ok x) = omega (arith, so_far (x 0 s tt (λ k. k)))

  along : {n h : ℕ} {o : tree.Out S A} → Every counted (Staying K) Any (λ m a t. (m ≤ n) × K t × Q a) h o
      → (w : Continues S) → Along (Staying K) o w → h + readings o w ≤ n
  unfolding readings Along
  along (at_end x) w l = omega (arith, x.0)
  along (at_ask {s = s} ok x) [] l = so_far (x 0 s tt (λ k. k))
  along (at_ask ok x) (c ∷ w) l = omega (arith, along (x c.0 c.1 tt l.0) w l.1)

pub reads-along : {S : Type 0} {O : Ops S} {K : S → Type 0} {i : Bool} {A : Type 0} {n : ℕ} {Q : A → Type 0}
    {p : Script i A} → Reads O K n Q p → (s : S) → K s
    → (w : Continues S) → Along (Staying K) (run O p s) w → readings (run O p s) w ≤ n
reads-along x s k w l = omega (arith, along (x.on 0 s k) w l)

-- ---- rules

module _ {S : Type 0} {O : Ops S} {K : S → Type 0} {i : Bool} {A : Type 0} {Q : A → Type 0} where
  pub reads_more : {m n : ℕ} {p : Script i A} → Reads O K m Q p → m ≤ n → Reads O K n Q p
  reads_more x h = record { on = λ g s k. every_more (x.on g s k) (λ l a t q. (omega (arith, h, q.0), q.1, q.2)) }

  pub reads-ret : {n : ℕ} {a : A} → Q a → Reads O K {i = i} n Q (ret a)
  reads-ret q = record { on = λ h s k. at_end {h = h} (omega arith, k, q) }

  pub reads-bind : {B : Type 0} {P : B → Type 0} (m n : ℕ) {p : Script i B} {f : B → Script i A}
      → Reads O K m P p → ((b : B) → P b → Reads O K n Q (f b)) → Reads O K (m + n) Q (bind p f)
  reads-bind m n x y = record {
    on = λ h s k. every_bind (x.on h s k)
        (λ g b t p. every_more ((y b p.2).on g t p.1) (λ l a u q. (omega (arith, p.0, q.0), q.1, q.2)));
  }

  -- each way with what the test says
  pub either : {n : ℕ} {b : Bool} {p q : Script i A} → (b ≡ true → Reads O K n Q p) → (b ≡ false → Reads O K n Q q)
      → Reads O K n Q (test b p q)
  either {b = b} x y = record { on = λ h s k. every-cond b (λ e. (x e).on h s k) (λ e. (y e).on h s k) }

  pub free : {B : Type 0} {P : B → Type 0} {n : ℕ} {p : Script i B} {f : B → Script i A}
      → Reads O K 0 P p → ((b : B) → P b → Reads O K n Q (f b)) → Reads O K n Q (bind p f)
  free {n = n} x y = reads_more (reads-bind 0 n x y) (omega arith)

  pub once : {B : Type 0} {P : B → Type 0} {n : ℕ} {p : Script i B} {f : B → Script i A}
      → Reads O K 1 P p → ((b : B) → P b → Reads O K n Q (f b)) → Reads O K (suc n) Q (bind p f)
  once {n = n} x y = reads_more (reads-bind 1 n x y) (omega arith)

  pub then-free : {B : Type 0} {P : B → Type 0} {n : ℕ} {p : Script i B} {f : B → Script i A}
      → Reads O K n P p → ((b : B) → P b → Reads O K 0 Q (f b)) → Reads O K n Q (bind p f)
  then-free {n = n} x y = reads_more (reads-bind n 0 x y) (omega arith)

module _ {S : Type 0} {O : Ops S} {K : S → Type 0} {i : Bool} where
  -- single steps
  pub one-read : {n : ℕ} {r : Reg} {e : ℕ} → Reads O K {i = i} (suc n) Any (read r e)
  one-read = record { on = λ h s k. at_ask tt (λ v t _ l. at_end {h = h + 1} (omega arith, l k, tt)) }

  pub no_write : {n : ℕ} {r : Reg} {e v : ℕ} → Reads O K {i = i} n Any (write r e v)
  no_write = record { on = λ h s k. at_ask tt (λ _ t _ l. at_end {h = h + 0} (omega arith, l k, tt)) }

  pub no-callback : {n : ℕ} → Reads O K {i = i} n Any callback
  no-callback = record { on = λ h s k. at_ask tt (λ _ t _ l. at_end {h = h + 0} (omega arith, l k, tt)) }

  pub no-is : {n : ℕ} {q : Test} → Reads O K {i = i} n Any (is q)
  no-is = record { on = λ h s k. at_end {h = h} (omega arith, k, tt) }

  pub no-look : {n : ℕ} {q : Look} → Reads O K {i = i} n Any (look q)
  no-look = record { on = λ h s k. at_end {h = h} (omega arith, k, tt) }

  pub no-fetch : {n : ℕ} {q : Fetch} → Reads O K {i = i} n Any (fetch q)
  no-fetch = record { on = λ h s k. at_end {h = h} (omega arith, k, tt) }

  pub when-reads : {n : ℕ} {b : Bool} {p : Script i Unit} → (b ≡ true → Reads O K n Any p) → Reads O K n Any (when b p)
  when-reads x = either x (λ _. reads-ret tt)

  pub modify_reg-reads : {n : ℕ} {r : Reg} {e : ℕ} {f : ℕ → ℕ} → Reads O K {i = i} (suc n) Any (modify_reg r e f)
  modify_reg-reads = once one-read (λ _ _. no_write)

-- those that the sorts' states are asked or told
module _ {S : Type 0} {O : Ops S} {K : S → Type 0} {iso : TransferKinds} (M : Sorted O iso K) {i : Bool} where
  pub no-get : {n : ℕ} (c : Cell) → Reads O K {i = i} n (Shows iso c) (get c)
  no-get c = record { on = λ h s k. at_end {h = h} (omega arith, k, M.shows c s k) }

  pub no-put : {n : ℕ} (c : Cell) {v : Val c} → Reads O K {i = i} n Any (put c v)
  no-put c {v = v} = record { on = λ h s k. at_end {h = h} (omega arith, M.put c v s k, tt) }

  pub no-act : {n : ℕ} (q : Act) → allocates q ≡ false → Reads O K {i = i} n Any (act q)
  no-act q a = record { on = λ h s k. at_end {h = h} (omega arith, M.act q a s k, tt) }

  pub no-hand : {n : ℕ} (q : DmaStep) → Reads O K {i = i} n Any (hand q)
  no-hand q = record {
    on = λ h s k. at_ask tt (λ _ t _ l. at_end {h = h + reading (dma_step_ask q (O.hand q s).0)} (
      omega (arith, hand-quiet q (O.hand q s).0),
      l (M.hand q s k),
      tt,
    ));
  }

  pub assign : {n : ℕ} (c : Cell) {f : Val c → Val c} → Reads O K {i = i} n Any (bind (get c) (λ v. put c (f v)))
  assign c = free (no-get c) (λ _ _. no-put c)

  pub assign-write : {n : ℕ} (c : Cell) {f : Val c → Val c} {r : Reg} {e : ℕ} {h : Val c → ℕ}
      → Reads O K {i = i} n Any (bind (get c) (λ v. bind (put c (f v)) (λ _. write r e (h v))))
  assign-write c = free (no-get c) (λ _ _. free (no-put c) (λ _ _. no_write))

-- a walk over a list: one endpoint's for each
module _ {S : Type 0} {O : Ops S} {K : S → Type 0} {i : Bool} (W : List ℕ → Script i Unit)
    (one : ℕ → Script i Unit) (none : W [] ≡ done) (step : (e : ℕ) (es : List ℕ) → W (e ∷ es) ≡ (one e >> W es)) where
  pub reads-walk : {n : ℕ} → ((e : ℕ) → Reads O K n Any (one e)) → (k : ℕ) (es : List ℕ) → length es ≤ k
      → Reads O K (k * n) Any (W es)
  reads-walk x k [] h = rw none (reads-ret tt)
  reads-walk x zero (e ∷ es) h = absurd (omega (arith, h))
  reads-walk {n = n} x (suc k) (e ∷ es) h =
      rw (step e es) (reads_more (reads-bind n (k * n) (x e) (λ _ _. reads-walk x k es (omega (arith, h))))
      (omega (arith, suc-mul k n)))
