-- What is left of an operation: a charge's way through its accesses, whatever is read, and what it is at the end.
-- NoEpConfigWrite scripts leave it
use Rattle.std.specs.Prelude.{Bool, true, false, not, cond, ◌≡◌, refl, ℕ}
use Rattle.std.proofs.Common.{subst, sym, ◌∙◌}
use Rattle.regs.specs.declared.Access.{Access}
use Rattle.regs.specs.declared.Access.TheVariants.{Read, Write, Receive, Transmit, Ep0Dma, Wait, Callback}
use Rattle.regs.specs.declared.Reg.TheVariants.{EpConfig}
use Rattle.bits.specs.Bit.{bit_is_set}
use Rattle.state.specs.Driver.{Driver}
use Rattle.script.specs.Tree as tree
use Rattle.script.specs.Tree.{ends, asks, bind_out}
use Rattle.script.specs.Cells.{Cell, Val}
use Rattle.script.specs.Script.{Script, ret, bind, test, read_then, write_then, wait_then, callback_then, get_then}
use Rattle.script.specs.Script.{put_then, is_then, look_then, fetch_then, act_then, hand_then, row_then, Act, DmaStep}
use Rattle.script.specs.Script.{dma_step_ask}
use Rattle.script.specs.Script.{run}
use Rattle.script.specs.Every.{same_reg}
use Rattle.script_ops.specs.Rings.{St}
use Rattle.script_ops.specs.Concrete.{concrete}
use Rattle.proof_bus_time.specs.History.{cleared}
use Rattle.proof_bus_time.specs.Enabled.{writes_config}
use Rattle.proof_bus_time.specs.StaysLaws.{config_of, Stays, allowed, put_stays, act_stays, hand-stays}
use Rattle.proof_bus_time.specs.StaysLaws.{gives-config}
use Rattle.proof_bus_time.specs.Calm.{When, NotEpConfigWrite, NoEpConfigWrite}

-- from a charge of the endpoint with this bit: X of the charge and the state at each access, P at each end, and what
-- a write of ep_config leaves of the charge is
-- what `back` says. Between an access and the next call all stays but what open, close and queue change
pub data Left (bit : ℕ) (back : ℕ → ℕ) (X : ℕ → Driver → Type 0) {A : Type 0} (P : ℕ → Driver → Type 0) : ℕ
    → tree.Out St A → Type 0 where
  at_end : {c : ℕ} {a : A} {s : St} → P c s.0 → Left bit back X P c (ends a s)
  at_ask : {c : ℕ} {q : Access} {s : St} {k : ℕ → St → tree.Out St A}
      → cleared bit q c ≡ cond (writes_config q) (back c) c → X (cleared bit q c) s.0
      → ((v : ℕ) (t : St) → Stays s.0 t.0 → Left bit back X P (cleared bit q c) (k v t))
      → Left bit back X P c (asks q s k)

module _ {bit : ℕ} {back : ℕ → ℕ} {X : ℕ → Driver → Type 0} where
  pub left-bind : {A B : Type 0} {P Q : ℕ → Driver → Type 0} {c : ℕ} {o : tree.Out St A} {f : A → St → tree.Out St B}
      → Left bit back X P c o → ((g : ℕ) (a : A) (s : St) → P g s.0 → Left bit back X Q g (f a s))
      → Left bit back X Q c (bind_out o f)
  left-bind (at_end x) k = k _ _ _ x
  left-bind (at_ask w x y) k = at_ask w x (λ v t b. left-bind (y v t b) k)

  pub left-more : {A : Type 0} {P Q : ℕ → Driver → Type 0} {c : ℕ} {o : tree.Out St A} → Left bit back X P c o
      → ((g : ℕ) (d : Driver) → P g d → Q g d) → Left bit back X Q c o
  left-more (at_end x) f = at_end (f _ _ x)
  left-more (at_ask w x y) f = at_ask w x (λ v t b. left-more (y v t b) f)

  pub left-cond : {A : Type 0} {P : ℕ → Driver → Type 0} {c : ℕ} (b : Bool) {o u : tree.Out St A}
      → (b ≡ true → Left bit back X P c o) → (b ≡ false → Left bit back X P c u) → Left bit back X P c (cond b o u)
  left-cond true x y = x refl
  left-cond false x y = y refl

-- a script's run from the states K
pub record Goes (bit : ℕ) (back : ℕ → ℕ) (c : ℕ) (K : Driver → Type 0) (X P : ℕ → Driver → Type 0) {i : Bool}
    {A : Type 0} (p : Script i A) : Type 0 where
  pub on : (s : St) → K s.0 → Left bit back X P c (run concrete p s)

-- the first access is no write of ep_config
pub data First {A : Type 0} : tree.Out St A → Type 0 where
  none : {a : A} {s : St} → First (ends a s)
  some : {q : Access} {s : St} {k : ℕ → St → tree.Out St A} → NotEpConfigWrite q → First (asks q s k)

pub first-bind : {A B : Type 0} {o : tree.Out St A} {f : A → St → tree.Out St B} → First o
    → ((a : A) (s : St) → First (f a s)) → First (bind_out o f)
first-bind none y = y _ _
first-bind (some x) y = some x

pub first-cond : {A : Type 0} (b : Bool) {o u : tree.Out St A} → First o → First u → First (cond b o u)
first-cond true x y = x
first-cond false x y = y

-- ---- calm scripts

opened : {X : Type 0} (b : Bool) → When b X → (b ≡ true) × X
opened true x = (refl, x)
opened {X = X} false x = elim x [ ]

pub quiet : (bit : ℕ) (q : Access) (c : ℕ) → NotEpConfigWrite q → cleared bit q c ≡ c
quiet bit (Write r e w) c x = by (same_reg r EpConfig) x
  where
    by : (b : Bool) → When (not b) (Unit {0}) → cond b (cond (bit_is_set w bit) c 0) c ≡ c
    by false x = refl
    by true x = elim x [ ]
quiet bit (Read r e) c x = refl
quiet bit (Receive e y) c x = refl
quiet bit (Transmit e y) c x = refl
quiet bit (Ep0Dma y) c x = refl
quiet bit (Wait n) c x = refl
quiet bit Callback c x = refl

-- no write of ep_config
unwritten : (b : Bool) (x y : ℕ) → When (not b) (Unit {0}) → y ≡ cond b x y
unwritten false x y h = refl
unwritten true x y h = elim h [ ]

-- what the operations that a calm script has keep
pub record CalmKeeps (giving : Bool) (K : Driver → Type 0) : Type 0 where
  pub put : (c : Cell) (v : Val c) (s : St) → K s.0 → K (concrete.put c v s).0
  pub act : (q : Act) → allowed giving q ≡ true → (s : St) → K s.0 → K (concrete.act q s).0
  pub hand : (q : DmaStep) (s : St) → K s.0 → K (concrete.hand q s).1.0
  pub later : (d d' : Driver) → Stays d d' → K d → K d'

-- what follows from what stays
pub keeps : {K : Driver → Type 0} → ((d d' : Driver) → Stays d d' → K d → K d') → CalmKeeps false K
keeps f = record {
  put = λ c v s k. f _ _ (put_stays c v s) k;
  act = λ q h s k. f _ _ (act_stays q h s) k;
  hand = λ q s k. f _ _ (hand-stays q s) k;
  later = f;
}

-- no endpoint enabled: allocations keep it too
pub none-keeps : CalmKeeps true (λ d. config_of d ≡ 0)
none-keeps = record {
  put = λ c v s k. (put_stays c v s).config ∙ k;
  act = λ q h s k. gives-config q h s ∙ k;
  hand = λ q s k. (hand-stays q s).config ∙ k;
  later = λ d d' x k. x.config ∙ k;
}

module _ {giving : Bool} {K : Driver → Type 0} (M : CalmKeeps giving K) (bit : ℕ) (back : ℕ → ℕ) (c : ℕ)
    (X : ℕ → Driver → Type 0) (shows : (d : Driver) → K d → X c d) where
  abbrev Same : ℕ → Driver → Type 0
  Same g d = (g ≡ c) × K d

  abbrev Runs : {A : Type 0} → tree.Out St A → Type 0
  Runs o = Left bit back X Same c o

  ask : {A : Type 0} (q : Access) (s : St) {k : ℕ → St → tree.Out St A} → NotEpConfigWrite q → K s.0
      → ((v : ℕ) (t : St) → K t.0 → Runs (k v t)) → Runs (asks q s k)
  ask q s {k = k} x y z =
      at_ask (quiet bit q c x ∙ unwritten (writes_config q) (back c) c x)
      (subst (λ g. X g s.0) (sym (quiet bit q c x)) (shows s.0 y))
      (λ v t b. subst (λ g. Left bit back X Same g (k v t)) (sym (quiet bit q c x)) (z v t (M.later _ _ b y)))

  pub calm_run : {i : Bool} {A : Type 0} (p : Script i A) → NoEpConfigWrite giving p → (s : St) → K s.0
      → Runs (run concrete p s)
  calm_run (ret a) x s k = at_end (refl, k)
  calm_run (bind p f) x s k =
      left-bind (calm_run p x.0 s k) (λ g a t y. subst (λ h. Left bit back X Same h (run concrete (f a) t))
      (sym y.0) (calm_run (f a) (x.1 a) t y.1))
  calm_run (test b p q) x s k = left-cond b (λ _. calm_run p x.0 s k) (λ _. calm_run q x.1 s k)
  calm_run (read_then r e f) x s k = ask (Read r e) s x.0 k (λ v t y. calm_run (f v) (x.1 v) t y)
  calm_run (write_then r e v p) x s k = ask (Write r e v) s x.0 k (λ _ t y. calm_run p x.1 t y)
  calm_run (wait_then n p) x s k = ask (Wait n) s x.0 k (λ _ t y. calm_run p x.1 t y)
  calm_run (callback_then p) x s k = ask Callback s x.0 k (λ _ t y. calm_run p x.1 t y)
  calm_run (get_then cell f) x s k = calm_run (f (concrete.get cell s)) (x (concrete.get cell s)) s k
  calm_run (put_then cell v p) x s k = calm_run p x (concrete.put cell v s) (M.put cell v s k)
  calm_run (is_then q f) x s k = calm_run (f (concrete.is q s)) (x (concrete.is q s)) s k
  calm_run (look_then q f) x s k = calm_run (f (concrete.look q s)) (x (concrete.look q s)) s k
  calm_run (fetch_then q f) x s k = calm_run (f (concrete.fetch q s)) (x (concrete.fetch q s)) s k
  calm_run (act_then q p) x s k = let y = opened (allowed giving q) x in calm_run p y.1 (concrete.act q s)
      (M.act q y.0 s k)
  calm_run (hand_then q p) x s k = ask (dma_step_ask q (concrete.hand q s).0)
      (concrete.hand q s).1 (x.0 (concrete.hand q s).0) (M.hand q s k) (λ _ t y. calm_run p x.1 t y)
  calm_run (row_then g p) x s k = absurd x.0

  -- a calm part, and the rest
  pub calm-then : {i : Bool} {A B : Type 0} {P : ℕ → Driver → Type 0} {p : Script i A} {f : A → Script i B}
      → NoEpConfigWrite giving p → ((a : A) → Goes bit back c K X P (f a)) → Goes bit back c K X P (bind p f)
  calm-then {P = P} {p = p} {f = f} x rest =
      record {
        on = λ s k. left-bind (calm_run p x s k) (λ g a t y. subst
            (λ h. Left bit back X P h (run concrete (f a) t)) (sym y.0) ((rest a).on t y.1));
      }

pub calm-first : (giving : Bool) {i : Bool} {A : Type 0} (p : Script i A) → NoEpConfigWrite giving p → (s : St)
    → First (run concrete p s)
calm-first giving (ret a) x s = none
calm-first giving (bind p f) x s = first-bind (calm-first giving p x.0 s) (λ a t. calm-first giving (f a) (x.1 a) t)
calm-first giving (test b p q) x s = first-cond b (calm-first giving p x.0 s) (calm-first giving q x.1 s)
calm-first giving (read_then r e f) x s = some x.0
calm-first giving (write_then r e v p) x s = some x.0
calm-first giving (wait_then n p) x s = some x.0
calm-first giving (callback_then p) x s = some x.0
calm-first giving (get_then cell f) x s = calm-first giving (f (concrete.get cell s)) (x (concrete.get cell s)) s
calm-first giving (put_then cell v p) x s = calm-first giving p x (concrete.put cell v s)
calm-first giving (is_then q f) x s = calm-first giving (f (concrete.is q s)) (x (concrete.is q s)) s
calm-first giving (look_then q f) x s = calm-first giving (f (concrete.look q s)) (x (concrete.look q s)) s
calm-first giving (fetch_then q f) x s = calm-first giving (f (concrete.fetch q s)) (x (concrete.fetch q s)) s
calm-first giving (act_then q p) x s = calm-first giving p (opened (allowed giving q) x).1 (concrete.act q s)
calm-first giving (hand_then q p) x s = some (x.0 (concrete.hand q s).0)
calm-first giving (row_then g p) x s = absurd x.0
