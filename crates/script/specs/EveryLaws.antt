-- Laws on the definitions of Every.antt
use Rattle.std.specs.Prelude.{Bool, true, false, cond, ◌≡◌, refl, ℕ, zero, suc}
use Rattle.regs.specs.declared.Access.{Access}
use Rattle.regs.specs.declared.Access.TheVariants.{Read, Write, Receive, Transmit, Ep0Dma, Wait, Callback}
use Rattle.regs.specs.declared.Reg.{Reg}
use Rattle.script.specs.Tree as tree
use Rattle.script.specs.Tree.{bind_out}
use Rattle.script.specs.Script.{Script, ret, bind, test, read_then, write_then, wait_then, callback_then}
use Rattle.script.specs.Script.{get_then}
use Rattle.script.specs.Script.{put_then, is_then, look_then, fetch_then, act_then, hand_then, row_then, Ops, run}
use Rattle.script.specs.Script.{rows, Act, Burst, dma_step_ask, burst_ask, last_of}
use Rattle.script.specs.Every.{When, on_write, Chip, Every, at_end, at_ask, All}

module _ {S : Type 0} {C : Chip} {Keeps : S → S → Type 0} {Ok : Access → Type 0} where
  pub every_bind : {A B : Type 0} {P : C.Holds → A → S → Type 0} {Q : C.Holds → B → S → Type 0} {h : C.Holds}
      {o : tree.Out S A} {f : A → S → tree.Out S B}
      → Every C Keeps Ok P h o → ((g : C.Holds) (a : A) (s : S) → P g a s → Every C Keeps Ok Q g (f a s))
      → Every C Keeps Ok Q h (bind_out o f)
  every_bind (at_end x) k = k _ _ _ x
  every_bind (at_ask ok x) k = at_ask ok (λ v t b i. every_bind (x v t b i) k)

  pub every_more : {A : Type 0} {P Q : C.Holds → A → S → Type 0} {h : C.Holds} {o : tree.Out S A}
      → Every C Keeps Ok P h o → ((g : C.Holds) (a : A) (s : S) → P g a s → Q g a s) → Every C Keeps Ok Q h o
  every_more (at_end x) f = at_end (f _ _ _ x)
  every_more (at_ask ok x) f = at_ask ok (λ v t b i. every_more (x v t b i) f)

  pub every-cond : {A : Type 0} {P : C.Holds → A → S → Type 0} {h : C.Holds} (b : Bool) {o u : tree.Out S A}
      → (b ≡ true → Every C Keeps Ok P h o) → (b ≡ false → Every C Keeps Ok P h u) → Every C Keeps Ok P h (cond b o u)
  every-cond true x y = x refl
  every-cond false x y = y refl

-- of each write, so of each access
pub of-write : (f g : Reg → ℕ → ℕ → Bool) → ((r : Reg) (e v : ℕ) → f r e v ≡ true → g r e v ≡ false)
    → (q : Access) → on_write f true q ≡ true → on_write g false q ≡ false
of-write f g x (Write r e v) h = x r e v h
of-write f g x (Read r e) h = refl
of-write f g x (Receive e y) h = refl
of-write f g x (Transmit e y) h = refl
of-write f g x (Ep0Dma y) h = refl
of-write f g x (Wait n) h = refl
of-write f g x Callback h = refl

-- each access, change and row of a script, whatever was read and whatever the state
abbrev pub OnlyBy : {i : Bool} {A : Type 0} → (Access → Type 0) → (Act → Bool) → (Burst → Type 0) → Script i A → Type 0
OnlyBy Ok May Row (ret a) = Unit {0}
OnlyBy Ok May Row (bind p f) = OnlyBy Ok May Row p × ((a : _) → OnlyBy Ok May Row (f a))
OnlyBy Ok May Row (test b p q) = OnlyBy Ok May Row p × OnlyBy Ok May Row q
OnlyBy Ok May Row (read_then r e k) = Ok (Read r e) × ((v : ℕ) → OnlyBy Ok May Row (k v))
OnlyBy Ok May Row (write_then r e v p) = Ok (Write r e v) × OnlyBy Ok May Row p
OnlyBy Ok May Row (wait_then n p) = Ok (Wait n) × OnlyBy Ok May Row p
OnlyBy Ok May Row (callback_then p) = Ok Callback × OnlyBy Ok May Row p
OnlyBy Ok May Row (get_then c k) = (v : _) → OnlyBy Ok May Row (k v)
OnlyBy Ok May Row (put_then c v p) = OnlyBy Ok May Row p
OnlyBy Ok May Row (is_then q k) = (b : Bool) → OnlyBy Ok May Row (k b)
OnlyBy Ok May Row (look_then q k) = (n : ℕ) → OnlyBy Ok May Row (k n)
OnlyBy Ok May Row (fetch_then q k) = (l : _) → OnlyBy Ok May Row (k l)
OnlyBy Ok May Row (act_then q p) = When (May q) (OnlyBy Ok May Row p)
OnlyBy Ok May Row (hand_then q p) = ((x : ℕ) → Ok (dma_step_ask q x)) × OnlyBy Ok May Row p
OnlyBy Ok May Row (row_then g p) = Row g × OnlyBy Ok May Row p

-- each access
abbrev pub Only : {i : Bool} {A : Type 0} → (Access → Type 0) → Script i A → Type 0
Only Ok p = OnlyBy Ok (λ _. true) (λ g. (n x : ℕ) → Ok (burst_ask g n x)) p

module _ {S : Type 0} {C : Chip} {Keeps : S → S → Type 0} {Ok : Access → Type 0} (O : Ops S) where
  only-rows : {A : Type 0} (g : Burst) → ((n x : ℕ) → Ok (burst_ask g n x)) → (n : ℕ) (k : S → tree.Out S A)
      → ((h : C.Holds) (t : S) → All C Keeps Ok h (k t)) → (h : C.Holds) (s : S) → All C Keeps Ok h (rows O g n k s)
  only-rows g ok zero k r h s = at_ask (ok zero _) (λ v t b i. r _ t)
  only-rows g ok (suc n) k r h s = at_ask (ok (suc n) _) (λ v t b i. only-rows g ok n k r _ t)

  pub only-run : {i : Bool} {A : Type 0} (p : Script i A) → Only Ok p → (h : C.Holds) (s : S)
      → All C Keeps Ok h (run O p s)
  only-run (ret a) x h s = at_end tt
  only-run (bind p f) x h s = every_bind (only-run p x.0 h s) (λ g a t _. only-run (f a) (x.1 a) g t)
  only-run (test b p q) x h s = every-cond b (λ _. only-run p x.0 h s) (λ _. only-run q x.1 h s)
  only-run (read_then r e k) x h s = at_ask x.0 (λ v t _ _. only-run (k v) (x.1 v) _ t)
  only-run (write_then r e v p) x h s = at_ask x.0 (λ _ t _ _. only-run p x.1 _ t)
  only-run (wait_then n p) x h s = at_ask x.0 (λ _ t _ _. only-run p x.1 _ t)
  only-run (callback_then p) x h s = at_ask x.0 (λ _ t _ _. only-run p x.1 _ t)
  only-run (get_then c k) x h s = only-run (k (O.get c s)) (x (O.get c s)) h s
  only-run (put_then c v p) x h s = only-run p x h (O.put c v s)
  only-run (is_then q k) x h s = only-run (k (O.is q s)) (x (O.is q s)) h s
  only-run (look_then q k) x h s = only-run (k (O.look q s)) (x (O.look q s)) h s
  only-run (fetch_then q k) x h s = only-run (k (O.fetch q s)) (x (O.fetch q s)) h s
  only-run (act_then q p) x h s = only-run p x h (O.act q s)
  only-run (hand_then q p) x h s = at_ask (x.0 (O.hand q s).0) (λ _ t _ _. only-run p x.1 _ t)
  only-run (row_then g p) x h s = only-rows g x.0 (last_of g) _ (only-run p x.1) h s
