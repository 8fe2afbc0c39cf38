-- Laws on the definitions of Watch.antt
use Rattle.std.specs.Prelude.{Bool, true, false, cond, ◌≡◌, refl, ℕ}
use Rattle.regs.specs.declared.Access.{Access}
use Rattle.script.specs.Tree as tree
use Rattle.script.specs.Tree.{ends, asks, bind_out}
use Rattle.script.specs.Machine.{Buf}
use Rattle.script_ops.specs.Rings.{St}
use Rattle.proof_usb20.specs.Watch.{Along, at_end, at_ask, AtFirst, ended, handed, Spared, stops, goes}
use Rattle.proof_usb20.specs.Watch.{SparedAfter}
use Rattle.proof_usb20.specs.Watch.{no_more, then}

module _ {L S : Type 0} {saw : L → Access → ℕ → S → L} {Brings : L → Access → ℕ → Type 0} {Keeps : S → S → Type 0}
    {Ok : L → Access → Type 0} where
  pub watch-bind : {A B : Type 0} {P : L → A → S → Type 0} {Q : L → B → S → Type 0} {w : L} {o : tree.Out S A}
      {f : A → S → tree.Out S B}
      → Along saw Brings Keeps Ok P w o → ((x : L) (a : A) (s : S) → P x a s → Along saw Brings Keeps Ok Q x (f a s))
      → Along saw Brings Keeps Ok Q w (bind_out o f)
  watch-bind (at_end x) k = k _ _ _ x
  watch-bind (at_ask ok x) k = at_ask ok (λ v t b i. watch-bind (x v t b i) k)

  pub watch-more : {A : Type 0} {P Q : L → A → S → Type 0} {w : L} {o : tree.Out S A} → Along saw Brings Keeps Ok P w o
      → ((x : L) (a : A) (s : S) → P x a s → Q x a s) → Along saw Brings Keeps Ok Q w o
  watch-more (at_end x) f = at_end (f _ _ _ x)
  watch-more (at_ask ok x) f = at_ask ok (λ v t b i. watch-more (x v t b i) f)

  pub watch-cond : {A : Type 0} {P : L → A → S → Type 0} {w : L} (b : Bool) {o u : tree.Out S A}
      → (b ≡ true → Along saw Brings Keeps Ok P w o) → (b ≡ false → Along saw Brings Keeps Ok P w u)
      → Along saw Brings Keeps Ok P w (cond b o u)
  watch-cond true x y = x refl
  watch-cond false x y = y refl

  -- where nothing is asked that could fail
  pub watch-any : {A : Type 0} {P : L → A → S → Type 0} (G : L → Type 0) → ((x : L) (q : Access) → G x → Ok x q)
      → ((x : L) (q : Access) (v : ℕ) (s : S) → G x → G (saw x q v s)) → ((x : L) (a : A) (s : S) → G x → P x a s)
      → (w : L) → G w → (o : tree.Out S A) → Along saw Brings Keeps Ok P w o
  watch-any G ok go p w g (ends a s) = at_end (p w a s g)
  watch-any G ok go p w g (asks q s k) = at_ask (ok w q g)
      (λ v t b i. watch-any G ok go p (saw w q v s) (go w q v s g) (k v t))

-- ---- the slot buffer

pub first_any : {P : Buf → Type 0} {A : Type 0} → ((b : Buf) → P b) → (o : tree.Out St A) → AtFirst P o
first_any f (ends a s) = ended
first_any f (asks q s k) = handed (f s.1)

pub first-cond : {P : Buf → Type 0} {A : Type 0} (b : Bool) {o u : tree.Out St A} → (b ≡ true → AtFirst P o)
    → (b ≡ false → AtFirst P u) → AtFirst P (cond b o u)
first-cond true x y = x refl
first-cond false x y = y refl

-- what goes on after a part that hands out an access
pub first-bind : {P : Buf → Type 0} {A B : Type 0} {o : tree.Out St A} {f : A → St → tree.Out St B} → AtFirst P o
    → ((a : A) (s : St) → AtFirst P (f a s)) → AtFirst P (bind_out o f)
first-bind ended g = g _ _
first-bind (handed p) g = handed p

pub spared-any : {K : Buf → Buf → Type 0} {A : Type 0} → ((b c : Buf) → K b c) → (b : Buf) (o : tree.Out St A)
    → Spared K b o
spared-any f b (ends a s) = stops (f b s.1)
spared-any f b (asks q s k) = goes (f b s.1) (λ v t. spared-any f t.1 (k v t))

pub after_any : {K : Buf → Buf → Type 0} {A : Type 0} → ((b c : Buf) → K b c) → (o : tree.Out St A) → SparedAfter K o
after_any f (ends a s) = no_more
after_any f (asks q s k) = then (λ v t. spared-any f t.1 (k v t))

pub after_cond : {K : Buf → Buf → Type 0} {A : Type 0} (b : Bool) {o u : tree.Out St A} → (b ≡ true → SparedAfter K o)
    → (b ≡ false → SparedAfter K u) → SparedAfter K (cond b o u)
after_cond true x y = x refl
after_cond false x y = y refl
