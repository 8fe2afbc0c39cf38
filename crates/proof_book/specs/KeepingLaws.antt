-- A script that leaves `entered`, the microframe index with which the interrupt under way began (request One): each
-- assignment of the globals has the one that was read. Then it is the same at every access and at the end, whatever is
-- read
use Rattle.std.specs.Prelude.{Bool, true, false, not, cond, ◌||◌, List, ◌≡◌, refl, ℕ}
use Rattle.std.proofs.Common.{true≢false, sym, ap, ◌∙◌}
use Rattle.regs.specs.declared.Access.{Access}
use Rattle.regs.specs.declared.Dir.TheVariants.{Out}
use Rattle.state.specs.declared.Globals.{Globals}
use Rattle.state.specs.Driver.{with_on, with_paced_on, with_request_on}
use Rattle.script.specs.Tree as tree
use Rattle.script.specs.Tree.{ends, asks, bind_out}
use Rattle.script.specs.Cells.{Cell, Val, globals-cell, control-cell, allocator-cell, ep-cell, request-cell, paced_cell}
use Rattle.script.specs.Script.{Script, ret, bind, test, read_then, write_then, wait_then, callback_then, get_then}
use Rattle.script.specs.Script.{put_then, is_then, look_then, fetch_then, act_then, hand_then, row_then, run, get, Act}
use Rattle.script.specs.Script.{DmaStep}
use Rattle.script.specs.TransferKinds.{allocates}
use Rattle.script_ops.specs.Rings.{St}
use Rattle.script_ops.specs.Concrete.{concrete}
use Rattle.script.specs.Steps.{is, plain, moving}
use Rattle.proof_book.specs.ActsLaws.{act_kind}
use Rattle.proof_book.specs.LeavesLaws.{act-leaves, hand-leaves}

-- ---- on every way through an outcome

-- K at each access and at the end, P of the answer; between two accesses K stays
pub data Throughout {S A : Type 0} (K : S → Type 0) (P : A → Type 0) : tree.Out S A → Type 0 where
  at_end : {a : A} {s : S} → K s → P a → Throughout K P (ends a s)
  at_ask : {q : Access} {s : S} {k : ℕ → S → tree.Out S A} → K s → ((v : ℕ) (t : S) → K t → Throughout K P (k v t))
      → Throughout K P (asks q s k)

module _ {S : Type 0} {K : S → Type 0} where
  pub through-more : {A : Type 0} {P Q : A → Type 0} {o : tree.Out S A} → Throughout K P o → ((a : A) → P a → Q a)
      → Throughout K Q o
  through-more (at_end k p) f = at_end k (f _ p)
  through-more (at_ask k x) f = at_ask k (λ v t h. through-more (x v t h) f)

  pub through-bind : {A B : Type 0} {P : A → Type 0} {Q : B → Type 0} {o : tree.Out S A} {f : A → S → tree.Out S B}
      → Throughout K P o → ((a : A) (s : S) → K s → P a → Throughout K Q (f a s)) → Throughout K Q (bind_out o f)
  through-bind (at_end k p) f = f _ _ k p
  through-bind (at_ask k x) f = at_ask k (λ v t h. through-bind (x v t h) f)

  through-cond : {A : Type 0} {P : A → Type 0} (b : Bool) {o u : tree.Out S A} → Throughout K P o → Throughout K P u
      → Throughout K P (cond b o u)
  through-cond true x y = x
  through-cond false x y = y

  pub at_last : {A : Type 0} {P : A → Type 0} {a : A} {s : S} → Throughout K P (ends a s) → K s
  at_last (at_end k p) = k

-- ---- scripts

-- what a cell says of it
abbrev pub Says : ℕ → (c : Cell) → Val c → Type 0
Says x globals-cell g = g.entered ≡ x
Says x control-cell v = Unit {0}
Says x allocator-cell v = Unit {0}
Says x (ep-cell d e) v = Unit {0}
Says x (request-cell d e) v = Unit {0}
Says x (paced_cell e) v = Unit {0}

-- what may be said of a script's result: that it was read
abbrev pub Gives : {i : Bool} {A : Type 0} → ℕ → Script i A → A → Type 0
Gives x (ret a) b = a ≡ b
Gives x (get_then c k) b = (v : Val c) × Says x c v × Gives x (k v) b
Gives x (bind p f) b = Unit {0}
Gives x (test u p q) b = Unit {0}
Gives x (read_then r e k) b = Unit {0}
Gives x (write_then r e v p) b = Unit {0}
Gives x (wait_then n p) b = Unit {0}
Gives x (callback_then p) b = Unit {0}
Gives x (put_then c v p) b = Unit {0}
Gives x (is_then q k) b = Unit {0}
Gives x (look_then q k) b = Unit {0}
Gives x (fetch_then q k) b = Unit {0}
Gives x (act_then q p) b = Unit {0}
Gives x (hand_then q p) b = Unit {0}
Gives x (row_then g p) b = Unit {0}

-- the globals that were read have it
pub got : (x : ℕ) (g : Globals) → Gives x (get {i = true} globals-cell) g → g.entered ≡ x
got x g w = sym (ap (λ (h : Globals). h.entered) w.2) ∙ w.1

-- the changes in an interrupt: no packet of an OUT endpoint is read, none is voided
abbrev pub calm : Act → Bool
calm q = is (act_kind q) moving || is (act_kind q) plain

-- those of the calls that pass
abbrev pub passing : Act → Bool
passing q = not (allocates q)

-- its changes are of the kind `ok`
abbrev pub ChangesOnly : {i : Bool} {A : Type 0} → (Act → Bool) → ℕ → Script i A → Type 0
ChangesOnly ok x (ret a) = Unit {0}
ChangesOnly ok x (bind p f) = ChangesOnly ok x p × ((a : _) → Gives x p a → ChangesOnly ok x (f a))
ChangesOnly ok x (test b p q) = ChangesOnly ok x p × ChangesOnly ok x q
ChangesOnly ok x (read_then r e k) = (v : ℕ) → ChangesOnly ok x (k v)
ChangesOnly ok x (write_then r e v p) = ChangesOnly ok x p
ChangesOnly ok x (wait_then n p) = ChangesOnly ok x p
ChangesOnly ok x (callback_then p) = ChangesOnly ok x p
ChangesOnly ok x (get_then c k) = (v : Val c) → Says x c v → ChangesOnly ok x (k v)
ChangesOnly ok x (put_then c v p) = Says x c v × ChangesOnly ok x p
ChangesOnly ok x (is_then q k) = (b : Bool) → ChangesOnly ok x (k b)
ChangesOnly ok x (look_then q k) = (n : ℕ) → ChangesOnly ok x (k n)
ChangesOnly ok x (fetch_then q k) = (l : List ℕ) → ChangesOnly ok x (k l)
ChangesOnly ok x (act_then q p) = (ok q ≡ true) × ChangesOnly ok x p
ChangesOnly ok x (hand_then q p) = ChangesOnly ok x p
ChangesOnly ok x (row_then g p) = ⊥

-- ---- the driver's operations

abbrev pub At : ℕ → St → Type 0
At x s = s.0.globals.entered ≡ x

pub get-says : (x : ℕ) (c : Cell) (s : St) → At x s → Says x c (concrete.get c s)
get-says x globals-cell s k = k
get-says x control-cell s k = tt
get-says x allocator-cell s k = tt
get-says x (ep-cell d e) s k = tt
get-says x (request-cell d e) s k = tt
get-says x (paced_cell e) s k = tt

pub put-at : (x : ℕ) (c : Cell) (v : Val c) (s : St) → Says x c v → At x s → At x (concrete.put c v s)
unfolding with_on with_request_on with_paced_on
put-at x globals-cell v s h k = h
put-at x control-cell v s h k = k
put-at x allocator-cell v s h k = k
put-at x (ep-cell d e) v s h k = k
put-at x (request-cell d e) v s h k = k
put-at x (paced_cell e) v s h k = k

pub act-at : (q : Act) → allocates q ≡ false → (s : St) → (concrete.act q s).0.globals.entered
    ≡ s.0.globals.entered
act-at q h s = λ i. ((act-leaves q h s).rest i).0.entered

pub hand_at : (q : DmaStep) (s : St) → (concrete.hand q s).1.0.globals.entered ≡ s.0.globals.entered
hand_at q s = λ i. ((hand-leaves q s).rest i).0.entered

-- ---- its run

not-allocates : (b : Bool) → not b ≡ true → b ≡ false
not-allocates true h = absurd (true≢false (sym h))
not-allocates false h = refl

pub keeps-run : {i : Bool} {A : Type 0} (x : ℕ) (p : Script i A) → ChangesOnly passing x p → (s : St) → At x s
    → Throughout (At x) (Gives x p) (run concrete p s)
keeps-run x (ret a) h s k = at_end k refl
keeps-run x (bind p f) h s k = through-bind (keeps-run x p h.0 s k)
    (λ a t l g. through-more (keeps-run x (f a) (h.1 a g) t l) (λ b w. tt))
keeps-run x (test b p q) h s k = through-cond b (through-more (keeps-run x p h.0 s k) (λ a w. tt))
    (through-more (keeps-run x q h.1 s k) (λ a w. tt))
keeps-run x (read_then r e f) h s k = at_ask k (λ v t l. through-more (keeps-run x (f v) (h v) t l) (λ a w. tt))
keeps-run x (write_then r e v p) h s k = at_ask k (λ _ t l. through-more (keeps-run x p h t l) (λ a w. tt))
keeps-run x (wait_then n p) h s k = at_ask k (λ _ t l. through-more (keeps-run x p h t l) (λ a w. tt))
keeps-run x (callback_then p) h s k = at_ask k (λ _ t l. through-more (keeps-run x p h t l) (λ a w. tt))
keeps-run x (get_then c f) h s k =
    let g = get-says x c s k in
    through-more (keeps-run x (f (concrete.get c s)) (h (concrete.get c s) g) s k) (λ a w. (concrete.get c s, g, w))
keeps-run x (put_then c v p) h s k = through-more (keeps-run x p h.1 (concrete.put c v s) (put-at x c v s h.0 k))
    (λ a w. tt)
keeps-run x (is_then q f) h s k = through-more (keeps-run x (f (concrete.is q s)) (h (concrete.is q s)) s k)
    (λ a w. tt)
keeps-run x (look_then q f) h s k = through-more (keeps-run x (f (concrete.look q s)) (h (concrete.look q s)) s k)
    (λ a w. tt)
keeps-run x (fetch_then q f) h s k = through-more (keeps-run x (f (concrete.fetch q s)) (h (concrete.fetch q s)) s k)
    (λ a w. tt)
keeps-run x (act_then q p) h s k = through-more (keeps-run x p h.1 (concrete.act q s)
    (act-at q (not-allocates (allocates q) h.0) s ∙ k)) (λ a w. tt)
keeps-run x (hand_then q p) h s k = at_ask (hand_at q s ∙ k) (λ _ t l. through-more (keeps-run x p h t l) (λ a w. tt))
keeps-run x (row_then g p) h s k = absurd h
