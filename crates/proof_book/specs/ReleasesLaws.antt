-- The scripts of all calls but the interrupt: `Write IntFg 0 1`, the release of the bus reset's flag, is handed out in
-- a bus reset's row alone, with none waiting on any endpoint in the book
use Rattle.std.specs.Prelude.{Bool, true, false, cond, not, ◌&&◌, ◌||◌, List, [], ◌≡◌, refl, ℕ, zero, suc, eqb}
use Rattle.std.proofs.Common.{true≢false, ap, sym, ◌∙◌}
use Rattle.regs.specs.declared.Access.{Access}
use Rattle.regs.specs.declared.Access.TheVariants.{Write}
use Rattle.regs.specs.declared.Reg.{Reg}
use Rattle.regs.specs.declared.Reg.TheVariants.{IntFg}
use Rattle.regs.specs.declared.Dir.TheVariants.{Out, In}
use Rattle.script.specs.Tree as tree
use Rattle.script.specs.Cells.{Cell, Val}
use Rattle.script.specs.Script.{Script, run, rows, ret, bind, test, read_then, write_then, wait_then, callback_then}
use Rattle.script.specs.Script.{get_then, put_then, is_then, look_then, fetch_then, act_then, hand_then, row_then, Test}
use Rattle.script.specs.Script.{Look, Fetch, Act, DmaStep, dma_step_ask, arrive, send, place, place0, Burst, switch}
use Rattle.script.specs.Script.{bus_reset_lem, last_of, burst_ask}
use Rattle.script.specs.Script.{complete, reset_ring, set_enabled_lem, fill, fill0, open_oldest, close_oldest, take_oldest}
use Rattle.script.specs.Script.{enqueue, allocate, allocate0, no_wakes, waken}
use Rattle.script.specs.Bus as bus
use Rattle.script.specs.Answers.{Answer}
use Rattle.script.specs.Calls.{Config, Slotted, SetEnabled, PollRead, BeginWrite, PollWrite, PollDataOut, BeginDataIn}
use Rattle.script.specs.Calls.{Other, Allocate, AllocateAll, Start, BusPoll, BusEnable, BusDisable, Microframe}
use Rattle.script.specs.Calls.{SetStalled, IsStalled, SetPaced, Advance, BeginRead, BeginSetup, PollSetup, PollDataIn}
use Rattle.script.specs.Calls.{BeginAccept, PollAccept, BeginReject, BeginDataOut, BeginAcceptSetAddress, Aside}
use Rattle.script.specs.Calls.{slotted, other, aside, slotted_code, other_code, aside_code}
use Rattle.script.specs.Calls as the-calls
use Rattle.script.specs.Every.{same_reg}
use Rattle.script.specs.Steps.{Kind, plain, moving, turning, resetting, giving, queueing, kind_of, code_of, is, may_ask}
use Rattle.script.specs.Steps.{may_put, may_act}
use Rattle.script.specs.Steps.{may_row, Asks, Steps}
use Rattle.script.proofs.StepsCalls.{call-steps, start-up-steps}
use Rattle.script.specs.StepsRunsLaws.{if-true, if-so, Handed, kinds-apart, writes-flag}
use Rattle.proof_book.specs.Pages.{OutPage, InPage}
use Rattle.proof_book.specs.Book.{Bk, row_b, hand_b, book_ops}
use Rattle.proof_book.specs.BookTracksLaws.{Tracks, end, ask, earlier, tracks_bind}
use Rattle.proof_book.specs.ActsLaws.{act_kind}
use Rattle.proof_book.specs.BookDecidesLaws.{Any}
pub use Rattle.proof_book.specs.Others.{releases}

-- ---- a script that releases it in a row alone

-- u: a change of a script that may queue packets; else of one in which the tail may pass packets and endpoints may be
-- emptied
abbrev pub suits : Bool → Act → Bool
suits u q = let k = act_kind q in cond (is k moving || (is k resetting || is k giving)) (not u)
    (cond (is k queueing) u true)

pub data InRows (u : Bool) : (A : Type 0) → Script false A → Type 1 where
  r_ret : {A : Type 0} {a : A} → InRows u A (ret a)
  r_bind : {A B : Type 0} {p : Script false B} {f : B → Script false A} → InRows u B p → ((b : B) → InRows u A (f b))
      → InRows u A (bind p f)
  r_test : {A : Type 0} {b : Bool} {p q : Script false A} → InRows u A p → InRows u A q → InRows u A (test b p q)
  r_read : {A : Type 0} {r : Reg} {e : ℕ} {k : ℕ → Script false A} → ((v : ℕ) → InRows u A (k v))
      → InRows u A (read_then r e k)
  r_write : {A : Type 0} {r : Reg} {e v : ℕ} {p : Script false A} → releases (Write r e v) ≡ false → InRows u A p
      → InRows u A (write_then r e v p)
  r_wait : {A : Type 0} {n : ℕ} {p : Script false A} → InRows u A p → InRows u A (wait_then n p)
  r_callback : {A : Type 0} {p : Script false A} → InRows u A p → InRows u A (callback_then p)
  r_get : {A : Type 0} {c : Cell} {k : Val c → Script false A} → ((v : Val c) → InRows u A (k v))
      → InRows u A (get_then c k)
  r_put : {A : Type 0} {c : Cell} {v : Val c} {p : Script false A} → InRows u A p → InRows u A (put_then c v p)
  r_is : {A : Type 0} {q : Test} {k : Bool → Script false A} → ((b : Bool) → InRows u A (k b))
      → InRows u A (is_then q k)
  r_look : {A : Type 0} {q : Look} {k : ℕ → Script false A} → ((n : ℕ) → InRows u A (k n)) → InRows u A (look_then q k)
  r_fetch : {A : Type 0} {q : Fetch} {k : List ℕ → Script false A} → ((l : List ℕ) → InRows u A (k l))
      → InRows u A (fetch_then q k)
  r_act : {A : Type 0} {q : Act} {p : Script false A} → suits u q ≡ true → InRows u A p → InRows u A (act_then q p)
  r_hand : {A : Type 0} {q : DmaStep} {p : Script false A} → not u ≡ true → InRows u A p → InRows u A (hand_then q p)
  r_row : {A : Type 0} {g : Burst} {p : Script false A} → not u ≡ true → InRows u A p → InRows u A (row_then g p)

abbrev pub Rows : {A : Type 0} → Script false A → Type 1
Rows {A} p = InRows false A p

ruleset inRows = (
  r_ret,
  r_bind,
  r_test,
  r_read,
  r_write,
  r_wait,
  r_callback,
  r_get,
  r_put,
  r_is,
  r_look,
  r_fetch,
  r_act,
  r_hand,
  r_row,
)

-- ---- its run

-- none wait on endpoint e
pub record Clear (p : OutPage) (q : InPage) : Type 0 where
  pub waiting : p.waiting ≡ []
  pub opened : p.opened ≡ false
  pub admitted : p.admitted ≡ []
  pub read : p.read ≡ []
  pub waiting_in : q.waiting ≡ []
  pub sending : q.sending ≡ false
  pub queued : q.queued ≡ []
  pub sent : q.sent ≡ []
  pub passed : q.passed ≡ []

abbrev pub Cleared : Bk → Access → Bk → Type 0
Cleared s q t = releases q ≡ true → (e : ℕ) → Clear (t.0.outs e) (t.0.ins e)

abbrev Whatever : Bk → Bk → Type 0
Whatever s t = Unit {0}

abbrev pub Clears : {A : Type 0} → Bk → tree.Out Bk A → Type 0
Clears s o = Tracks Any Whatever Cleared s o

not-released : {X : Type 0} {u : Bool} → u ≡ false → u ≡ true → X
not-released h k = absurd (true≢false (sym k ∙ h))

handed-quiet : (q : DmaStep) (x : ℕ) → releases (dma_step_ask q x) ≡ false
handed-quiet (arrive e n) x = refl
handed-quiet (send e) x = refl
handed-quiet (place Out e) x = refl
handed-quiet (place In e) x = refl
handed-quiet place0 x = refl

row-cleared : (g : Burst) (n : ℕ) (s : Bk) → Cleared s (burst_ask g n (row_b g n s).0) (row_b g n s).1
row-cleared (switch e on) zero s h = not-released refl h
row-cleared (switch e on) (suc zero) s h = not-released refl h
row-cleared (switch e on) (suc (suc zero)) s h = not-released refl h
row-cleared (switch e on) (suc (suc (suc n))) s h = not-released refl h
row-cleared bus_reset_lem zero s h = λ e.
    record {
      waiting = refl;
      opened = refl;
      admitted = refl;
      read = refl;
      waiting_in = refl;
      sending = refl;
      queued
          = refl;
      sent = refl;
      passed = refl;
    }
row-cleared bus_reset_lem (suc zero) s h = not-released refl h
row-cleared bus_reset_lem (suc (suc zero)) s h = not-released refl h
row-cleared bus_reset_lem (suc (suc (suc n))) s h = not-released refl h

clear-rows : {A : Type 0} (g : Burst) (n : ℕ) {k : Bk → tree.Out Bk A} → ((t : Bk) → Clears t (k t)) → (s : Bk)
    → Clears s (rows book_ops g n k s)
clear-rows g zero h s = ask tt (row-cleared g zero s) (λ v t _. h t)
clear-rows g (suc n) h s = ask tt (row-cleared g (suc n) s) (λ v t _. clear-rows g n h t)

from : {A : Type 0} {s t : Bk} {o : tree.Out Bk A} → Clears t o → Clears s o
from w = earlier Any Whatever Cleared (λ s t u _ _. tt) (λ s t u q _ m. m) tt w

pub clears : {u : Bool} {A : Type 0} {p : Script false A} → InRows u A p → (s : Bk) → Clears s (run book_ops p s)
clears r_ret s = end tt tt
clears (r_bind h g) s = tracks_bind Any Whatever Cleared (λ s t u _ _. tt) (λ s t u q _ m. m) (clears h s)
    (λ a t _. clears (g a) t)
clears (r_test {b = true} h g) s = clears h s
clears (r_test {b = false} h g) s = clears g s
clears (r_read h) s = ask tt (λ k. not-released refl k) (λ v t _. clears (h v) t)
clears (r_write u h) s = ask tt (λ k. not-released u k) (λ v t _. clears h t)
clears (r_wait h) s = ask tt (λ k. not-released refl k) (λ v t _. clears h t)
clears (r_callback h) s = ask tt (λ k. not-released refl k) (λ v t _. clears h t)
clears (r_get h) s = clears (h _) s
clears (r_put h) s = from (clears h _)
clears (r_is h) s = clears (h _) s
clears (r_look h) s = clears (h _) s
clears (r_fetch h) s = clears (h _) s
clears (r_act m h) s = from (clears h _)
clears (r_hand {q = q} m h) s = ask tt (λ k. not-released (handed-quiet q (hand_b q s).0) k) (λ v t _. clears h t)
clears (r_row {g = g} m h) s = clear-rows g (last_of g) (λ t. clears h t) s

-- ---- the calls

not-released-by : (k : Kind) → is k resetting ≡ false → (r : Reg) (e v : ℕ) → Asks k (Write r e v)
    → releases (Write r e v) ≡ false
not-released-by k h r e v x = by (same_reg r IntFg) (eqb v 1)
    (λ g. writes-flag k r v (if-true (may_ask k (Write r e v)) (Unit {0}) x) g)
  where
    by : (a b : Bool) → (a ≡ true → (not b || is k resetting) ≡ true) → (a && b) ≡ false
    by false b f = refl
    by true false f = refl
    by true true f = absurd (true≢false (sym (f refl) ∙ h))

no-queue : (k j : Kind) → eqb (code_of j) (code_of queueing) ≡ false → is k j ≡ true → not (is k queueing) ≡ true
no-queue k j g h = ap not (kinds-apart k j queueing g h)

kind-suits : (k : Kind) (q : Act) → may_act k q ≡ true → suits (is k queueing) q ≡ true
kind-suits k (complete e) h = h
kind-suits k (reset_ring d e) h = no-queue k turning refl h
kind-suits k (set_enabled_lem d e on) h = refl
kind-suits k (fill e bytes) h = refl
kind-suits k (fill0 bytes) h = refl
kind-suits k (open_oldest e) h = refl
kind-suits k (close_oldest e) h = refl
kind-suits k (take_oldest e) h = refl
kind-suits k (enqueue e bytes) h = h
kind-suits k (allocate d kind address maximum interval) h = no-queue k giving refl h
kind-suits k (allocate0 maximum) h = refl
kind-suits k no_wakes h = refl
kind-suits k (waken codes) h = refl

kind-rows : (k : Kind) (g : Burst) → may_row k g ≡ true → not (is k queueing) ≡ true
kind-rows k (switch e on) h = no-queue k turning refl h
kind-rows k bus_reset_lem h = no-queue k resetting refl h

-- a script like a call of a kind, but for the bus' poll
module _ (k : Kind) (other : is k resetting ≡ false) where
  in_rows : {A : Type 0} (p : Script false A) → Steps k p → InRows (is k queueing) A p
  in_rows (ret a) x = r_ret
  in_rows (bind p f) x = r_bind (in_rows p x.0) (λ a. in_rows (f a) (x.1 a))
  in_rows (test b p q) x = r_test (in_rows p x.0) (in_rows q x.1)
  in_rows (read_then r e f) x = r_read (λ v. in_rows (f v) (x.1 v))
  in_rows (write_then r e v p) x = r_write (not-released-by k other r e v x.0) (in_rows p x.1)
  in_rows (wait_then n p) x = r_wait (in_rows p x.1)
  in_rows (callback_then p) x = r_callback (in_rows p x.1)
  in_rows (get_then c f) x = r_get (λ v. in_rows (f v) (x v))
  in_rows (put_then c v p) x = r_put (in_rows p (if-so (may_put k c v) x))
  in_rows (is_then q f) x = r_is (λ b. in_rows (f b) (x b))
  in_rows (look_then q f) x = r_look (λ n. in_rows (f n) (x n))
  in_rows (fetch_then q f) x = r_fetch (λ l. in_rows (f l) (x l))
  in_rows (act_then q p) x = r_act (kind-suits k q (if-true (may_act k q) (Steps k p) x))
      (in_rows p (if-so (may_act k q) x))
  in_rows (hand_then q p) x =
      let y : Handed k q p = if-so (not (is k queueing)) x in
      r_hand (if-true (not (is k queueing)) (Handed k q p) x) (in_rows p y.1)
  in_rows (row_then g p) x = r_row (kind-rows k g (if-true (may_row k g) (Steps k p) x))
      (in_rows p (if-so (may_row k g) x))

-- the bus' poll releases it in its row
of-nak-all : (n e : ℕ) → Rows (bus.nak_all {i = false} n e)
unfolding bus.nak_all
of-nak-all zero e = search inRows
of-nak-all (suc n) e = r_bind (r_write refl r_ret) (λ _. r_bind (r_write refl r_ret) (λ _. of-nak-all n (suc e)))

-- a write's poll queues a packet
abbrev pub may_queue : Slotted → Bool
may_queue o = is (kind_of (slotted o)) queueing

of-kind : (o : Slotted) → is (kind_of (slotted o)) resetting ≡ false
    → InRows (is (kind_of (slotted o)) queueing) Answer (slotted_code o)
of-kind o h = in_rows (kind_of (slotted o)) h (slotted_code o) (call-steps (slotted o))

pub of-slotted : (o : Slotted) → InRows (may_queue o) Answer (slotted_code o)
of-slotted (SetEnabled dir e onn) = of-kind (SetEnabled dir e onn) refl
of-slotted (PollRead e n) = of-kind (PollRead e n) refl
of-slotted (BeginWrite e bytes) = of-kind (BeginWrite e bytes) refl
of-slotted (PollWrite e bytes) = of-kind (PollWrite e bytes) refl
of-slotted (PollDataOut n) = of-kind (PollDataOut n) refl
of-slotted (BeginDataIn bytes first last) = of-kind (BeginDataIn bytes first last) refl

pub of-aside : (o : Aside) → InRows true Answer (aside_code o)
of-aside o = in_rows queueing refl (aside_code o) (call-steps (aside o))

of-kind-other : (o : Other) → is (kind_of (other o)) resetting ≡ false
    → InRows (is (kind_of (other o)) queueing) Answer (other_code o)
of-kind-other o h = in_rows (kind_of (other o)) h (other_code o) (call-steps (other o))

pub of_other : (o : Other) → Rows (other_code o)
of_other (Allocate dir kind address maximum interval) = of-kind-other (Allocate dir kind address maximum interval) refl
of_other (AllocateAll bytes) = of-kind-other (AllocateAll bytes) refl
of_other (Start maximum) = of-kind-other (Start maximum) refl
of_other BusPoll = search (of-nak-all, inRows) depth 60
of_other BusEnable = of-kind-other BusEnable refl
of_other BusDisable = of-kind-other BusDisable refl
of_other Microframe = of-kind-other Microframe refl
of_other (SetStalled dir e onn) = of-kind-other (SetStalled dir e onn) refl
of_other (IsStalled dir e) = of-kind-other (IsStalled dir e) refl
of_other (SetPaced e onn) = of-kind-other (SetPaced e onn) refl
of_other (Advance e) = of-kind-other (Advance e) refl
of_other (BeginRead e n) = of-kind-other (BeginRead e n) refl
of_other BeginSetup = of-kind-other BeginSetup refl
of_other PollSetup = of-kind-other PollSetup refl
of_other PollDataIn = of-kind-other PollDataIn refl
of_other BeginAccept = of-kind-other BeginAccept refl
of_other PollAccept = of-kind-other PollAccept refl
of_other BeginReject = of-kind-other BeginReject refl
of_other (BeginDataOut n first) = of-kind-other (BeginDataOut n first) refl
of_other (BeginAcceptSetAddress a) = of-kind-other (BeginAcceptSetAddress a) refl

pub of-starting : (c : Config) → Rows (the-calls.starting c)
of-starting c = in_rows plain refl (the-calls.starting c) (start-up-steps plain c)
