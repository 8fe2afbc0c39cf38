-- A call leaves the pages of the endpoints that it does not name (Others.antt), but for the release of a bus reset's
-- flag: the scripts of all calls but the interrupt and the allocations, taken apart, and their runs
use Rattle.std.specs.Prelude.{Bool, true, false, cond, ◌&&◌, List, ◌≡◌, refl, ℕ, zero, suc, ◌+◌, ◌*◌, ◌%◌, eqb, length}
use Rattle.std.proofs.Common.{true≢false, sym, ◌∙◌, eqb-true}
use Rattle.regs.specs.declared.Access.{Access}
use Rattle.regs.specs.declared.Access.TheVariants.{Read, Write, Receive, Transmit, Ep0Dma, Wait, Callback}
use Rattle.regs.specs.declared.Reg.{Reg}
use Rattle.regs.specs.declared.Dir.{Dir}
use Rattle.regs.specs.declared.Dir.TheVariants.{Out, In}
use Rattle.alloc.specs.declared.Answer as alloc-answer
use Rattle.alloc.specs.declared.Answer.TheVariants as alloc
use Rattle.script.specs.Tree as tree
use Rattle.script.specs.Tree.{ends, asks}
use Rattle.script.specs.Cells.{Cell, Val}
use Rattle.script.specs.Script.{Script, run, rows, ret, bind, test, read_then, write_then, wait_then, callback_then}
use Rattle.script.specs.Script.{get_then, put_then, is_then, look_then, fetch_then, act_then, hand_then, row_then, Test}
use Rattle.script.specs.Script.{Look, Fetch, Act, complete, reset_ring, open_oldest, close_oldest, take_oldest, enqueue}
use Rattle.script.specs.Script.{dma_step_ask, send, place, place0, Burst, switch, bus_reset_lem, burst_ask}
use Rattle.ring.specs.Copies.{copied}
use Rattle.script.specs.Statics.{renewed}
use Rattle.script.specs.IsoIn.{iso_in_complete, iso_in_completions}
use Rattle.script.specs.Bus as bus
use Rattle.script.specs.Control.{acks}
use Rattle.script.specs.Driver.{started_as}
use Rattle.script.specs.Calls.{Config, Slotted, SetEnabled, PollRead, BeginWrite, PollWrite, PollDataOut, BeginDataIn}
use Rattle.script.specs.Calls.{Other, Allocate, AllocateAll, Start, BusPoll, BusEnable, BusDisable, Microframe}
use Rattle.script.specs.Calls.{SetStalled, IsStalled, SetPaced, Advance, BeginRead, BeginSetup, PollSetup, PollDataIn}
use Rattle.script.specs.Calls.{BeginAccept, PollAccept, BeginReject, BeginDataOut, BeginAcceptSetAddress, Aside, Open}
use Rattle.script.specs.Calls.{Close, Queue, slotted_code, other_code, aside_code, starting}
use Rattle.script.specs.Answers.{Answer}
use Rattle.script.specs.Machine.{Buf}
use Rattle.proof_book.specs.Pages.{OutPage, InPage, Kept, Pages, with_kept, with_out, with_in, kept_plain}
use Rattle.proof_book.specs.Book.{Bk, put_b, act_b, hand_b, row_b, iso_of, room_b, some, waits_on, open_out, read_out}
use Rattle.proof_book.specs.Book.{empty_out, empty_in, passed_in, placed_in, loaded_in, queued_in, book_ops}
use Rattle.proof_book.specs.FrameLaws.{at-elim}
use Rattle.proof_book.specs.FrontPage.{gives_to}
use Rattle.proof_book.specs.Others.{releases, Names, only, none, any, Away, slotted_names, other_names, aside_names}
use Rattle.proof_book.specs.BookTracksLaws.{Tracks, end, ask, earlier, tracks_bind}
use Rattle.proof_book.specs.BookDecidesLaws.{Any, sends_to}
use Rattle.proof_book.specs.RefusingLaws.{Same, leaves_pages, put_same, act-same}

-- ---- a script that changes the pages of the endpoints named alone

pub data ChangesOnlyNamed : Names → (A : Type 0) → Script false A → Type 1 where
  m_ret : {m : Names} {A : Type 0} {a : A} → ChangesOnlyNamed m A (ret a)
  m_bind : {m : Names} {A B : Type 0} {p : Script false B} {f : B → Script false A} → ChangesOnlyNamed m B p
      → ((b : B) → ChangesOnlyNamed m A (f b)) → ChangesOnlyNamed m A (bind p f)
  m_test : {m : Names} {A : Type 0} {b : Bool} {p q : Script false A} → ChangesOnlyNamed m A p → ChangesOnlyNamed m A q
      → ChangesOnlyNamed m A (test b p q)
  m_read : {m : Names} {A : Type 0} {r : Reg} {e : ℕ} {k : ℕ → Script false A} → ((v : ℕ) → ChangesOnlyNamed m A (k v))
      → ChangesOnlyNamed m A (read_then r e k)
  m_write : {m : Names} {A : Type 0} {r : Reg} {e v : ℕ} {p : Script false A} → ChangesOnlyNamed m A p
      → ChangesOnlyNamed m A (write_then r e v p)
  m_wait : {m : Names} {A : Type 0} {n : ℕ} {p : Script false A} → ChangesOnlyNamed m A p
      → ChangesOnlyNamed m A (wait_then n p)
  m_callback : {m : Names} {A : Type 0} {p : Script false A} → ChangesOnlyNamed m A p
      → ChangesOnlyNamed m A (callback_then p)
  m_get : {m : Names} {A : Type 0} {c : Cell} {k : Val c → Script false A} → ((v : Val c) → ChangesOnlyNamed m A (k v))
      → ChangesOnlyNamed m A (get_then c k)
  m_put : {m : Names} {A : Type 0} {c : Cell} {v : Val c} {p : Script false A} → ChangesOnlyNamed m A p
      → ChangesOnlyNamed m A (put_then c v p)
  m_is : {m : Names} {A : Type 0} {q : Test} {k : Bool → Script false A} → ((b : Bool) → ChangesOnlyNamed m A (k b))
      → ChangesOnlyNamed m A (is_then q k)
  m_look : {m : Names} {A : Type 0} {q : Look} {k : ℕ → Script false A} → ((n : ℕ) → ChangesOnlyNamed m A (k n))
      → ChangesOnlyNamed m A (look_then q k)
  m_fetch : {m : Names} {A : Type 0} {q : Fetch} {k : List ℕ → Script false A}
      → ((l : List ℕ) → ChangesOnlyNamed m A (k l)) → ChangesOnlyNamed m A (fetch_then q k)
  m_act : {m : Names} {A : Type 0} {q : Act} {p : Script false A} → leaves_pages q ≡ true → ChangesOnlyNamed m A p
      → ChangesOnlyNamed m A (act_then q p)
  m_complete : {e : ℕ} {A : Type 0} {p : Script false A} → ChangesOnlyNamed (only In e) A p
      → ChangesOnlyNamed (only In e) A (act_then (complete e) p)
  m_reset : {d : Dir} {e : ℕ} {A : Type 0} {p : Script false A} → ChangesOnlyNamed (only d e) A p
      → ChangesOnlyNamed (only d e) A (act_then (reset_ring d e) p)
  m_open : {e : ℕ} {A : Type 0} {p : Script false A} → ChangesOnlyNamed (only Out e) A p
      → ChangesOnlyNamed (only Out e) A (act_then (open_oldest e) p)
  m_close : {e : ℕ} {A : Type 0} {p : Script false A} → ChangesOnlyNamed (only Out e) A p
      → ChangesOnlyNamed (only Out e) A (act_then (close_oldest e) p)
  m_take : {e : ℕ} {A : Type 0} {p : Script false A} → ChangesOnlyNamed (only Out e) A p
      → ChangesOnlyNamed (only Out e) A (act_then (take_oldest e) p)
  m_enqueue : {e : ℕ} {bytes : List ℕ} {A : Type 0} {p : Script false A} → ChangesOnlyNamed (only In e) A p
      → ChangesOnlyNamed (only In e) A (act_then (enqueue e bytes) p)
  m_send : {e : ℕ} {A : Type 0} {p : Script false A} → ChangesOnlyNamed (only In e) A p
      → ChangesOnlyNamed (only In e) A (hand_then (send e) p)
  m_place : {d : Dir} {e : ℕ} {A : Type 0} {p : Script false A} → ChangesOnlyNamed (only d e) A p
      → ChangesOnlyNamed (only d e) A (hand_then (place d e) p)
  m_place0 : {m : Names} {A : Type 0} {p : Script false A} → ChangesOnlyNamed m A p
      → ChangesOnlyNamed m A (hand_then place0 p)
  m_switch : {e : ℕ} {on : Bool} {A : Type 0} {p : Script false A} → ChangesOnlyNamed (only Out e) A p
      → ChangesOnlyNamed (only Out e) A (row_then (switch e on) p)
  m_bus_reset : {m : Names} {A : Type 0} {p : Script false A} → ChangesOnlyNamed m A p
      → ChangesOnlyNamed m A (row_then bus_reset_lem p)
  -- whatever it does
  m_any : {A : Type 0} {p : Script false A} → ChangesOnlyNamed any A p

pub ruleset minding = (
  m_ret,
  m_bind,
  m_test,
  m_read,
  m_write,
  m_wait,
  m_callback,
  m_get,
  m_put,
  m_is,
  m_look,
  m_fetch,
  m_act,
  m_complete,
  m_reset,
  m_open,
  m_close,
  m_take,
  m_enqueue,
  m_send,
  m_place,
  m_place0,
  m_switch,
  m_bus_reset,
)

-- ---- its run

pub record Spares (m : Names) (s t : Bk) : Type 0 where
  pub outs : (e : ℕ) → Away m Out e → t.0.outs e ≡ s.0.outs e
  pub ins : (e : ℕ) → Away m In e → t.0.ins e ≡ s.0.ins e

-- at an access: unless it releases a bus reset's flag; and an address is of an endpoint named
pub record SparesAt (m : Names) (s : Bk) (q : Access) (t : Bk) : Type 0 where
  pub pages : releases q ≡ false → Spares m s t
  pub receives : (e : ℕ) → Away m Out e → gives_to q e ≡ false
  pub transmits : (e : ℕ) → Away m In e → sends_to q e ≡ false

abbrev pub Spared : Names → {A : Type 0} → Bk → tree.Out Bk A → Type 0
Spared m s o = Tracks Any (Spares m) (SparesAt m) s o

spares_then : (m : Names) (s t u : Bk) → Spares m s t → Spares m t u → Spares m s u
spares_then m s t u h k = record { outs = λ e a. k.outs e a ∙ h.outs e a; ins = λ e a. k.ins e a ∙ h.ins e a }

at-then : (m : Names) (s t u : Bk) (q : Access) → Spares m s t → SparesAt m t q u → SparesAt m s q u
at-then m s t u q h k = record {
  pages = λ r. spares_then m s t u h (k.pages r);
  receives = k.receives;
  transmits
      = k.transmits;
}

still : (m : Names) (s : Bk) → Spares m s s
still m s = record { outs = λ e a. refl; ins = λ e a. refl }

of-same : (m : Names) (s t : Bk) → Same s.0 t.0 → Spares m s t
of-same m s t h = record { outs = λ e a. h.outs e; ins = λ e a. h.ins e }

with-out : (f : ℕ) (t : Pages) (k : Kept) (p : OutPage) (b c : Buf)
    → Spares (only Out f) (t, b) (with_out (with_kept t k) f p, c)
with-out f t k p b c = record {
  outs = λ e a. at-elim (λ (q : OutPage). q ≡ t.outs e) f e p t.outs (λ h. absurd (a h)) (λ _. refl);
  ins = λ e a. refl;
}

with_in_lem : (f : ℕ) (t : Pages) (p : InPage) (b c : Buf) → Spares (only In f) (t, b) (with_in t f p, c)
with_in_lem f t p b c = record {
  outs = λ e a. refl;
  ins = λ e a. at-elim (λ (q : InPage). q ≡ t.ins e) f e p t.ins (λ h. absurd (a h)) (λ _. refl);
}

either : (m : Names) (s : Bk) (u : Bool) (x y : Pages) (c : Buf) → Spares m s (x, c) → Spares m s (y, c)
    → Spares m s (cond u x y, c)
either m s true x y c h k = h
either m s false x y c h k = k

-- the page of OUT f, or none
out-or-none : (f : ℕ) (s : Bk) (u : Bool) (p : OutPage)
    → Spares (only Out f) s (cond u (with_out s.0 f p) s.0, s.1)
out-or-none f s u p = either (only Out f) s u (with_out s.0 f p) s.0 s.1
    (with-out f s.0 s.0.kept p s.1 s.1) (still (only Out f) s)

queues : (f : ℕ) (s : Bk) (u : Bool) (p : InPage) (c : Buf)
    → Spares (only In f) s (cond {A = Bk} u (with_in s.0 f p, c) s)
queues f s true p c = with_in_lem f s.0 p s.1 c
queues f s false p c = still (only In f) s

resets : (d : Dir) (f : ℕ) (s : Bk) → Spares (only d f) s (act_b (reset_ring d f) s)
resets Out f s = either (only Out f) s (iso_of s.0 Out f) s.0 (with_out s.0 f (empty_out (s.0.outs f))) s.1
    (still (only Out f) s)
    (with-out f s.0 s.0.kept (empty_out (s.0.outs f)) s.1 s.1)
resets In f s = with_in_lem f s.0 empty_in s.1 s.1

places : (d : Dir) (f : ℕ) (s : Bk) → Spares (only d f) s (hand_b (place d f) s).1
places Out f s = still (only Out f) s
places In f s = with_in_lem f s.0 (placed_in (s.0.ins f)) s.1 s.1

other-number : (e f : ℕ) → (e % 16 ≡ f % 16 → ⊥) → eqb (f % 16) (e % 16) ≡ false
other-number e f h = by (eqb (f % 16) (e % 16)) refl
  where
    by : (u : Bool) → eqb (f % 16) (e % 16) ≡ u → u ≡ false
    by true k = absurd (h (sym (eqb-true (f % 16) (e % 16) k)))
    by false k = refl

-- a receive address of OUT f, a transmit address of IN f
to_out : (f x : ℕ) (s t : Bk) → Spares (only Out f) s t → SparesAt (only Out f) s (Receive f x) t
to_out f x s t h = record { pages = λ _. h; receives = λ e a. other-number e f a; transmits = λ e a. refl }

to_in : (f x : ℕ) (s t : Bk) → Spares (only In f) s t → SparesAt (only In f) s (Transmit f x) t
to_in f x s t h = record {
  pages = λ _. h;
  receives = λ e a. refl;
  transmits
      = λ e a. other-number f e (λ k. a (sym k));
}

to-own : (d : Dir) (f x : ℕ) (s t : Bk) → Spares (only d f) s t → SparesAt (only d f) s (dma_step_ask (place d f) x) t
to-own Out f x s t h = to_out f x s t h
to-own In f x s t h = to_in f x s t h

-- an access that is no address
plain-access : (m : Names) (s t : Bk) (q : Access) → ((e : ℕ) → gives_to q e ≡ false) → ((e : ℕ) → sends_to q e ≡ false)
    → Spares m s t → SparesAt m s q t
plain-access m s t q g h k = record { pages = λ _. k; receives = λ e a. g e; transmits = λ e a. h e }

kept-alone : (m : Names) (s : Bk) (k : Kept) → Spares m s (with_kept s.0 k, s.1)
kept-alone m s k = record { outs = λ e a. refl; ins = λ e a. refl }

switches : (f : ℕ) (on : Bool) (n : ℕ) (s : Bk) → SparesAt (only Out f) s
    (burst_ask (switch f on) n (row_b (switch f on) n s).0) (row_b (switch f on) n s).1
switches f on zero s = plain-access (only Out f) s (row_b (switch f on) zero s).1 _ (λ e. refl) (λ e. refl)
    (kept-alone (only Out f) s _)
switches f on (suc zero) s = plain-access (only Out f) s (row_b (switch f on) (suc zero) s).1 _ (λ e. refl) (λ e. refl)
    (kept-alone (only Out f) s _)
switches f on (suc (suc zero)) s = plain-access (only Out f) s s (burst_ask (switch f on) (suc (suc zero)) 0) (λ e. refl)
    (λ e. refl) (still (only Out f) s)
switches f on (suc (suc (suc k))) s = to_out f 0 s (row_b (switch f on) (suc (suc (suc k))) s).1
    (either (only Out f) s (iso_of s.0 Out f && eqb k 15)
    (with_out (with_kept s.0 (kept_plain s.0.kept Out f (renewed (s.0.kept.plain Out f)))) f
    (empty_out (s.0.outs f))) s.0 s.1
    (with-out f s.0 (kept_plain s.0.kept Out f (renewed (s.0.kept.plain Out f))) (empty_out (s.0.outs f))
    s.1 s.1) (still (only Out f) s))

bus-resets : (m : Names) (n : ℕ) (s : Bk) → SparesAt m s (burst_ask bus_reset_lem n (row_b bus_reset_lem n s).0)
    (row_b bus_reset_lem n s).1
bus-resets m zero s = record { pages = λ h. absurd (true≢false h); receives = λ e a. refl; transmits = λ e a. refl }
bus-resets m (suc zero) s = record { pages = λ _. still m s; receives = λ e a. refl; transmits = λ e a. refl }
bus-resets m (suc (suc zero)) s = record {
  pages = λ _. kept-alone m s _;
  receives = λ e a. refl;
  transmits
      = λ e a. refl;
}
bus-resets m (suc (suc (suc k))) s = record {
  pages = λ _. kept-alone m s _;
  receives = λ e a. refl;
  transmits
      = λ e a. refl;
}

spare-rows : {A : Type 0} (m : Names) (g : Burst) → ((n : ℕ) (s : Bk)
    → SparesAt m s (burst_ask g n (row_b g n s).0) (row_b g n s).1) → (n : ℕ)
    {k : Bk → tree.Out Bk A} → ((t : Bk) → Spared m t (k t)) → (s : Bk) → Spared m s (rows book_ops g n k s)
spare-rows m g j zero h s = ask tt (j zero s) (λ v t _. h t)
spare-rows m g j (suc n) h s = ask tt (j (suc n) s) (λ v t _. spare-rows m g j n h t)

after : {A : Type 0} (m : Names) (s t : Bk) {o : tree.Out Bk A} → Spares m s t → Spared m t o → Spared m s o
after m s t h w = earlier Any (Spares m) (SparesAt m) (spares_then m) (at-then m) h w

pub spared-any : {A : Type 0} (s : Bk) (o : tree.Out Bk A) → Spared any s o
spared-any s (ends a t) = end tt (record { outs = λ e a. absurd a; ins = λ e a. absurd a })
spared-any s (asks q t k) = ask tt
    (record {
      pages = λ _. record { outs = λ e a. absurd a; ins = λ e a. absurd a };
      receives
          = λ e a. absurd a;
      transmits = λ e a. absurd a;
    })
    (λ v u _. spared-any u (k v u))

pub spare : {m : Names} {A : Type 0} {p : Script false A} → ChangesOnlyNamed m A p → (s : Bk)
    → Spared m s (run book_ops p s)
spare {m} m_ret s = end tt (still m s)
spare {m} (m_bind h g) s = tracks_bind Any (Spares m) (SparesAt m) (spares_then m) (at-then m) (spare h s)
    (λ a t _. spare (g a) t)
spare (m_test {b = true} h g) s = spare h s
spare (m_test {b = false} h g) s = spare g s
spare {m} (m_read {r = r} {e = e} h) s = ask tt (plain-access m s s (Read r e) (λ e. refl) (λ e. refl) (still m s))
    (λ v t _. spare (h v) t)
spare {m} (m_write {r = r} {e = e} {v = v} h) s = ask tt
    (plain-access m s s (Write r e v) (λ e. refl) (λ e. refl) (still m s)) (λ v t _. spare h t)
spare {m} (m_wait {n = n} h) s = ask tt (plain-access m s s (Wait n) (λ e. refl) (λ e. refl) (still m s))
    (λ v t _. spare h t)
spare {m} (m_callback h) s = ask tt (plain-access m s s Callback (λ e. refl) (λ e. refl) (still m s))
    (λ v t _. spare h t)
spare (m_get h) s = spare (h _) s
spare {m} (m_put {c = c} {v = v} h) s = after m s (put_b c v s) (of-same m s (put_b c v s) (put_same c v s))
    (spare h (put_b c v s))
spare (m_is h) s = spare (h _) s
spare (m_look h) s = spare (h _) s
spare (m_fetch h) s = spare (h _) s
spare {m} (m_act {q = q} u h) s = after m s (act_b q s) (of-same m s (act_b q s) (act-same q u s)) (spare h (act_b q s))
spare (m_complete {e = e} h) s = after (only In e) s (act_b (complete e) s)
    (with_in_lem e s.0 (passed_in (s.0.ins e)) s.1 s.1) (spare h (act_b
    (complete e) s))
spare (m_reset {d = d} {e = e} h) s = after (only d e) s (act_b (reset_ring d e) s) (resets d e s)
    (spare h (act_b (reset_ring d e) s))
spare (m_open {e = e} h) s = after (only Out e) s (act_b (open_oldest e) s)
    (out-or-none e s (some (waits_on s.0 Out e)) (open_out (s.0.outs e)))
    (spare h (act_b (open_oldest e) s))
spare (m_close {e = e} h) s = after (only Out e) s (act_b (close_oldest e) s)
    (out-or-none e s (s.0.outs e).opened (read_out (s.0.outs e)))
    (spare h (act_b (close_oldest e) s))
spare (m_take {e = e} h) s = after (only Out e) s (act_b (take_oldest e) s)
    (out-or-none e s (some (waits_on s.0 Out e)) (read_out (s.0.outs e)))
    (spare h (act_b (take_oldest e) s))
spare (m_enqueue {e = e} {bytes = bytes} h) s = after (only In e) s (act_b (enqueue e bytes) s)
    (queues e s (room_b s.0 e (length bytes)) (queued_in (s.0.ins e) bytes)
    (copied s.1 ((s.0.kept.plain In e).base + (s.0.ins e).turn * s.0.kept.allocator.size) bytes))
    (spare h (act_b (enqueue e bytes) s))
spare (m_send {e = e} h) s = ask tt (to_in e 0 s (hand_b (send e) s).1
    (with_in_lem e s.0 (loaded_in (s.0.ins e) s.1) s.1 s.1)) (λ v t _. spare h t)
spare (m_place {d = d} {e = e} h) s = ask tt (to-own d e 0 s (hand_b (place d e) s).1 (places d e s))
    (λ v t _. spare h t)
spare {m} (m_place0 h) s = ask tt (plain-access m s s (Ep0Dma 0) (λ e. refl) (λ e. refl) (still m s))
    (λ v t _. spare h t)
spare (m_switch {e = e} {on = on} h) s = spare-rows (only Out e) (switch e on) (switches e on) 18 (λ t. spare h t) s
spare {m} (m_bus_reset h) s = spare-rows m bus_reset_lem (bus-resets m) 3 (λ t. spare h t) s
spare (m_any {p = p}) s = spared-any s (run book_ops p s)

-- ---- the calls

of-complete : (e : ℕ) → ChangesOnlyNamed (only In e) Unit (iso_in_complete e)
of-complete e = search minding depth 30

of-completions : (n e : ℕ) → ChangesOnlyNamed (only In e) Unit (iso_in_completions n e)
unfolding iso_in_completions
of-completions zero e = search minding
of-completions (suc n) e = m_bind (of-complete e) (λ _. of-completions n e)

of-nak-all : {m : Names} (n e : ℕ) → ChangesOnlyNamed m Unit (bus.nak_all n e)
unfolding bus.nak_all
of-nak-all zero e = search minding
of-nak-all (suc n) e = m_bind (m_write m_ret) (λ _. m_bind (m_write m_ret) (λ _. of-nak-all n (suc e)))

of-acks : {m : Names} (dir : Dir) (first : Bool) → ChangesOnlyNamed m Unit (acks dir first)
of-acks Out true = search minding
of-acks Out false = search minding
of-acks In true = search minding
of-acks In false = search minding

of-stalled : (dir : Dir) (e : ℕ) (onn : Bool) → ChangesOnlyNamed none Unit (bus.set_stalled dir e onn)
of-stalled Out e true = search minding depth 20
of-stalled In e true = search minding depth 20
of-stalled Out e false = search minding depth 20
of-stalled In e false = search minding depth 30

of-enabling : (dir : Dir) (e : ℕ) (onn : Bool) → ChangesOnlyNamed (only dir e) Unit (bus.set_enabled dir e onn)
of-enabling Out e onn = search minding depth 40
of-enabling In e onn = search minding depth 40

of-started : (maximum : ℕ) (a : alloc-answer.Answer) → ChangesOnlyNamed none Answer (started_as maximum a)
of-started maximum (alloc.Refused n) = search minding
of-started maximum (alloc.Given e base slots) = search minding depth 20

pub of-slotted : (o : Slotted) → ChangesOnlyNamed (slotted_names o) Answer (slotted_code o)
of-slotted (SetEnabled dir e onn) = search (of-enabling, minding) depth 20
of-slotted (PollRead e n) = search minding depth 40
of-slotted (BeginWrite e bytes) = search minding depth 40
of-slotted (PollWrite e bytes) = search minding depth 40
of-slotted (PollDataOut n) = search minding depth 40
of-slotted (BeginDataIn bytes first true) = search (of-acks, minding) depth 60
of-slotted (BeginDataIn bytes first false) = search (of-acks, minding) depth 60

pub of-aside : (o : Aside) → ChangesOnlyNamed (aside_names o) Answer (aside_code o)
of-aside (Open e) = search minding depth 40
of-aside (Close e) = search minding depth 40
of-aside (Queue e bytes) = search minding depth 40

pub of-starting : (m : Names) (c : Config) → ChangesOnlyNamed m Answer (starting c)
of-starting m c = search minding depth 30

pub of_other : (o : Other) → ChangesOnlyNamed (other_names o) Answer (other_code o)
of_other (Allocate dir kind address maximum interval) = m_any
of_other (AllocateAll bytes) = m_any
of_other (Start maximum) = search (of-started, minding) depth 20
of_other BusPoll = search (of-nak-all, minding) depth 60
of_other BusEnable = search minding depth 20
of_other BusDisable = search minding depth 20
of_other Microframe = search minding depth 20
of_other (SetStalled dir e onn) = search (of-stalled, minding) depth 20
of_other (IsStalled dir e) = search minding depth 20
of_other (SetPaced e onn) = search minding depth 20
of_other (Advance e) = search (of-completions, minding) depth 40
of_other (BeginRead e n) = search minding depth 60
of_other BeginSetup = search minding depth 20
of_other PollSetup = search minding depth 20
of_other PollDataIn = search minding depth 40
of_other BeginAccept = search minding depth 40
of_other PollAccept = search minding depth 40
of_other BeginReject = search minding depth 40
of_other (BeginDataOut n first) = search (of-acks, minding) depth 60
of_other (BeginAcceptSetAddress a) = search minding depth 40
