-- "Load": the length that a continue writes for an IN is its packet's where its transmit address came just before,
-- else 0
-- where none is left; and ep_config is written as it is kept. The scripts of all calls, and every list of calls of the
-- code
use Rattle.std.specs.Prelude.{Bool, true, false, not, cond, ◌&&◌, ◌||◌, List, [], ◌∷◌, ◌≡◌, refl, ℕ, zero, suc, ◌%◌, ◌<◌, eqb, ltb, length}
use Rattle.std.proofs.Common.{true≢false, ap, subst, sym, ◌∙◌, eq-eqb, lt-ltb}
use Rattle.regs.specs.declared.Access.{Access}
use Rattle.regs.specs.declared.Access.TheVariants.{Read, Write, Receive, Transmit, Ep0Dma, Wait, Callback}
use Rattle.regs.specs.declared.Reg.{Reg}
use Rattle.regs.specs.declared.Reg.TheVariants.{EpTLen, EpTxCtrl, EpConfig}
use Rattle.regs.specs.ControlWord.{ack}
use Rattle.regs.specs.declared.Dir.{Dir}
use Rattle.regs.specs.declared.Dir.TheVariants.{Out, In}
use Rattle.state.specs.State.{view}
use Rattle.state.specs.Driver.{Driver}
use Rattle.alloc.specs.declared.Answer as alloc-answer
use Rattle.alloc.specs.declared.Answer.TheVariants as alloc
use Rattle.descriptor.specs.declared.Endpoint.{Endpoint}
use Rattle.descriptor.specs.declared.Answer as reading-answer
use Rattle.descriptor.specs.declared.Answer.TheVariants as reading
use Rattle.script.specs.Tree as tree
use Rattle.script.specs.Tree.{ends, asks, bind_out}
use Rattle.script.specs.Cells.{EpCore, Cell, Val, globals-cell}
use Rattle.script.specs.Every.{same_reg, on_write}
use Rattle.script.specs.Script.{Script, run, rows, ret, bind, test, read_then, write_then, wait_then, callback_then}
use Rattle.script.specs.Script.{get_then, put_then, is_then, look_then, fetch_then, act_then, hand_then, row_then, Test}
use Rattle.script.specs.Script.{Look, Fetch, Act, DmaStep, Burst, arrive, send, place, place0, switch, bus_reset_lem, look}
use Rattle.script.specs.Script.{get, write, next_len_lem, hand, dma_step_ask, burst_ask, last_of}
use Rattle.script.specs.Simulates.{Phase}
use Rattle.script.specs.Statics.{is_on, wake, modify_reg}
use Rattle.script.specs.Endpoint.{load_write}
use Rattle.script.specs.IsoIn.{iso_in_complete, iso_in_completions}
use Rattle.script.specs.Bus as bus
use Rattle.script.specs.Control.{acks}
use Rattle.script.specs.Driver.{allocated_as, started_as}
use Rattle.script.specs.AllocateAll.{allocate_each, announce, announce_all, allocate_read}
use Rattle.script.specs.Answers.{Answer, Refused}
use Rattle.script.specs.Calls.{Config, Op, interrupt, slotted, other, aside, Slotted, SetEnabled, PollRead, BeginWrite}
use Rattle.script.specs.Calls.{PollWrite, PollDataOut, BeginDataIn, Other, Allocate, AllocateAll, Start, BusPoll}
use Rattle.script.specs.Calls.{BusEnable, BusDisable, Microframe, SetStalled, IsStalled, SetPaced, Advance, BeginRead}
use Rattle.script.specs.Calls.{BeginSetup, PollSetup, PollDataIn, BeginAccept, PollAccept, BeginReject, BeginDataOut}
use Rattle.script.specs.Calls.{BeginAcceptSetAddress, Aside, Open, Close, Queue, slotted_code, other_code, aside_code}
use Rattle.script.specs.Calls.{interrupt_code, calls, code, starting, start_row}
use Rattle.script.specs.Machine.{Buf, Event, Call, start, begin, continue, question, Ans, ended, handed, told, blank, blank_a}
use Rattle.script.specs.Machine.{Awaits, Pending, idle, busy, Machine, over, misfit, stay, lent_to, during_interrupt, halt, begun}
use Rattle.script.specs.Machine.{continued}
use Rattle.script.specs.Machine.{started, fed}
use Rattle.script.specs.Agree.{After, Ways, agrees, from_start}
use Rattle.machine.specs.Suspended.{driver_of, drive, machine_of}
use Rattle.proof_book.specs.Pages.{InPage, Kept, Pages, with_in}
use Rattle.proof_book.specs.Book.{Bk, some, first, passed_in, placed_in, source_told, put_b, act_b, hand_b, book_ops}
use Rattle.proof_book.specs.Book.{book}
use Rattle.proof_book.specs.Book.{row_b, fresh_pages}
use Rattle.proof_book.specs.Coupling.{Coupling}
use Rattle.proof_book.proofs.StartUpLaws.{fresh_kept}
use Rattle.proof_book.proofs.AgreesLaws.{agree}
use Rattle.proof_book.specs.FrameLaws.{in-same}
use Rattle.proof_book.specs.Others.{sends_to}
use Rattle.proof_book.specs.Lengths.{Known, learnt}
use Rattle.proof_book.specs.FrontPage.{CallRecord, book_step, LengthWritten, ConfigKept, WritesEach}
use Rattle.proof_book.specs.FrontPage as page
use Rattle.proof_book.proofs.SlotsKeptLaws.{lent_is}
use Rattle.proof_book.specs.AnswersLaws.{tells-same, fed-elim, fed-kept}
use Rattle.proof_book.specs.AnnouncingLaws.{announced}
use Rattle.proof_book.specs.RefusingLaws.{HandsOutNothing, c_ret, c_bind, c_get, c_put, c_act, silently, silent-ends}
use Rattle.proof_book.specs.BookDecidesLaws.{passed}
use Rattle.proof_book.specs.InterruptPartsLaws.{ordinary, Parts, p_ret, p_bind, p_test, p_read, p_write, p_wait}
use Rattle.proof_book.specs.InterruptPartsLaws.{p_callback, p_get, p_put, p_is, p_look, p_fetch, p_load}
use Rattle.proof_book.specs.InterruptPartsLaws.{p_no_wakes}
use Rattle.proof_book.specs.InterruptPartsLaws.{p_waken, p_arrive, of_interrupt}

-- ---- a run, access by access; q₀: the access handed out last

-- ep_config is written as it is kept
abbrev Configured : Access → Bk → Type 0
Configured q t = (v : ℕ) → q ≡ Write EpConfig 0 v → t.0.kept.globals.ep_config ≡ v

record WritesAsClaimed (q₀ : Access) (s : Bk) (q : Access) (t : Bk) : Type 0 where
  length_is : (e x : ℕ) → 0 < e → q ≡ Write EpTLen e x → LengthWritten (sends_to q₀ e) x (s.0.ins e) (t.0.ins e)
  config : Configured q t

-- P: of the access handed out last, where it ends
data Worded {A : Type 0} (P : Access → Type 0) : Access → Bk → tree.Out Bk A → Type 0 where
  w_end : {q₀ : Access} {s t : Bk} {a : A} → P q₀ → Worded P q₀ s (ends a t)
  w_ask : {q₀ q : Access} {s t : Bk} {k : ℕ → Bk → tree.Out Bk A} → WritesAsClaimed q₀ s q t
      → ((v : ℕ) (u : Bk) → Worded P (blank q) u (k v u)) → Worded P q₀ s (asks q t k)

abbrev Any : Access → Type 0
Any q = Unit {0}

-- it is no transmit address
abbrev Unsent : Access → Type 0
Unsent q = (e : ℕ) → sends_to q e ≡ false

fair-from : {q₀ q : Access} {s t u : Bk} → Unsent q₀ → WritesAsClaimed q₀ t q u → WritesAsClaimed q₀ s q u
fair-from {s = s} {t = t} {u = u} n f = record {
  length_is = λ e x l a. subst (λ (b : Bool). LengthWritten b x (s.0.ins e) (u.0.ins e)) (sym (n e))
      (subst (λ (b : Bool). LengthWritten b x (t.0.ins e) (u.0.ins e)) (n e) (f.length_is e x l a));
  config = f.config;
}

w-from : {A : Type 0} {P : Access → Type 0} {q₀ : Access} {s t : Bk} {o : tree.Out Bk A} → Unsent q₀
    → Worded P q₀ t o → Worded P q₀ s o
w-from n (w_end p) = w_end p
w-from n (w_ask f g) = w_ask (fair-from n f) g

w_bind : {A B : Type 0} {P : Access → Type 0} {q₀ : Access} {s : Bk} {o : tree.Out Bk A} {f : A → Bk → tree.Out Bk B}
    → Worded Unsent q₀ s o → ((a : A) (t : Bk) (q : Access) → Unsent q → Worded P q t (f a t))
    → Worded P q₀ s (bind_out o f)
w_bind (w_end n) g = w-from n (g _ _ _ n)
w_bind (w_ask f k) g = w_ask f (λ v u. w_bind (k v u) g)

w-weaker : {A : Type 0} {P : Access → Type 0} {q₀ : Access} {s : Bk} {o : tree.Out Bk A} → Worded P q₀ s o
    → Worded Any q₀ s o
w-weaker (w_end p) = w_end tt
w-weaker (w_ask f k) = w_ask f (λ v u. w-weaker (k v u))

-- one that writes no length
abbrev writes_length : Access → Bool
writes_length q = on_write (λ r e v. same_reg r EpTLen && ltb 0 e) false q

record Tame (q : Access) (t : Bk) : Type 0 where
  wordless : writes_length q ≡ false
  config : Configured q t

-- nor ep_config
abbrev plain_write : Access → Bool
plain_write q = on_write (λ r e v. ordinary r e) true q

abbrev writes_config : Access → Bool
writes_config q = on_write (λ r e v. same_reg r EpConfig) false q

neither : (a b : Bool) → not (a || b) ≡ true → (a ≡ false) × (b ≡ false)
neither true b h = absurd (true≢false (sym h))
neither false true h = absurd (true≢false (sym h))
neither false false h = (refl, refl)

parted : (q : Access) → plain_write q ≡ true → (writes_length q ≡ false) × (writes_config q ≡ false)
parted (Write r e v) h = neither (same_reg r EpTLen && ltb 0 e) (same_reg r EpConfig) h
parted (Read r e) h = (refl, refl)
parted (Receive e x) h = (refl, refl)
parted (Transmit e x) h = (refl, refl)
parted (Ep0Dma x) h = (refl, refl)
parted (Wait n) h = (refl, refl)
parted Callback h = (refl, refl)

tame : {q : Access} {t : Bk} → plain_write q ≡ true → Tame q t
tame {q} h = record {
  wordless = (parted q h).0;
  config = λ v a. absurd (true≢false (sym (ap writes_config a) ∙ (parted q h).1));
}

fair : {q₀ q : Access} {s t : Bk} → Tame q t → WritesAsClaimed q₀ s q t
fair h = record {
  length_is = λ e x l a. absurd (true≢false (sym (ap writes_length a ∙ lt-ltb 0 e l) ∙ h.wordless));
  config = h.config;
}

data TameAccesses {A : Type 0} : tree.Out Bk A → Type 0 where
  c_end : {t : Bk} {a : A} → TameAccesses (ends a t)
  c_ask : {q : Access} {t : Bk} {k : ℕ → Bk → tree.Out Bk A} → Tame q t → ((v : ℕ) (u : Bk) → TameAccesses (k v u))
      → TameAccesses (asks q t k)

calm_bind : {A B : Type 0} {o : tree.Out Bk A} {f : A → Bk → tree.Out Bk B} → TameAccesses o → ((a : A) (t : Bk) → TameAccesses (f a t))
    → TameAccesses (bind_out o f)
calm_bind c_end g = g _ _
calm_bind (c_ask h k) g = c_ask h (λ v u. calm_bind (k v u) g)

of-calm : {A : Type 0} {q₀ : Access} {s : Bk} {o : tree.Out Bk A} → TameAccesses o → Worded Any q₀ s o
of-calm c_end = w_end tt
of-calm (c_ask h k) = w_ask (fair h) (λ v u. of-calm (k v u))

w-then : {A B : Type 0} {q₀ : Access} {s : Bk} {o : tree.Out Bk A} {f : A → Bk → tree.Out Bk B}
    → Worded Any q₀ s o → ((a : A) (t : Bk) → TameAccesses (f a t)) → Worded Any q₀ s (bind_out o f)
w-then (w_end p) g = of-calm (g _ _)
w-then (w_ask f k) g = w_ask f (λ v u. w-then (k v u) g)

-- ---- a load

abbrev endpoint_of : Access → ℕ
endpoint_of (Read r e) = e
endpoint_of (Write r e v) = e
endpoint_of (Receive e x) = e
endpoint_of (Transmit e x) = e
endpoint_of (Ep0Dma x) = 0
endpoint_of (Wait n) = 0
endpoint_of Callback = 0

abbrev value_of : Access → ℕ
value_of q = on_write (λ r e v. v) 0 q

-- the length of the first, just after its address
own-length : (e : ℕ) (t : Bk) → WritesAsClaimed (Transmit e 0) t (Write EpTLen e (length (first (t.0.ins e).waiting))) t
own-length e t = record {
  length_is = λ f x l a.
      subst (λ (f : ℕ). LengthWritten (eqb (f % 16) (e % 16)) x (t.0.ins f) (t.0.ins f)) (ap endpoint_of a)
      (subst (λ (u : Bool). LengthWritten u x (t.0.ins e) (t.0.ins e)) (sym (eq-eqb (e % 16) (e % 16) refl))
      (refl, λ bytes rest loaded w. sym (ap value_of a) ∙ ap (λ (w : List (List ℕ)). length (first w)) w));
  config = λ v a. absurd (true≢false (sym (ap writes_config a)));
}

none_waits : (w : List (List ℕ)) → some w ≡ false → w ≡ []
none_waits [] h = refl
none_waits (b ∷ w) h = absurd (true≢false h)

-- where none is left
no_length : {q₀ : Access} (e : ℕ) (s : Bk) → Unsent q₀ → some ((passed e s).0.ins e).waiting ≡ false
    → WritesAsClaimed q₀ s (Write EpTLen e 0) (passed e s)
no_length {q₀} e s n none = record {
  length_is = λ f x l a.
      subst (λ (f : ℕ). LengthWritten (sends_to q₀ f) x (s.0.ins f) ((passed e s).0.ins f)) (ap endpoint_of a)
      (subst (λ (u : Bool). LengthWritten u x (s.0.ins e) ((passed e s).0.ins e)) (sym (n e)) (
        sym (ap value_of a),
        (
          none_waits ((passed e s).0.ins e).waiting none,
          ap (λ (p : InPage). p.sending) (in-same s.0 e (passed_in (s.0.ins e))),
        ),
      ));
  config = λ v a. absurd (true≢false (sym (ap writes_config a)));
}

-- `iso_in_complete`, by whether one waits then
load : (i : Bool) {q₀ : Access} (e : ℕ) (s : Bk) → Unsent q₀ → (u : Bool) → some ((passed e s).0.ins e).waiting ≡ u
    → let next : Script i Unit = bind (look (next_len_lem In e)) (λ n. write EpTLen e n) in Worded Unsent q₀ s
    (bind_out (cond u (asks (Transmit e 0) (hand_b (send e) (passed e s)).1 (λ _ t. run book_ops next t))
    (asks (Write EpTLen e 0) (passed e s) (λ _ t. ends tt t))) (λ _ t. run book_ops (wake {i = i} In e) t))
load i e s n true one = w_ask (fair (tame refl)) (λ _ t. w_ask (own-length e t) (λ _ u. w_end (λ f. refl)))
load i e s n false none = w_ask (no_length e s n none) (λ _ u. w_end (λ f. refl))

-- ---- the interrupt's script

parts : {A : Type 0} {p : Script true A} {q₀ : Access} → Parts A p → Unsent q₀ → (s : Bk)
    → Worded Unsent q₀ s (run book_ops p s)
parts p_ret n s = w_end n
parts (p_bind h g) n s = w_bind (parts h n s) (λ a t q m. parts (g a) m t)
parts (p_test {b = true} h g) n s = parts h n s
parts (p_test {b = false} h g) n s = parts g n s
parts (p_read h) n s = w_ask (fair (tame refl)) (λ v t. parts (h v) (λ e. refl) t)
parts (p_write l h) n s = w_ask (fair (tame l)) (λ v t. parts h (λ e. refl) t)
parts (p_wait h) n s = w_ask (fair (tame refl)) (λ v t. parts h (λ e. refl) t)
parts (p_callback h) n s = w_ask (fair (tame refl)) (λ v t. parts h (λ e. refl) t)
parts (p_get h) n s = parts (h _) n s
parts (p_put {c = c} {v = v} u h) n s = w-from n (parts h n (put_b c v s))
parts (p_is h) n s = parts (h _) n s
parts (p_look h) n s = parts (h _) n s
parts (p_fetch h) n s = parts (h _) n s
parts (p_load {e = e}) n s = load true e s n (some ((passed e s).0.ins e).waiting) refl
parts (p_no_wakes h) n s = w-from n (parts h n _)
parts (p_waken h) n s = w-from n (parts h n _)
parts (p_arrive h) n s = w_ask (fair (tame refl)) (λ v t. parts h (λ e. refl) t)

-- ---- another operation's script

-- one that writes no length
data Unworded : (A : Type 0) → Script false A → Type 1 where
  u_ret : {A : Type 0} {a : A} → Unworded A (ret a)
  u_bind : {A B : Type 0} {p : Script false B} {f : B → Script false A} → Unworded B p → ((b : B) → Unworded A (f b))
      → Unworded A (bind p f)
  u_test : {A : Type 0} {b : Bool} {p q : Script false A} → Unworded A p → Unworded A q → Unworded A (test b p q)
  u_read : {A : Type 0} {r : Reg} {e : ℕ} {k : ℕ → Script false A} → ((v : ℕ) → Unworded A (k v))
      → Unworded A (read_then r e k)
  u_write : {A : Type 0} {r : Reg} {e v : ℕ} {p : Script false A} → ordinary r e ≡ true → Unworded A p
      → Unworded A (write_then r e v p)
  u_wait : {A : Type 0} {n : ℕ} {p : Script false A} → Unworded A p → Unworded A (wait_then n p)
  u_callback : {A : Type 0} {p : Script false A} → Unworded A p → Unworded A (callback_then p)
  u_get : {A : Type 0} {c : Cell} {k : Val c → Script false A} → ((v : Val c) → Unworded A (k v))
      → Unworded A (get_then c k)
  u_put : {A : Type 0} {c : Cell} {v : Val c} {p : Script false A} → Unworded A p → Unworded A (put_then c v p)
  u_is : {A : Type 0} {q : Test} {k : Bool → Script false A} → ((b : Bool) → Unworded A (k b))
      → Unworded A (is_then q k)
  u_look : {A : Type 0} {q : Look} {k : ℕ → Script false A} → ((n : ℕ) → Unworded A (k n)) → Unworded A (look_then q k)
  u_fetch : {A : Type 0} {q : Fetch} {k : List ℕ → Script false A} → ((l : List ℕ) → Unworded A (k l))
      → Unworded A (fetch_then q k)
  u_act : {A : Type 0} {q : Act} {p : Script false A} → Unworded A p → Unworded A (act_then q p)
  u_hand : {A : Type 0} {q : DmaStep} {p : Script false A} → Unworded A p → Unworded A (hand_then q p)
  -- ep_config as it is kept
  u_config : Unworded Unit (bind (get globals-cell) (λ g. write EpConfig 0 g.ep_config))
  u_row : {A : Type 0} {g : Burst} {p : Script false A} → Unworded A p → Unworded A (row_then g p)

ruleset unwording = (
  u_ret,
  u_config,
  u_bind,
  u_test,
  u_read,
  u_write,
  u_wait,
  u_callback,
  u_get,
  u_put,
  u_is,
  u_look,
  u_fetch,
  u_act,
  u_hand,
  u_row,
)

step-tame : (q : DmaStep) (x : ℕ) {t : Bk} → Tame (dma_step_ask q x) t
step-tame (arrive e n) x = tame refl
step-tame (send e) x = tame refl
step-tame (place Out e) x = tame refl
step-tame (place In e) x = tame refl
step-tame place0 x = tame refl

row-tame : (g : Burst) (n : ℕ) (s : Bk) → let y = row_b g n s in Tame (burst_ask g n y.0) y.1
row-tame (switch e on) zero s = record { wordless = refl; config = λ v a. ap value_of a }
row-tame (switch e on) (suc zero) s = tame refl
row-tame (switch e on) (suc (suc zero)) s = tame refl
row-tame (switch e on) (suc (suc (suc n))) s = tame refl
row-tame bus_reset_lem zero s = tame refl
row-tame bus_reset_lem (suc zero) s = tame refl
row-tame bus_reset_lem (suc (suc zero)) s = tame refl
row-tame bus_reset_lem (suc (suc (suc n))) s = record { wordless = refl; config = λ v a. ap value_of a }

calm-rows : {A : Type 0} (g : Burst) (n : ℕ) {k : Bk → tree.Out Bk A} → ((t : Bk) → TameAccesses (k t)) → (s : Bk)
    → TameAccesses (rows book_ops g n k s)
calm-rows g zero h s = c_ask (row-tame g zero s) (λ v t. h t)
calm-rows g (suc n) h s = c_ask (row-tame g (suc n) s) (λ v t. calm-rows g n h t)

calm : {A : Type 0} {p : Script false A} → Unworded A p → (s : Bk) → TameAccesses (run book_ops p s)
calm u_ret s = c_end
calm (u_bind h g) s = calm_bind (calm h s) (λ a t. calm (g a) t)
calm (u_test {b = true} h g) s = calm h s
calm (u_test {b = false} h g) s = calm g s
calm (u_read h) s = c_ask (tame refl) (λ v t. calm (h v) t)
calm (u_write l h) s = c_ask (tame l) (λ v t. calm h t)
calm (u_wait h) s = c_ask (tame refl) (λ v t. calm h t)
calm (u_callback h) s = c_ask (tame refl) (λ v t. calm h t)
calm (u_get h) s = calm (h _) s
calm (u_put h) s = calm h _
calm (u_is h) s = calm (h _) s
calm (u_look h) s = calm (h _) s
calm (u_fetch h) s = calm (h _) s
calm (u_act h) s = calm h _
calm u_config s = c_ask (record { wordless = refl; config = λ v a. ap value_of a }) (λ v t. c_end)
calm (u_hand {q = q} h) s = c_ask (step-tame q _) (λ v t. calm h t)
calm (u_row {g = g} h) s = calm-rows g (last_of g) (λ t. calm h t) s

-- one that loads: an advance
data Loading : (A : Type 0) → Script false A → Type 1 where
  l_ret : {A : Type 0} {a : A} → Loading A (ret a)
  l_bind : {A B : Type 0} {p : Script false B} {f : B → Script false A} → Loading B p → ((b : B) → Loading A (f b))
      → Loading A (bind p f)
  l_test : {A : Type 0} {b : Bool} {p q : Script false A} → Loading A p → Loading A q → Loading A (test b p q)
  l_read : {A : Type 0} {r : Reg} {e : ℕ} {k : ℕ → Script false A} → ((v : ℕ) → Loading A (k v))
      → Loading A (read_then r e k)
  l_get : {A : Type 0} {c : Cell} {k : Val c → Script false A} → ((v : Val c) → Loading A (k v))
      → Loading A (get_then c k)
  l_put : {A : Type 0} {c : Cell} {v : Val c} {p : Script false A} → Loading A p → Loading A (put_then c v p)
  l_fetch : {A : Type 0} {q : Fetch} {k : List ℕ → Script false A} → ((l : List ℕ) → Loading A (k l))
      → Loading A (fetch_then q k)
  l_act : {A : Type 0} {q : Act} {p : Script false A} → Loading A p → Loading A (act_then q p)
  l_load : {e : ℕ} → Loading Unit (iso_in_complete e)

ruleset loadings = (l_load, l_ret, l_bind, l_test, l_read, l_get, l_put, l_fetch, l_act)

loads : {A : Type 0} {p : Script false A} {q₀ : Access} → Loading A p → Unsent q₀ → (s : Bk)
    → Worded Unsent q₀ s (run book_ops p s)
loads l_ret n s = w_end n
loads (l_bind h g) n s = w_bind (loads h n s) (λ a t q m. loads (g a) m t)
loads (l_test {b = true} h g) n s = loads h n s
loads (l_test {b = false} h g) n s = loads g n s
loads (l_read h) n s = w_ask (fair (tame refl)) (λ v t. loads (h v) (λ e. refl) t)
loads (l_get h) n s = loads (h _) n s
loads (l_put {c = c} {v = v} h) n s = w-from n (loads h n (put_b c v s))
loads (l_fetch h) n s = loads (h _) n s
loads (l_act {q = q} h) n s = w-from n (loads h n (act_b q s))
loads (l_load {e = e}) n s = load false e s n (some ((passed e s).0.ins e).waiting) refl

-- ---- from its first access on; x: the driver's answer, of which the book is told

abbrev Free : (A : Type 0) → Script false A → Type 1
Free A p = HandsOutNothing (λ q. true) A p

-- one whose first access may be a length, and that writes none after it
data Heads : (A : Type 0) → Script false A → Type 1 where
  h_unworded : {A : Type 0} {p : Script false A} → Unworded A p → Heads A p
  h_then : {A B : Type 0} {p : Script false B} {f : B → Script false A} → Free B p → ((b : B) → Heads A (f b))
      → Heads A (bind p f)
  h_bind : {A B : Type 0} {p : Script false B} {f : B → Script false A} → Heads B p → ((b : B) → Unworded A (f b))
      → Heads A (bind p f)
  h_test : {A : Type 0} {b : Bool} {p q : Script false A} → Heads A p → Heads A q → Heads A (test b p q)
  h_write : {A : Type 0} {r : Reg} {e v : ℕ} {p : Script false A} → same_reg r EpConfig ≡ false → Unworded A p
      → Heads A (write_then r e v p)
  -- an address that sends nothing, and the length 0 after it
  h_place : {A : Type 0} {e : ℕ} {f : Unit → Script false A} → ((u : Unit) → Unworded A (f u))
      → Heads A (bind (hand (place In e)) (λ _. bind (write EpTLen e 0) f))

ruleset heading = (h_then, h_bind, h_test, h_write, h_unworded)

module _ (x : Ans Answer) where
  abbrev Headed : {A : Type 0} → tree.Out Bk A → Type 0
  Headed (ends a t) = Unit {0}
  Headed (asks q t k) = Configured q t × (blank_a x ≡ handed (blank q) → (v : ℕ) (b : Buf)
      → let u : Bk = (fed book x t.0, b) in Worded Any (blank q) u (k v u))

  headed : {A : Type 0} {P : Access → Type 0} {q₀ : Access} {s : Bk} (o : tree.Out Bk A) → Worded P q₀ s o → Headed o
  headed (ends a t) w = tt
  headed (asks q t k) (w_ask f g) = (f.config, λ _ v b. w-weaker (g v _))

  headed-bind : {A B : Type 0} (o : tree.Out Bk A) {f : A → Bk → tree.Out Bk B} → Headed o
      → ((a : A) (t : Bk) → TameAccesses (f a t))
      → Headed (bind_out o f)
  headed-bind (ends a t) {f} h g = headed (f a t) (of-calm {q₀ = Callback} {s = t} (g a t))
  headed-bind (asks q t k) h g = (h.0, λ same v b. w-then (h.1 same v b) g)

  -- the place's page is no load's
  unloaded : (e : ℕ) (s : Pages) → blank_a x ≡ handed (Transmit e 0) → (s.ins e).load ≡ false
      → ((fed book x s).ins e).load ≡ false
  unloaded e s same h = fed-elim (λ t. (t.ins e).load ≡ false) x s h (λ f y _. h)
      (λ f y is.
      let m : f ≡ e = ap endpoint_of (ap access_of (sym (ap blank_a is) ∙ same)) in
      subst (λ (f : ℕ). ((with_in s f (source_told (s.ins f) y)).ins e).load ≡ false) (sym m)
      (ap (λ (p : InPage). p.load) (in-same s e (source_told (s.ins e) y)) ∙ h))
    where
      access_of : Ans Answer → Access
      access_of (ended z) = Callback
      access_of (handed q) = q
      access_of (told n) = Callback

  place-length : (e : ℕ) (u : Bk) → (u.0.ins e).load ≡ false → WritesAsClaimed (Transmit e 0) u (Write EpTLen e 0) u
  place-length e u h = record {
    length_is = λ f y l a.
        subst (λ (f : ℕ). LengthWritten (eqb (f % 16) (e % 16)) y (u.0.ins f) (u.0.ins f)) (ap endpoint_of a)
        (subst (λ (b : Bool). LengthWritten b y (u.0.ins e) (u.0.ins e)) (sym (eq-eqb (e % 16) (e % 16) refl))
        (refl, λ bytes rest loaded w. absurd (true≢false (sym loaded ∙ h))));
    config = λ v a. absurd (true≢false (sym (ap writes_config a)));
  }

  heads : {A : Type 0} {p : Script false A} → Heads A p → (s : Bk) → Headed (run book_ops p s)
  heads (h_unworded {p = p} h) s = headed (run book_ops p s) (of-calm {q₀ = Callback} {s = s} (calm h s))
  heads (h_then {f = f} h g) s =
      let z = silent-ends h s in
      subst (λ (o : tree.Out Bk _). Headed (bind_out o (λ a t. run book_ops (f a) t))) (sym z.2)
      (heads (g z.0) z.1)
  heads (h_bind {p = p} h g) s = headed-bind (run book_ops p s) (heads h s) (λ a t. calm (g a) t)
  heads (h_test {b = true} h g) s = heads h s
  heads (h_test {b = false} h g) s = heads g s
  heads (h_write z h) s = (
    λ v a. absurd (true≢false (sym (ap writes_config a) ∙ z)),
    λ _ v b. of-calm (calm h _),
  )
  heads (h_place {e = e} g) s = (
    λ v a. absurd (true≢false (sym (ap writes_config a))),
    λ same v b.
        let t = (hand_b (place In e) s).1.0 in
        w_ask (place-length e (fed book x t, b)
        (unloaded e t same (ap (λ (p : InPage). p.load) (in-same s.0 e (placed_in (s.0.ins e))))))
        (λ v u. of-calm (calm (g tt) u)),
  )

-- ---- the calls

of-nak-all : (n e : ℕ) → Unworded Unit (bus.nak_all n e)
unfolding bus.nak_all
of-nak-all zero e = search unwording
of-nak-all (suc n) e = u_bind (u_write refl u_ret) (λ _. u_bind (u_write refl u_ret) (λ _. of-nak-all n (suc e)))

of-acks : (dir : Dir) (first : Bool) → Unworded Unit (acks dir first)
of-acks Out true = search unwording
of-acks Out false = search unwording
of-acks In true = search unwording
of-acks In false = search unwording

of-stalled : (dir : Dir) (e : ℕ) (onn : Bool) → Heads Unit (bus.set_stalled dir e onn)
of-stalled Out e true = search (heading, unwording, silently) depth 30
of-stalled In e true = search (heading, unwording, silently) depth 30
of-stalled Out e false = search (heading, unwording, silently) depth 30
of-stalled In e false = search (heading, unwording, silently) depth 30

of-kept : (dir : Dir) (e : ℕ) (iso onn : Bool) → Unworded Unit (bus.kept dir e iso onn)
of-kept dir e iso onn = search unwording depth 20

of-wake : (dir : Dir) (e : ℕ) → Unworded Unit (wake dir e)
of-wake dir e = search unwording

of-enabling : (dir : Dir) (e : ℕ) (onn : Bool) → Heads Unit (bus.set_enabled dir e onn)
of-enabling Out e onn = h_unworded {p = bus.set_enabled Out e onn} (search (of-kept, of-wake, unwording) depth 40)
of-enabling In e onn = h_then (c_get (λ _. c_ret)) (λ (s : EpCore). h_bind
    (h_then (c_act refl c_ret) (λ _. h_then (c_bind (c_get (λ _. c_ret)) (λ _. c_put c_ret)) (λ _.
    h_then (c_put c_ret) (λ _. h_place (λ _. u_bind (u_write refl u_ret) (λ _. of-kept In e (is_on s.iso) onn))))))
    (λ _. of-wake In e))

of-completions : (n e : ℕ) → Loading Unit (iso_in_completions n e)
unfolding iso_in_completions
of-completions zero e = l_ret
of-completions (suc n) e = l_bind l_load (λ _. of-completions n e)

of-advance : (e : ℕ) → Loading Answer (other_code (Advance e))
of-advance e = search (of-completions, loadings) depth 40

of-started : (maximum : ℕ) (a : alloc-answer.Answer) → Unworded Answer (started_as maximum a)
of-started maximum (alloc.Refused n) = search unwording
of-started maximum (alloc.Given e base slots) = search unwording depth 20

of-allocated : (d : Dir) (kind maximum : ℕ) (a : alloc-answer.Answer) → Unworded Answer (allocated_as d kind maximum a)
of-allocated d kind maximum (alloc.Refused n) = search unwording
of-allocated d kind maximum (alloc.Given e base slots) = search unwording depth 20

of-each : (es : List Endpoint) → Unworded Unit (allocate_each es)
unfolding allocate_each
of-each [] = search unwording
of-each (e ∷ es) = u_bind (u_act u_ret) (λ _. of-each es)

of-announce : (dir : Dir) (e : ℕ) → Unworded ℕ (announce dir e)
of-announce dir e = search unwording depth 20

of-announce-all : (es : List Endpoint) → Unworded ℕ (announce_all es)
of-announce-all = announced Unworded
    (record { end = u_ret; then = u_bind; either = u_test; got = λ c. u_get (λ _. u_ret) }) of-announce

of-allocate-read : (bytes : List ℕ) (a : reading-answer.Answer) → Unworded Answer (allocate_read bytes a)
of-allocate-read bytes (reading.Refused n) = u_ret
of-allocate-read bytes reading.Listed = search (of-each, of-announce-all, unwording) depth 30

of-ack : (e : ℕ) → Unworded Unit (modify_reg EpTxCtrl e ack)
of-ack e = search unwording depth 20

of-load-write : (e : ℕ) (bytes : List ℕ) → Heads Unit (load_write e bytes)
of-load-write e bytes = h_then (c_act refl c_ret) (λ _. h_then (c_bind (c_get (λ _. c_ret)) (λ _. c_put c_ret)) (λ _.
    h_bind (h_write refl u_ret) (λ _. of-ack e)))

of-slotted : (o : Slotted) → Heads Answer (slotted_code o)
of-slotted (SetEnabled dir e onn) = search (of-enabling, heading, unwording, silently) depth 30
of-slotted (PollRead e n) = h_unworded {p = slotted_code (PollRead e n)} (search unwording depth 40)
of-slotted (BeginWrite e bytes) = search (of-load-write, heading, unwording, silently) depth 40 fits 100000
of-slotted (PollWrite e bytes) = h_unworded {p = slotted_code (PollWrite e bytes)} (search unwording depth 40)
of-slotted (PollDataOut n) = h_unworded {p = slotted_code (PollDataOut n)} (search unwording depth 40)
of-slotted (BeginDataIn bytes first true) =
    h_unworded {p = slotted_code (BeginDataIn bytes first true)} (search (of-acks, unwording) depth 60)
of-slotted (BeginDataIn bytes first false) =
    h_unworded {p = slotted_code (BeginDataIn bytes first false)} (search (of-acks, unwording) depth 60)

of-aside : (o : Aside) → Unworded Answer (aside_code o)
of-aside (Open e) = search unwording depth 40
of-aside (Close e) = search unwording depth 40
of-aside (Queue e bytes) = search unwording depth 40

of-starting : (c : Config) → Unworded Answer (starting c)
of-starting c = search unwording depth 30

of-stalling : (dir : Dir) (e : ℕ) (onn : Bool) → Heads Answer (other_code (SetStalled dir e onn))
of-stalling dir e onn = search (of-stalled, heading, unwording, silently) depth 30

calmly : (o : Other) → Unworded Answer (other_code o) → (s : Bk) (x : Ans Answer)
    → Headed x (run book_ops (other_code o) s)
calmly o h s x = heads x (h_unworded h) s

of_other : (o : Other) (s : Bk) (x : Ans Answer) → Headed x (run book_ops (other_code o) s)
of_other (Allocate dir kind address maximum interval) =
    calmly (Allocate dir kind address maximum interval) (search (of-allocated, unwording) depth 30)
of_other (AllocateAll bytes) = calmly (AllocateAll bytes) (search (of-allocate-read, unwording) depth 30)
of_other (Start maximum) = calmly (Start maximum) (search (of-started, unwording) depth 20)
of_other BusPoll = calmly BusPoll (search (of-nak-all, unwording) depth 60)
of_other BusEnable = calmly BusEnable (search unwording depth 20)
of_other BusDisable = calmly BusDisable (search unwording depth 20)
of_other Microframe = calmly Microframe (search unwording depth 20)
of_other (SetStalled dir e onn) = λ s x. heads x (of-stalling dir e onn) s
of_other (IsStalled Out e) = calmly (IsStalled Out e) (search unwording depth 20)
of_other (IsStalled In e) = calmly (IsStalled In e) (search unwording depth 20)
of_other (SetPaced e onn) = calmly (SetPaced e onn) (search unwording depth 20)
of_other (Advance e) = λ s x. headed x (run book_ops (other_code (Advance e)) s)
    (loads {q₀ = Callback} (of-advance e) (λ _. refl) s)
of_other (BeginRead e n) = calmly (BeginRead e n) (search unwording depth 60)
of_other BeginSetup = calmly BeginSetup (search unwording depth 20)
of_other PollSetup = calmly PollSetup (search unwording depth 20)
of_other PollDataIn = calmly PollDataIn (search unwording depth 40)
of_other BeginAccept = calmly BeginAccept (search unwording depth 40)
of_other PollAccept = calmly PollAccept (search unwording depth 40)
of_other BeginReject = calmly BeginReject (search unwording depth 40)
of_other (BeginDataOut n first) = calmly (BeginDataOut n first) (search (of-acks, unwording) depth 60)
of_other (BeginAcceptSetAddress a) = calmly (BeginAcceptSetAddress a) (search unwording depth 40)

-- ---- one call

-- what is left of the operation under way. Nothing changes the book while another than the interrupt is under way
abbrev WayWorded : Known → Pending Answer Pages → Pages → Type 0
WayWorded f idle t = Unit {0}
WayWorded f (busy true a k) t = (v : ℕ) (u : Bk) → Worded Any f.asked u (k v u)
WayWorded f (busy false a k) t = (v : ℕ) (b : Buf) → Worded Any f.asked (t, b) (k v (t, b))

module _ (x : Ans Answer) where
  abbrev halts : Bool → tree.Out Bk Answer → Ans Answer × Machine Answer Pages
  halts i o = halt calls book.driver (fed book x) i o

  abbrev Stays : Call Config Op → Known → Ans Answer × Machine Answer Pages → Type 0
  Stays c f y = blank_a x ≡ blank_a y.0 → WayWorded (learnt c y.0 f) y.1.under_way_lem y.1.st

  -- a call that begins an operation or goes on with one
  abbrev Tells : Call Config Op → Known → Type 0
  Tells c f = (q : Access) → (learnt c (handed q) f).asked ≡ blank q

  halted : (c : Call Config Op) (f : Known) → Tells c f → (o : tree.Out Bk Answer) → Headed x o
      → Stays c f (halts false o)
  halted c f e (ends z t) h = λ _. tt
  halted c f e (asks q t k) h = λ same v b.
      let u : Bk = (fed book x t.0, b) in
      subst (λ (p : Access). Worded Any p u (k v u)) (sym (e q)) (h.1 same v b)

  halted-interrupt : (c : Call Config Op) (f : Known) → Tells c f
      → {P : Access → Type 0} {q₀ : Access} {s : Bk} (o : tree.Out Bk Answer)
      → Worded P q₀ s o → Stays c f (halts true o)
  halted-interrupt c f e (ends z t) h = λ _. tt
  halted-interrupt c f e (asks q t k) (w_ask m g) = λ _ v u.
      subst (λ (p : Access). Worded Any p u (k v u)) (sym (e q)) (w-weaker (g v u))

  either : (c : Call Config Op) (f : Known) (u : Bool) (y z : Ans Answer × Machine Answer Pages) → Stays c f y
      → Stays c f z
      → Stays c f (cond u y z)
  either c f true y z p q = p
  either c f false y z p q = q

  begin_idle : (o : Op) (f : Known) (s : Bk) → Stays (begin o) f (halts (calls.irq o) (run book_ops (code o) s))
  begin_idle interrupt f s = halted-interrupt (begin interrupt) f (λ q. refl) (run book_ops interrupt_code s)
      (parts {q₀ = Callback} of_interrupt (λ e. refl) s)
  begin_idle (slotted o) f s =
      halted (begin (slotted o)) f (λ q. refl) (run book_ops (slotted_code o) s) (heads x (of-slotted o) s)
  begin_idle (other o) f s = halted (begin (other o)) f (λ q. refl) (run book_ops (other_code o) s) (of_other o s x)
  begin_idle (aside o) f s =
      halted (begin (aside o)) f (λ q. refl) (run book_ops (aside_code o) s) (heads x (h_unworded (of-aside o)) s)

  passing : (f : Known) (o : Aside) (n : Machine Answer Pages) (a : Awaits) (k : ℕ → Bk → tree.Out Bk Answer)
      → n.under_way_lem ≡ busy true a k
      → (z : tree.Out Bk Answer) → WayWorded f (busy true a k) n.st
      → Stays (begin (aside o)) f (during_interrupt calls book.driver n z)
  passing f o n a k p (ends z u) h = λ _. subst (λ (w : Pending Answer Pages). WayWorded f w u.0) (sym p) h
  passing f o n a k p (asks q u g) h = λ _. subst (λ (w : Pending Answer Pages). WayWorded f w n.st) (sym p) h

  begun-worded : (f : Known) (o : Op) (n : Machine Answer Pages) (w : Pending Answer Pages) → n.under_way_lem ≡ w
      → (l : Buf)
      → WayWorded f w n.st
      → Stays (begin o) f (begun calls book.driver (fed book x) o n w l)
  begun-worded f o n idle p l h = begin_idle o f (n.st, l)
  begun-worded f interrupt n (busy true a k) p l h =
      λ _. subst (λ (w : Pending Answer Pages). WayWorded f w n.st) (sym p) h
  begun-worded f (slotted o) n (busy true a k) p l h =
      λ _. subst (λ (w : Pending Answer Pages). WayWorded f w n.st) (sym p) h
  begun-worded f (other o) n (busy true a k) p l h =
      λ _. subst (λ (w : Pending Answer Pages). WayWorded f w n.st) (sym p) h
  begun-worded f (aside o) n (busy true a k) p l h =
      passing f o (lent_to calls book.driver n l) a k p (run book_ops (aside_code o) (n.st, l)) h
  begun-worded f o n (busy false a k) p l h = λ _. subst (λ (w : Pending Answer Pages). WayWorded f w n.st) (sym p) h

  continued-worded : (f : Known) (v : ℕ) (n : Machine Answer Pages) (w : Pending Answer Pages) → n.under_way_lem ≡ w
      → (l : Buf)
      → WayWorded f w n.st
      → Stays (continue v) f (continued calls book.driver (fed book x) v n w l)
  continued-worded f v n idle p l h = λ _. subst (λ (w : Pending Answer Pages). WayWorded f w n.st) (sym p) tt
  continued-worded f v n (busy true a k) p l h =
      either (continue v) f (over calls a v) (stay calls book.driver 16 (lent_to calls book.driver n l))
      (halts true (k v (n.st, l)))
      (λ _. subst (λ (w : Pending Answer Pages). WayWorded f w n.st) (sym p) h)
      (halted-interrupt (continue v) f (λ q. refl) (k v (n.st, l)) (h v (n.st, l)))
  continued-worded f v n (busy false a k) p l h =
      either (continue v) f (over calls a v) (stay calls book.driver 16 (lent_to calls book.driver n l))
      (halts false (k v (n.st, l)))
      (λ _. subst (λ (w : Pending Answer Pages). WayWorded f w n.st) (sym p) h)
      (halted (continue v) f (λ q. refl) (k v (n.st, l)) (headed x (k v (n.st, l)) (h v l)))

  started-worded : (f : Known) (g : Config) (r : ℕ) (n : Machine Answer Pages) (l : Buf)
      → WayWorded f n.under_way_lem n.st
      → Stays (start g) f (started calls book.driver (fed book x) g r n l)
  started-worded f g zero n l h =
      halted (start g) f (λ q. refl) (run book_ops (starting g) (fresh_pages g, l))
      (heads x (h_unworded (of-starting g)) (fresh_pages g, l))
  started-worded f g (suc r) n l h = λ _. h

  call-worded : (c : Call Config Op) (f : Known) (n : Machine Answer Pages) (l : Buf)
      → WayWorded f n.under_way_lem n.st
      → Stays c f (book_step x c n l)
  call-worded (start g) f n l h = started-worded f g (start_row g l) n l h
  call-worded (begin o) f n l h =
      either (begin o) f (cond (calls.slots o) (misfit calls book.driver n.st l) false)
      (stay calls book.driver 1 n) (begun calls book.driver (fed book x) o n n.under_way_lem l) (λ _. h)
      (begun-worded f o n n.under_way_lem refl l h)
  call-worded (continue v) f n l h = either (continue v) f (misfit calls book.driver n.st l)
      (stay calls book.driver 1 n) (continued calls book.driver (fed book x) v n n.under_way_lem l) (λ _. h)
      (continued-worded f v n n.under_way_lem refl l h)
  call-worded (question q) f n l h = λ _. h

-- an answer but for its address tells the same
learnt-same : (c : Call Config Op) (f : Known) (a b : Ans Answer) → blank_a a ≡ blank_a b → learnt c a f ≡ learnt c b f
learnt-same (start c) f = tells-same (λ z. learnt (start c) z f) (λ _ _. refl, λ _ _. refl, λ _. refl)
learnt-same (begin o) f = tells-same (λ z. learnt (begin o) z f) (λ _ _. refl, λ _ _. refl, λ _. refl)
learnt-same (continue v) f = tells-same (λ z. learnt (continue v) z f) (λ _ _. refl, λ _ _. refl, λ _. refl)
learnt-same (question q) f = λ _ _ _. refl

worded-on : (x : Ans Answer) (c : Call Config Op) (f : Known) (n : Machine Answer Pages) (l : Buf)
    → blank_a x ≡ blank_a (book_step x c n l).0 → WayWorded f n.under_way_lem n.st
    → let y = book_step x c n l in WayWorded (learnt c x f) y.1.under_way_lem y.1.st
worded-on x c f n l same h =
    let y = book_step x c n l in
    subst (λ (g : Known). WayWorded g y.1.under_way_lem y.1.st) (learnt-same c f y.0 x (sym same))
    (call-worded x c f n l h same)

-- the length that a continue writes
module _ (a : Ans Answer) (e x v : ℕ) (f : Known) (n : Machine Answer Pages) (l : Buf) (one : 0 < e) where
  abbrev Length : Ans Answer × Machine Answer Pages → Type 0
  Length y = y.0 ≡ handed (Write EpTLen e x) → a ≡ handed (Write EpTLen e x)
      → LengthWritten (sends_to f.asked e) x (n.st.ins e) (y.1.st.ins e)

  abbrev access_of : Ans Answer → Access
  access_of (ended z) = Callback
  access_of (handed q) = q
  access_of (told n) = Callback

  abbrev is_handed : Ans Answer → Bool
  is_handed (ended z) = false
  is_handed (handed q) = true
  is_handed (told n) = false

  no_end : {X : Type 0} (z : Answer) → ended z ≡ handed (Write EpTLen e x) → X
  no_end z h = absurd (true≢false (sym (ap is_handed h)))

  length-of : {P : Access → Type 0} (i : Bool) (o : tree.Out Bk Answer) → Worded P f.asked (n.st, l) o
      → Length (halt calls book.driver (fed book a) i o)
  length-of i (ends z t) w = no_end z
  length-of i (asks q t k) (w_ask m g) = λ h is.
      subst (λ (z : Ans Answer). LengthWritten (sends_to f.asked e) x (n.st.ins e) ((fed book z t.0).ins e))
      (sym is)
      (m.length_is e x one (ap access_of h))

  wide : (u : Bool) (y : Ans Answer × Machine Answer Pages) → Length y
      → Length (cond u (stay calls book.driver 16 (lent_to calls book.driver n l)) y)
  wide true y h = no_end (Refused 16)
  wide false y h = h

  by_way : (w : Pending Answer Pages) → WayWorded f w n.st
      → Length (continued calls book.driver (fed book a) v n w l)
  by_way idle h = no_end (Refused 15)
  by_way (busy true q k) h = wide (over calls q v) _ (length-of true (k v (n.st, l)) (h v (n.st, l)))
  by_way (busy false q k) h = wide (over calls q v) _ (length-of false (k v (n.st, l)) (h v l))

  fits : WayWorded f n.under_way_lem n.st → (u : Bool)
      → Length (cond u (stay calls book.driver 1 n)
      (continued calls book.driver (fed book a) v n n.under_way_lem l))
  fits h true = no_end (Refused 1)
  fits h false = by_way n.under_way_lem h

-- an access with no address is the book's too
same_write : (z a : Ans Answer) (r : Reg) (e x : ℕ) → blank_a a ≡ blank_a z → a ≡ handed (Write r e x)
    → z ≡ handed (Write r e x)
same_write z a r e x same is = unblank z (sym same ∙ ap blank_a is)
  where
    is_write : Ans Answer → Bool
    is_write (handed (Write r e v)) = true
    is_write (handed (Read r e)) = false
    is_write (handed (Receive e x)) = false
    is_write (handed (Transmit e x)) = false
    is_write (handed (Ep0Dma x)) = false
    is_write (handed (Wait n)) = false
    is_write (handed Callback) = false
    is_write (ended z) = false
    is_write (told n) = false

    other : (z : Ans Answer) → is_write z ≡ false → blank_a z ≡ handed (Write r e x) → is_write (blank_a z) ≡ is_write z
        → z ≡ handed (Write r e x)
    other z h g k = absurd (true≢false (sym (ap is_write g) ∙ k ∙ h))

    unblank : (z : Ans Answer) → blank_a z ≡ handed (Write r e x) → z ≡ handed (Write r e x)
    unblank (ended z) g = g
    unblank (told n) g = g
    unblank (handed (Read r f)) g = g
    unblank (handed (Write r f v)) g = g
    unblank (handed (Receive f y)) g = other (handed (Receive f y)) refl g refl
    unblank (handed (Transmit f y)) g = other (handed (Transmit f y)) refl g refl
    unblank (handed (Ep0Dma y)) g = other (handed (Ep0Dma y)) refl g refl
    unblank (handed (Wait n)) g = g
    unblank (handed Callback) g = g

load-length : (c : Call Config Op) (a : Ans Answer) (f : Known) (n : Machine Answer Pages)
    → WayWorded f n.under_way_lem n.st → (l : Buf)
    → blank_a a ≡ blank_a (book_step a c n l).0 → (e x v : ℕ) → 0 < e → c ≡ continue v → a ≡ handed (Write EpTLen e x)
    → LengthWritten (sends_to f.asked e) x (n.st.ins e) ((book_step a c n l).1.st.ins e)
load-length c a f n h l same e x v one goes is =
    subst (λ (c : Call Config Op). blank_a a ≡ blank_a (book_step a c n l).0
    → LengthWritten (sends_to f.asked e) x (n.st.ins e) ((book_step a c n l).1.st.ins e)) (sym goes)
    (λ same. fits a e x v f n l one h (misfit calls book.driver n.st l)
    (same_write (book_step a (continue v) n l).0 a EpTLen e x same is) is) same

-- ep_config is kept as it is written
module _ (x : Ans Answer) (v : ℕ) where
  abbrev Keeps : Ans Answer × Machine Answer Pages → Type 0
  Keeps y = y.0 ≡ handed (Write EpConfig 0 v) → y.1.st.kept.globals.ep_config ≡ v

  ended-keeps : (z : Answer) (m : Machine Answer Pages) → Keeps (ended z, m)
  ended-keeps z m h = absurd (true≢false (sym (ap is_handed h)))
    where
      is_handed : Ans Answer → Bool
      is_handed (ended z) = false
      is_handed (handed q) = true
      is_handed (told n) = false

  abbrev access : Ans Answer → Access
  access (ended z) = Callback
  access (handed q) = q
  access (told n) = Callback

  asked-keeps : (i : Bool) (q : Access) (t : Bk) (k : ℕ → Bk → tree.Out Bk Answer) → Configured q t
      → Keeps (halt calls book.driver (fed book x) i (asks q t k))
  asked-keeps i q t k c h = ap (λ (k : Kept). k.globals.ep_config) (fed-kept x t.0) ∙ c v (ap access h)

  headed-keeps : (o : tree.Out Bk Answer) → Headed x o → Keeps (halt calls book.driver (fed book x) false o)
  headed-keeps (ends z t) h = ended-keeps z (record { under_way_lem = idle; st = t.0; buf = t.1 })
  headed-keeps (asks q t k) h = asked-keeps false q t k h.0

  worded-keeps : {P : Access → Type 0} {q₀ : Access} {s : Bk} (i : Bool) (o : tree.Out Bk Answer) → Worded P q₀ s o
      → Keeps (halt calls book.driver (fed book x) i o)
  worded-keeps i (ends z t) w = ended-keeps z (record { under_way_lem = idle; st = t.0; buf = t.1 })
  worded-keeps i (asks q t k) (w_ask f g) = asked-keeps i q t k f.config

  either-keeps : (u : Bool) (y z : Ans Answer × Machine Answer Pages) → Keeps y → Keeps z → Keeps (cond u y z)
  either-keeps true y z p q = p
  either-keeps false y z p q = q

  stays-keeps : (r : ℕ) (m : Machine Answer Pages) → Keeps (stay calls book.driver r m)
  stays-keeps r m = ended-keeps (Refused r) m

  begins-keep : (o : Op) (s : Bk)
      → Keeps (halt calls book.driver (fed book x) (calls.irq o) (run book_ops (code o) s))
  begins-keep interrupt s =
      worded-keeps true (run book_ops interrupt_code s) (parts {q₀ = Callback} of_interrupt (λ e. refl) s)
  begins-keep (slotted o) s = headed-keeps (run book_ops (slotted_code o) s) (heads x (of-slotted o) s)
  begins-keep (other o) s = headed-keeps (run book_ops (other_code o) s) (of_other o s x)
  begins-keep (aside o) s = headed-keeps (run book_ops (aside_code o) s) (heads x (h_unworded (of-aside o)) s)

  beside-keeps : (m : Machine Answer Pages) (z : tree.Out Bk Answer) → Keeps (during_interrupt calls book.driver m z)
  beside-keeps m (ends z u) = ended-keeps z (record { under_way_lem = m.under_way_lem; st = u.0; buf = u.1 })
  beside-keeps m (asks q u g) = stays-keeps 3 m

  begun-keeps : (o : Op) (n : Machine Answer Pages) (l : Buf) (w : Pending Answer Pages)
      → Keeps (begun calls book.driver (fed book x) o n w l)
  begun-keeps o n l idle = begins-keep o (n.st, l)
  begun-keeps o n l (busy i a k) = either-keeps (cond i (calls.aside o) false) _ _
      (beside-keeps (lent_to calls book.driver n l) (run book_ops (code o) (n.st, l)))
      (stays-keeps 3 (lent_to calls book.driver n l))

  continued-keeps : (u : ℕ) (f : Known) (n : Machine Answer Pages) (l : Buf) (w : Pending Answer Pages)
      → WayWorded f w n.st
      → Keeps (continued calls book.driver (fed book x) u n w l)
  continued-keeps u f n l idle h = stays-keeps 15 (lent_to calls book.driver n l)
  continued-keeps u f n l (busy true a k) h =
      either-keeps (over calls a u) _ _ (stays-keeps 16 (lent_to calls book.driver n l))
      (worded-keeps true (k u (n.st, l)) (h u (n.st, l)))
  continued-keeps u f n l (busy false a k) h =
      either-keeps (over calls a u) _ _ (stays-keeps 16 (lent_to calls book.driver n l))
      (worded-keeps false (k u (n.st, l)) (h u l))

  started-keeps : (g : Config) (r : ℕ) (n : Machine Answer Pages) (l : Buf)
      → Keeps (started calls book.driver (fed book x) g r n l)
  started-keeps g zero n l =
      headed-keeps (run book_ops (starting g) (fresh_pages g, l)) (heads x (h_unworded (of-starting g)) (fresh_pages g, l))
  started-keeps g (suc r) n l = stays-keeps (suc r) n

  call-keeps : (c : Call Config Op) (f : Known) (n : Machine Answer Pages) (l : Buf)
      → WayWorded f n.under_way_lem n.st
      → Keeps (book_step x c n l)
  call-keeps (start g) f n l h = started-keeps g (start_row g l) n l
  call-keeps (begin o) f n l h = either-keeps (cond (calls.slots o) (misfit calls book.driver n.st l) false) _ _
      (stays-keeps 1 n) (begun-keeps o n l n.under_way_lem)
  call-keeps (continue u) f n l h = either-keeps (misfit calls book.driver n.st l) _ _ (stays-keeps 1 n)
      (continued-keeps u f n l n.under_way_lem h)
  call-keeps (question q) f n l h = λ k. absurd (true≢false (sym (ap is_handed k)))
    where
      is_handed : Ans Answer → Bool
      is_handed (ended z) = false
      is_handed (handed q) = true
      is_handed (told n) = false

config-kept : (c : Call Config Op) (a : Ans Answer) (f : Known) (n : Machine Answer Pages)
    → WayWorded f n.under_way_lem n.st → (l : Buf)
    → blank_a a ≡ blank_a (book_step a c n l).0 → (v : ℕ) → a ≡ handed (Write EpConfig 0 v)
    → (book_step a c n l).1.st.kept.globals.ep_config ≡ v
config-kept c a f n h l same v is = call-keeps a v c f n l h (same_write (book_step a c n l).0 a EpConfig 0 v same is)

-- ---- every list of calls

each : (ms : List CallRecord) (xs : List ℕ) (a : Buf) {φ : Phase} (n : Machine Answer Pages) (f : Known)
    → Ways driver_of book agree calls φ (machine_of xs a).under_way_lem n.under_way_lem → Coupling φ a (view xs) n.st
    → WayWorded f n.under_way_lem n.st
    → page.Calls xs a n ms → WritesEach n f ms
each [] xs a n f w R t p = tt
each (m ∷ ms) xs a n f w R t p =
    let c = m.event.call in
    let l = m.event.lent in
    let k : After driver_of book agree calls (m.answer, machine_of m.bytes m.slots) (page.book_after m n)
    =
    subst (λ (x : Ans Answer × Machine Answer Driver). After driver_of book agree calls x (book_step x.0 c n l))
    (sym p.0)
    (agrees driver_of book agree calls fresh_kept c l (machine_of xs a) n w R
    (lent_is (machine_of xs a) n R l c p.1)) in (
      load-length c m.answer f n t l k.same,
      config-kept c m.answer f n t l k.same,
      each ms m.bytes m.slots (page.book_after m n).1 (learnt c m.answer f) k.ways k.rest
          (worded-on m.answer c f n l k.same t) p.2,
    )

pub writes : (c : Config) (b : Buf) → start_row c b ≡ zero
    → (xs : List ℕ) (a : Buf) (n : Machine Answer Pages) (first : CallRecord)
    → first.event ≡ record { call = start c; lent = b } → (ms : List CallRecord) → page.Calls xs a n (first ∷ ms)
    → (f : Known)
    → ConfigKept first n × WritesEach (page.book_after first n).1 (learnt first.event.call first.answer f) ms
writes c b row xs a n first is ms p f = (
  subst (λ (e : Event Config Op). blank_a first.answer ≡ blank_a (book_step first.answer e.call n e.lent).0
      → (v : ℕ) → first.answer ≡ handed (Write EpConfig 0 v)
      → (book_step first.answer e.call n e.lent).1.st.kept.globals.ep_config ≡ v) (sym is)
      (λ same v g. started-keeps first.answer v c (start_row c b) n b
      (same_write (book_step first.answer (start c) n b).0 first.answer EpConfig 0 v same g)) begun'.same,
  each ms first.bytes first.slots (page.book_after first n).1 (learnt first.event.call first.answer f)
      begun'.ways begun'.rest worded p.2,
)
  where
    begun' : After driver_of book agree calls (first.answer, machine_of first.bytes first.slots)
        (page.book_after first n)
    begun' = subst (λ (x : Ans Answer × Machine Answer Driver).
        After driver_of book agree calls x (book_step x.0 first.event.call n first.event.lent))
        (sym p.0) (subst (λ (v : Event Config Op). let x = drive v.call (machine_of xs a) v.lent in
        After driver_of book agree calls x (book_step x.0 v.call n v.lent)) (sym is)
        (rw row (from_start driver_of book agree calls fresh_kept c b row [] (machine_of xs a) n tt).0))

    fresh : blank_a first.answer ≡ blank_a (book_step first.answer (start c) n b).0
        → WayWorded (learnt (start c) first.answer f) (book_step first.answer (start c) n b).1.under_way_lem
        (book_step first.answer (start c) n b).1.st
    fresh same =
        let y = book_step first.answer (start c) n b in
        subst (λ (g : Known). WayWorded g y.1.under_way_lem y.1.st)
        (learnt-same (start c) f y.0 first.answer (sym same))
        (subst (λ (r : ℕ). Stays first.answer (start c) f
        (started calls book.driver (fed book first.answer) c r n b)) (sym row)
        (started-worded first.answer f c zero (record { under_way_lem = idle; st = n.st; buf = n.buf }) b tt) same)

    worded : WayWorded (learnt first.event.call first.answer f) (page.book_after first n).1.under_way_lem
        (page.book_after first n).1.st
    worded =
        subst (λ (v : Event Config Op). blank_a first.answer ≡ blank_a
        (book_step first.answer v.call n v.lent).0
        → WayWorded (learnt v.call first.answer f) (book_step first.answer v.call n v.lent).1.under_way_lem
        (book_step first.answer v.call n v.lent).1.st) (sym is) fresh begun'.same
