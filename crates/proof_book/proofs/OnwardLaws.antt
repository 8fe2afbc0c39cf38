-- From its first access on, no script of a call but the interrupt changes a packet, but for loads and the release of a
-- bus reset's flag: the scripts taken apart, and their runs
use Rattle.std.specs.Prelude.{Bool, true, false, cond, ◌&&◌, List, [], ◌∷◌, ◌≡◌, refl, ℕ, zero, suc, ◌%◌, ◌<◌, eqb}
use Rattle.std.proofs.Common.{true≢false, inl, ap, subst, sym, ◌∙◌, arith, ne_eqb}
use Rattle.regs.specs.declared.Access.{Access}
use Rattle.regs.specs.declared.Access.TheVariants.{Write, Receive, Transmit}
use Rattle.regs.specs.declared.Reg.TheVariants.{EpTLen}
use Rattle.regs.specs.declared.Dir.{Dir}
use Rattle.regs.specs.declared.Dir.TheVariants.{Out, In}
use Rattle.state.specs.Wakes.{wake_code}
use Rattle.alloc.specs.declared.Answer as alloc-answer
use Rattle.alloc.specs.declared.Answer.TheVariants as alloc
use Rattle.descriptor.specs.declared.Endpoint.{Endpoint}
use Rattle.descriptor.specs.declared.Answer as reading-answer
use Rattle.descriptor.specs.declared.Answer.TheVariants as reading
use Rattle.script.specs.Tree as tree
use Rattle.script.specs.Tree.{ends, asks, bind_out}
use Rattle.script.specs.Cells.{EpCore}
use Rattle.script.specs.Script.{Script, run, rows, bind, test, look, write, next_len_lem}
use Rattle.script.specs.Script.{hand_then}
use Rattle.script.specs.Script.{row_then, waken, send, place, switch, switch_ask, burst_ask}
use Rattle.script.specs.Statics.{is_on, wake}
use Rattle.script.specs.IsoIn.{iso_in_complete, iso_in_completions}
use Rattle.script.specs.Bus as bus
use Rattle.script.specs.Driver.{allocated_as}
use Rattle.script.specs.AllocateAll.{allocate_each, announce, announce_all, allocate_read}
use Rattle.script.specs.Answers.{Answer, Refused}
use Rattle.script.specs.Calls.{Config, Slotted, SetEnabled, PollRead, BeginWrite, PollWrite, PollDataOut, BeginDataIn}
use Rattle.script.specs.Calls.{Other, Allocate, AllocateAll, Start, BusPoll, BusEnable, BusDisable, Microframe}
use Rattle.script.specs.Calls.{SetStalled, IsStalled, SetPaced, Advance, BeginRead, BeginSetup, PollSetup, PollDataIn}
use Rattle.script.specs.Calls.{BeginAccept, PollAccept, BeginReject, BeginDataOut, BeginAcceptSetAddress, Aside, Open}
use Rattle.script.specs.Calls.{Close, Queue, slotted, other, slotted_code, other_code, aside_code, starting}
use Rattle.script.specs.Steps.{giving, Steps}
use Rattle.script.proofs.StepsCalls.{call-steps}
use Rattle.proof_book.specs.Pages.{InPage, Pages}
use Rattle.proof_book.specs.Book.{Bk, some, placed_in, hand_b, row_b, iso_of, switch_b, book_ops}
use Rattle.proof_book.specs.FrameLaws.{at-elim}
use Rattle.proof_book.specs.FrontPage.{PassesOn, enabling}
use Rattle.proof_book.specs.Others.{releases, Names, none, other_names}
use Rattle.proof_book.specs.OthersStayLaws as stay
use Rattle.proof_book.specs.OthersStayLaws.{ChangesOnlyNamed, m_ret, m_bind, m_write, m_get, minding, Spared}
use Rattle.proof_book.specs.OthersStayLaws.{spare}
use Rattle.proof_book.specs.BookTracksLaws.{Tracks, end, ask, tracks_bind}
use Rattle.proof_book.specs.BookDecidesLaws.{Any, Passing, Loads, sends_to, passing-then, waits-on, still-in}
use Rattle.proof_book.specs.BookDecidesLaws.{sends, passed}
use Rattle.proof_book.specs.BookDecidesLaws.{empty-load, packet-load}
use Rattle.proof_book.proofs.EarlyScriptsLaws.{stage, row-4}
use Rattle.proof_book.specs.RefusingLaws.{Same, act-same, silent-ends, silently}
use Rattle.proof_book.specs.RefusingLaws.{HandsOutNothing, c_ret, c_bind, c_get, c_put, c_act}
use Rattle.proof_book.specs.AnnouncingLaws.{announced}

-- ---- from an access on

-- at an access: the OUT pages stay, and the IN pages but for a load's. z: of an allocation, whose transmit addresses
-- send nothing; all others are loads
pub record Comes (z : Bool) (s : Bk) (q : Access) (t : Bk) : Type 0 where
  pub outs : (e : ℕ) → t.0.outs e ≡ s.0.outs e
  pub passing : Passing s q t
  pub loads : z ≡ false → Loads q t

abbrev pub SentKept : Bk → Bk → Type 0
SentKept s t = Same s.0 t.0

abbrev pub KeptAt : Bool → Bk → Access → Bk → Type 0
KeptAt z s q t = releases q ≡ false → Comes z s q t

abbrev pub Onto : {A : Type 0} → Bool → Bk → tree.Out Bk A → Type 0
Onto z s o = Tracks Any SentKept (KeptAt z) s o

kept_then : (s t u : Bk) → SentKept s t → SentKept t u → SentKept s u
kept_then s t u h k = record { outs = λ e. k.outs e ∙ h.outs e; ins = λ e. k.ins e ∙ h.ins e }

at-then : {z : Bool} (s t u : Bk) (q : Access) → SentKept s t → KeptAt z t q u → KeptAt z s q u
at-then s t u q h k r =
    let x = k r in record {
      outs = λ e. x.outs e ∙ h.outs e;
      passing
          = passing-then s t u q h.ins x.passing;
      loads = x.loads;
    }

still : (s : Bk) → SentKept s s
still s = record { outs = λ e. refl; ins = λ e. refl }

-- an access with which no page changes, no transmit address
kept_at : {z : Bool} {s t : Bk} (q : Access) → ((e : ℕ) → sends_to q e ≡ false) → SentKept s t → KeptAt z s q t
kept_at q l h r = record {
  outs = h.outs;
  passing = still-in q l h.ins;
  loads
      = λ _ e k. absurd (true≢false (sym k ∙ l e));
}

-- ---- a script that does so all along

-- an address that sends nothing: of an OUT, or an allocation's
abbrev may_place : Bool → Dir → Bool
may_place true d = true
may_place false Out = true
may_place false In = false

pub data Later (z : Bool) : (A : Type 0) → Script false A → Type 1 where
  -- it changes no page
  k_none : {A : Type 0} {p : Script false A} → ChangesOnlyNamed none A p → Later z A p
  k_load : {e : ℕ} → Later z Unit (iso_in_complete e)
  k_bind : {A B : Type 0} {p : Script false B} {f : B → Script false A} → Later z B p → ((b : B) → Later z A (f b))
      → Later z A (bind p f)
  k_test : {A : Type 0} {b : Bool} {p q : Script false A} → Later z A p → Later z A q → Later z A (test b p q)
  k_place : {A : Type 0} {d : Dir} {e : ℕ} {p : Script false A} → may_place z d ≡ true → Later z A p
      → Later z A (hand_then (place d e) p)

-- one that hands out no access
abbrev pub Free : (A : Type 0) → Script false A → Type 1
Free A p = HandsOutNothing (λ q. true) A p

-- one that does so from its first access on; y: which may be an address that sends nothing
pub data Heads (y z : Bool) : (A : Type 0) → Script false A → Type 1 where
  h_later : {A : Type 0} {p : Script false A} → Later z A p → Heads y z A p
  h_free : {A : Type 0} {p : Script false A} → Free A p → Heads y z A p
  h_then : {A B : Type 0} {p : Script false B} {f : B → Script false A} → Free B p → ((b : B) → Heads y z A (f b))
      → Heads y z A (bind p f)
  h_bind : {A B : Type 0} {p : Script false B} {f : B → Script false A} → Heads y z B p → ((b : B) → Later z A (f b))
      → Heads y z A (bind p f)
  h_test : {A : Type 0} {b : Bool} {p q : Script false A} → Heads y z A p → Heads y z A q → Heads y z A (test b p q)
  h_switch : {A : Type 0} {e : ℕ} {on : Bool} {p : Script false A} → Later z A p
      → Heads y z A (row_then (switch e on) p)
  h_place : {A : Type 0} {d : Dir} {e : ℕ} {p : Script false A} → y ≡ true → Later z A p
      → Heads y z A (hand_then (place d e) p)

ruleset later = (k_load, k_bind, k_test, k_place, k_none, minding)

ruleset heading = (h_then, h_bind, h_test, h_switch, h_later, h_place, h_free)

-- ---- their runs

places : (f : ℕ) (s : Bk) → Passing s (Transmit f 0) (hand_b (place In f) s).1
places f s = record {
  spares = apart;
  passes = λ i e. at-elim (λ (p : InPage). PassesOn (s.0.ins e) p) f e (placed_in (s.0.ins f)) s.0.ins
      (λ m. subst (λ (p : InPage). PassesOn p (placed_in (s.0.ins f))) (i f e (sym m))
      (record { waiting = inl refl; queued = refl }))
      (λ _. waits-on);
  empties = λ e g. inl (apart e g);
  exact = λ i e g l. absurd (true≢false (sym l ∙ ap (λ (u : Bool). (cond u (placed_in (s.0.ins f)) (s.0.ins e)).load)
      g));
}
  where
    apart : (e : ℕ) → eqb (e % 16) (f % 16) ≡ false → (hand_b (place In f) s).1.0.ins e ≡ s.0.ins e
    apart e g = ap (λ (u : Bool). cond u (placed_in (s.0.ins f)) (s.0.ins e)) g

load-onto : {z : Bool} (e : ℕ) (s : Bk) (u : Bool) → some ((passed e s).0.ins e).waiting ≡ u
    → let next : Script false Unit = bind (look (next_len_lem In e)) (λ n. write EpTLen e n) in Onto z s
    (bind_out (cond u (asks (Transmit e 0) (hand_b (send e) (passed e s)).1 (λ _ t. run book_ops next t))
    (asks (Write EpTLen e 0) (passed e s) (λ _ t. ends tt t))) (λ _ t. run book_ops (wake {i = false} In e) t))
load-onto e s true one = ask tt (λ _. record {
  outs = λ e. refl;
  passing = packet-load e s;
  loads
      = λ _. sends e (passed e s) one;
})
    (λ v t _. ask tt (kept_at (Write EpTLen e _) (λ _. refl) (still t))
    (λ v t _. end tt (act-same (waken (wake_code In e ∷ [])) refl t)))
load-onto e s false empty = ask tt
    (λ _. record { outs = λ e. refl; passing = empty-load e s empty; loads = λ _ e k. absurd (true≢false (sym k)) })
    (λ v t _. end tt (act-same (waken (wake_code In e ∷ [])) refl t))

-- one that changes no page
onto-none : {z : Bool} {A : Type 0} {s : Bk} {o : tree.Out Bk A} → Spared none s o → Onto z s o
onto-none (end i q) = end i (record { outs = λ e. q.outs e tt; ins = λ e. q.ins e tt })
onto-none (ask {q = q} i m k) =
    ask i (λ r. let x = m.pages r in kept_at q (λ e. m.transmits e tt)
    (record { outs = λ e. x.outs e tt; ins = λ e. x.ins e tt }) r)
    (λ v t j. onto-none (k v t j))

pub onward : {z : Bool} {A : Type 0} {p : Script false A} → Later z A p → (s : Bk) → Onto z s (run book_ops p s)
onward (k_none h) s = onto-none (spare h s)
onward (k_load {e = e}) s = load-onto e s (some ((passed e s).0.ins e).waiting) refl
onward {z} (k_bind h g) s = tracks_bind Any SentKept (KeptAt z) kept_then at-then (onward h s) (λ a t _. onward (g a) t)
onward (k_test {b = true} h g) s = onward h s
onward (k_test {b = false} h g) s = onward g s
onward (k_place {d = Out} {e = e} m h) s = ask tt (kept_at (Receive e 0) (λ _. refl) (still s)) (λ _ t _. onward h t)
onward (k_place {d = In} {e = e} m h) s = ask tt (λ _. record {
  outs = λ e. refl;
  passing = places e s;
  loads = λ i. absurd (true≢false (sym (sym (ap (λ (u : Bool). may_place u In) i) ∙ m)));
}) (λ _ t _. onward h t)

-- what comes after the first access
abbrev pub Head : {A : Type 0} → Bool → Bool → tree.Out Bk A → Type 0
Head y z (ends a t) = Unit {0}
Head y z (asks q t k) = (y ≡ false → z ≡ false → releases q ≡ false → Loads q t) × ((v : ℕ) (u : Bk) → Onto z u (k v u))

pub of-onto : (y : Bool) {z : Bool} {A : Type 0} {s : Bk} {o : tree.Out Bk A} → Onto z s o → Head y z o
of-onto y (end i q) = tt
of-onto y (ask i m k) = (λ _ h r. (m r).loads h, λ v u. k v u tt)

head-bind : (y : Bool) {z : Bool} {A B : Type 0} (o : tree.Out Bk B) {f : B → Bk → tree.Out Bk A} → Head y z o
    → ((b : B) (t : Bk) → Onto z t (f b t))
    → Head y z (bind_out o f)
head-bind y (ends a t) h g = of-onto y (g a t)
head-bind y {z} (asks q t k) h g = (
  h.0,
  λ v u. tracks_bind Any SentKept (KeptAt z) kept_then at-then (h.1 v u)
      (λ a t _. g a t),
)

-- the row of a switch after its first access
module _ (f : ℕ) (on : Bool) where
  not_first : (n : ℕ) (t : Pages) → n < 15 → Same t (switch_b f on (suc (suc (suc n))) t).1
  not_first n t h = by (iso_of t Out f) (eqb n 15) _ (ne_eqb n 15 (λ k. absurd (omega (arith, h, k))))
    where
      by : (u v : Bool) (x : Pages) → v ≡ false → Same t (cond (u && v) x t)
      by true v x k = subst (λ (w : Bool). Same t (cond w x t)) (sym k) (record { outs = λ e. refl; ins = λ e. refl })
      by false v x k = record { outs = λ e. refl; ins = λ e. refl }

  switch-step : (n : ℕ) (s : Bk) → n < 18 → SentKept s (row_b (switch f on) n s).1
  switch-step zero s h = record { outs = λ e. refl; ins = λ e. refl }
  switch-step (suc zero) s h = record { outs = λ e. refl; ins = λ e. refl }
  switch-step (suc (suc zero)) s h = still s
  switch-step (suc (suc (suc n))) s h = not_first n s.0 (omega (arith, h))

  switch-quiet : (n x e : ℕ) → sends_to (switch_ask f on n x) e ≡ false
  switch-quiet zero x e = refl
  switch-quiet (suc zero) x e = refl
  switch-quiet (suc (suc zero)) x e = refl
  switch-quiet (suc (suc (suc n))) x e = refl

  switch-at : {z : Bool} (n : ℕ) (s : Bk) → n < 18 → let y
      = row_b (switch f on) n s in KeptAt z s (burst_ask (switch f on) n y.0) y.1
  switch-at n s l =
      let x = (row_b (switch f on) n s).0 in kept_at (burst_ask (switch f on) n x) (switch-quiet n x) (switch-step n s l)

  switch_rows : {z : Bool} {A : Type 0} (n : ℕ) → n < 18 → {k : Bk → tree.Out Bk A} → ((t : Bk) → Onto z t (k t))
      → (s : Bk)
      → Onto z s (rows book_ops (switch f on) n k s)
  switch_rows zero l h s = ask tt (switch-at zero s l) (λ v t _. h t)
  switch_rows (suc n) l h s = ask tt (switch-at (suc n) s l) (λ v t _. switch_rows n (omega (arith, l)) h t)

pub heads-run : {y z : Bool} {A : Type 0} {p : Script false A} → Heads y z A p → (s : Bk) → Head y z (run book_ops p s)
heads-run {y} (h_later h) s = of-onto y (onward h s)
heads-run {y} {z} (h_free h) s = let x = silent-ends h s in subst (Head y z) (sym x.2) tt
heads-run {y} {z} (h_then {f = f} h g) s =
    let x = silent-ends h s in
    subst (λ (o : tree.Out Bk _). Head y z (bind_out o (λ a t. run book_ops (f a) t))) (sym x.2)
    (heads-run (g x.0) x.1)
heads-run {y} (h_bind {p = p} h g) s = head-bind y (run book_ops p s) (heads-run h s) (λ b t. onward (g b) t)
heads-run (h_test {b = true} h g) s = heads-run h s
heads-run (h_test {b = false} h g) s = heads-run g s
heads-run (h_switch {e = e} {on = on} h) s = (
  λ _ _ _ f k. absurd (true≢false (sym k ∙ switch-quiet e on 18 (row_b (switch e on) 18 s).0 f)),
  λ v u. switch_rows e on 17 (omega arith) (λ t. onward h t) u,
)
heads-run (h_place i h) s = (λ j. absurd (true≢false (sym i ∙ j)), λ v u. onward h u)

-- ---- the calls

of-completions : (n e : ℕ) → Later false Unit (iso_in_completions n e)
unfolding iso_in_completions
of-completions zero e = k_none m_ret
of-completions (suc n) e = k_bind k_load (λ _. of-completions n e)

of-allocated : (d : Dir) (kind maximum : ℕ) (a : alloc-answer.Answer)
    → Later true Answer (allocated_as d kind maximum a)
of-allocated d kind maximum (alloc.Refused n) = search later
of-allocated d kind maximum (alloc.Given e base slots) = search later depth 20

of-each : (es : List Endpoint) → Free Unit (allocate_each es)
unfolding allocate_each
of-each [] = search silently
of-each (e ∷ es) = c_bind (c_act refl c_ret) (λ _. of-each es)

of-announce : (dir : Dir) (e : ℕ) → Later true ℕ (announce dir e)
of-announce dir e = search later depth 20

of-announce-all : (es : List Endpoint) → Later true ℕ (announce_all es)
of-announce-all = announced (Later true)
    (record { end = k_none m_ret; then = k_bind; either = k_test; got = λ c. k_none (m_get (λ _. m_ret)) }) of-announce

of-allocate-read : (bytes : List ℕ) (a : reading-answer.Answer) → Heads false true Answer (allocate_read bytes a)
of-allocate-read bytes (reading.Refused n) = h_free c_ret
of-allocate-read bytes reading.Listed = search (of-each, of-announce-all, heading, later, silently) depth 30 fits 100000

of-kept : (dir : Dir) (e : ℕ) (iso onn : Bool) → ChangesOnlyNamed none Unit (bus.kept dir e iso onn)
of-kept dir e iso onn = search minding depth 20

of-wake : (dir : Dir) (e : ℕ) → ChangesOnlyNamed none Unit (wake dir e)
of-wake dir e = search minding

of-enabling : (dir : Dir) (e : ℕ) (onn : Bool) → Heads (enabling (slotted (SetEnabled dir e onn))) false Unit
    (bus.set_enabled dir e onn)
of-enabling Out e onn = h_then (c_get (λ _. c_ret)) (λ _. h_bind
    (h_test (h_switch (k_none m_ret)) (h_then (c_act refl c_ret)
    (λ _. h_then (c_bind (c_get (λ _. c_ret)) (λ _. c_put c_ret)) (λ _.
    h_later (k_bind (k_place refl (k_none m_ret)) (λ _. k_none
    (m_bind (m_write m_ret) (λ _. of-kept Out e false onn))))))))
    (λ _. k_none (of-wake Out e)))
of-enabling In e onn = h_then (c_get (λ _. c_ret)) (λ (s : EpCore). h_bind
    (h_then (c_act refl c_ret) (λ _. h_then (c_bind (c_get (λ _. c_ret)) (λ _. c_put c_ret))
    (λ _. h_then (c_put c_ret) (λ _.
    h_bind (h_place refl (k_none m_ret)) (λ _. k_none (m_bind (m_write m_ret)
    (λ _. m_bind (m_write m_ret) (λ _. of-kept In e (is_on s.iso) onn))))))))
    (λ _. k_none (of-wake In e)))

of-advance : (e : ℕ) → Later false Answer (other_code (Advance e))
of-advance e = search (of-completions, later) depth 40 fits 100000

pub of-write-poll : (e : ℕ) (bytes : List ℕ) → Free Answer (slotted_code (PollWrite e bytes))
of-write-poll e bytes = search silently depth 40

pub of-slotted : (o : Slotted) → Heads (enabling (slotted o)) false Answer (slotted_code o)
of-slotted (SetEnabled Out e onn) = search (of-enabling, heading, later, silently) depth 30 fits 100000
of-slotted (SetEnabled In e onn) = search (of-enabling, heading, later, silently) depth 30 fits 100000
of-slotted (PollRead e n) = search (h_free, silently) depth 40
of-slotted (BeginWrite e bytes) = h_later (k_none (stay.of-slotted (BeginWrite e bytes)))
of-slotted (PollWrite e bytes) = h_free (of-write-poll e bytes)
of-slotted (PollDataOut n) = h_later (k_none (stay.of-slotted (PollDataOut n)))
of-slotted (BeginDataIn bytes first last) = h_later (k_none (stay.of-slotted (BeginDataIn bytes first last)))

pub of-aside : (o : Aside) → Heads false false Answer (aside_code o)
of-aside (Open e) = search (h_free, silently) depth 40
of-aside (Close e) = search (h_free, silently) depth 40
of-aside (Queue e bytes) = search (h_free, silently) depth 40

pub of-starting : (c : Config) → Heads false false Answer (starting c)
of-starting c = h_later (k_none (stay.of-starting none c))

-- an allocation, which row 4 stops after EP0's start, or another
pub data Goes (o : Other) : Type 1 where
  plainly : Heads false false Answer (other_code o) → Goes o
  gives : Heads false true Answer (other_code o) → Steps giving (other_code o)
      → ((s : Bk) → stage s.0 ≡ 2 → run book_ops (other_code o) s ≡ ends (Refused 4) s) → Goes o

-- one that names no endpoint
quietly : (o : Other) → other_names o ≡ none → Goes o
quietly o h = plainly (h_later (k_none (subst (λ (m : Names). ChangesOnlyNamed m Answer (other_code o)) h
    (stay.of_other o))))

pub of_other : (o : Other) → Goes o
of_other (Allocate dir kind address maximum interval) = gives
    (search (of-allocated, heading, later, silently) depth 30 fits 100000)
    (call-steps (other (Allocate dir kind address maximum interval)))
    (λ s h. row-4 (eqb (stage s.0) 1) _ _ (ap (λ (n : ℕ). eqb n 1) h))
of_other (AllocateAll bytes) = gives (search (of-allocate-read, heading, silently) depth 20)
    (call-steps (other (AllocateAll bytes)))
    (λ s h. row-4 (eqb (stage s.0) 1) _ _ (ap (λ (n : ℕ). eqb n 1) h))
of_other (Start maximum) = quietly (Start maximum) refl
of_other BusPoll = quietly BusPoll refl
of_other BusEnable = quietly BusEnable refl
of_other BusDisable = quietly BusDisable refl
of_other Microframe = quietly Microframe refl
of_other (SetStalled dir e onn) = quietly (SetStalled dir e onn) refl
of_other (IsStalled dir e) = quietly (IsStalled dir e) refl
of_other (SetPaced e onn) = quietly (SetPaced e onn) refl
of_other (Advance e) = plainly (h_later (of-advance e))
of_other (BeginRead e n) = quietly (BeginRead e n) refl
of_other BeginSetup = quietly BeginSetup refl
of_other PollSetup = quietly PollSetup refl
of_other PollDataIn = quietly PollDataIn refl
of_other BeginAccept = quietly BeginAccept refl
of_other PollAccept = quietly PollAccept refl
of_other BeginReject = quietly BeginReject refl
of_other (BeginDataOut n first) = quietly (BeginDataOut n first) refl
of_other (BeginAcceptSetAddress a) = quietly (BeginAcceptSetAddress a) refl
