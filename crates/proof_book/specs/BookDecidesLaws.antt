-- In an interrupt the book's OUT pages change at one access alone: a receive address, where an arrival is decided; its IN pages at a load alone
use Rattle.std.specs.Prelude.{Bool, true, false, cond, ◌&&◌, ◌⊎◌, ◌≡◌, refl, ℕ, ◌%◌, ◌<◌, min, length, get_or, eqb, ltb}
use Rattle.std.proofs.Common.{true≢false, inl, inr, ap, subst, sym, ◌∙◌, arith, eq-eqb, eqb-true}
use mathlib.Core.List.{List, [], ◌∷◌, tail}
use Rattle.bits.specs.Bit.{bit_is_set}
use Rattle.regs.specs.declared.Access.{Access}
use Rattle.regs.specs.declared.Access.TheVariants.{Read, Write, Receive, Transmit, Ep0Dma, Wait, Callback}
use Rattle.regs.specs.declared.Reg.TheVariants.{EpTLen}
use Rattle.regs.specs.declared.Dir.TheVariants.{Out, In}
use Rattle.state.specs.Wakes.{wake_code}
use Rattle.ring.specs.Copies.{bytes_at}
use Rattle.script.specs.Tree as tree
use Rattle.script.specs.Tree.{ends, asks, bind_out}
use Rattle.script.specs.Cells.{Cell, Val, globals-cell, control-cell, allocator-cell, ep-cell, request-cell, paced_cell}
use Rattle.script.specs.Script.{Script, run, bind, look, write, next_len_lem, complete, waken, arrive, send}
use Rattle.script.specs.Statics.{iso_outs, wake}
use Rattle.script.specs.Machine.{Buf}
use Rattle.proof_book.specs.Pages.{Packet, OutPage, InPage, Pages, with_out}
use Rattle.proof_book.specs.Book.{Bk, put_b, act_b, hand_b, some, receiving, arrived, packet_b, passed_in, loaded_in, sent_in, placed_in, book_ops}
use Rattle.proof_book.specs.FrameLaws.{out-same, in-same, at-elim}
use Rattle.proof_book.specs.FrontPage.{gives_to, PassesOn, NoneLeft}
pub use Rattle.proof_book.specs.Others.{sends_to}
use Rattle.proof_book.specs.FrontPage as page
use Rattle.proof_book.specs.RefusingLaws.{put_same}
use Rattle.proof_book.specs.BookTracksLaws.{Tracks, end, ask, earlier, tracks_bind}
use Rattle.proof_book.specs.InterruptPartsLaws.{Parts, p_ret, p_bind, p_test, p_read, p_write, p_wait, p_callback}
use Rattle.proof_book.specs.InterruptPartsLaws.{p_get, p_put, p_is, p_look, p_fetch, p_load, p_no_wakes, p_waken}
use Rattle.proof_book.specs.InterruptPartsLaws.{p_arrive}

abbrev pub Any : Pages → Type 0
Any t = Unit {0}

-- the OUT pages, the enabled isochronous OUT endpoints and the lent bytes stay
pub record Idle (s t : Bk) : Type 0 where
  pub outs : (e : ℕ) → t.0.outs e ≡ s.0.outs e
  pub sets : iso_outs t.0.kept.globals ≡ iso_outs s.0.kept.globals
  pub bytes : t.1 ≡ s.1

-- and so do the IN pages
pub record NoPageMoved (s t : Bk) : Type 0 where
  pub rest : Idle s t
  pub ins : (e : ℕ) → t.0.ins e ≡ s.0.ins e

-- at a receive address: the endpoint's page with a packet that has arrived, with its slot's bytes
abbrev pub Arrives : Bk → Access → Bk → Type 0
Arrives s q t = (e x : ℕ) → q ≡ Receive e x → receiving s.0 e ≡ true
    → (n : ℕ) × (k : Packet) × (k.bytes ≡ bytes_at s.1 (s.0.outs e).slot n)
    × (t.0.outs e ≡ arrived (s.0.outs e) k)

-- where the access is not a receive address of OUT e, or OUT e is not enabled as isochronous, its page stays
abbrev pub OutStays : Bk → Access → Bk → Type 0
OutStays s q t = (e : ℕ) → (gives_to q e && receiving s.0 e) ≡ false → t.0.outs e ≡ s.0.outs e

-- at a transmit address: one waits, and the first is being sent
abbrev pub Loads : Access → Bk → Type 0
Loads q t = (e : ℕ) → sends_to q e ≡ true → (0 < length (t.0.ins e).waiting) × ((t.0.ins e).sending ≡ true)
    × ((t.0.ins e).load ≡ true)

-- numbers count modulo 16
abbrev pub InPeriodic : Pages → Type 0
InPeriodic t = (x y : ℕ) → x % 16 ≡ y % 16 → t.ins x ≡ t.ins y

-- the one that was being sent waits no more, all others do
abbrev pub PassedBy : InPage → InPage → Type 0
PassedBy p p' = p'.waiting ≡ cond p.sending (tail p.waiting) p.waiting

-- where the access does not load IN e, its page stays; where it does, the one being sent may pass
pub record Passing (s : Bk) (q : Access) (t : Bk) : Type 0 where
  pub spares : (e : ℕ) → page.loads q e ≡ false → t.0.ins e ≡ s.0.ins e
  pub passes : InPeriodic s.0 → (e : ℕ) → PassesOn (s.0.ins e) (t.0.ins e)
  -- with no transmit address none is left there
  pub empties : (e : ℕ) → sends_to q e ≡ false → (t.0.ins e ≡ s.0.ins e) ⊎ NoneLeft (t.0.ins e)
  -- at a load's transmit address the one that was being sent has passed
  pub exact : InPeriodic s.0 → (e : ℕ) → sends_to q e ≡ true → (t.0.ins e).load ≡ true
      → PassedBy (s.0.ins e) (t.0.ins e)

pub record Moves (s : Bk) (q : Access) (t : Bk) : Type 0 where
  pub arrives : Arrives s q t
  pub leaves : OutStays s q t
  pub loads : Loads q t
  pub passing : Passing s q t

pub idle_then : (s t u : Bk) → Idle s t → Idle t u → Idle s u
idle_then s t u h k = record { outs = λ e. k.outs e ∙ h.outs e; sets = k.sets ∙ h.sets; bytes = k.bytes ∙ h.bytes }

arrives-then : (s t u : Bk) (q : Access) → Idle s t → Arrives t q u → Arrives s q u
arrives-then s t u q h k e x a r =
    let z = k e x a (ap (λ (n : ℕ). bit_is_set n (e % 16)) h.sets ∙ r) in (
      z.0,
      z.1,
      z.2 ∙ ap (λ (b : List ℕ). bytes_at b (t.0.outs e).slot z.0) h.bytes
          ∙ ap (λ (p : OutPage). bytes_at s.1 p.slot z.0) (h.outs e),
      z.3 ∙ ap (λ (p : OutPage). arrived p z.1) (h.outs e),
    )

still-then : (s t u : Bk) → NoPageMoved s t → NoPageMoved t u → NoPageMoved s u
still-then s t u h k = record { rest = idle_then s t u h.rest k.rest; ins = λ e. k.ins e ∙ h.ins e }

pub passing-then : (s t u : Bk) (q : Access) → ((e : ℕ) → t.0.ins e ≡ s.0.ins e) → Passing t q u → Passing s q u
passing-then s t u q h k = record {
  spares = λ e g. k.spares e g ∙ h e;
  passes = λ i e. subst (λ (p : InPage). PassesOn p (u.0.ins e)) (h e)
      (k.passes (λ x y m. h x ∙ i x y m ∙ sym (h y)) e);
  empties = λ e g. subst (λ (p : InPage). (u.0.ins e ≡ p) ⊎ NoneLeft (u.0.ins e)) (h e) (k.empties e g);
  exact = λ i e g l. subst (λ (p : InPage). PassedBy p (u.0.ins e)) (h e) (k.exact (λ x y m. h x ∙ i x y m ∙ sym (h y)) e g l);
}

moves-then : (s t u : Bk) (q : Access) → NoPageMoved s t → Moves t q u → Moves s q u
moves-then s t u q h k = record {
  arrives = arrives-then s t u q h.rest k.arrives;
  leaves = λ e g. k.leaves e (ap (λ (n : ℕ). gives_to q e && bit_is_set n (e % 16)) h.rest.sets ∙ g) ∙ h.rest.outs e;
  loads = k.loads;
  passing = passing-then s t u q h.ins k.passing;
}

pub idle : {s : Bk} → Idle s s
idle = record { outs = λ e. refl; sets = refl; bytes = refl }

-- the endpoint of a receive address
abbrev receive_of : Access → List ℕ
receive_of (Read r e) = []
receive_of (Write r e v) = []
receive_of (Receive e x) = e ∷ []
receive_of (Transmit e x) = []
receive_of (Ep0Dma x) = []
receive_of (Wait n) = []
receive_of Callback = []

abbrev pub is_receive : Access → Bool
is_receive q = ltb 0 (length (receive_of q))

abbrev pub number_in : Access → ℕ
number_in q = get_or (receive_of q) 0 0

pub no-receive : {X : Type 0} {q : Access} {e x : ℕ} → is_receive q ≡ false → q ≡ Receive e x → X
no-receive h a = absurd (true≢false (sym (ap is_receive a) ∙ h))

pub puts : (c : Cell) (v : Val c) (s : Bk) → Idle s (put_b c v s)
unfolding iso_outs
puts globals-cell v s = record { outs = λ e. refl; sets = refl; bytes = refl }
puts control-cell v s = record { outs = λ e. refl; sets = refl; bytes = refl }
puts allocator-cell v s = idle
puts (ep-cell d e) v s = record { outs = λ e. refl; sets = refl; bytes = refl }
puts (request-cell d e) v s = record { outs = λ e. refl; sets = refl; bytes = refl }
puts (paced_cell e) v s = record { outs = λ e. refl; sets = refl; bytes = refl }

arrives : (f n : ℕ) (s : Bk) → Arrives s (Receive f 0) (hand_b (arrive f n) s).1
arrives f n s e x a r = subst
    (λ (e : ℕ). receiving s.0 e ≡ true → (m : ℕ) × (k : Packet) × (k.bytes ≡ bytes_at s.1 (s.0.outs e).slot m)
    × ((hand_b (arrive f n) s).1.0.outs e ≡ arrived (s.0.outs e) k))
    (ap number_in a) (λ r. (min n (s.0.kept.plain Out f).max_len, packet_b f n s, refl, by (receiving s.0 f) r))
    r
  where
    by : (u : Bool) → u ≡ true → (cond u (with_out s.0 f (arrived (s.0.outs f) (packet_b f n s))) s.0).outs f
        ≡ arrived (s.0.outs f) (packet_b f n s)
    by true h = out-same s.0 f (arrived (s.0.outs f) (packet_b f n s))
    by false h = absurd (true≢false (sym h))

leaves : (f n : ℕ) (s : Bk) → OutStays s (Receive f 0) (hand_b (arrive f n) s).1
leaves f n s e g = by (receiving s.0 f) refl
  where
    page : OutPage
    page = arrived (s.0.outs f) (packet_b f n s)

    on : ℕ → Bool
    on k = bit_is_set (iso_outs s.0.kept.globals) k

    by : (u : Bool) → receiving s.0 f ≡ u → (cond u (with_out s.0 f page) s.0).outs e ≡ s.0.outs e
    by true r = at-elim (λ (p : OutPage). p ≡ s.0.outs e) f e page s.0.outs
        (λ h. absurd (true≢false (sym (ap (λ (k : ℕ). eqb (f % 16) k && on k) h
        ∙ ap (λ (u : Bool). u && on (f % 16)) (eq-eqb (f % 16) (f % 16) refl) ∙ r) ∙ g))) (λ _. refl)
    by false r = refl

-- no IN page changed
pub waits-on : {p : InPage} → PassesOn p p
waits-on = record { waiting = inl refl; queued = refl }

pub still-in : {s t : Bk} (q : Access) → ((e : ℕ) → sends_to q e ≡ false) → ((e : ℕ) → t.0.ins e ≡ s.0.ins e) → Passing s q t
still-in {s} q n h = record {
  spares = λ e g. h e;
  passes = λ i e. subst (λ (p : InPage). PassesOn (s.0.ins e) p) (sym (h e)) waits-on;
  empties = λ e g. inl (h e);
  exact = λ i e g l. absurd (true≢false (sym g ∙ n e));
}

arrive-still : (f n : ℕ) (s : Bk) → Passing s (Receive f 0) (hand_b (arrive f n) s).1
arrive-still f n s = still-in (Receive f 0) (λ e. refl) (λ e. by e (receiving s.0 f))
  where
    by : (e : ℕ) (u : Bool) → (cond u (with_out s.0 f (arrived (s.0.outs f) (packet_b f n s))) s.0).ins e
        ≡ s.0.ins e
    by e true = refl
    by e false = refl

-- an access that is no address
unmoved : {s : Bk} {q : Access} → is_receive q ≡ false → ((e : ℕ) → sends_to q e ≡ false) → Moves s q s
unmoved {q = q} h g = record {
  arrives = λ e x a r. no-receive h a;
  leaves = λ e g. refl;
  loads = λ e k. absurd (true≢false (sym k ∙ g e));
  passing = still-in q g (λ e. refl);
}

pub sends : (f : ℕ) (s : Bk) → some (s.0.ins f).waiting ≡ true → Loads (Transmit f 0) (hand_b (send f) s).1
sends f s one e = at-page (eqb (e % 16) (f % 16))
  where
    loaded : (w : List (List ℕ)) → let p = cond (some w) (sent_in (s.0.ins f) s.1) (placed_in (s.0.ins f)) in
        (s.0.ins f).waiting ≡ w → some w ≡ true → (0 < length p.waiting) × (p.sending ≡ true) × (p.load ≡ true)
    loaded [] h l = absurd (true≢false (sym l))
    loaded (b ∷ w) h l = (omega (arith, ap (λ (w : List (List ℕ)). length w) h), refl, refl)

    at-page : (u : Bool) → u ≡ true → let p = cond u (loaded_in (s.0.ins f) s.1) (s.0.ins e) in
        (0 < length p.waiting) × (p.sending ≡ true) × (p.load ≡ true)
    at-page true h = loaded (s.0.ins f).waiting refl one
    at-page false h = absurd (true≢false (sym h))

-- ---- a load

-- the tail passes
passed_on_lem : (p : InPage) → PassesOn p (passed_in p)
passed_on_lem p = record { waiting = by p.sending refl; queued = refl }
  where
    by : (u : Bool) → p.sending ≡ u → let w = cond u (tail p.waiting) p.waiting in
        (w ≡ p.waiting) ⊎ ((p.sending ≡ true) × (w ≡ tail p.waiting))
    by true h = inr (h, refl)
    by false h = inl refl

loaded_on : (p : InPage) (b : Buf) → PassesOn p (loaded_in (passed_in p) b)
loaded_on p b = by (some (passed_in p).waiting)
  where
    by : (u : Bool) → PassesOn p (cond u (sent_in (passed_in p) b) (placed_in (passed_in p)))
    by true = record { waiting = (passed_on_lem p).waiting; queued = refl }
    by false = record { waiting = (passed_on_lem p).waiting; queued = refl }

none_waits : (w : List (List ℕ)) → some w ≡ false → w ≡ []
none_waits [] h = refl
none_waits (b ∷ w) h = absurd (true≢false h)

module _ (f : ℕ) (s : Bk) where
  abbrev pub passed : Bk
  passed = act_b (complete f) s

  -- the page of IN f is one to which its tail has passed on
  at-page : (i : InPeriodic s.0) (e : ℕ) → e % 16 ≡ f % 16 → (p : InPage) → PassesOn (s.0.ins f) p
      → PassesOn (s.0.ins e) p
  at-page i e h p k = subst (λ (q : InPage). PassesOn q p) (i f e (sym h)) k

  -- where none waits
  pub empty-load : some (passed.0.ins f).waiting ≡ false → Passing s (Write EpTLen f 0) passed
  empty-load none = record {
    spares = λ e g. ap (λ (u : Bool). cond u (passed_in (s.0.ins f)) (s.0.ins e)) g;
    passes = λ i e. at-elim (λ (p : InPage). PassesOn (s.0.ins e) p) f e (passed_in (s.0.ins f)) s.0.ins
        (λ h. at-page i e h (passed_in (s.0.ins f)) (passed_on_lem (s.0.ins f))) (λ _. waits-on);
    empties = λ e g. at-elim (λ (p : InPage). (p ≡ s.0.ins e) ⊎ NoneLeft p) f e (passed_in (s.0.ins f)) s.0.ins
        (λ _. inr (all-passed, refl)) (λ _. inl refl);
    exact = λ i e g l. absurd (true≢false (sym g));
  }
    where
      all-passed : (passed_in (s.0.ins f)).waiting ≡ []
      all-passed = none_waits (passed_in (s.0.ins f)).waiting
          (sym (ap (λ (p : InPage). some p.waiting) (in-same s.0 f (passed_in (s.0.ins f)))) ∙ none)

  -- where one does
  pub packet-load : Passing s (Transmit f 0) (hand_b (send f) passed).1
  packet-load = record {
    spares = apart;
    passes = λ i e. at-elim (λ (p : InPage). PassesOn (s.0.ins e) p) f e (loaded_in (passed.0.ins f) s.1) passed.0.ins
        (λ h. at-page i e h (loaded_in (passed.0.ins f) s.1) own)
        (λ h. at-elim (λ (p : InPage). PassesOn (s.0.ins e) p) f e (passed_in (s.0.ins f)) s.0.ins (λ k. absurd (h k)) (λ _. waits-on));
    empties = λ e g. inl (apart e g);
    exact = λ i e g l. subst (λ (p : InPage). PassedBy p ((hand_b (send f) passed).1.0.ins e)) (i f e (sym (eqb-true (e % 16) (f % 16) g)))
        (subst (λ (p : InPage). PassedBy (s.0.ins f) p) (sym (here e g)) own-passed);
  }
    where
      here : (e : ℕ) → eqb (e % 16) (f % 16) ≡ true → (hand_b (send f) passed).1.0.ins e ≡ loaded_in (passed.0.ins f) s.1
      here e g = ap (λ (u : Bool). cond u (loaded_in (passed.0.ins f) s.1) (passed.0.ins e)) g

      own-passed : PassedBy (s.0.ins f) (loaded_in (passed.0.ins f) s.1)
      own-passed = subst (λ (p : InPage). PassedBy (s.0.ins f) (loaded_in p s.1)) (sym (in-same s.0 f (passed_in (s.0.ins f))))
          (by (some (passed_in (s.0.ins f)).waiting))
        where
          by : (u : Bool) → PassedBy (s.0.ins f) (cond u (sent_in (passed_in (s.0.ins f)) s.1) (placed_in (passed_in (s.0.ins f))))
          by true = refl
          by false = refl

      apart : (e : ℕ) → eqb (e % 16) (f % 16) ≡ false → (hand_b (send f) passed).1.0.ins e ≡ s.0.ins e
      apart e g = ap (λ (u : Bool). cond u (loaded_in (passed.0.ins f) s.1) (cond u (passed_in (s.0.ins f)) (s.0.ins e))) g

      own : PassesOn (s.0.ins f) (loaded_in (passed.0.ins f) s.1)
      own =
          subst (λ (p : InPage). PassesOn (s.0.ins f) (loaded_in p s.1)) (sym (in-same s.0 f (passed_in (s.0.ins f))))
          (loaded_on (s.0.ins f) s.1)

abbrev pub Watched : {A : Type 0} → Bk → tree.Out Bk A → Type 0
Watched s o = Tracks Any NoPageMoved Moves s o

after : {A : Type 0} {s t : Bk} {o : tree.Out Bk A} → NoPageMoved s t → Watched t o → Watched s o
after h w = earlier Any NoPageMoved Moves still-then moves-then h w

-- wake-ups alone changed
woken : (codes : List ℕ) (s : Bk) → NoPageMoved s (act_b (waken codes) s)
woken codes s = record { rest = record { outs = λ e. refl; sets = refl; bytes = refl }; ins = λ e. refl }

-- `iso_in_complete`, by whether one waits then
load-watched : (e : ℕ) (s : Bk) (u : Bool) → some ((passed e s).0.ins e).waiting ≡ u
    → let next : Script true Unit = bind (look (next_len_lem In e)) (λ n. write EpTLen e n) in Watched s
    (bind_out (cond u (asks (Transmit e 0) (hand_b (send e) (passed e s)).1 (λ _ t. run book_ops next t))
    (asks (Write EpTLen e 0) (passed e s) (λ _ t. ends tt t))) (λ _ t. run book_ops (wake {i = true} In e) t))
load-watched e s true one = ask tt
    (record { arrives = λ e x a r. no-receive refl a; leaves = λ e g. refl; loads = sends e (passed e s) one; passing = packet-load e s })
    (λ v t _. ask tt (unmoved refl (λ e. refl)) (λ v t _. end tt (woken (wake_code In e ∷ []) t)))
load-watched e s false none = ask tt
    (record { arrives = λ e x a r. no-receive refl a; leaves = λ e g. refl; loads = λ e k. absurd (true≢false (sym k)); passing = empty-load e s none })
    (λ v t _. end tt (woken (wake_code In e ∷ []) t))

pub watch : {A : Type 0} {p : Script true A} → Parts A p → (s : Bk) → Watched s (run book_ops p s)
watch p_ret s = end tt (record { rest = idle; ins = λ e. refl })
watch (p_bind h g) s = tracks_bind Any NoPageMoved Moves still-then moves-then (watch h s) (λ a t _. watch (g a) t)
watch (p_test {b = true} h g) s = watch h s
watch (p_test {b = false} h g) s = watch g s
watch (p_read h) s = ask tt (unmoved refl (λ e. refl)) (λ v t _. watch (h v) t)
watch (p_write l h) s = ask tt (unmoved refl (λ e. refl)) (λ v t _. watch h t)
watch (p_wait h) s = ask tt (unmoved refl (λ e. refl)) (λ v t _. watch h t)
watch (p_callback h) s = ask tt (unmoved refl (λ e. refl)) (λ v t _. watch h t)
watch (p_get h) s = watch (h _) s
watch (p_put {c = c} {v = v} e h) s = after (record { rest = puts c v s; ins = (put_same c v s).ins }) (watch h _)
watch (p_is h) s = watch (h _) s
watch (p_look h) s = watch (h _) s
watch (p_fetch h) s = watch (h _) s
watch (p_load {e = e}) s = load-watched e s (some ((passed e s).0.ins e).waiting) refl
watch (p_no_wakes h) s = after (record { rest = record { outs = λ e. refl; sets = refl; bytes = refl }; ins = λ e. refl }) (watch h _)
watch (p_waken {codes = codes} h) s = after (woken codes s) (watch h _)
watch (p_arrive {e = e} {n = n} h) s = ask tt
    (record { arrives = arrives e n s; leaves = leaves e n s; loads = λ e k. absurd (true≢false (sym k)); passing = arrive-still e n s })
    (λ v t _. watch h t)
