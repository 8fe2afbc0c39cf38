-- What each call makes of the packet that is being sent on an isochronous IN: it is being sent still, from the same
-- slot, or the tail has passed it, or its endpoint was reset or given by an allocation, or a start-up was accepted
use Rattle.std.specs.Prelude.{Bool, true, false, List, [], ◌∷◌, ◌++◌, ◌⊎◌, ◌≡◌, refl, ℕ, zero, suc, ◌+◌, ◌-◌, ◌*◌, ◌%◌, ◌^◌, ◌<◌, eqb}
use Rattle.std.proofs.Math.Bool.{cond}
use Rattle.std.proofs.Common.{inl, inr, subst, sym, ◌∙◌, arith}
use Rattle.std.proofs.Math.Path.{ap}
use Rattle.std.proofs.Math.ListN.{length}
use Rattle.regs.specs.declared.Access.TheVariants.{Transmit}
use Rattle.regs.specs.declared.Dir.TheVariants.{Out, In}
use Rattle.state.specs.declared.EpState.{EpState}
use Rattle.state.specs.Driver.{Driver, ep_on}
use Rattle.alloc.specs.Alloc.{slots_of}
use Rattle.ring.specs.Slot.{slot_of, slot_addr, count_of}
use Rattle.script.specs.Tree as tree
use Rattle.script.specs.Tree.{ends, asks}
use Rattle.script.specs.Cells.{EpCore}
use Rattle.script.specs.Script.{run}
use Rattle.script.specs.Simulates as phases
use Rattle.script.specs.Answers.{Answer}
use Rattle.script.specs.Calls.{Config, Op, interrupt, slotted, other, aside, calls, starting, start_row}
use Rattle.script.specs.Machine.{Buf, Call, start, begin, continue, question, Ans, handed, blank_a, Pending, idle}
use Rattle.script.specs.Machine.{busy, Machine, over, misfit, stay, lent_to, during_interrupt, halt, begun, continued}
use Rattle.script.specs.Machine.{started}
use Rattle.script.specs.Machine.{fed}
use Rattle.proof_book.specs.Pages.{InPage, Kept, Pages, with_in}
use Rattle.proof_book.specs.Book.{Bk, front, source_told, fresh_pages, book_ops}
use Rattle.proof_book.specs.Book.{book}
use Rattle.proof_book.specs.FrameLaws.{at-elim, in-same, sending-count}
use Rattle.proof_book.specs.HeldLaws.{held-length}
use Rattle.proof_book.specs.Coupling.{Coupling}
use Rattle.proof_book.specs.FrontPage.{book_step, EmptiedIn, slot_size, BeingSent, Sends, still, passed_by, emptied}
use Rattle.proof_book.specs.BookTracksLaws.{end, ask}
use Rattle.proof_book.specs.InterruptPartsLaws.{of_interrupt}
use Rattle.proof_book.specs.ReleasesLaws.{may_queue, of-slotted, of_other, of-aside, of-starting}
use Rattle.proof_book.specs.SendingPagesLaws.{Orderly, SameButLoad, alike-empty, Going, keeps, empties}
use Rattle.proof_book.specs.SendingPagesLaws.{Follows, orderly-with, never, none_left}
use Rattle.proof_book.specs.SendingPagesLaws as pages-of
use Rattle.proof_book.proofs.SendingStepsLaws.{spot, Goes, Within, Asked, Followed, follow, follow-parts}
use Rattle.proof_book.specs.AnswersLaws.{is_handed, handed-same, fed-elim, fed-kept}
use Rattle.proof_book.proofs.SlotsKeptLaws.{sent-used, sent-size}

-- ---- in the book alone

pub data Fate (e : ℕ) (t t' : Pages) : Type 0 where
  goes : Goes e t t' → Fate e t t'
  passes : (t'.ins e).passed ≡ (t.ins e).passed ++ front (t.ins e).waiting → Fate e t t'
  anew : EmptiedIn (t'.ins e) → Fate e t t'

abbrev pub Fates : Pages → Pages → Type 0
Fates t t' = (e : ℕ) → (t.ins e).sending ≡ true → Fate e t t'

of-follows : {P : InPage → Type 0} {t t' : Pages} → Follows P t t' → Fates t t'
of-follows {P} {t} {t'} f e s = by (f.base e) ((f.pages e).going s)
  where
    by : ((t'.kept.plain In e).base ≡ (t.kept.plain In e).base) ⊎ EmptiedIn (t'.ins e)
        → Going P (t.ins e) (t'.ins e) → Fate e t t'
    by (inl b) (keeps k) = goes (record {
      sending = k.sending;
      shown = k.shown;
      place
          = rw (b, k.turn, k.waiting, f.size) refl;
      size = f.size;
    })
    by (inr x) (keeps k) = anew x
    by z (pages-of.passes p q) = passes p
    by z (empties x) = anew x

of-within : (u : Bool) {t t' : Pages} → Within u t t' → Fates t t'
of-within true h e s = goes (h e s)
of-within false h e s = of-follows h e s

of-asked : (u : Bool) {t t' : Pages} → Asked u t t' → Fates t t'
of-asked true h e s = goes (h e s)
of-asked false h e s = of-follows h e s

stays_put : {t : Pages} → Fates t t
stays_put e s = goes (record { sending = s; shown = refl; place = refl; size = refl })

-- the access told changes a source alone
pub fed-alike : (a : Ans Answer) (t : Pages) → Orderly t → (e : ℕ) → SameButLoad (t.ins e) ((fed book a t).ins e)
fed-alike a t i e = fed-elim (λ u. SameButLoad (t.ins e) (u.ins e)) a t refl
    (λ f x _. refl)
    (λ f x _. at-elim (λ (p : InPage). SameButLoad (t.ins e) p) f e (source_told (t.ins f) x) t.ins
    (λ m. subst (λ (p : InPage). SameButLoad p (source_told (t.ins f) x)) (i.periodic f e (sym m)) refl) (λ _. refl))

fed-orderly : (a : Ans Answer) (t : Pages) → Orderly t → Orderly (fed book a t)
fed-orderly a t i = fed-elim Orderly a t i
    (λ f x _. record { periodic = i.periodic; bases = i.bases; loads = i.loads })
    (λ f x _. orderly-with t f (source_told (t.ins f) x) (i.loads f) i)

fate-alike : {e : ℕ} {s t u : Pages} → SameButLoad (t.ins e) (u.ins e) → u.kept ≡ t.kept → Fate e s t → Fate e s u
fate-alike {e} {t = t} {u = u} h k (goes g) =
    let n : (u.ins e).turn ≡ (t.ins e).turn = ap (λ (q : InPage). q.turn) h in
    let w : (u.ins e).waiting ≡ (t.ins e).waiting = ap (λ (q : InPage). q.waiting) h in
    goes (record {
      sending = ap (λ (q : InPage). q.sending) h ∙ g.sending;
      shown = ap (λ (q : InPage). q.shown) h ∙ g.shown;
      place = rw (k, n, w) g.place;
      size = ap (λ (k : Kept). k.allocator.size) k ∙ g.size;
    })
fate-alike h k (passes a) = passes (ap (λ (q : InPage). q.passed) h ∙ a)
fate-alike {e} {t = t} {u = u} h k (anew a) = anew (alike-empty {p = t.ins e} {p' = u.ins e} h a)

-- ---- a call

abbrev pub WayFollowed : Pending Answer Pages → Type 0
WayFollowed idle = Unit {0}
WayFollowed (busy i q k) = (u : Bool) × ((v : ℕ) (s : Bk) → Orderly s.0 → Followed u s (k v s))

pub record Sending (n : Machine Answer Pages) : Type 0 where
  pub pages : Orderly n.st
  pub under_way_lem : WayFollowed n.under_way_lem

-- from pages t, where the book is told the driver's answer a
pub record SendingAfter (a : Ans Answer) (t : Pages) (y : Ans Answer × Machine Answer Pages) : Type 0 where
  pub machine : Sending y.1
  pub fates : Fates t y.1.st
  pub source : (e x : ℕ) → a ≡ handed (Transmit e x) → is_handed y.0 ≡ true → (y.1.st.ins e).load ≡ true
      → (y.1.st.ins e).source ≡ x

module _ (a : Ans Answer) where
  abbrev halts : Bool → tree.Out Bk Answer → Ans Answer × Machine Answer Pages
  halts i o = halt calls book.driver (fed book a) i o

  source_told_lem : (t : Pages) (e x : ℕ) → a ≡ handed (Transmit e x) → ((fed book a t).ins e).load ≡ true
      → ((fed book a t).ins e).source ≡ x
  source_told_lem t e x h = subst (λ (a : Ans Answer). ((fed book a t).ins e).load ≡ true → ((fed book a t).ins e).source ≡ x)
      (sym h) at_once
    where
      page : (with_in t e (source_told (t.ins e) x)).ins e ≡ source_told (t.ins e) x
      page = in-same t e (source_told (t.ins e) x)

      at_once : ((with_in t e (source_told (t.ins e) x)).ins e).load ≡ true
          → ((with_in t e (source_told (t.ins e) x)).ins e).source ≡ x
      at_once l = ap (λ (p : InPage). p.source) page ∙ ap (λ (u : Bool). cond u x (t.ins e).source)
          (sym (ap (λ (p : InPage). p.load) page) ∙ l)

  halted : (u i : Bool) (s : Bk) (o : tree.Out Bk Answer) → Followed u s o → SendingAfter a s.0 (halts i o)
  halted u i s (ends z t) (end j q) = record {
    machine = record { pages = j; under_way_lem = tt };
    fates
        = of-within u q;
    source = λ e x h k. never k;
  }
  halted u i s (asks q t k) (ask j m g) = record {
    machine = record { pages = fed-orderly a t.0 j; under_way_lem = (u, g) };
    fates = λ e h. fate-alike (fed-alike a t.0 j e) (fed-kept a t.0) (of-asked u m e h);
    source = λ e x h _ l. source_told_lem t.0 e x h l;
  }

  halted-empty : (i : Bool) (s : Bk) (o : tree.Out Bk Answer) → Followed false s o → (e : ℕ) → EmptiedIn (s.0.ins e)
      → EmptiedIn ((halts i o).1.st.ins e)
  halted-empty i s (ends z t) (end j q) e x = (q.pages e).empty x
  halted-empty i s (asks q t k) (ask j m g) e x = alike-empty {p = t.0.ins e} {p' = (fed book a t.0).ins e}
      (fed-alike a t.0 j e) ((m.pages e).empty x)

  stays : (k : ℕ) (m : Machine Answer Pages) → Sending m → SendingAfter a m.st (stay calls book.driver k m)
  stays k m h = record { machine = h; fates = stays_put; source = λ e x _ k. never k }

  lent-sending : {n : Machine Answer Pages} (b : Buf) → Sending n → Sending (lent_to calls book.driver n b)
  lent-sending b h = record { pages = h.pages; under_way_lem = h.under_way_lem }

  either : {t : Pages} (u : Bool) (x y : Ans Answer × Machine Answer Pages) → SendingAfter a t x → SendingAfter a t y
      → SendingAfter a t (cond u x y)
  either true x y h k = h
  either false x y h k = k

  besides : (u : Bool) (n : Machine Answer Pages) → Sending n → (s : Bk) → s.0 ≡ n.st → (o : tree.Out Bk Answer)
      → Followed u s o
      → SendingAfter a n.st (during_interrupt calls book.driver n o)
  besides u n h s p (ends z t) (end j q) = record {
    machine = record { pages = j; under_way_lem = h.under_way_lem };
    fates = subst (λ (r : Pages). Fates r t.0) p (of-within u q);
    source = λ e x _ k. never k;
  }
  besides u n h s p (asks q t k) (ask j m g) = stays 3 n h

  -- the script of a call
  abbrev queuing : Op → Bool
  queuing interrupt = false
  queuing (slotted o) = may_queue o
  queuing (other o) = false
  queuing (aside o) = true

  followed : (o : Op) (s : Bk) → Orderly s.0 → Followed (queuing o) s (run book_ops (calls.code o) s)
  followed interrupt s i = follow-parts of_interrupt s i
  followed (slotted o) s i = follow (may_queue o) (of-slotted o) s i
  followed (other o) s i = follow false (of_other o) s i
  followed (aside o) s i = follow true (of-aside o) s i

  module _ (n : Machine Answer Pages) (h : Sending n) (b : Buf) where
    kept_out : (k : ℕ) → SendingAfter a n.st (stay calls book.driver k (lent_to calls book.driver n b))
    kept_out k = stays k (lent_to calls book.driver n b) (lent-sending b h)

    begins : (o : Op) (w : Pending Answer Pages) → SendingAfter a n.st
        (begun calls book.driver (fed book a) o n w b)
    begins o idle = halted (queuing o) (calls.irq o) (n.st, b) _ (followed o (n.st, b) h.pages)
    begins o (busy i q k) = either (cond i (calls.aside o) false) _ _
        (besides (queuing o) (lent_to calls book.driver n b) (lent-sending b h) (n.st, b) refl _
        (followed o (n.st, b) h.pages)) (kept_out 3)

    continues : (v : ℕ) (w : Pending Answer Pages) → WayFollowed w
        → SendingAfter a n.st (continued calls book.driver (fed book a) v n w b)
    continues v idle g = kept_out 15
    continues v (busy i q k) g = either (over calls q v) _ _ (kept_out 16)
        (halted g.0 i (n.st, b) (k v (n.st, b)) (g.1 v (n.st, b) h.pages))

  -- ---- an accepted start-up

  module _ (c : Config) (n : Machine Answer Pages) (b : Buf) where
    fresh-followed : Followed false (fresh_pages c, b) (run book_ops (starting c) (fresh_pages c, b))
    fresh-followed = follow false (of-starting c) (fresh_pages c, b)
        (record { periodic = λ x y m. refl; bases = λ x y m. refl; loads = λ e h. h })

    pub start-emptied : (e : ℕ) → EmptiedIn ((started calls book.driver (fed book a) c zero n b).1.st.ins e)
    start-emptied e = halted-empty false (fresh_pages c, b) _ fresh-followed e none_left

    pub start-after : SendingAfter a n.st (started calls book.driver (fed book a) c zero n b)
    start-after =
        let z = halted false false (fresh_pages c, b) _ fresh-followed in
        record { machine = z.machine; fates = λ e _. anew (start-emptied e); source = z.source }

    starts : (r : ℕ) → Sending n → SendingAfter a n.st (started calls book.driver (fed book a) c r n b)
    starts zero h = start-after
    starts (suc r) h = stays (suc r) n h

  pub after_call : (c : Call Config Op) (n : Machine Answer Pages) → Sending n → (b : Buf)
      → SendingAfter a n.st (book_step a c n b)
  after_call (start c) n h b = starts c n b (start_row c b) h
  after_call (begin o) n h b = either (cond (calls.slots o) (misfit calls book.driver n.st b) false) _ _
      (stays 1 n h) (begins n h b o n.under_way_lem)
  after_call (continue v) n h b = either (misfit calls book.driver n.st b) _ _ (stays 1 n h)
      (continues n h b v n.under_way_lem h.under_way_lem)
  after_call (question q) n h b = record { machine = lent-sending b h; fates = stays_put; source = λ e x _ k. never k }

-- an address that is a load's: the slot being sent lies there
pub told-source : {a : Ans Answer} {t : Pages} {y : Ans Answer × Machine Answer Pages} → SendingAfter a t y → blank_a a
    ≡ blank_a y.0
    → (e x : ℕ) → a ≡ handed (Transmit e x) → (y.1.st.ins e).load ≡ true → BeingSent y.1.st e
    × ((y.1.st.ins e).source ≡ x)
told-source {a = a} {y = y} z s e x h l =
    let g : is_handed y.0 ≡ true = handed-same y.0 a (sym s) ∙ ap is_handed h in
    (z.machine.pages.loads e l, z.source e x h g l)

-- ---- with the driver

parity : (head tail turn count : ℕ) → tail < 256 → head % 2 ≡ turn → (head + 256 - tail) % 256 ≡ count → tail % 2
    ≡ (turn + count) % 2
parity head tail turn count t h c = omega (arith, t, h, c)

module _ {φ : phases.Phase} {b : Buf} {d : Driver} {t : Pages} (R : Coupling φ b d t) (e : ℕ) (s : BeingSent t e) where
  abbrev r : EpState
  r = ep_on d In e

  -- two slots in turn
  tail-slot : slot_of r r.tail ≡ ((t.ins e).turn + length (t.ins e).waiting) % 2
  unfolding slot_of slots_of count_of
  tail-slot =
      let u = sent-used R e s in
      let f = R.ins e in
      ap (λ (n : ℕ). cond (eqb n 0) 0 (r.tail % n)) (u.1.slots ∙ ap (λ (v : Bool). slots_of v In) u.0)
      ∙ parity r.head r.tail (t.ins e).turn (length (t.ins e).waiting) f.held.ring.tail8 f.turn
      (held-length f.held)

  source-spot : (t.ins e).source ≡ spot t e % 2 ^ 32
  unfolding slot_addr
  source-spot =
      (R.ins e).stands.slot s
      ∙ ap (λ (n : ℕ). (r.base + n * r.stride) % 2 ^ 32) tail-slot
      ∙ ap (λ (n : ℕ). (r.base + (((t.ins e).turn + length (t.ins e).waiting) % 2) * n) % 2 ^ 32) (sent-size R e s)
      ∙ ap (λ (p : EpCore). (p.base + (((t.ins e).turn + length (t.ins e).waiting) % 2) * slot_size t) % 2 ^ 32)
      (R.same.plain In e)

  one-waits : (w : List (List ℕ)) → (t.ins e).waiting ≡ w → (bytes : List ℕ) × (front w ≡ bytes ∷ [])
  one-waits [] h = absurd (omega (
    arith,
    sending-count (R.ins e) s,
    held-length (R.ins e).held,
    ap
        (λ (w : List (List ℕ)). length w) h,
  ))
  one-waits (p ∷ w) h = (p, refl)

pub sends-of : {φ ψ : phases.Phase} {b c : Buf} {d d' : Driver} {t t' : Pages} → Coupling φ b d t → Coupling ψ c d' t'
    → (e : ℕ) → BeingSent t e → Fate e t t' → Sends e t t'
sends-of R R' e s (goes g) =
    let same-slot = source-spot R' e g.sending ∙ ap (λ (n : ℕ). n % 2 ^ 32) g.place ∙ sym (source-spot R e s) in
    still g.sending same-slot g.shown g.size
sends-of {t = t} R R' e s (passes p) =
    let z = one-waits R e s (t.ins e).waiting refl in
    passed_by z.0 (p ∙ ap (λ (w : List (List ℕ)). (t.ins e).passed ++ w) z.1)
sends-of R R' e s (anew x) = emptied x
