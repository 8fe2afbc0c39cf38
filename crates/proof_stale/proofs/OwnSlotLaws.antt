-- Whose slot is armed, and what follows where the chip stored nothing in it (Stale.antt), over every list of calls of
-- the code
use Rattle.std.specs.Prelude.{Bool, true, false, cond, List, [], ◌∷◌, ◌⊎◌, ◌≢◌, ◌≡◌, refl, ℕ, ◌+◌, ◌*◌, ◌%◌, ◌≤◌, ◌<◌, eqb, get_or, drop}
use Rattle.std.proofs.Common.{true≢false, inl, inr, ⊎_elim, ap, subst, sym, ◌∙◌, arith, eq-eqb, get_or-drop}
use Rattle.std.proofs.Math.Decide.{ℕ_discrete}
use Rattle.bits.specs.Bit.{bit_is_set}
use Rattle.regs.specs.declared.Dir.TheVariants.{Out}
use Rattle.state.specs.declared.Allocator.{Allocator}
use Rattle.state.specs.declared.Globals.{Globals}
use Rattle.state.specs.Driver.{Driver, ep_on}
use Rattle.state.specs.State.{view}
use Rattle.ring.specs.Slot.{slot_of}
use Rattle.ring.specs.Slots.{slot-lies}
use Rattle.ring.specs.Marks.{is_marked, short, is_mark, mark, mark_byte}
use Rattle.ring.specs.Words.{all-agree}
use Rattle.script.specs.Simulates.{Phase, quiet, mid, Fits}
use Rattle.script.specs.Statics.{iso_outs}
use Rattle.script.specs.Answers.{Answer}
use Rattle.script.specs.Calls.{Config, Op, calls}
use Rattle.script.specs.Machine.{Buf, Event, Pending, idle, busy, Machine, Ans}
use Rattle.script.specs.Agree.{After, Ways, both_idle, both_busy, agrees, from_start}
use Rattle.machine.specs.Suspended.{driver_of, drive, machine_of}
use Rattle.proof_book.specs.Pages.{Pages}
use Rattle.proof_book.specs.Book.{receiving, book}
use Rattle.proof_book.specs.Coupling.{Coupling}
use Rattle.proof_book.specs.LensLaws.{key-other}
use Rattle.proof_book.specs.HeldLaws.{receives-slots, receives-used}
use Rattle.proof_book.proofs.StartUpLaws.{fresh_kept}
use Rattle.proof_book.proofs.AgreesLaws.{agree}
use Rattle.proof_book.specs.FrontPage.{CallRecord, book_step, slot_size, in_interrupt}
use Rattle.proof_book.specs.FrontPage as page
use Rattle.proof_book.proofs.SlotsKeptLaws.{lent_is}
use Rattle.proof_stale.specs.Stale.{Gap, StoredIn, arms_now, under_way, up_to, Marked, Own, OwnEach}
use Rattle.proof_stale.specs.Stale.{OwnSlots}
use Rattle.proof_stale.specs.Stale.{NoneStaleEach, NoArrivalEach, NothingArrives}
use Rattle.proof_stale.proofs.NothingStaleLaws.{nothing-stale}

-- ---- nothing stored: no arrival

-- four bytes of the mark are the mark
pub all-marked : (b : Buf) (x : ℕ) → ((k : ℕ) → k < 4 → get_or b (x + k) 0 ≡ mark_byte k) → is_marked b x ≡ true
unfolding is_marked
all-marked b x bytes = by (short b x 4)
  where
    mark-at : (k : ℕ) → k < 4 → get_or (drop x b) (0 * 4 + k) 0 ≡ mark_byte k
    mark-at k l =
        let z : 0 * 4 + k ≡ k = omega arith in
        ap (λ (j : ℕ). get_or (drop x b) j 0) z ∙ get_or-drop x b k 0 ∙ bytes k l

    mod-4 : (k : ℕ) → k < 4 → mark_byte k ≡ get_or mark k 0
    mod-4 k l = ap (λ (j : ℕ). get_or mark j 0) (let z : k % 4 ≡ k = omega arith in z)

    by : (u : Bool) → cond u true (is_mark (drop x b) 0) ≡ true
    by true = refl
    by false = all-agree (drop x b) 0 (λ k l. eq-eqb _ _ (mark-at k l ∙ mod-4 k l))

pub no-arrival : (e : ℕ) (b b' : Buf) (t : Pages) (h : List Gap) → Marked e b t h → receiving t e ≡ true
    → ((k v : ℕ) → k < 4 → StoredIn (record { left = b; lent = b' } ∷ h) ((t.outs e).slot + k) v → ⊥)
    → is_marked b' (t.outs e).slot ≡ true
no-arrival e b b' t h m on none = all-marked b' x (λ k l. same k l
    ∙ ⊎_elim (λ q. q) (λ q. absurd (none k (get_or b (x + k) 0) l (inr q))) (m on k (inl l)))
  where
    x : ℕ
    x = (t.outs e).slot

    same : (k : ℕ) → k < 4 → get_or b' (x + k) 0 ≡ get_or b (x + k) 0
    same k l = elim (ℕ_discrete (get_or b' (x + k) 0) (get_or b (x + k) 0)) [
      | yes z ↦ z
      | no z ↦ absurd (none k (get_or b' (x + k) 0) l (inl (refl, λ q. z (sym q))))
    ]

-- over every list of calls
pub none-arrives : (e : ℕ) (ms : List CallRecord) (r : Bool) (a : Buf) (n : Machine Answer Pages) (h : List Gap)
    → NoneStaleEach e r a n h ms → NoArrivalEach e r a n h ms
none-arrives e [] r a n h s = tt
none-arrives e (m ∷ ms) r a n h s =
    let n' = (page.book_after m n).1 in
    let h' = cond (arms_now e n r m.event.call m.answer) [] (up_to m a h) in
    let r' = under_way e n m.event.call m.answer r in
    (λ b' on none. no-arrival e m.slots b' n'.st h' s.1 on none, none-arrives e ms r' m.slots n' h' s.3)

pub nothing-arrives : NothingArrives
nothing-arrives c b row xs a n first is ms p e =
    none-arrives e ms false first.slots (page.book_after first n).1 [] (nothing-stale c b row xs a n first is ms p e)

-- ---- its own slot

quiet_by : {φ : Phase} {w : Pending Answer Driver} {v : Pending Answer Pages} → Ways driver_of book agree calls φ w v
    → (v ≡ idle) ⊎ (in_interrupt v ≡ true) → φ ≡ quiet
quiet_by both_idle q = refl
quiet_by (both_busy true a {φ = φ} f k) q = by φ f
  where
    by : (ψ : Phase) → Fits true ψ → ψ ≡ quiet
    by quiet f = refl
    by (mid g n) f = absurd f
quiet_by (both_busy false a {φ = φ} f k) q = ⊎_elim (λ p. absurd (true≢false (ap is_idle (sym p))))
    (λ p. absurd (true≢false (sym p))) q
  where
    is_idle : Pending Answer Pages → Bool
    is_idle idle = true
    is_idle (busy i a k) = false

own : {φ : Phase} {b : Buf} {d : Driver} {t : Pages} → φ ≡ quiet → Coupling φ b d t → (e : ℕ) → receiving t e ≡ true
    → Own d t e
unfolding slot_of
own {b = b} {d = d} {t = t} q R₀ e on = record { slot = its; apart = λ f l n. parted f l n }
  where
    R : Coupling quiet b d t
    R = subst (λ (φ : Phase). Coupling φ b d t) q R₀

    receives-now : (f : ℕ) → receiving t f ≡ true → bit_is_set (iso_outs d.globals) (f % 16) ≡ true
    receives-now f l = ap (λ (g : Globals). bit_is_set (iso_outs g) (f % 16)) R.same.globals ∙ l

    stride : (f : ℕ) → receiving t f ≡ true → (ep_on d Out f).stride ≡ slot_size t
    stride f l = (receives-used R f (receives-now f l)).stride ∙ ap (λ (a : Allocator). a.size) R.same.allocator

    its : (t.outs e).slot ≡ (ep_on d Out e).base + (ep_on d Out e).head % 16 * slot_size t
    its =
        let r = ep_on d Out e in
        let s : r.slots ≡ 16 = receives-slots R e (receives-now e on) in
        (R.arming e).armed (receives-now e on) ∙ slot-lies (R.outs e).held.placed r.head
        ∙ ap (λ (n : ℕ). r.base + cond (eqb n 0) 0 (r.head % n) * r.stride) s
        ∙ ap (λ (n : ℕ). r.base + r.head % 16 * n) (stride e on)

    parted : (f : ℕ) → receiving t f ≡ true → e % 16 ≢ f % 16
        → ((t.outs e).slot + slot_size t ≤ (t.outs f).slot) ⊎ ((t.outs f).slot + slot_size t ≤ (t.outs e).slot)
    parted f l n =
        ⊎_elim (λ z. inl (omega (arith, z, stride e on, (R.outs e).upto, (R.outs f).from)))
        (λ z. inr (omega (arith, z, stride f l, (R.outs f).upto, (R.outs e).from)))
        (R.apart Out Out e f (key-other Out e f n))

each : (ms : List CallRecord) (xs : List ℕ) (a : Buf) {φ : Phase} (n : Machine Answer Pages)
    → Ways driver_of book agree calls φ (machine_of xs a).under_way_lem n.under_way_lem → Coupling φ a (view xs) n.st
    → page.Calls xs a n ms → OwnEach n ms
each [] xs a n w R p = tt
each (m ∷ ms) xs a n w R p =
    let c = m.event.call in
    let b = m.event.lent in
    let k : After driver_of book agree calls (m.answer, machine_of m.bytes m.slots) (page.book_after m n)
    = subst (λ (x : Ans Answer × Machine Answer Driver). After driver_of book agree calls x (book_step x.0 c n b))
    (sym p.0)
    (agrees driver_of book agree calls fresh_kept c b (machine_of xs a) n w R
    (lent_is (machine_of xs a) n R b c p.1)) in (
      λ q e on. own (quiet_by k.ways q) k.rest e on,
      each ms m.bytes m.slots (page.book_after m n).1 k.ways k.rest p.2,
    )

pub own-slots : OwnSlots
own-slots c b row xs a n first is ms p = each ms first.bytes first.slots (page.book_after first n).1 begun.ways
    begun.rest p.2
  where
    begun : After driver_of book agree calls (first.answer, machine_of first.bytes first.slots)
        (page.book_after first n)
    begun = subst (λ (x : Ans Answer × Machine Answer Driver). After driver_of book agree calls x
        (book_step x.0 first.event.call n first.event.lent))
        (sym p.0) (subst (λ (v : Event Config Op). let x = drive v.call (machine_of xs a) v.lent in
        After driver_of book agree calls x (book_step x.0 v.call n v.lent)) (sym is)
        (rw row (from_start driver_of book agree calls fresh_kept c b row [] (machine_of xs a) n tt).0))
