-- The interrupt's script: every packet that arrives has the length that the interrupt's readings tell, else the one by
-- the marks
use Rattle.std.proofs.Math.Bool.{Bool, true, false, not, cond, and-true, and-false}
use Rattle.std.specs.Prelude.{◌&&◌, ◌||◌, ◌⊎◌, ◌≡◌, ℕ}
use Rattle.std.proofs.Common.{true≢false, sym, ◌∙◌}
use mathlib.Core.List.{List, [], ◌∷◌, ◌++◌}
use Rattle.std.proofs.Math.Logic.{inl, inr}
use Rattle.std.proofs.Math.Path.{refl, ap, ap₂}
use Rattle.std.proofs.Math.Dec.{eqb}
use borrow.Author.Tests.{eqb-true, not-true}
use Rattle.bits.specs.Walk.{set_bits}
use Rattle.regs.specs.declared.Access.TheVariants.{Read}
use Rattle.regs.specs.declared.Reg.{Reg}
use Rattle.regs.specs.declared.Reg.TheVariants.{IntFg, IntSt, MisSt, RxLen, FrameNo}
use Rattle.regs.specs.declared.Dir.TheVariants.{Out, In}
use Rattle.regs.specs.declared.Token.{Token}
use Rattle.regs.specs.declared.Token.TheVariants as tok
use Rattle.regs.specs.Status.{endpoint, token, is_out, is_in, is_sof, tog_ok, out_token}
use Rattle.regs.specs.MisStatus.{sie_free}
use Rattle.regs.specs.Flags.{bus_rst, transfer, suspend, hst_sof, fifo_ov, setup_act, HST_SOF, FIFO_OV}
use Rattle.regs.specs.IntEn.{with_bus_rst, with_suspend}
use Rattle.ring.specs.Marks.{marked_len}
use Rattle.script.specs.declared.Transfer.{Transfer}
use Rattle.script.specs.Tree as tree
use Rattle.script.specs.Cells.{EpCore, ep-cell}
use Rattle.script.specs.Every.{same_reg}
use Rattle.script.specs.Script.{run, write, when, changed, marked, no_wakes}
use Rattle.script.specs.Calls.{interrupt_code}
use Rattle.script.specs.Statics.{is_on, iso_outs, every_iso_in}
use Rattle.script.specs.IsoOut.{arriving, entry, arrives, check_one, check_walk}
use Rattle.script.specs.Handler.{entered, same_out, late_taken, waited, retaken, released, waits_for_iso, waits_for_bulk}
use Rattle.script.specs.Handler.{settle, iso_for, own_in, framed, served, on_transfer, on_interrupt}
use Rattle.proof_book.specs.Book.{Bk, get_b, book_ops}
use Rattle.proof_book.specs.Lengths.{Readings, nothing_read, one_more, bringing, first, second, its_own, length_of}
use Rattle.proof_book.specs.BookDecidesLaws.{idle}
use Rattle.proof_book.specs.QuietPartsLaws.{plainly, not_again, freely, of-looks, of-nak, nak-freely, of-sof}
use Rattle.proof_book.specs.QuietPartsLaws.{of-late-walk, of-dispatch, of-ep0-moved, of-on-setup, of-microframe}
use Rattle.proof_book.specs.QuietPartsLaws.{of-masked}
use Rattle.proof_book.specs.LengthScriptsLaws.{Evens, Fixed, Told, t_end, t_ask, told-from, told-bind, told-cond}
use Rattle.proof_book.specs.LengthScriptsLaws.{no-arrival, measures, arrive-fixed}
use Rattle.proof_book.specs.LengthScriptsLaws.{quiet_run}
use Rattle.proof_book.specs.HeldLaws.{left, right}

not_false : (a : Bool) → not a ≡ false → a ≡ true
not_false true h = refl
not_false false h = sym h

-- of a, where b holds and not both
other-false : (a b : Bool) → a ≡ true → (a && b) ≡ false → b ≡ false
other-false true b h k = k
other-false false b h k = absurd (true≢false (sym h))

-- ---- readings

head-stays : (u : Bool) (v m : ℕ) (l es : List ℕ) → l ≡ m ∷ es → one_more u v l ≡ m ∷ one_more u v es
head-stays true v m l es h = ap (λ (l : List ℕ). l ++ (v ∷ [])) h
head-stays false v m l es h = h

heads-stay : (u : Bool) (v m n : ℕ) (l es : List ℕ) → l ≡ m ∷ (n ∷ es) → one_more u v l ≡ m ∷ (n ∷ one_more u v es)
heads-stay true v m n l es h = ap (λ (l : List ℕ). l ++ (v ∷ [])) h
heads-stay false v m n l es h = h

more-not : (u : Bool) (v : ℕ) (l : List ℕ) → u ≡ false → one_more u v l ≡ l
more-not true v l h = absurd (true≢false h)
more-not false v l h = refl

neither : (a b : Bool) → not (a || b) ≡ true → (a ≡ false) × (b ≡ false)
neither true b h = absurd (true≢false (sym h))
neither false true h = absurd (true≢false (sym h))
neither false false h = (refl, refl)

-- before the transfer: none of the three was read
record Unread (h : Readings) : Type 0 where
  engine : h.engine ≡ []
  status : h.status ≡ []
  lengths : h.lengths ≡ []

unread-on : (r : Reg) (e v : ℕ) (h : Readings) → plainly r ≡ true → Unread h → Unread (bringing (Read r e) v h)
unread-on r e v h u b =
    let x = neither (same_reg r MisSt) (same_reg r IntSt || same_reg r RxLen) u in
    let y = neither (same_reg r IntSt) (same_reg r RxLen) (ap not x.1) in
    record {
      engine = more-not (same_reg r MisSt) v h.engine x.0 ∙ b.engine;
      status = more-not (same_reg r IntSt) v h.status y.0 ∙ b.status;
      lengths = more-not (same_reg r RxLen) v h.lengths y.1 ∙ b.lengths;
    }

-- as it is begun: the engine is read, the status and the length once
record Began (m st n : ℕ) (h : Readings) : Type 0 where
  later : List ℕ
  engine : h.engine ≡ m ∷ later
  status : h.status ≡ st ∷ []
  lengths : h.lengths ≡ n ∷ []

began-on : (m st n : ℕ) (r : Reg) (e v : ℕ) (h : Readings) → not_again r ≡ true → Began m st n h
    → Began m st n (bringing (Read r e) v h)
began-on m st n r e v h u b =
    let y = neither (same_reg r IntSt) (same_reg r RxLen) u in
    record {
      later = one_more (same_reg r MisSt) v b.later;
      engine = head-stays (same_reg r MisSt) v m h.engine b.later b.engine;
      status = more-not (same_reg r IntSt) v h.status y.0 ∙ b.status;
      lengths = more-not (same_reg r RxLen) v h.lengths y.1 ∙ b.lengths;
    }

-- what stays of that, whatever is read
record Heads (m st : ℕ) (h : Readings) : Type 0 where
  later : List ℕ
  others : List ℕ
  engine : h.engine ≡ m ∷ later
  status : h.status ≡ st ∷ others

heads-on : (m st : ℕ) (r : Reg) (e v : ℕ) (h : Readings) → freely r ≡ true → Heads m st h
    → Heads m st (bringing (Read r e) v h)
heads-on m st r e v h u b = record {
  later = one_more (same_reg r MisSt) v b.later;
  others = one_more (same_reg r IntSt) v b.others;
  engine = head-stays (same_reg r MisSt) v m h.engine b.later b.engine;
  status = head-stays (same_reg r IntSt) v st h.status b.others b.status;
}

heads-of : {m st n : ℕ} {h : Readings} → Began m st n h → Heads m st h
heads-of b = record { later = b.later; others = []; engine = b.engine; status = b.status }

abbrev Anything : Readings → Type 0
Anything h = Unit {0}

module _ {I : ℕ → Bool} {M : ℕ → ℕ} (even : Evens I M) where
  -- ---- the transfer x as it is settled, by what was read; I: the isochronous OUT endpoints

  -- it tells no length
  abbrev Lengthless : Transfer → Type 0
  Lengthless x = (x.len_ok ≡ false) ⊎ ((is_out x.st && I (endpoint x.st)) ≡ false)

  data Settled (h : Readings) : Transfer → Type 0 where
    was_free : (m st n : ℕ) (es ss ls : List ℕ) → h.engine ≡ m ∷ es → h.status ≡ st ∷ ss → h.lengths ≡ n ∷ ls
        → sie_free m ≡ true
        → Settled h (entered m st n)
    was_late : (m st n now len : ℕ) (es ss ls : List ℕ) → h.engine ≡ m ∷ es → h.status ≡ st ∷ (now ∷ ss) → h.lengths
        ≡ n ∷ (len ∷ ls)
        → sie_free m ≡ false → Settled h (late_taken (entered m st n) now len)
    was_other : (m st : ℕ) (x : Transfer) → Heads m st h → sie_free m ≡ false → (is_out st && I (endpoint st)) ≡ false
        → Lengthless x → Settled h x

  settled_on : (x : Transfer) (r : Reg) (e v : ℕ) (h : Readings) → freely r ≡ true → Settled h x
      → Settled (bringing (Read r e) v h) x
  settled_on _ r e v h u (was_free m st n es ss ls p q l f)
      = was_free m st n _ _ _ (head-stays (same_reg r MisSt) v m h.engine es p)
      (head-stays (same_reg r IntSt) v st h.status ss q) (head-stays (same_reg r RxLen) v n h.lengths ls l) f
  settled_on _ r e v h u (was_late m st n now len es ss ls p q l f)
      = was_late m st n now len _ _ _ (head-stays (same_reg r MisSt) v m h.engine es p)
      (heads-stay (same_reg r IntSt) v st now h.status ss q) (heads-stay (same_reg r RxLen) v n len h.lengths ls l)
      f
  settled_on _ r e v h u (was_other m st x b f o y) = was_other m st x (heads-on m st r e v h u b) f o y

  -- ---- what it tells

  -- an isochronous OUT's status is the transfer's own
  is_iso_lem : (st e : ℕ) (o n : EpCore) → is_on o.iso ≡ I (endpoint st) → arriving st e ≡ true → I e ≡ true
      → iso_for (token st) o n ≡ true
  unfolding arriving is_out iso_for
  is_iso_lem st e o n k a i = by (token st) (left (out_token (token st)) (eqb (endpoint st) e) a)
    where
      by : (t : Token) → out_token t ≡ true → iso_for t o n ≡ true
      by tok.Out h = k ∙ ap I (eqb-true (endpoint st) e (right (out_token (token st)) (eqb (endpoint st) e) a)) ∙ i
      by tok.Sof h = absurd (true≢false (sym h))
      by tok.In h = absurd (true≢false (sym h))
      by tok.Setup h = absurd (true≢false (sym h))

  not_arriving : (st e : ℕ) → I e ≡ true → (is_out st && I (endpoint st)) ≡ false → arriving st e ≡ false
  unfolding arriving
  not_arriving st e i h = by (is_out st) (eqb (endpoint st) e) refl h
    where
      by : (u w : Bool) → eqb (endpoint st) e ≡ w → (u && I (endpoint st)) ≡ false → (u && w) ≡ false
      by true true k h = absurd (true≢false (sym (ap I (eqb-true (endpoint st) e k) ∙ i) ∙ h))
      by true false k h = refl
      by false w k h = refl

  -- the interrupt's own length where it was its transfer's, which is isochronous then
  own_iso : (iso t a : Bool) → (a ≡ true → iso ≡ true) → (iso && (t && a)) ≡ (t && a)
  own_iso true t a h = refl
  own_iso false t true h = absurd (true≢false (sym (h refl)))
  own_iso false t false h = sym (and-false t)

  -- the length that arrives, by the transfer y: its own, else m
  abbrev Tells : Readings → Transfer → Bool → Type 0
  Tells h y iso = (e m : ℕ) → I e ≡ true → length_of h e m ≡ cond (entry y iso e) y.len m

  module _ (o n : EpCore) (sof frame : ℕ) where
    tells_free : (h : Readings) (m st len : ℕ) (es ss ls : List ℕ) → h.engine ≡ m ∷ es → h.status ≡ st ∷ ss
        → h.lengths ≡ len ∷ ls
        → sie_free m ≡ true → is_on o.iso ≡ I (endpoint st)
        → let iso = iso_for (token st) o n in Tells h (framed (entered m st len) iso sof frame) iso
    unfolding entry own_in
    tells_free h m st len es ss ls p q l f k e d i =
        let iso = iso_for (token st) o n in
        let own = tog_ok st && arriving st e in
        let whole : length_of h e d ≡ cond own len d =
        ap (λ (u : Bool). cond u (cond (its_own h e) (first h.lengths) d)
        (cond (its_own h e && (not (eqb (second h.lengths) 0) && arriving (second h.status) e))
        (second h.lengths) d))
        (ap (λ (l : List ℕ). sie_free (first l)) p ∙ f)
        ∙ ap₂ (λ (s l : List ℕ). cond (tog_ok (first s) && arriving (first s) e) (first l) d) q l in
        whole ∙ by (sie_free m) f iso (own_iso iso (tog_ok st) (arriving st e) (λ a. is_iso_lem st e o n k a i))
      where
        by : (u : Bool) → u ≡ true → (iso : Bool) → (iso && (tog_ok st && arriving st e)) ≡ (tog_ok st && arriving st e)
            → let x : Transfer = record { busy = not u; st = st; len = len; late = false; len_ok = true } in
            let y : Transfer = cond (x.busy && (iso && (is_in st && eqb sof frame))) (released x) x in
            cond (tog_ok st && arriving st e) len d ≡ cond
            (not y.busy && (y.len_ok && (iso && (tog_ok y.st && arriving y.st e)))) y.len d
        by true h iso k = ap (λ (u : Bool). cond u len d) (sym k)
        by false h iso k = absurd (true≢false (sym h))

    tells_late : (h : Readings) (m st n₀ now len : ℕ) (es ss ls : List ℕ) → h.engine ≡ m ∷ es → h.status ≡ st
        ∷ (now ∷ ss)
        → h.lengths ≡ n₀ ∷ (len ∷ ls) → sie_free m ≡ false → is_on o.iso ≡ I (endpoint st)
        → let iso = iso_for (token st) o n in Tells h (framed (late_taken (entered m st n₀) now len) iso sof frame) iso
    unfolding entry own_in same_out arriving
    tells_late h m st n₀ now len es ss ls p q l f k e d i =
        ap (λ (u : Bool). cond u (cond (its_own h e) (first h.lengths) d)
        (cond (its_own h e && (not (eqb (second h.lengths) 0) && arriving (second h.status) e))
        (second h.lengths) d))
        (ap (λ (l : List ℕ). sie_free (first l)) p ∙ f)
        ∙ ap₂ (λ (s l : List ℕ). cond ((tog_ok (first s) && arriving (first s) e)
        && (not (eqb (second l) 0) && arriving (second s) e)) (second l) d) q l
        ∙ ap (λ (u : Bool). cond u len d) (by (tog_ok st && arriving st e) refl)
      where
        same_out_lem : Bool
        same_out_lem = not (eqb len 0) && (is_out now && eqb (endpoint now) (endpoint st))

        by : (u : Bool) → (tog_ok st && arriving st e) ≡ u → (u && (not (eqb len 0) && arriving now e))
            ≡ (same_out_lem && (iso_for (token st) o n && u))
        by true own =
            let a = right (tog_ok st) (arriving st e) own in
            let same_number : endpoint st ≡ e = eqb-true (endpoint st) e (right (is_out st) (eqb (endpoint st) e) a) in
            ap (λ (f : ℕ). not (eqb len 0) && (is_out now && eqb (endpoint now) f)) (sym same_number)
            ∙ sym (and-true same_out_lem) ∙ ap (λ (u : Bool). same_out_lem && u)
            (sym (and-true (iso_for (token st) o n) ∙ is_iso_lem st e o n k a i))
        by false own = sym (ap (λ (u : Bool). same_out_lem && u) (and-false (iso_for (token st) o n)) ∙ and-false same_out_lem)

    no_entry : (b l j t a : Bool) → (l ≡ false) ⊎ (a ≡ false) → (b && (l && (j && (t && a)))) ≡ false
    no_entry false l j t a h = refl
    no_entry true false j t a h = refl
    no_entry true true false t a h = refl
    no_entry true true true false a h = refl
    no_entry true true true true a (inl h) = absurd (true≢false h)
    no_entry true true true true a (inr h) = h

    tells_other : (h : Readings) (m st : ℕ) (x : Transfer) → Heads m st h → sie_free m ≡ false
        → (is_out st && I (endpoint st)) ≡ false → Lengthless x
        → (iso : Bool) → Tells h (framed x iso sof frame) iso
    unfolding entry
    tells_other h m st x b f other less iso e d i =
        ap (λ (u : Bool). cond u (cond (its_own h e) (first h.lengths) d)
        (cond (its_own h e && (not (eqb (second h.lengths) 0) && arriving (second h.status) e))
        (second h.lengths) d))
        (ap (λ (l : List ℕ). sie_free (first l)) b.engine ∙ f)
        ∙ ap (λ (u : Bool). cond (u && (not (eqb (second h.lengths) 0) && arriving (second h.status) e))
        (second h.lengths) d)
        (ap (λ (l : List ℕ). tog_ok (first l) && arriving (first l) e) b.status ∙ ap (λ (u : Bool). tog_ok st && u)
        (not_arriving st e i other) ∙ and-false (tog_ok st))
        ∙ by (own_in x iso sof frame)
      where
        by : (u : Bool) → let y : Transfer = cond u (released x) x in
            d ≡ cond (not y.busy && (y.len_ok && (iso && (tog_ok y.st && arriving y.st e)))) y.len d
        by true = ap (λ (u : Bool). cond u x.len d)
            (sym (no_entry true x.len_ok iso (tog_ok x.st) (arriving x.st e) none))
          where
            none : (x.len_ok ≡ false) ⊎ (arriving x.st e ≡ false)
            none = elim less [
              | inl z ↦ inl z
              | inr z ↦ inr (not_arriving x.st e i z)
            ]
        by false = ap (λ (u : Bool). cond u x.len d)
            (sym (no_entry (not x.busy) x.len_ok iso (tog_ok x.st) (arriving x.st e) none))
          where
            none : (x.len_ok ≡ false) ⊎ (arriving x.st e ≡ false)
            none = elim less [
              | inl z ↦ inl z
              | inr z ↦ inr (not_arriving x.st e i z)
            ]

    tells : (x : Transfer) (h : Readings) → is_on o.iso ≡ I (endpoint x.st) → Settled h x
        → let iso = iso_for (token x.st) o n in Tells h (framed x iso sof frame) iso
    tells _ h k (was_free m st len es ss ls p q l f) = tells_free h m st len es ss ls p q l f k
    tells _ h k (was_late m st n₀ now len es ss ls p q l f) = tells_late h m st n₀ now len es ss ls p q l f k
    tells _ h k (was_other m st x b f other less) = tells_other h m st x b f other less (iso_for (token x.st) o n)

  -- ---- settled

  abbrev Goes : {A : Type 0} → (A → Readings → Type 0) → Readings → Bk → tree.Out Bk A → Type 0
  Goes P h s o = Told I M P h s o

  module _ (m st n : ℕ) where
    abbrev x₀ : Transfer
    x₀ = entered m st n

    settle_told : (s : Bk) (h : Readings) → Fixed I M s.0 → Began m st n h
        → Goes (λ x g. Settled g x) h s (run {i = true} book_ops (settle x₀) s)
    unfolding waits_for_iso waits_for_bulk
    settle_told s h k b =
        told-cond (waits_for_iso x₀ o)
        (λ u. let busy : sie_free m ≡ false = not-true (sie_free m)
        (left (not (sie_free m)) (is_out st && is_on o.iso) u) in
        told-bind (quiet_run even (began-on m st n) (of-looks 2001) s h k b)
        (λ _ t g l c. t_ask (no-arrival refl) l (λ now u l. t_ask (no-arrival refl) l (λ len w l. t_end idle l
        (was_late m st n now len c.later [] [] c.engine (ap (λ (l : List ℕ). l ++ (now ∷ [])) c.status)
        (ap (λ (l : List ℕ). l ++
        (len ∷ [])) c.lengths) busy)))))
        (λ free. told-cond (waits_for_bulk x₀ (get_b (ep-cell In (endpoint st)) s))
        (λ u. let busy : not (sie_free m) ≡ true = left (not (sie_free m)) _ u in
        told-bind (quiet_run even (began-on m st n) (of-looks 2001) s h k b)
        (λ _ t g l c. t_ask (no-arrival refl) l (λ len w l. t_end idle l
        (was_other m st (waited x₀ len) (heads-on m st RxLen 0 len g refl (heads-of c)) (not-true (sie_free m) busy)
        (others free busy) (inr
        (others free busy))))))
        (λ _. told-cond (not (sie_free m))
        (λ busy. t_ask (no-arrival refl) k (λ m₁ t l. told-cond (sie_free m₁)
        (λ _. t_ask (no-arrival refl) l (λ f u l. told-cond (transfer f)
        (λ _. t_end idle l (aside (others free busy) (not-true (sie_free m) busy)
        (heads-on m st MisSt 0 m₁ h refl (heads-of b))))
        (λ _. t_ask (no-arrival refl) l (λ st₁ w l.
        told-bind (quiet_run even (heads-on m st) (nak-freely st₁) w _ l
        (heads-on m st IntSt 0 st₁ _ refl (heads-on m st MisSt 0 m₁ h refl (heads-of b))))
        (λ _ z g l c. t_end idle l (was_other m st (retaken x₀ st₁) c (not-true (sie_free m) busy) (others free busy)
        (inl refl)))))))
        (λ _. t_end idle l (aside (others free busy) (not-true (sie_free m) busy)
        (heads-on m st MisSt 0 m₁ h refl (heads-of b))))))
        (λ u. t_end idle k (was_free m st n b.later [] [] b.engine b.status b.lengths
        (not_false (sie_free m) u)))))
      where
        o : EpCore
        o = get_b (ep-cell Out (endpoint st)) s

        others : (not (sie_free m) && (is_out st && is_on o.iso)) ≡ false → not (sie_free m) ≡ true
            → (is_out st && I (endpoint st)) ≡ false
        others u busy = ap (λ (i : Bool). is_out st && i) (sym (k.iso (endpoint st)))
            ∙ other-false (not (sie_free m)) (is_out st && is_on o.iso) busy u

        aside : {g : Readings} → (is_out st && I (endpoint st)) ≡ false → sie_free m ≡ false → Heads m st g → Settled g x₀
        aside o f c = was_other m st x₀ c f o (inr o)

  -- ---- the check of the isochronous OUT endpoints

  module _ (x y : Transfer) (iso : Bool) (says : (h : Readings) → Settled h x → Tells h y iso) where
    arrives_told : (e n : ℕ) (s : Bk) (h : Readings) → Fixed I M s.0 → Settled h x
        → (I e ≡ true → n ≡ length_of h e (marked_len s.1 (s.0.outs e).slot (M e)))
        → Goes (λ _ g. Settled g x) h s (run {i = true} book_ops (arrives e n) s)
    arrives_told e n s h k g long = t_ask (measures e n s h k long) (arrive-fixed e n s k)
        (λ v u l. t_end (record { outs = λ e. refl; sets = refl; bytes = refl })
        (record { iso = l.iso; most = l.most }) g)

    check_one_lem : (e : ℕ) (s : Bk) (h : Readings) → Fixed I M s.0 → Settled h x
        → Goes (λ _ g. Settled g x) h s (run {i = true} book_ops (check_one y iso e) s)
    check_one_lem e s h k g =
        told-cond (book_ops.is (changed e) s)
        (λ _. told-cond (entry y iso e)
        (λ own. arrives_told e y.len s h k g
        (λ i. let m = marked_len s.1 (s.0.outs e).slot (M e) in sym
        (says h g e m i ∙ ap (λ (u : Bool). cond u y.len m) own)))
        (λ other. t_ask {q = Read IntSt 0} {t = s} (no-arrival refl) k (λ st t l.
        let g₁ = settled_on x IntSt 0 st h refl g in
        told-cond (arriving st e)
        (λ _. t_end idle l g₁)
        (λ _. arrives_told e (book_ops.look (marked e) t) t (bringing (Read IntSt 0) st h) l g₁
        (λ i. let m = marked_len t.1 (t.0.outs e).slot (M e) in
        ap (λ (most : ℕ). marked_len t.1 (t.0.outs e).slot most) (l.most e)
        ∙ sym (says (bringing (Read IntSt 0) st h) g₁ e m i ∙ ap (λ (u : Bool). cond u y.len m) other))))))
        (λ _. t_end idle k g)

    check_walk_lem : (es : List ℕ) (s : Bk) (h : Readings) → Fixed I M s.0 → Settled h x
        → Goes (λ _ g. Settled g x) h s (run {i = true} book_ops (check_walk y iso es) s)
    unfolding check_walk
    check_walk_lem [] s h k g = t_end idle k g
    check_walk_lem (e ∷ es) s h k g = told-bind (check_one_lem e s h k g) (λ _ t h k g. check_walk_lem es t h k g)

    served_told : (frame : ℕ) (s : Bk) (h : Readings) → Fixed I M s.0 → Settled h x
        → Goes (λ _ g. Anything g) h s (run {i = true} book_ops (served y iso frame) s)
    served_told frame s h k g =
        told-bind (told-cond (not (is_sof y.st) && not (eqb s.0.kept.globals.sof_frame frame))
        (λ _. quiet_run even (settled_on x) (of-sof frame) s h k g) (λ _. t_end idle k g))
        (λ _ t h k g. told-bind (told-cond y.late
        (λ _. quiet_run even (settled_on x) (of-late-walk frame (set_bits (every_iso_in t.0.kept.globals))) t h k g)
        (λ _. t_end idle k g))
        (λ _ t h k g. told-bind (told-cond (not y.busy)
        (λ _. quiet_run even (settled_on x) (of-dispatch (token y.st) y iso frame) t h k g)
        (λ _. t_end idle k g))
        (λ _ t h k g. told-bind (told-cond (not (is_sof y.st))
        (λ _. check_walk_lem (set_bits (iso_outs t.0.kept.globals)) t h k g) (λ _. t_end idle k g))
        (λ _ t h k g. told-cond (eqb (endpoint y.st) 0)
        (λ _. quiet_run even {G = Anything} (λ _ _ _ _ _ _. tt) (of-ep0-moved (token y.st)) t h k tt)
        (λ _. t_end idle k tt)))))

  -- ---- the interrupt

  transfer_told : (s : Bk) (h : Readings) → Fixed I M s.0 → Unread h
      → Goes (λ _ g. Anything g) h s (run {i = true} book_ops on_transfer s)
  transfer_told s h k b =
      t_ask (no-arrival refl) k (λ m t l. t_ask (no-arrival refl) l (λ st u l. t_ask (no-arrival refl) l (λ n w l.
      let c : Began m st n (bringing (Read RxLen 0) n (bringing (Read IntSt 0) st (bringing (Read MisSt 0) m h)))
      = record {
        later = [];
        engine = ap (λ (l : List ℕ). l ++ (m ∷ [])) b.engine;
        status = ap (λ (l : List ℕ). l ++ (st ∷ [])) b.status;
        lengths = ap (λ (l : List ℕ). l ++ (n ∷ [])) b.lengths;
      } in
      told-bind (told-cond (not (not (sie_free m)) || (not (is_sof st) && not (eqb (endpoint st) 0)))
      (λ _. quiet_run even (began-on m st n) (of-nak st) w _ l c) (λ _. t_end idle l c))
      (λ _ t h k c. t_ask (no-arrival refl) k (λ _ t k.
      told-bind (settle_told m st n t h k c)
      (λ x t h k g. t_ask (no-arrival refl) k (λ frame z l.
      let o = t.0.kept.plain Out (endpoint x.st) in
      let i = t.0.kept.plain In (endpoint x.st) in
      let iso = iso_for (token x.st) o i in
      let sof = z.0.kept.globals.sof_frame in
      served_told x (framed x iso sof frame) iso (λ h g. tells o i sof frame x h (k.iso (endpoint x.st)) g) frame z
      _ l
      (settled_on x FrameNo 0 frame h refl g))))))))

  told_write : {s : Bk} {h : Readings} → Fixed I M s.0 → Unread h → (u : Bool) (v : ℕ)
      → Goes (λ _ g. Unread g) h s (run {i = true} book_ops (when u (write IntFg 0 v)) s)
  told_write k b u v = told-cond u (λ _. t_ask (no-arrival refl) k (λ _ t l. t_end idle l b)) (λ _. t_end idle k b)

  entered_told : (s : Bk) (h : Readings) → Fixed I M s.0 → Unread h
      → Goes (λ _ g. Anything g) h s (run {i = true} book_ops on_interrupt s)
  entered_told s h k b =
      t_ask (no-arrival refl) k (λ flag t k.
      told-bind (told-cond (bus_rst flag) (λ _. quiet_run even unread-on (of-masked (λ w. with_bus_rst w false)) t _ k
      (unread-on IntFg 0 flag h refl b))
      (λ _. t_end idle k (unread-on IntFg 0 flag h refl b)))
      (λ _ t h k b. told-bind (told-cond (suspend flag)
      (λ _. quiet_run even unread-on (of-masked (λ w. with_suspend w false)) t h k b) (λ _. t_end idle k b))
      (λ _ t h k b. told-bind (told_write k b (fifo_ov flag) FIFO_OV)
      (λ _ t h k b. told-bind (told_write k b (hst_sof flag) HST_SOF)
      (λ _ t h k b. told-bind (told-cond (transfer flag) (λ _. transfer_told t h k b) (λ _. t_end idle k tt))
      (λ _ t h k b. told-cond (setup_act flag) (λ _. quiet_run even {G = Anything} (λ _ _ _ _ _ _. tt) of-on-setup t h k
      tt) (λ _. t_end idle k tt)))))))

  pub interrupt_told : (s : Bk) → Fixed I M s.0 → Goes (λ _ g. Anything g) nothing_read s
      (run {i = true} book_ops interrupt_code s)
  interrupt_told s k =
      let s₁ : Bk = book_ops.act no_wakes s in
      told-cond (eqb s.0.kept.globals.stage 2)
      (λ _. told-from {s = s} {t = s₁} (record { outs = λ e. refl; sets = refl; bytes = refl })
      (told-bind {P = λ (n : ℕ) (h : Readings). Anything h} (told-bind
      (told-bind (quiet_run even unread-on of-microframe s₁ nothing_read (record { iso = k.iso; most = k.most })
      (record { engine = refl; status = refl; lengths = refl }))
      (λ _ t h k b. entered_told t h k b))
      (λ _ t h k _. t_end idle k tt))
      (λ n t h k _. t_end idle k tt)))
      (λ _. t_end idle k tt)
