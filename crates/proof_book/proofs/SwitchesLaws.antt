-- The row that switches an isochronous OUT: none wait from its first step on; each slot armed; the kind, then the
-- enable bit
use Rattle.std.specs.Prelude.{Bool, true, false, cond, ◌&&◌, List, ◌≢◌, ◌≡◌, ℕ, zero, suc, ◌+◌, ◌%◌, ◌≤◌, ◌<◌, eqb}
use Rattle.std.proofs.Common.{true≢false, ◌∙◌, arith, eqb-true, eq-eqb, ne_eqb}
use Rattle.std.proofs.Math.Bool.{and-false}
use Rattle.std.proofs.Math.Path.{refl, ap, subst, sym}
use Rattle.std.proofs.lemmas.Bool.{eqb-false}
use Rattle.bits.specs.Bit.{bit_is_set}
use Rattle.regs.specs.declared.Access.TheVariants.{Write, Receive}
use Rattle.regs.specs.declared.Reg.TheVariants.{EpConfig, EpType}
use Rattle.regs.specs.declared.Dir.TheVariants.{Out}
use Rattle.regs.specs.Enables as enables
use Rattle.state.specs.declared.EpState.{EpState}
use Rattle.state.specs.declared.Globals.{Globals}
use Rattle.state.specs.Ep.{reset_of}
use Rattle.state.specs.Fresh.{clear_stamps}
use Rattle.state.specs.Kept.{with_ep_config, with_ep_type}
use Rattle.state.specs.Driver.{Driver, ep_on, with_on}
use Rattle.state.specs.Laws.{Sized, ep_on-same}
use Rattle.ring.specs.Slot.{slot_addr, count_of}
use Rattle.ring.specs.Out.{armed_at}
use Rattle.ring.specs.Waiting.{Only, SamePlace, Placed}
use Rattle.ring.specs.Slots.{slot-from, slot-upto}
use Rattle.ring.specs.Laws.{place-placed, place-addr, alike-ring, alike-count, waiting_none, slot-region, reset-count}
use Rattle.ring.proofs.OutLaws.{armed-alike}
use Rattle.ring.specs.Marks.{armed}
use Rattle.ring.specs.Only as marks
use Rattle.ring.proofs.MarksSlots.{armed-slot}
use Rattle.script.specs.Cells.{EpCore}
use Rattle.script.specs.Script.{switch}
use Rattle.script.specs.Simulates.{Phase, quiet, mid}
use Rattle.script.specs.Statics.{is_on, iso_outs}
use Rattle.script.specs.Statics as statics
use Rattle.script.specs.Machine.{Buf}
use Rattle.script_ops.specs.Records.{plain_of}
use Rattle.script_ops.specs.Rings.{St, renewed_on, arm_at, slot_step, type_step, config_step}
use Rattle.proof_book.specs.Pages.{OutPage, Kept, Pages, with_kept, with_out, kept_plain}
use Rattle.proof_book.specs.Book.{empty_out, slot_told, iso_of, feed_b}
use Rattle.proof_book.specs.Coupling.{SameKept, end_of, lens_of, slot_stamps, OutFits, AtRest, Switching, InRow}
use Rattle.proof_book.specs.Coupling.{Arming, Coupling}
use Rattle.proof_book.specs.LensLaws.{ep-mod, lens-on, stamps-on, ep-clear, lens-clear}
use Rattle.proof_book.specs.StampsLaws.{alike-stamps}
use Rattle.proof_book.specs.FrameLaws.{Changed, changed-not, changed-on, changed-clear, changed-trans, kept_same}
use Rattle.proof_book.specs.FrameLaws.{kept-plain, out-same, out-twice, out-moved, end_kept, out-changed}
use Rattle.proof_book.specs.FrameLaws.{only-bytes}
use Rattle.proof_book.specs.HeldLaws.{iso-used, Words, good-words}
use Rattle.proof_book.specs.LiesLaws.{received-lies}
use Rattle.proof_book.specs.StepsLaws.{RowStep, phase-changed, globals-changed, others-enabled}
use Rattle.proof_book.proofs.ResetsLaws.{reset-place, reset-out}

-- ---- the endpoint that is switched, and those that are not

module _ (e : ℕ) (onn : Bool) (n x : ℕ) (u : Bool) (r : EpState) (p : OutPage) where
  row_here : x % 16 ≡ e % 16 → is_on r.iso ≡ true → (eqb (x % 16) (e % 16) && is_on r.iso) ≡ true
  row_here h i = ap (λ w. w && is_on r.iso) (eq-eqb (x % 16) (e % 16) h) ∙ i

  row-away : x % 16 ≢ e % 16 → (eqb (x % 16) (e % 16) && is_on r.iso) ≡ false
  row-away h = ap (λ w. w && is_on r.iso) (ne_eqb (x % 16) (e % 16) h)

  row_plain : is_on r.iso ≡ false → (eqb (x % 16) (e % 16) && is_on r.iso) ≡ false
  row_plain i = ap (λ w. eqb (x % 16) (e % 16) && w) i ∙ and-false (eqb (x % 16) (e % 16))

  here_in : x % 16 ≡ e % 16 → is_on r.iso ≡ true → Switching n r p → Arming (mid (switch e onn) n) x u r p
  here_in h i = subst (λ w. InRow w n u r p) (sym (row_here h i))

  here_out : x % 16 ≡ e % 16 → is_on r.iso ≡ true → Arming (mid (switch e onn) n) x u r p → Switching n r p
  here_out h i = subst (λ w. InRow w n u r p) (row_here h i)

  away-in : x % 16 ≢ e % 16 → AtRest u r p → Arming (mid (switch e onn) n) x u r p
  away-in h = subst (λ w. InRow w n u r p) (sym (row-away h))

  away-out : x % 16 ≢ e % 16 → Arming (mid (switch e onn) n) x u r p → AtRest u r p
  away-out h = subst (λ w. InRow w n u r p) (row-away h)

  plain_in_lem : is_on r.iso ≡ false → AtRest u r p → Arming (mid (switch e onn) n) x u r p
  plain_in_lem i = subst (λ w. InRow w n u r p) (sym (row_plain i))

  plain_out : is_on r.iso ≡ false → Arming (mid (switch e onn) n) x u r p → AtRest u r p
  plain_out i = subst (λ w. InRow w n u r p) (row_plain i)

  -- after its last receive address
  later : n ≤ 2 → Arming (mid (switch e onn) (suc n)) x u r p → Arming (mid (switch e onn) n) x u r p
  later l = go (eqb (x % 16) (e % 16) && is_on r.iso)
    where
      go : (w : Bool) → InRow w (suc n) u r p → InRow w n u r p
      go true s = record { none = s.none; head = s.head; armed = λ h. s.armed (omega arith) }
      go false s = s

-- ---- the kind and the enable word

module _ {φ : Phase} {b : Buf} {d : Driver} {t : Pages} (R : Coupling φ b d t) (e : ℕ) where
  iso-same : (ep_on d Out e).iso ≡ (t.kept.plain Out e).iso
  iso-same = ap (λ (p : EpCore). p.iso) (R.same.plain Out e)

  -- the word that is written
  word_same : (f : Globals → ℕ) (onn : Bool)
      → cond (is_on (ep_on d Out e).iso) (enables.with_on (f d.globals) Out e onn) (f d.globals)
      ≡ cond (iso_of t Out e) (enables.with_on (f t.kept.globals) Out e onn) (f t.kept.globals)
  word_same f onn i = cond (is_on (iso-same i)) (enables.with_on (f (R.same.globals i)) Out e onn)
      (f (R.same.globals i))

type-step : (e : ℕ) (onn : Bool) (b : Buf) (d : Driver) (t : Pages) → Coupling (mid (switch e onn) 2) b d t
    → RowStep (switch e onn) 1 b d t
unfolding type_step iso_outs
type-step e onn b d t R =
    let v = word_same R e (λ g. g.ep_type) onn in (
      ap (λ (w : ℕ). Write EpType 0 w) v,
      globals-changed R _ _ (λ i. with_ep_type (v i) (R.same.globals i)) refl refl refl refl (omega arith)
          (λ x. later e onn 1 x (bit_is_set (iso_outs d.globals) (x % 16)) (ep_on d Out x) (t.outs x) (omega arith)
          (R.arming x)),
      tt,
    )

-- the enable bit of an endpoint that is not switched stays
bit_kept : (g : Globals) (e x : ℕ) (onn iso : Bool) → (iso ≡ true → x % 16 ≢ e % 16)
    → bit_is_set (iso_outs (with_ep_config (cond iso (enables.with_on g.ep_config Out e onn) g.ep_config) g)) (x % 16)
    ≡ bit_is_set (iso_outs g) (x % 16)
bit_kept g e x onn true h = others-enabled g e x onn (h refl)
bit_kept g e x onn false h = refl

switched : (r : EpState) (p : OutPage) (u u' same iso : Bool) → InRow (same && iso) 1 u r p → (same ≡ false → u' ≡ u)
    → (iso ≡ false → same ≡ true → u' ≡ u)
    → InRow (same && iso) 0 u' r p
switched r p u u' true true s h k = record { none = s.none; head = s.head; armed = λ l. s.armed (omega arith) }
switched r p u u' true false s h k = subst (λ w. AtRest w r p) (sym (k refl refl)) s
switched r p u u' false iso s h k = subst (λ w. AtRest w r p) (sym (h refl)) s

config-step : (e : ℕ) (onn : Bool) (b : Buf) (d : Driver) (t : Pages) → Coupling (mid (switch e onn) 1) b d t
    → RowStep (switch e onn) 0 b d t
unfolding config_step
config-step e onn b d t R =
    let v = word_same R e (λ g. g.ep_config) onn in (
      ap (λ (w : ℕ). Write EpConfig 0 w) v,
      globals-changed R _ _ (λ i. with_ep_config (v i) (R.same.globals i)) refl refl refl refl (omega arith)
          (λ x. switched (ep_on d Out x) (t.outs x) _ _ (eqb (x % 16) (e % 16)) (is_on (ep_on d Out x).iso) (R.arming x)
          (λ h. bit_kept d.globals e x onn (is_on (ep_on d Out e).iso) (λ i. eqb-false (x % 16) (e % 16) h))
          (λ h k. bit_kept d.globals e x onn (is_on (ep_on d Out e).iso)
          (λ i. absurd (true≢false (sym i ∙ ap (λ (r : EpState). is_on r.iso)
          (sym (ep-mod d Out x e (eqb-true (x % 16) (e % 16) k))) ∙ h))))),
      tt,
    )

-- ep_rx_ctrl
rx-step : (e : ℕ) (onn : Bool) (b : Buf) (d : Driver) (t : Pages) → Coupling (mid (switch e onn) 3) b d t
    → RowStep (switch e onn) 2 b d t
rx-step e onn b d t R = (
  refl,
  phase-changed R (omega arith)
      (λ x. later e onn 2 x (bit_is_set (iso_outs d.globals) (x % 16)) (ep_on d Out x) (t.outs x) (omega arith)
      (R.arming x)),
  tt,
)

-- ---- a slot armed, while none wait

module _ {b : Buf} {r : EpState} {ls ss : List ℕ} {p : OutPage} (f : OutFits b r ls ss p) (w : Words r.stride)
    (k : ℕ) where
  -- its bytes alone change
  slot-only : marks.Only (slot_addr r k) (slot_addr r k + r.stride) b (armed b (slot_addr r k) r.max_len)
  slot-only = armed-slot b (slot_addr r k) r.max_len r.stride w.0 w.1 f.held.least

  slot-bytes : Only r.base (end_of r) b (armed b (slot_addr r k) r.max_len)
  slot-bytes = slot-region f.held.placed f.held.ring k b (armed b (slot_addr r k) r.max_len)
      (only-bytes slot-only)

  slot-fits : count_of r ≡ 0 → OutFits (armed b (slot_addr r k) r.max_len) (armed_at r (slot_addr r k)) ls ss
      (slot_told p (slot_addr r k))
  unfolding armed_at
  slot-fits z =
      let l = armed-alike r (slot_addr r k) in
      let r' = armed_at r (slot_addr r k) in
      let b' = armed b (slot_addr r k) r.max_len in
      record {
        held = record {
          placed = subst (λ n. Placed n r') (sym slot-only.long) (place-placed l.place f.held.placed);
          ring = alike-ring l f.held.ring;
          least = f.held.least;
          waits = waiting_none b' r' ls (alike-count l ∙ z) ∙ sym (waiting_none b r ls z) ∙ f.held.waits;
        };
        stamps = alike-stamps l ss f.held.ring.tail8 ∙ f.stamps;
        opened = f.opened;
        shows = λ q. subst (λ n. 0 < n) (sym (alike-count l)) (f.shows q);
        lost = f.lost;
        slot = refl;
        from = slot-from f.held.placed k;
        upto = slot-upto f.held.placed k;
        ledger = f.ledger;
        short = f.short;
      }

  -- slot 0 is the head's
  slot_switching : count_of r ≡ 0 → r.head ≡ 0 → Switching (suc (suc (suc k))) (armed_at r (slot_addr r k))
      (slot_told p (slot_addr r k))
  unfolding armed_at
  slot_switching z h =
      let l = armed-alike r (slot_addr r k) in
      record {
        none = alike-count l ∙ z;
        head = h;
        armed = λ q. ap (slot_addr r) (let c : k ≡ r.head = omega (arith, h) in c)
            ∙ sym (place-addr l.place r.head);
      }

-- the driver's record where slot k was armed
module _ (d : Driver) (z : Sized d) (e k : ℕ) where
  abbrev armed_on : Driver
  armed_on = with_on d Out e (armed_at (ep_on d Out e) (slot_addr (ep_on d Out e) k))

  on-changed : Changed Out e d armed_on
  unfolding armed_at
  on-changed = changed-on z Out e (armed_at (ep_on d Out e) (slot_addr (ep_on d Out e) k))
      (armed-alike (ep_on d Out e) (slot_addr (ep_on d Out e) k)).place refl

  on-is : ep_on armed_on Out e ≡ armed_at (ep_on d Out e) (slot_addr (ep_on d Out e) k)
  on-is = ep_on-same d Out e (armed_at (ep_on d Out e) (slot_addr (ep_on d Out e) k)) z

  on-plain : plain_of (ep_on armed_on Out e) ≡ plain_of (ep_on d Out e)
  unfolding armed_at
  on-plain = ap plain_of on-is

  on-lens : lens_of armed_on Out e ≡ lens_of d Out e
  on-lens = lens-on d Out e (armed_at (ep_on d Out e) (slot_addr (ep_on d Out e) k)) Out e

  on-stamps : slot_stamps armed_on e ≡ slot_stamps d e
  on-stamps = stamps-on d Out e (armed_at (ep_on d Out e) (slot_addr (ep_on d Out e) k)) e

  on-iso : (ep_on armed_on Out e).iso ≡ (ep_on d Out e).iso
  unfolding armed_at
  on-iso = ap (λ (r : EpState). r.iso) on-is

-- from where the record is reset, if it is to be, and its page with it
module _ {φ : Phase} {b : Buf} {d d₁ : Driver} {t : Pages} (R : Coupling φ b d t) (e : ℕ) (onn : Bool) (k : ℕ)
    {kept : Kept} {p : OutPage}
    (c : Changed Out e d d₁) (s : SameKept d₁ kept) (f : OutFits b (ep_on d₁ Out e) (lens_of d₁ Out e) (slot_stamps d₁ e)
    p) (w : Words (ep_on d₁ Out e).stride)
    (i : is_on (ep_on d₁ Out e).iso ≡ true) (none : count_of (ep_on d₁ Out e) ≡ 0) (head : (ep_on d₁ Out e).head ≡ 0)
    (step : suc (suc (suc k)) ≤ 18)
    (others : (x : ℕ) (u : Bool) → x % 16 ≢ e % 16 → Arming φ x u (ep_on d Out x) (t.outs x)
    → Arming (mid (switch e onn) (suc (suc (suc k)))) x u (ep_on d Out x) (t.outs x)) where
  slot_armed : Coupling (mid (switch e onn) (suc (suc (suc k))))
      (armed b (slot_addr (ep_on d₁ Out e) k) (ep_on d₁ Out e).max_len) (armed_on d₁ c.sized e k)
      (with_out (with_kept t kept) e (slot_told p (slot_addr (ep_on d₁ Out e) k)))
  slot_armed =
      let r₁ = ep_on d₁ Out e in
      let a = slot_addr r₁ k in
      let b' = armed b a r₁.max_len in
      let n = suc (suc (suc k)) in
      let u = bit_is_set (iso_outs d.globals) (e % 16) in
      out-changed R e (slot_told p a) (changed-trans R.sized Out e c (on-changed d₁ c.sized e k))
      (kept_same (on-changed d₁ c.sized e k) (on-plain d₁ c.sized e k) s)
      (slot-only f w k).long
      (subst (λ y. Only y (end_of (ep_on d Out e)) b b') c.place.base
      (subst (λ y. Only r₁.base y b b') (end_kept c.place) (slot-bytes f w k)))
      (out-moved (on-is d₁ c.sized e k) (on-lens d₁ c.sized e k) (on-stamps d₁ c.sized e k)
      (slot-fits f w k none))
      step others
      (here_in e onn n e u (ep_on (armed_on d₁ c.sized e k) Out e) (slot_told p a) refl
      (ap is_on (on-iso d₁ c.sized e k) ∙ i)
      (subst (λ y. Switching n y (slot_told p a)) (sym (on-is d₁ c.sized e k)) (slot_switching f w k none head)))

-- one that is not isochronous: the address handed out again
module _ {φ : Phase} {b : Buf} {d : Driver} {t : Pages}
    (R : Coupling φ b d t) (e : ℕ) (onn : Bool) (n : ℕ) (i : is_on (ep_on d Out e).iso ≡ false) (step : n ≤ 18)
    (rest : (u : Bool) → Arming φ e u (ep_on d Out e) (t.outs e) → AtRest u (ep_on d Out e) (t.outs e))
    (others : (x : ℕ) (u : Bool) → x % 16 ≢ e % 16
    → Arming φ x u (ep_on d Out x) (t.outs x) → Arming (mid (switch e onn) n) x u (ep_on d Out x) (t.outs x)) where
  told-again : Coupling (mid (switch e onn) n) b d (with_out t e (slot_told (t.outs e) (ep_on d Out e).armed_slot))
  told-again =
      let r = ep_on d Out e in
      let f = R.outs e in
      let u = bit_is_set (iso_outs d.globals) (e % 16) in
      let a = rest u (R.arming e) in
      out-changed R e (slot_told (t.outs e) r.armed_slot) (changed-not R.sized Out e) R.same refl
      (λ k h. refl)
      (subst (λ y. OutFits b r (lens_of d Out e) (slot_stamps d e) (slot_told (t.outs e) y)) (sym f.slot) f)
      step others
      (plain_in_lem e onn n e u r (slot_told (t.outs e) r.armed_slot) i
      (record { armed = λ q. f.slot ∙ a.armed q; none = a.none }))

-- ---- the first step: the record reset, no stamp

module _ {φ : Phase} {b : Buf} {d : Driver} {t : Pages} (R : Coupling φ b d t) (e : ℕ) where
  -- the stamps made new
  cleared-changed : Changed Out e d (clear_stamps d e)
  cleared-changed = changed-clear R.sized e

  cleared-ep : ep_on (clear_stamps d e) Out e ≡ ep_on d Out e
  cleared-ep = ep-clear d e Out e

  pub fresh-changed : Changed Out e d (renewed_on d e)
  unfolding renewed_on
  fresh-changed =
      changed-trans R.sized Out e cleared-changed
      (changed-on cleared-changed.sized Out e (reset_of (ep_on d Out e))
      (subst (λ r. SamePlace r (reset_of (ep_on d Out e))) (sym cleared-ep) (reset-place (ep_on d Out e)))
      (ap (λ (r : EpState). r.iso) (sym cleared-ep)))

  pub fresh-ep : ep_on (renewed_on d e) Out e ≡ reset_of (ep_on d Out e)
  unfolding renewed_on
  fresh-ep = ep_on-same (clear_stamps d e) Out e (reset_of (ep_on d Out e)) cleared-changed.sized

  fresh-lens : lens_of (renewed_on d e) Out e ≡ lens_of d Out e
  unfolding renewed_on
  fresh-lens = lens-on (clear_stamps d e) Out e (reset_of (ep_on d Out e)) Out e ∙ lens-clear d e Out e

  fresh_kept : SameKept (renewed_on d e) (kept_plain t.kept Out e (statics.renewed (t.kept.plain Out e)))
  fresh_kept = kept-plain fresh-changed (ap plain_of fresh-ep ∙ ap statics.renewed (R.same.plain Out e)) R.same

  fresh-out : OutFits b (ep_on (renewed_on d e) Out e) (lens_of (renewed_on d e) Out e) (slot_stamps (renewed_on d e) e)
      (empty_out (t.outs e))
  fresh-out = out-moved fresh-ep fresh-lens refl (reset-out (R.outs e) (slot_stamps (renewed_on d e) e))

  -- its slots are of whole words
  pub slot-words : is_on (ep_on d Out e).iso ≡ true → Words (ep_on d Out e).stride
  slot-words i = subst Words (sym (iso-used R e i).stride) (good-words d.allocator.size R.good)

-- ---- its steps

-- by whether it is isochronous, for driver and book, and whether the record is to be reset
abbrev slotted : (iso last : Bool) → ℕ → ℕ → Driver → Buf → ℕ × St
slotted iso last e k d b = cond iso (arm_at e k (cond last (renewed_on d e) d, b)) ((ep_on d Out e).armed_slot, (d, b))

abbrev paged : (iso last : Bool) → ℕ → Pages → Pages
paged iso last e t = cond (iso && last) (with_out (with_kept t
    (kept_plain t.kept Out e (statics.renewed (t.kept.plain Out e)))) e (empty_out (t.outs e))) t

abbrev Slotted : (iso iso' last : Bool) → ℕ → Bool → ℕ → Buf → Driver → Pages → Type 0
Slotted iso iso' last e onn k b d t =
    let x = slotted iso last e k d b in
    Coupling (mid (switch e onn) (suc (suc (suc k)))) x.1.1 x.1.0
    (feed_b (Receive e x.0) (paged iso' last e t))

pub slot-first : (e : ℕ) (onn : Bool) (b : Buf) (d : Driver) (t : Pages) → Coupling quiet b d t
    → RowStep (switch e onn) 18 b d t
unfolding slot_step
slot-first e onn b d t R =
    let z = subst (λ w. Slotted (is_on (ep_on d Out e).iso) w true e onn 15 b d t) (ap is_on (iso-same R e))
    (go (is_on (ep_on d Out e).iso) refl) in
    (refl, z, received-lies (paged (iso_of t Out e) true e t) e _ z)
  where
    others : (x : ℕ) (u : Bool) → x % 16 ≢ e % 16 → Arming quiet x u (ep_on d Out x) (t.outs x)
        → Arming (mid (switch e onn) 18) x u (ep_on d Out x) (t.outs x)
    others x u n a = away-in e onn 18 x u (ep_on d Out x) (t.outs x) n a

    go : (iso : Bool) → is_on (ep_on d Out e).iso ≡ iso → Slotted iso iso true e onn 15 b d t
    go true i =
        let k = kept_plain t.kept Out e (statics.renewed (t.kept.plain Out e)) in
        let p = empty_out (t.outs e) in
        let a = slot_addr (ep_on (renewed_on d e) Out e) 15 in
        subst
        (λ y. Coupling (mid (switch e onn) 18) (armed b a (ep_on (renewed_on d e) Out e).max_len)
        (armed_on (renewed_on d e) (fresh-changed R e).sized e 15) y)
        (sym (ap (λ q. with_out (with_out (with_kept t k) e p) e (slot_told q a)) (out-same (with_kept t k) e p)
        ∙ out-twice (with_kept t k) e (slot_told p a) p))
        (slot_armed R e onn 15 (fresh-changed R e) (fresh_kept R e) (fresh-out R e)
        (subst Words (sym (fresh-changed R e).place.stride) (slot-words R e i))
        (ap is_on (fresh-changed R e).iso ∙ i)
        (ap count_of (fresh-ep R e) ∙ reset-count (reset_of (ep_on d Out e)) refl refl)
        (ap (λ (r : EpState). r.head) (fresh-ep R e))
        (omega arith) others)
    go false i = told-again R e onn 18 i (omega arith) (λ u a. a) others

slot_next : (e : ℕ) (onn : Bool) (k : ℕ) (b : Buf) (d : Driver) (t : Pages)
    → Coupling (mid (switch e onn) (suc (suc (suc (suc k))))) b d t → RowStep (switch e onn) (suc (suc (suc k))) b d t
unfolding slot_step
slot_next e onn k b d t R =
    let z = subst (λ w. Slotted (is_on (ep_on d Out e).iso) w (eqb k 15) e onn k b d t) (ap is_on (iso-same R e))
    (subst (λ w. Slotted (is_on (ep_on d Out e).iso) (is_on (ep_on d Out e).iso) w e onn k b d t)
    (sym (ne_eqb k 15 (λ q. omega (arith, R.step)))) (go (is_on (ep_on d Out e).iso) refl)) in
    (refl, z, received-lies (paged (iso_of t Out e) (eqb k 15) e t) e _ z)
  where
    others : (x : ℕ) (u : Bool)
        → x % 16 ≢ e % 16 → Arming (mid (switch e onn) (suc (suc (suc (suc k))))) x u (ep_on d Out x) (t.outs x)
        → Arming (mid (switch e onn) (suc (suc (suc k)))) x u (ep_on d Out x) (t.outs x)
    others x u n a = away-in e onn (suc (suc (suc k))) x u
        (ep_on d Out x) (t.outs x) n (away-out e onn (suc (suc (suc (suc k)))) x u (ep_on d Out x) (t.outs x) n a)

    go : (iso : Bool) → is_on (ep_on d Out e).iso ≡ iso → Slotted iso iso false e onn k b d t
    go true i =
        let s = here_out e onn (suc (suc (suc (suc k)))) e (bit_is_set (iso_outs d.globals) (e % 16)) (ep_on d Out e)
        (t.outs e) refl i (R.arming e) in
        slot_armed R e onn k (changed-not R.sized Out e) R.same (R.outs e) (slot-words R e i) i s.none
        s.head (omega (arith, R.step)) others
    go false i = told-again R e onn (suc (suc (suc k))) i (omega (arith, R.step))
        (λ u a. plain_out e onn (suc (suc (suc (suc k)))) e u (ep_on d Out e) (t.outs e) i a) others

pub switch-next : (e : ℕ) (onn : Bool) (n : ℕ) (b : Buf) (d : Driver) (t : Pages)
    → Coupling (mid (switch e onn) (suc n)) b d t → RowStep (switch e onn) n b d t
switch-next e onn zero b d t R = config-step e onn b d t R
switch-next e onn (suc zero) b d t R = type-step e onn b d t R
switch-next e onn (suc (suc zero)) b d t R = rx-step e onn b d t R
switch-next e onn (suc (suc (suc k))) b d t R = slot_next e onn k b d t R
