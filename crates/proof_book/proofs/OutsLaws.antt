-- OUT endpoints: what is asked of them, and a packet opened, closed, taken, a ring emptied
use Rattle.std.specs.Prelude.{Bool, false, not, cond, ◌≡◌, ℕ, ◌-◌, ◌<◌, eqb}
use Rattle.std.proofs.Math.Bool.{true}
use Rattle.std.proofs.Common.{true≢false, subst, ◌∙◌, arith}
use mathlib.Core.List.{List, [], ◌∷◌, ◌++◌, map, tail, append_assoc}
use Rattle.std.proofs.Math.Path.{refl, ap, sym}
use Rattle.std.proofs.lemmas.Bool.{not-true}
use Rattle.regs.specs.declared.Dir.TheVariants.{Out}
use Rattle.state.specs.declared.EpState.{EpState}
use Rattle.state.specs.Driver.{Driver, ep_on, with_on}
use Rattle.state.specs.Laws.{ep_on-same}
use Rattle.ring.specs.Slot.{count_of, has_waiting, passed_of}
use Rattle.ring.specs.Out.{opened_of, closed_of}
use Rattle.ring.specs.Waiting.{waiting, SamePlace, Alike, Shows}
use Rattle.ring.specs.Laws.{place-placed, place-addr, alike-count, alike-waits, alike-out, reset-count, reset-waits}
use Rattle.ring.specs.Laws.{reset_ring}
use Rattle.ring.proofs.OutLaws.{opened-alike, opened-shows, closed-place, closed-shows, close-waits, close-ring}
use Rattle.ring.specs.Marks.{is_marked, marked_len}
use Rattle.ring.specs.Copies.{bytes_at}
use Rattle.script.specs.Cells.{EpCore}
use Rattle.script.specs.Script as script
use Rattle.script.specs.Simulates.{quiet}
use Rattle.script.specs.Statics.{is_on, flag}
use Rattle.script.specs.Machine.{Buf}
use Rattle.script_ops.specs.Records.{plain_of, iso_out}
use Rattle.script_ops.specs.Rings.{changed_on, marked_on, waiting_on, opened_on, oldest_at, oldest_on, emptied, emptied_on}
use Rattle.script_ops.specs.Rings.{open_on, close_on, take_on}
use Rattle.proof_book.specs.Pages.{Packet, bytes_of, OutPage, Pages, with_out}
use Rattle.proof_book.specs.Book.{some, front, iso_of, open_out, read_out, empty_out}
use Rattle.proof_book.specs.Coupling.{Short, lens_of, slot_stamps, OutFits, AtRest, Coupling}
use Rattle.proof_book.specs.LensLaws.{lens-on, stamps-on}
use Rattle.proof_book.specs.StampsLaws.{alike-stamps, close-stamps}
use Rattle.proof_book.specs.FrameLaws.{changed-not, changed-on, kept_same, out-changed, out-moved}
use Rattle.proof_book.specs.HeldLaws.{IsAgrees, LookAgrees, FetchAgrees, ActAgrees, held-some, waits-count}
use Rattle.proof_book.specs.HeldLaws.{held_next}
use Rattle.proof_book.specs.HeldLaws.{held_first, held-stamp, receives, plain-receives}
use Rattle.proof_book.specs.EmptyPagesLaws.{Seat, Shown, empty-out}

-- a record changed, bytes as they were: the ring's place, and what scripts read of the record
pub record Inner (r r' : EpState) : Type 0 where
  pub place : SamePlace r r'
  pub plain : plain_of r' ≡ plain_of r

-- ---- what is asked

module _ {b : Buf} {d : Driver} {t : Pages} (R : Coupling quiet b d t) (e : ℕ) where
  max-same : (ep_on d Out e).max_len ≡ (t.kept.plain Out e).max_len
  max-same = ap (λ (p : EpCore). p.max_len) (R.same.plain Out e)

pub is-changed : (e : ℕ) → IsAgrees (script.changed e)
unfolding changed_on
is-changed e b d t R = ap (λ (x : ℕ). not (is_marked b x)) (R.outs e).slot

pub is-waiting-out : (e : ℕ) → IsAgrees (script.waiting Out e)
unfolding waiting_on
is-waiting-out e b d t R = held-some (R.outs e).held

flag-on : (u : Bool) → is_on (flag u) ≡ u
unfolding is_on
flag-on true = refl
flag-on false = refl

pub is-opened : (e : ℕ) → IsAgrees (script.opened e)
unfolding opened_on
is-opened e b d t R = ap is_on (R.outs e).opened ∙ flag-on (t.outs e).opened

pub look-marked : (e : ℕ) → LookAgrees (script.marked e)
unfolding marked_on
look-marked e b d t R =
    ap (λ (x : ℕ). marked_len b x (ep_on d Out e).max_len) (R.outs e).slot
    ∙ ap (λ (x : ℕ). marked_len b (t.outs e).slot x) (max-same R e)

pub look-next-out : (e : ℕ) → LookAgrees (script.next_len_lem Out e)
look-next-out e b d t R = held_next d Out e (R.outs e).held

pub look-next-stamp : (e : ℕ) → LookAgrees (script.next_stamp_lem e)
look-next-stamp e b d t R = held-stamp d e (R.outs e)

pub fetch-oldest : (e : ℕ) → FetchAgrees (script.oldest e)
unfolding oldest_on oldest_at
fetch-oldest e b d t R = held_first d Out e (R.outs e).held

pub fetch-received : (e n : ℕ) → FetchAgrees (script.received e n)
fetch-received e n b d t R = ap (λ (p : EpCore). bytes_at b p.base n) (R.same.plain Out e)

pub out-on : {b : Buf} {d : Driver} {t : Pages} → Coupling quiet b d t → (e : ℕ) (r : EpState) (p : OutPage)
    → Inner (ep_on d Out e) r
    → OutFits b r (lens_of d Out e) (slot_stamps d e) p → AtRest (receives d e) r p
    → Coupling quiet b (with_on d Out e r) (with_out t e p)
out-on {b} {d} {t} R e r p k f a =
    let s = R.sized in
    let c = changed-on s Out e r k.place (ap (λ (q : EpCore). q.iso) k.plain) in
    let z : ep_on (with_on d Out e r) Out e ≡ r = ep_on-same d Out e r s in
    out-changed R e p c (kept_same c (ap plain_of z ∙ k.plain) R.same) refl
    (λ i h. refl) (out-moved z (lens-on d Out e r Out e) (stamps-on d Out e r e) f) tt (λ x u n y. y)
    (subst (λ y. AtRest (receives d e) y p) (sym z) a)

-- nothing but a page that is read as it was
pub out-page : {b : Buf} {d : Driver} {t : Pages} → Coupling quiet b d t → (e : ℕ) (p : OutPage)
    → OutFits b (ep_on d Out e) (lens_of d Out e) (slot_stamps d e) p
    → AtRest (receives d e) (ep_on d Out e) p → Coupling quiet b d (with_out t e p)
out-page {b} {d} {t} R e p f a =
    let c = changed-not R.sized Out e in
    out-changed R e p c R.same refl (λ i h. refl) f tt (λ x u n y. y) a

-- another record with the same ring; packets and count as they were
abbrev pub shown_as : OutPage → Bool → ℕ → OutPage
shown_as p o x = record {
  waiting = p.waiting;
  opened = o;
  lost = p.lost;
  slot = x;
  admitted = p.admitted;
  read
      = p.read;
}

pub fits-alike : {b : Buf} {r r' : EpState} {ls ss : List ℕ} {p : OutPage} → Alike r r' → OutFits b r ls ss p
    → r'.max_len ≡ r.max_len
    → (o : Bool) (x : ℕ) → Shown r' o → Seat r' (shown_as p o x) → OutFits b r' ls ss (shown_as p o x)
fits-alike {b} {ls = ls} {ss = ss} {p = p} k f m o x s z = record {
  held = record {
    placed = place-placed k.place f.held.placed;
    ring = alike-out k f.held.ring;
    least = rw (m, k.place.stride) f.held.least;
    waits = alike-waits k b ls f.held.ring.tail8 ∙ f.held.waits;
  };
  stamps = alike-stamps k ss f.held.ring.tail8 ∙ f.stamps;
  opened = s.opened;
  shows = s.shows;
  lost = z.lost;
  slot = z.slot;
  from = z.from;
  upto = z.upto;
  ledger = f.ledger;
  short = subst (λ n. Short n p.waiting) (sym m) f.short;
}

-- ---- opened

open-inner : (r : EpState) → Inner r (opened_of r)
unfolding opened_of
open-inner r = record { place = record { base = refl; stride = refl; slots = refl }; plain = refl }

module _ {b : Buf} {r : EpState} {ls ss : List ℕ} {p : OutPage} (f : OutFits b r ls ss p)
    (w : has_waiting r ≡ true) where
  open-fits : OutFits b (opened_of r) ls ss (open_out p)
  unfolding opened_of
  open-fits = fits-alike (opened-alike r) f refl true p.slot
      (record { opened = refl; shows = opened-shows r (waits-count r w) })
      (record { lost = f.lost; slot = f.slot; from = f.from; upto = f.upto })

  open-rest : {u : Bool} → AtRest u r p → AtRest u (opened_of r) (open_out p)
  unfolding opened_of
  open-rest a = record {
    armed = λ h. a.armed h ∙ sym (place-addr (opened-alike r).place r.head);
    none = λ h. alike-count (opened-alike r) ∙ a.none h;
  }

-- both changed, or both as they were
cond-rest : {b : Buf} {d d' : Driver} {t t' : Pages} (u v : Bool) → u ≡ v → (u ≡ true → Coupling quiet b d' t')
    → (u ≡ false → Coupling quiet b d t)
    → Coupling quiet b (cond u d' d) (cond v t' t)
cond-rest {b} {d} {d'} {t} {t'} u v z p q = subst (λ y. Coupling quiet b (cond u d' d) (cond y t' t)) z (go u refl)
  where
    go : (y : Bool) → u ≡ y → Coupling quiet b (cond y d' d) (cond y t' t)
    go true h = p h
    go false h = q h

pub act-open : (e : ℕ) → ActAgrees (script.open_oldest e)
unfolding open_on
act-open e b d t R =
    let f = R.outs e in (
      refl,
      cond-rest (has_waiting (ep_on d Out e)) (some (bytes_of (t.outs e).waiting)) (held-some f.held)
          (λ h. out-on R e (opened_of (ep_on d Out e)) (open_out (t.outs e)) (open-inner (ep_on d Out e)) (open-fits f h)
          (open-rest f h (R.arming e)))
          (λ h. R),
    )

-- ---- closed, taken

map_tail : {A : Type 0} (f : Packet → A) (w : List Packet) → map f (tail w) ≡ tail (map f w)
map_tail f [] = refl
map_tail f (q ∷ qs) = refl

read-ledger : {A : Type 0} (r w : List A) → (r ++ front w) ++ tail w ≡ r ++ w
read-ledger r [] = append_assoc r [] []
read-ledger r (q ∷ qs) = append_assoc r (q ∷ []) qs

-- the front page's clause of that name, of a page whose first is read
read_then_waiting : (p : OutPage) → p.read ++ p.waiting ≡ p.admitted → (read_out p).read ++ (read_out p).waiting
    ≡ (read_out p).admitted
read_then_waiting p h = read-ledger p.read p.waiting ∙ h

short-tail : (n : ℕ) (w : List Packet) → Short n w → Short n (tail w)
short-tail n [] h = tt
short-tail n (q ∷ qs) h = h.1

close-inner : (r : EpState) → Inner r (closed_of r)
unfolding closed_of passed_of
close-inner r = record { place = record { base = refl; stride = refl; slots = refl }; plain = refl }

module _ {b : Buf} {r : EpState} {ls ss : List ℕ} {p : OutPage} (f : OutFits b r ls ss p) (w : 0 < count_of r) where
  close-fits : OutFits b (closed_of r) ls ss (read_out p)
  unfolding closed_of passed_of
  close-fits = record {
    held = record {
      placed = place-placed (closed-place r) f.held.placed;
      ring = close-ring f.held.placed f.held.ring w;
      least = f.held.least;
      waits = close-waits f.held.placed f.held.ring w b ∙ ap (λ x. tail x) f.held.waits
          ∙ sym (map_tail (λ (q : Packet). q.bytes) p.waiting);
    };
    stamps = close-stamps f.held.placed f.held.ring ss w ∙ ap (λ x. tail x) f.stamps
        ∙ sym (map_tail (λ (q : Packet). q.stamp) p.waiting);
    opened = refl;
    shows = closed-shows r;
    lost = f.lost;
    slot = f.slot;
    from = f.from;
    upto = f.upto;
    ledger = read_then_waiting p f.ledger;
    short = short-tail r.max_len p.waiting f.short;
  }

  close-rest : {u : Bool} → AtRest u r p → AtRest u (closed_of r) (read_out p)
  unfolding closed_of passed_of
  close-rest a = record {
    armed = λ h. a.armed h ∙ sym (place-addr (closed-place r) r.head);
    none = λ h. absurd (omega (arith, a.none h));
  }

read_out_lem : {b : Buf} {d : Driver} {t : Pages} → Coupling quiet b d t → (e : ℕ) → 0 < count_of (ep_on d Out e)
    → Coupling quiet b (with_on d Out e (closed_of (ep_on d Out e))) (with_out t e (read_out (t.outs e)))
read_out_lem {d = d} {t = t} R e w =
    let f = R.outs e in
    out-on R e (closed_of (ep_on d Out e)) (read_out (t.outs e)) (close-inner (ep_on d Out e)) (close-fits f w)
    (close-rest f w (R.arming e))

-- a packet that is open waits
open-count : (r : EpState) → Shows r → is_on r.«open» ≡ true → 0 < count_of r
unfolding is_on
open-count r s h = s (not-true (eqb r.«open» 0) h)

pub act-close : (e : ℕ) → ActAgrees (script.close_oldest e)
unfolding close_on
act-close e b d t R = (
  refl,
  cond-rest (is_on (ep_on d Out e).«open») (t.outs e).opened (ap is_on (R.outs e).opened
      ∙ flag-on (t.outs e).opened)
      (λ h. read_out_lem R e (open-count (ep_on d Out e) (R.outs e).shows h))
      (λ h. R),
)

pub act-take : (e : ℕ) → ActAgrees (script.take_oldest e)
unfolding take_on
act-take e b d t R = (
  refl,
  cond-rest (has_waiting (ep_on d Out e)) (some (bytes_of (t.outs e).waiting)) (held-some (R.outs e).held)
      (λ h. read_out_lem R e (waits-count (ep_on d Out e) h))
      (λ h. R),
)

-- ---- a ring emptied

empty-inner : (r : EpState) → Inner r (emptied r)
unfolding emptied
empty-inner r = record { place = record { base = refl; stride = refl; slots = refl }; plain = refl }

empty-fits : {b : Buf} {r : EpState} {ls ss : List ℕ} {p : OutPage} → OutFits b r ls ss p
    → OutFits b (emptied r) ls ss (empty_out p)
unfolding emptied
empty-fits {b} {r} {ls} {ss} {p} f = empty-out refl refl refl
    (record {
      placed = place-placed (empty-inner r).place f.held.placed;
      ring = reset_ring (emptied r) refl refl (r.slots - 1) ls f.held.ring.whole f.held.ring.capped;
      least = f.held.least;
      waits = reset-waits (emptied r) refl refl b ls;
    })
    p (record { lost = f.lost; slot = f.slot; from = f.from; upto = f.upto }) ss

empty-count : (r : EpState) → count_of (emptied r) ≡ 0
unfolding emptied
empty-count r = reset-count (emptied r) refl refl

pub act-reset-out : (e : ℕ) → ActAgrees (script.reset_ring Out e)
unfolding emptied_on iso_out
act-reset-out e b d t R = (
  refl,
  cond-rest (is_on (ep_on d Out e).iso) (iso_of t Out e) (ap (λ (p : EpCore). is_on p.iso) (R.same.plain Out e))
      (λ h. R)
      (λ h. out-on R e (emptied (ep_on d Out e)) (empty_out (t.outs e)) (empty-inner (ep_on d Out e))
      (empty-fits (R.outs e))
      (record {
        armed = λ u. absurd (true≢false (sym u ∙ plain-receives R e h));
        none
            = λ u. empty-count (ep_on d Out e);
      })),
)
