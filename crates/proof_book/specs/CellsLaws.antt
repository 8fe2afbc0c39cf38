-- What is read and assigned agrees, and so do the questions
use Rattle.std.specs.Prelude.{Bool, true, false, List, ◌≢◌, ◌≡◌, refl, ℕ, ◌+◌, ◌-◌, ◌%◌}
use Rattle.std.proofs.Common.{ap, subst, sym, ◌∙◌, eq-eqb, ne_eqb, length-set}
use Rattle.std.proofs.Math.Decide.{ℕ_discrete}
use Rattle.bits.specs.Bit.{bit_is_set}
use Rattle.regs.specs.declared.Access.{Access}
use Rattle.regs.specs.declared.Access.TheVariants.{Read, Write, Receive, Transmit, Ep0Dma, Wait, Callback}
use Rattle.regs.specs.declared.Dir.{Dir}
use Rattle.regs.specs.declared.Dir.TheVariants.{Out, In}
use Rattle.state.specs.declared.EpState.{EpState}
use Rattle.state.specs.declared.Globals.{Globals}
use Rattle.state.specs.declared.Allocator.{Allocator}
use Rattle.state.specs.Driver.{Driver, key, ep_on, with_on, len_on, stamp_on, paced_on, with_paced_on, request_on}
use Rattle.state.specs.Driver.{with_request_on, with_globals, with_control, with_wakes}
use Rattle.state.specs.Wakes.{Wakes}
use Rattle.state.specs.Laws.{Sized, ep_on-same, ep_on-other, paced_on-same, paced_on-other, request_on-same, request_on-other}
use Rattle.state.specs.Laws.{key-same, key_apart}
use Rattle.alloc.specs.Alloc.{allocated_ins}
use Rattle.ring.specs.Slot.{slot_addr}
use Rattle.ring.specs.Waiting.{waiting, Alike}
use Rattle.ring.specs.Laws.{place-placed, place-addr, alike-count, alike-waits, alike-ring}
use Rattle.script.specs.Simulates.{quiet, Bare}
use Rattle.script.specs.Cells.{EpCore, Cell, Val, globals-cell, control-cell, allocator-cell, ep-cell, request-cell}
use Rattle.script.specs.Cells.{paced_cell}
use Rattle.script.specs.Statics.{iso_outs}
use Rattle.script.specs.Machine.{Buf}
use Rattle.script_ops.specs.Records.{plain_of, merged, merged_globals}
use Rattle.script_ops.specs.Concrete.{concrete}
use Rattle.proof_book.specs.Pages.{bytes_of, OutPage, InPage, Kept, Pages, at, on, with_kept, kept_wakes}
use Rattle.proof_book.specs.Book.{book_ops, feed_b, merged_plain}
use Rattle.proof_book.specs.Coupling.{Short, SameKept, Shape, Held, OutFits, InFits, AtRest}
use Rattle.proof_book.specs.Coupling.{Coupling, Good, lens_of, slot_stamps}
use Rattle.proof_book.specs.FrameLaws.{alike-tail, stands-moved}
use Rattle.proof_book.specs.KeptLaws.{same_values, same_tables}
use Rattle.proof_book.specs.StampsLaws.{alike-stamps}

-- ---- an endpoint's key decides its record

pub key-by : (dir : Dir) (x e : ℕ) → x % 16 ≡ e % 16 → key dir x ≡ key dir e
unfolding key
key-by Out x e h = h
key-by In x e h = ap (16 +◌) h

pub ep_on-by : (d : Driver) (dir : Dir) (x e : ℕ) → x % 16 ≡ e % 16 → ep_on d dir x ≡ ep_on d dir e
unfolding ep_on
ep_on-by d dir x e h = rw (key-by dir x e h) refl

pub other_key : (dir : Dir) (x e : ℕ) → x % 16 ≢ e % 16 → key dir x ≢ key dir e
other_key dir x e h q = h (key-same dir x e q)

pub other-dir : (x e : ℕ) → key In x ≢ key Out e
other-dir x e q = key_apart e x (sym q)

-- one endpoint, and the others
pub on-key : (P : Dir → ℕ → Type 0) (dir : Dir) (e : ℕ) → ((x : ℕ) → x % 16 ≡ e % 16 → P dir x)
    → ((dir' : Dir) (x : ℕ) → key dir' x ≢ key dir e → P dir' x) → (dir' : Dir) (x : ℕ) → P dir' x
on-key P dir e here there dir' x = by dir dir' here there (ℕ_discrete (key dir' x) (key dir e))
  where
    by : (dir dir' : Dir) → ((x : ℕ) → x % 16 ≡ e % 16 → P dir x)
        → ((dir' : Dir) (x : ℕ) → key dir' x ≢ key dir e → P dir' x) → Dec (key dir' x ≡ key dir e) → P dir' x
    by Out Out y n (yes q) = y x (key-same Out x e q)
    by In In y n (yes q) = y x (key-same In x e q)
    by Out In y n (yes q) = absurd (key_apart e x (sym q))
    by In Out y n (yes q) = absurd (key_apart x e q)
    by dir dir' y n (no q) = n dir' x q

-- ---- records whose ring and place are as they were

pub record Kin (r r' : EpState) : Type 0 where
  pub alike : Alike r r'
  pub iso : r'.iso ≡ r.iso
  pub least : r'.max_len ≡ r.max_len
  pub opened : r'.«open» ≡ r.«open»
  pub overruns : r'.overruns ≡ r.overruns
  pub slot : r'.armed_slot ≡ r.armed_slot
  pub loaded : r'.loaded ≡ r.loaded

pub merged-kin : (r : EpState) (v : EpCore) → Kin r (merged r v)
merged-kin r v =
    let a : Alike r (merged r v) = record {
      place = record { base = refl; stride = refl; slots = refl };
      head
          = refl;
      tail = refl;
    } in
    record { alike = a; iso = refl; least = refl; opened = refl; overruns = refl; slot = refl; loaded = refl }

pub kin-refl : (r : EpState) → Kin r r
kin-refl r = merged-kin r (plain_of r)

pub kin-by : {r r' r'' : EpState} → Kin r r' → r'' ≡ r' → Kin r r''
kin-by {r = r} k e = subst (λ z. Kin r z) (sym e) k

module _ {r r' : EpState} (k : Kin r r') where
  pub kin-shape : (used : Bool) (a : Allocator) (dir : Dir) → Shape used a dir r → Shape used a dir r'
  kin-shape true a dir s = record {
    stride = k.alike.place.stride ∙ s.stride;
    slots = rw k.iso (k.alike.place.slots ∙ s.slots);
    below = rw (k.alike.place.base, k.alike.place.slots, k.alike.place.stride) s.below;
  }
  kin-shape false a dir s = record {
    iso = k.iso ∙ s.iso;
    base = k.alike.place.base ∙ s.base;
    stride = k.alike.place.stride ∙ s.stride;
    slots = k.alike.place.slots ∙ s.slots;
  }

  pub kin-held : {most : ℕ} {b : Buf} {ls : List ℕ} {w : List (List ℕ)} → Held most b r ls w → Held most b r' ls w
  kin-held {b = b} {ls = ls} h = record {
    placed = place-placed k.alike.place h.placed;
    ring = alike-ring k.alike h.ring;
    least = rw (k.least, k.alike.place.stride) h.least;
    waits = alike-waits k.alike b ls h.ring.tail8 ∙ h.waits;
  }

  pub kin-out : {b : Buf} {ls ss : List ℕ} {p : OutPage} → OutFits b r ls ss p → OutFits b r' ls ss p
  kin-out {b = b} {ls = ls} {ss = ss} {p = p} f = record {
    held = subst (λ n. Held (n - 1) b r' ls (bytes_of p.waiting)) (sym k.alike.place.slots) (kin-held f.held);
    stamps = alike-stamps k.alike ss f.held.ring.tail8 ∙ f.stamps;
    opened = k.opened ∙ f.opened;
    shows = λ e. rw (alike-count k.alike) (f.shows (rw k.opened at e));
    lost = k.overruns ∙ f.lost;
    slot = k.slot ∙ f.slot;
    from = rw k.alike.place.base f.from;
    upto = rw (k.alike.place.base, k.alike.place.slots, k.alike.place.stride) f.upto;
    ledger = f.ledger;
    short = subst (λ (n : ℕ). Short n p.waiting) (sym k.least) f.short;
  }

  pub kin-in : {b : Buf} {ls : List ℕ} {p : InPage} → InFits b r ls p → InFits b r' ls p
  kin-in {b = b} {ls = ls} {p = p} f = record {
    held = subst (λ n. Held n b r' ls p.waiting) (sym k.alike.place.slots) (kin-held f.held);
    ringless = λ e. rw (alike-count k.alike) (f.ringless (rw k.iso at e));
    loaded = k.loaded ∙ f.loaded;
    sends = λ e. rw (alike-count k.alike) (f.sends (rw k.loaded at e));
    turn = rw k.alike.head f.turn;
    ledger = f.ledger;
    reached = f.reached;
    stands = stands-moved (alike-tail k.alike) k.alike.place.stride f.stands;
  }

  pub kin-rest : {on : Bool} {p : OutPage} → AtRest on r p → AtRest on r' p
  kin-rest a = record {
    armed = λ e. a.armed e ∙ sym (place-addr k.alike.place r.head) ∙ ap (slot_addr r') (sym k.alike.head);
    none = λ e. alike-count k.alike ∙ a.none e;
  }

-- ---- the relation where no ring moves

-- driver and book with the same rings, sets and buffers; the kept values agree
pub record SameRings (d d' : Driver) : Type 0 where
  pub sized : Sized d'
  pub allocator : d'.allocator ≡ d.allocator
  pub config : d'.globals.ep_config ≡ d.globals.ep_config
  pub isos : d'.globals.iso_out_eps ≡ d.globals.iso_out_eps
  pub stage : d'.globals.stage ≡ d.globals.stage
  pub ep0_buf : d'.globals.ep0_buf ≡ d.globals.ep0_buf
  pub ep0_max : d'.globals.ep0_max ≡ d.globals.ep0_max
  pub kin : (dir : Dir) (e : ℕ) → Kin (ep_on d dir e) (ep_on d' dir e)
  pub lens : (dir : Dir) (e : ℕ) → lens_of d' dir e ≡ lens_of d dir e
  pub stamps : (e : ℕ) → slot_stamps d' e ≡ slot_stamps d e

iso_outs-by : (g g' : Globals) → g'.ep_config ≡ g.ep_config → g'.iso_out_eps ≡ g.iso_out_eps → iso_outs g'
    ≡ iso_outs g
unfolding iso_outs
iso_outs-by g g' c i = rw (c, i) refl

module _ {b : Buf} {d d' : Driver} {t t' : Pages} (r : Coupling quiet b d t) (s : SameRings d d') where
  pub still : SameKept d' t'.kept → t'.outs ≡ t.outs → t'.ins ≡ t.ins → Coupling quiet b d' t'
  unfolding ep_on
  still k o i = record {
    step = tt;
    sized = s.sized;
    sound = rw s.allocator r.sound;
    good = rw s.allocator r.good;
    long = rw s.allocator r.long;
    same = k;
    shape = λ dir e. rw s.allocator (kin-shape (s.kin dir e) (bit_is_set (allocated_ins d.allocator dir) (e % 16))
        d.allocator dir (r.shape dir e));
    outs = λ e. rw (s.lens Out e, s.stamps e, o) (kin-out (s.kin Out e) (r.outs e));
    ins = λ e. rw (s.lens In e, i) (kin-in (s.kin In e) (r.ins e));
    arming = λ e. rw (iso_outs-by d.globals d'.globals s.config s.isos, o)
        (kin-rest (s.kin Out e) (r.arming e));
    apart = λ dir dir' e e' h. rw (
      (s.kin dir e).alike.place.base,
      (s.kin dir e).alike.place.slots,
      (s.kin dir e).alike.place.stride,
      (s.kin dir' e').alike.place.base,
      (s.kin dir' e').alike.place.slots,
      (s.kin dir' e').alike.place.stride,
    ) (r.apart dir dir' e e' h);
    ep0_below = rw (s.ep0_buf, s.stage, s.allocator) r.ep0_below;
    ep0_apart = λ dir e. rw (
      s.ep0_buf,
      s.stage,
      s.allocator,
      (s.kin dir e).alike.place.base,
      (s.kin dir e).alike.place.slots,
      (s.kin dir e).alike.place.stride,
    ) (r.ep0_apart dir e);
    ep0_lies = rw (s.ep0_buf, s.allocator) r.ep0_lies;
    ep0_least = rw (s.ep0_max, s.stage, s.allocator) r.ep0_least;
    isos = λ e. rw (s.isos, (s.kin Out e).iso) (r.isos e);
  }

-- ---- get

pub gets : (c : Cell) (b : Buf) (d : Driver) (t : Pages) → Coupling quiet b d t → concrete.get c (d, b)
    ≡ book_ops.get c (t, b)
gets globals-cell b d t r = r.same.globals
gets control-cell b d t r = r.same.control
gets allocator-cell b d t r = r.same.allocator
gets (ep-cell dir e) b d t r = r.same.plain dir e
gets (request-cell dir e) b d t r = r.same.requests dir e
gets (paced_cell e) b d t r = r.same.paced e

-- ---- put

-- a change of other records than the endpoints' and of globals that scripts assign
others-still : (d d' : Driver) → d'.eps ≡ d.eps → d'.lens ≡ d.lens → d'.stamps ≡ d.stamps
    → d'.allocator ≡ d.allocator → d'.globals ≡ merged_globals d.globals d'.globals → Sized d' → SameRings d d'
unfolding ep_on len_on stamp_on
others-still d d' p q w a g z = record {
  sized = z;
  allocator = a;
  config = ap (λ (x : Globals). x.ep_config) g;
  isos = ap (λ (x : Globals). x.iso_out_eps) g;
  stage = ap (λ (x : Globals). x.stage) g;
  ep0_buf = ap (λ (x : Globals). x.ep0_buf) g;
  ep0_max = ap (λ (x : Globals). x.ep0_max) g;
  kin = λ dir e. kin-by (kin-refl (ep_on d dir e)) (rw p refl);
  lens = λ dir e. rw q refl;
  stamps = λ e. rw w refl;
}

globals-still : (d : Driver) (v : Globals) → Sized d → SameRings d (with_globals d (merged_globals d.globals v))
globals-still d v z = others-still d _ refl refl refl refl refl
    (record { eps = z.eps; lens = z.lens; stamps = z.stamps; paced = z.paced; requests = z.requests })

wakes-still : (d : Driver) (v : _) → Sized d → SameRings d (with_wakes d v)
wakes-still d v z = others-still d _ refl refl refl refl refl
    (record { eps = z.eps; lens = z.lens; stamps = z.stamps; paced = z.paced; requests = z.requests })

control-still : (d : Driver) (v : _) → Sized d → SameRings d (with_control d v)
control-still d v z = others-still d _ refl refl refl refl refl
    (record { eps = z.eps; lens = z.lens; stamps = z.stamps; paced = z.paced; requests = z.requests })

paced-still : (d : Driver) (e v : ℕ) → Sized d → SameRings d (with_paced_on d e v)
unfolding with_paced_on
paced-still d e v z = others-still d _ refl refl refl refl refl (record {
  eps = z.eps;
  lens = z.lens;
  stamps = z.stamps;
  paced = length-set d.paced (e % 16) v ∙ z.paced;
  requests = z.requests;
})

request-still : (d : Driver) (dir : Dir) (e : ℕ) (v : _) → Sized d → SameRings d (with_request_on d dir e v)
unfolding with_request_on
request-still d dir e v z = others-still d _ refl refl refl refl refl (record {
  eps = z.eps;
  lens = z.lens;
  stamps = z.stamps;
  paced = z.paced;
  requests = length-set d.requests (key dir e) v ∙ z.requests;
})

-- what stands at one endpoint, and at the others
pub at_same : {A : Type 0} (e x : ℕ) (v : A) (f : ℕ → A) → x % 16 ≡ e % 16 → at e v f x ≡ v
at_same e x v f h = rw (eq-eqb (x % 16) (e % 16) h) refl

pub at_other : {A : Type 0} (e x : ℕ) (v : A) (f : ℕ → A) → x % 16 ≢ e % 16 → at e v f x ≡ f x
at_other e x v f h = rw (ne_eqb (x % 16) (e % 16) h) refl

by_key : (d : Driver) (dir dir' : Dir) (x e : ℕ) → key dir x ≡ key dir' e → ep_on d dir x ≡ ep_on d dir' e
unfolding ep_on
by_key d dir dir' x e h = rw h refl

-- a record replaced by one of its kin
pub record-kin : (d : Driver) (dir : Dir) (e : ℕ) (r : EpState)
    → Sized d → Kin (ep_on d dir e) r → (dir' : Dir) (x : ℕ) → Kin (ep_on d dir' x) (ep_on (with_on d dir e r) dir' x)
record-kin d dir e r z k dir' x = elim (ℕ_discrete (key dir' x) (key dir e)) [
  | yes h ↦ (let p = by_key (with_on d dir e r) dir' dir x e h in let q = by_key d dir' dir x e h in
      subst (λ y. Kin y (ep_on (with_on d dir e r) dir' x)) (sym q) (kin-by k (p ∙ ep_on-same d dir e r z)))
  | no h ↦ kin-by (kin-refl (ep_on d dir' x)) (ep_on-other d dir e r dir' x h)
]

pub record-still : (d : Driver) (dir : Dir) (e : ℕ) (r : EpState) → Sized d → Kin (ep_on d dir e) r
    → SameRings d (with_on d dir e r)
unfolding len_on stamp_on with_on
record-still d dir e r z k = record {
  sized = record {
    eps = length-set d.eps (key dir e) r ∙ z.eps;
    lens = z.lens;
    stamps = z.stamps;
    paced
        = z.paced;
    requests = z.requests;
  };
  allocator = refl;
  config = refl;
  isos = refl;
  stage = refl;
  ep0_buf = refl;
  ep0_max = refl;
  kin = record-kin d dir e r z k;
  lens = λ dir e. refl;
  stamps = λ e. refl;
}

-- what the driver has for each endpoint, and the book, after one was assigned
module _ {A : Type 0} (old new m : Dir → ℕ → A) (dir : Dir) (e : ℕ) (v : A)
    (h : (dir : Dir) (e : ℕ) → old dir e ≡ m dir e) (here : (x : ℕ) → x % 16 ≡ e % 16 → new dir x ≡ v)
    (there : (dir' : Dir) (x : ℕ) → key dir' x ≢ key dir e → new dir' x ≡ old dir' x) where
  pub on-put : (dir' : Dir) (x : ℕ) → new dir' x ≡ on dir e v m dir' x
  on-put dir' x = by dir dir' here there (ℕ_discrete (x % 16) (e % 16))
    where
      by : (dir dir' : Dir) → ((x : ℕ) → x % 16 ≡ e % 16 → new dir x ≡ v)
          → ((dir' : Dir) (x : ℕ) → key dir' x ≢ key dir e → new dir' x ≡ old dir' x)
          → Dec (x % 16 ≡ e % 16) → new dir' x ≡ on dir e v m dir' x
      by Out Out y n (yes q) = y x q ∙ sym (at_same e x v (m Out) q)
      by Out Out y n (no q) = n Out x (other_key Out x e q) ∙ (h Out x ∙ sym (at_other e x v (m Out) q))
      by Out In y n q = n In x (other-dir x e) ∙ h In x
      by In Out y n q = n Out x (key_apart x e) ∙ h Out x
      by In In y n (yes q) = y x q ∙ sym (at_same e x v (m In) q)
      by In In y n (no q) = n In x (other_key In x e q) ∙ (h In x ∙ sym (at_other e x v (m In) q))

-- of a record replaced
pub plain-put : (d : Driver) (k : Kept) (dir : Dir) (e : ℕ) (r : EpState) → Sized d
    → ((dir : Dir) (e : ℕ) → plain_of (ep_on d dir e) ≡ k.plain dir e)
    → (v : EpCore) → plain_of r ≡ v → (dir' : Dir) (x : ℕ) → plain_of (ep_on (with_on d dir e r) dir' x)
    ≡ on dir e v k.plain dir' x
plain-put d k dir e r z h v q = on-put (λ dir e. plain_of (ep_on d dir e))
    (λ dir' x. plain_of (ep_on (with_on d dir e r) dir' x)) k.plain dir e v h
    (λ x p. ap plain_of (ep_on-by (with_on d dir e r) dir x e p ∙ ep_on-same d dir e r z) ∙ q)
    (λ dir' x p. ap plain_of (ep_on-other d dir e r dir' x p))

request_on-by : (d : Driver) (dir : Dir) (x e : ℕ) → x % 16 ≡ e % 16 → request_on d dir x ≡ request_on d dir e
unfolding request_on
request_on-by d dir x e h = rw (key-by dir x e h) refl

paced_on-by : (d : Driver) (x e : ℕ) → x % 16 ≡ e % 16 → paced_on d x ≡ paced_on d e
unfolding paced_on
paced_on-by d x e h = rw h refl

paced-put : (d : Driver) (k : Kept) (e v : ℕ) → Sized d → ((e : ℕ) → paced_on d e ≡ k.paced e) → (x : ℕ)
    → paced_on (with_paced_on d e v) x ≡ at e v k.paced x
paced-put d k e v z h x = elim (ℕ_discrete (x % 16) (e % 16)) [
  | yes q ↦ paced_on-by (with_paced_on d e v) x e q ∙ (paced_on-same d e v z ∙ sym (at_same e x v k.paced q))
  | no q ↦ paced_on-other d e v x q ∙ (h x ∙ sym (at_other e x v k.paced q))
]

pub puts : (c : Cell) (v : Val c) (b : Buf) (d : Driver) (t : Pages) → Coupling quiet b d t
    → ((concrete.put c v (d, b)).1 ≡ (book_ops.put c v (t, b)).1)
    × Coupling quiet (concrete.put c v (d, b)).1 (concrete.put c v (d, b)).0 (book_ops.put c v (t, b)).0
unfolding ep_on with_on request_on with_request_on paced_on with_paced_on
puts globals-cell v b d t r = (
  refl,
  still r (globals-still d v r.sized) (same_values r.same (λ e. refl, λ dir e. refl, λ dir e. refl)
      (ap (λ (g : Globals). merged_globals g v) r.same.globals) r.same.wakes r.same.control
      r.same.allocator) refl refl,
)
puts control-cell v b d t r = (
  refl,
  still r (control-still d v r.sized) (same_values r.same (λ e. refl, λ dir e. refl, λ dir e. refl)
      r.same.globals r.same.wakes refl r.same.allocator) refl refl,
)
puts allocator-cell v b d t r = (refl, r)
puts (ep-cell dir e) v b d t r = (
  refl,
  still r (record-still d dir e (merged (ep_on d dir e) v) r.sized (merged-kin (ep_on d dir e) v))
      (same_tables r.same refl r.same.paced r.same.requests
      (plain-put d t.kept dir e (merged (ep_on d dir e) v) r.sized r.same.plain
      (merged_plain (t.kept.plain dir e) v) (ap (λ (p : EpCore). merged_plain p v) (r.same.plain dir e)))) refl refl,
)
puts (request-cell dir e) v b d t r = (
  refl,
  still r (request-still d dir e v r.sized)
      (same_tables r.same refl r.same.paced
      (on-put (request_on d) (request_on (with_request_on d dir e v)) t.kept.requests dir e v r.same.requests
      (λ x p. request_on-by (with_request_on d dir e v) dir x e p ∙ request_on-same d dir e v r.sized)
      (λ dir' x p. request_on-other d dir e v dir' x p))
      r.same.plain) refl refl,
)
puts (paced_cell e) v b d t r = (
  refl,
  still r (paced-still d e v r.sized)
      (same_tables r.same refl (paced-put d t.kept e v r.sized r.same.paced) r.same.requests
      r.same.plain) refl refl,
)

-- ---- wake-ups

pub wakes-kept : {b : Buf} {d : Driver} {t : Pages} → Coupling quiet b d t
    → (v w : Wakes) → v ≡ w → Coupling quiet b (with_wakes d v) (with_kept t (kept_wakes t.kept w))
unfolding paced_on request_on ep_on
wakes-kept {d = d} r v w e = still r (wakes-still d v r.sized)
    (same_values r.same (λ e. refl, λ dir e. refl, λ dir e. refl) r.same.globals e r.same.control
    r.same.allocator) refl refl

-- ---- accesses without an address

pub unfed : (q : Access) → Bare q → (t : Pages) → feed_b q t ≡ t
unfed (Read r e) h t = refl
unfed (Write r e v) h t = refl
unfed (Receive e x) h t = absurd h
unfed (Transmit e x) h t = absurd h
unfed (Ep0Dma x) h t = absurd h
unfed (Wait n) h t = refl
unfed Callback h t = refl

pub good_bare : (q : Access) → Bare q → (b : Buf) (t : Pages) → Good q b t
good_bare (Read r e) h b t = tt
good_bare (Write r e v) h b t = tt
good_bare (Receive e x) h b t = absurd h
good_bare (Transmit e x) h b t = absurd h
good_bare (Ep0Dma x) h b t = absurd h
good_bare (Wait n) h b t = tt
good_bare Callback h b t = tt
