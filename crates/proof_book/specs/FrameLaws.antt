-- One endpoint's record, lengths, stamps, page and bytes changed: what holds between calls holds of all others still
use Rattle.std.specs.Prelude.{Bool, true, false, cond, ◌&&◌, ◌≢◌, ◌⊎◌, ◌≡◌, ℕ, zero, suc, ◌+◌, ◌*◌, ◌%◌, ◌≤◌, ◌<◌, eqb, length}
use Rattle.std.proofs.Common.{true≢false, inl, inr, subst, sym, ◌∙◌, arith, eqb-true}
use mathlib.Core.List.{List}
use Rattle.std.proofs.Math.Path.{refl, ap}
use Rattle.std.proofs.Math.Decide.{ℕ_discrete}
use Rattle.std.proofs.lemmas.Bool.{eqb-false}
use Rattle.std.proofs.Math.ListN.{get_or, length-set}
use Rattle.bits.specs.Bit.{bit_is_set}
use Rattle.regs.specs.declared.Dir.{Dir}
use Rattle.regs.specs.declared.Dir.TheVariants.{Out, In}
use Rattle.state.specs.declared.EpState.{EpState}
use Rattle.state.specs.declared.Allocator.{Allocator}
use Rattle.state.specs.declared.Globals.{Globals}
use Rattle.state.specs.declared.Request.{Request}
use Rattle.state.specs.Fresh.{clear_stamps}
use Rattle.state.specs.Driver.{Driver, key, len_key, stamp_key, no_request, ep_on, with_on, with_len_on, with_stamp_on, paced_on}
use Rattle.state.specs.Driver.{request_on}
use Rattle.state.specs.Laws.{Sized, key_apart, ep_on-same, ep_on-other}
use Rattle.alloc.specs.Alloc.{allocated_ins, slots_of}
use Rattle.ring.specs.Slot.{slot_addr, count_of}
use Rattle.ring.specs.Slots.{slot-from, slot-upto}
use Rattle.ring.specs.Waiting.{waiting, Same, Only, Placed, SamePlace, Alike}
use Rattle.ring.specs.Laws.{waiting-foreign, place-trans, place-addr}
use Rattle.ring.specs.Only as marks
use Rattle.script.specs.Cells.{EpCore}
use Rattle.script.specs.Script.{switch, bus_reset_lem}
use Rattle.script.specs.Simulates.{Phase, quiet, mid}
use Rattle.script.specs.Statics.{is_on, flag, iso_outs}
use Rattle.script.specs.Machine.{Buf}
use Rattle.script_ops.specs.Records.{plain_of}
use Rattle.script_ops.specs.Stamps.{length-filled}
use Rattle.proof_book.specs.Pages.{OutPage, InPage, Kept, Pages, at, on, with_kept, with_out, with_in, kept_plain}
use Rattle.proof_book.specs.LensLaws.{key-mod, key-other, ep-mod, lens-mod, key-ep, lens-on, ep-len}
use Rattle.proof_book.specs.LensLaws.{lens-set-other}
use Rattle.proof_book.specs.LensLaws.{stamps-mod, stamps-on, stamps-len, ep-stamp, lens-stamp, stamps-set-other}
use Rattle.proof_book.specs.LensLaws.{ep-clear, lens-clear, stamps-clear-other}
use Rattle.proof_book.specs.KeptLaws.{Values, values_of, same_tables}
use Rattle.proof_book.specs.Coupling.{SameKept, end_of, Shape, Apart, ep0_room, lens_of, slot_stamps, Held, OutFits}
use Rattle.proof_book.specs.Coupling.{InFits, Stands, InRow, Arming, PhaseStep, Coupling}
use Rattle.proof_book.specs.Book.{with_sending}

-- ---- one endpoint's record, lengths and stamps changed, its buffers where they were

pub record Changed (dir : Dir) (e : ℕ) (d d' : Driver) : Type 0 where
  pub sized : Sized d'
  pub globals : d'.globals ≡ d.globals
  pub wakes : d'.wakes ≡ d.wakes
  pub control : d'.control ≡ d.control
  pub allocator : d'.allocator ≡ d.allocator
  pub paced : d'.paced ≡ d.paced
  pub requests : d'.requests ≡ d.requests
  pub eps : (dir' : Dir) (x : ℕ) → key dir' x ≢ key dir e → ep_on d' dir' x ≡ ep_on d dir' x
  pub lens : (dir' : Dir) (x : ℕ) → key dir' x ≢ key dir e → lens_of d' dir' x ≡ lens_of d dir' x
  pub stamps : (x : ℕ) → key Out x ≢ key dir e → slot_stamps d' x ≡ slot_stamps d x
  pub place : SamePlace (ep_on d dir e) (ep_on d' dir e)
  pub iso : (ep_on d' dir e).iso ≡ (ep_on d dir e).iso

pub same_place : (r : EpState) → SamePlace r r
same_place r = record { base = refl; stride = refl; slots = refl }

-- all but records, lengths and stamps
abbrev pub Rest : Type 0
Rest = Values × List ℕ × List Request

abbrev pub rest_of : Driver → Rest
rest_of d = (values_of d, d.paced, d.requests)

pub changed-by : {dir : Dir} {e : ℕ} {d d' : Driver} → Sized d' → rest_of d' ≡ rest_of d
    → ((dir' : Dir) (x : ℕ) → key dir' x ≢ key dir e → ep_on d' dir' x ≡ ep_on d dir' x)
    → ((dir' : Dir) (x : ℕ) → key dir' x ≢ key dir e → lens_of d' dir' x ≡ lens_of d dir' x)
    → ((x : ℕ) → key Out x ≢ key dir e → slot_stamps d' x ≡ slot_stamps d x)
    → SamePlace (ep_on d dir e) (ep_on d' dir e) → (ep_on d' dir e).iso ≡ (ep_on d dir e).iso → Changed dir e d d'
changed-by z r eps lens stamps place iso = record {
  sized = z;
  globals = ap (λ (x : Rest). x.0.0) r;
  wakes = ap (λ (x : Rest). x.0.1) r;
  control = ap (λ (x : Rest). x.0.2) r;
  allocator = ap (λ (x : Rest). x.0.3) r;
  paced = ap (λ (x : Rest). x.1) r;
  requests = ap (λ (x : Rest). x.2) r;
  eps = eps;
  lens = lens;
  stamps = stamps;
  place = place;
  iso = iso;
}

-- no record changed
pub records-stay : {dir : Dir} {e : ℕ} {d d' : Driver} → Sized d' → rest_of d' ≡ rest_of d
    → ((dir' : Dir) (x : ℕ) → ep_on d' dir' x ≡ ep_on d dir' x)
    → ((dir' : Dir) (x : ℕ) → key dir' x ≢ key dir e → lens_of d' dir' x ≡ lens_of d dir' x)
    → ((x : ℕ) → key Out x ≢ key dir e → slot_stamps d' x ≡ slot_stamps d x) → Changed dir e d d'
records-stay {dir} {e} {d} {d'} z r eps lens stamps = changed-by z r (λ dir' x _. eps dir' x) lens stamps
    (rw (eps dir e) (same_place (ep_on d dir e))) (ap (λ (r : EpState). r.iso) (eps dir e))

module _ {d : Driver} (s : Sized d) (dir : Dir) (e : ℕ) where
  pub changed-not : Changed dir e d d
  changed-not = records-stay s refl (λ dir' x. refl) (λ dir' x n. refl) (λ x n. refl)

  on-sized : (r : EpState) → Sized (with_on d dir e r)
  unfolding with_on
  on-sized r = record {
    eps = length-set d.eps (key dir e) r ∙ s.eps;
    lens = s.lens;
    stamps = s.stamps;
    paced
        = s.paced;
    requests = s.requests;
  }

  -- its record
  pub changed-on : (r : EpState) → SamePlace (ep_on d dir e) r → r.iso ≡ (ep_on d dir e).iso
      → Changed dir e d (with_on d dir e r)
  unfolding with_on
  changed-on r k i = changed-by (on-sized r) refl (λ dir' x n. ep_on-other d dir e r dir' x n)
      (λ dir' x n. lens-on d dir e r dir' x)
      (λ x n. stamps-on d dir e r x) (rw (ep_on-same d dir e r s) k) (rw (ep_on-same d dir e r s) i)

  len-sized : (i v : ℕ) → Sized (with_len_on d dir e i v)
  unfolding with_len_on
  len-sized i v = record {
    eps = s.eps;
    lens = length-set d.lens (len_key dir e i) v ∙ s.lens;
    stamps = s.stamps;
    paced = s.paced;
    requests = s.requests;
  }

  -- one of its lengths
  pub changed-len : (i v : ℕ) → Changed dir e d (with_len_on d dir e i v)
  unfolding with_len_on
  changed-len i v = records-stay (len-sized i v) refl (ep-len d dir e i v) (lens-set-other d dir e i v)
      (λ x n. stamps-len d dir e i v x)

  pub changed-trans : {d' d'' : Driver} → Changed dir e d d' → Changed dir e d' d'' → Changed dir e d d''
  changed-trans a c = record {
    sized = c.sized;
    globals = c.globals ∙ a.globals;
    wakes = c.wakes ∙ a.wakes;
    control = c.control ∙ a.control;
    allocator = c.allocator ∙ a.allocator;
    paced = c.paced ∙ a.paced;
    requests = c.requests ∙ a.requests;
    eps = λ dir' x n. c.eps dir' x n ∙ a.eps dir' x n;
    lens = λ dir' x n. c.lens dir' x n ∙ a.lens dir' x n;
    stamps = λ x n. c.stamps x n ∙ a.stamps x n;
    place = place-trans a.place c.place;
    iso = c.iso ∙ a.iso;
  }

-- one of its stamps
pub changed-stamp : {d : Driver} → Sized d → (e i v : ℕ) → Changed Out e d (with_stamp_on d e i v)
unfolding with_stamp_on
changed-stamp {d} s e i v = records-stay
    (record {
      eps = s.eps;
      lens = s.lens;
      stamps = length-set d.stamps (stamp_key e i) v ∙ s.stamps;
      paced
          = s.paced;
      requests = s.requests;
    })
    refl (ep-stamp d e i v) (λ dir' x n. lens-stamp d e i v dir' x) (stamps-set-other d e i v)

-- all its stamps
pub changed-clear : {d : Driver} → Sized d → (e : ℕ) → Changed Out e d (clear_stamps d e)
unfolding clear_stamps
changed-clear {d} s e = records-stay
    (record {
      eps = s.eps;
      lens = s.lens;
      stamps = length-filled d.stamps (e % 16 * 16) 16 0 ∙ s.stamps;
      paced
          = s.paced;
      requests = s.requests;
    })
    refl (ep-clear d e) (λ dir' x n. lens-clear d e dir' x) (stamps-clear-other d e)

-- ---- pages and kept values of one endpoint changed

pub at-elim : {A : Type 0} (P : A → Type 0) (e x : ℕ) (v : A) (f : ℕ → A) → (x % 16 ≡ e % 16 → P v)
    → (x % 16 ≢ e % 16 → P (f x)) → P (at e v f x)
at-elim P e x v f p q = go (eqb (x % 16) (e % 16)) refl
  where
    go : (t : Bool) → eqb (x % 16) (e % 16) ≡ t → P (cond t v (f x))
    go true h = p (eqb-true (x % 16) (e % 16) h)
    go false h = q (eqb-false (x % 16) (e % 16) h)

pub on-elim : {A : Type 0} (P : A → Type 0) (dir dir' : Dir) (e x : ℕ) (v : A) (f : Dir → ℕ → A)
    → (key dir' x ≡ key dir e → P v) → (key dir' x ≢ key dir e → P (f dir' x)) → P (on dir e v f dir' x)
on-elim P Out Out e x v f p q = at-elim P e x v (f Out) (λ h. p (key-mod Out x e h)) (λ n. q (key-other Out x e n))
on-elim P Out In e x v f p q = q (λ h. key_apart e x (sym h))
on-elim P In Out e x v f p q = q (λ h. key_apart x e h)
on-elim P In In e x v f p q = at-elim P e x v (f In) (λ h. p (key-mod In x e h)) (λ n. q (key-other In x e n))

pub at_same : {A : Type 0} (e : ℕ) (v : A) (f : ℕ → A) → at e v f e ≡ v
at_same e v f = at-elim (λ y. y ≡ v) e e v f (λ h. refl) (λ n. absurd (n refl))

at-twice : {A : Type 0} (e : ℕ) (v w : A) (f : ℕ → A) (x : ℕ) → at e v (at e w f) x ≡ at e v f x
at-twice e v w f x = go (eqb (x % 16) (e % 16))
  where
    go : (t : Bool) → cond t v (cond t w (f x)) ≡ cond t v (f x)
    go true = refl
    go false = refl

pub out-same : (t : Pages) (e : ℕ) (p : OutPage) → (with_out t e p).outs e ≡ p
out-same t e p = at_same e p t.outs

pub out-twice : (t : Pages) (e : ℕ) (p q : OutPage) → with_out (with_out t e q) e p ≡ with_out t e p
out-twice t e p q i = record { kept = t.kept; outs = λ x. at-twice e p q t.outs x i; ins = t.ins }

pub in-same : (t : Pages) (e : ℕ) (p : InPage) → (with_in t e p).ins e ≡ p
in-same t e p = at_same e p t.ins

pub in_twice : (t : Pages) (e : ℕ) (p q : InPage) → with_in (with_in t e q) e p ≡ with_in t e p
in_twice t e p q i = record { kept = t.kept; outs = t.outs; ins = λ x. at-twice e p q t.ins x i }

module _ {dir : Dir} {e : ℕ} {d d' : Driver} (c : Changed dir e d d') where
  paced-same : (x : ℕ) → paced_on d' x ≡ paced_on d x
  unfolding paced_on
  paced-same x = ap (λ (l : List ℕ). get_or l (x % 16) 0) c.paced

  requests-same : (dir' : Dir) (x : ℕ) → request_on d' dir' x ≡ request_on d dir' x
  unfolding request_on
  requests-same dir' x = ap (λ l. get_or l (key dir' x) no_request) c.requests

  values_same : values_of d' ≡ values_of d
  values_same i = (c.globals i, c.wakes i, c.control i, c.allocator i)

  -- the kept values, where what scripts read of the record stays
  pub kept_same : {k : Kept} → plain_of (ep_on d' dir e) ≡ plain_of (ep_on d dir e) → SameKept d k → SameKept d' k
  kept_same {k} p s = same_tables s values_same (λ x. paced-same x ∙ s.paced x) (λ dir' x. requests-same dir' x
      ∙ s.requests dir' x)
      (λ dir' x. elim (ℕ_discrete (key dir' x) (key dir e)) [
        | yes h ↦ ap plain_of (key-ep d' dir' dir x e h) ∙ p ∙ ap plain_of (sym (key-ep d dir' dir x e h))
            ∙ s.plain dir' x
        | no n ↦ ap plain_of (c.eps dir' x n) ∙ s.plain dir' x
      ])

  -- and where it changes
  pub kept-plain : {k : Kept} {v : EpCore} → plain_of (ep_on d' dir e) ≡ v → SameKept d k
      → SameKept d' (kept_plain k dir e v)
  kept-plain {k} {v} p s = same_tables s values_same (λ x. paced-same x ∙ s.paced x) (λ dir' x. requests-same dir' x
      ∙ s.requests dir' x)
      (λ dir' x. on-elim (λ y. plain_of (ep_on d' dir' x) ≡ y) dir dir' e x v k.plain
      (λ h. ap plain_of (key-ep d' dir' dir x e h) ∙ p)
      (λ n. ap plain_of (c.eps dir' x n) ∙ s.plain dir' x))

-- ---- the one being sent

pub alike-tail : {r r' : EpState} → Alike r r' → slot_addr r' r'.tail ≡ slot_addr r r.tail
alike-tail {r} {r'} k = place-addr k.place r'.tail ∙ ap (slot_addr r) k.tail

pub stands-moved : {b : Buf} {r r' : EpState} {p : InPage}
    → slot_addr r' r'.tail ≡ slot_addr r r.tail → r'.stride ≡ r.stride → Stands b r p → Stands b r' p
stands-moved a q s = record { slot = λ h. s.slot h ∙ sym a; bytes = λ h k l u. s.bytes h k l (omega (arith, q)) }

-- where none is being sent
pub none-stands : {b : Buf} {r : EpState} {p : InPage} → p.sending ≡ false → Stands b r p
none-stands z = record { slot = λ h. absurd (true≢false (sym h ∙ z)); bytes = λ h. absurd (true≢false (sym h ∙ z)) }

flag-some : (s : Bool) (l : ℕ) → l ≡ flag s → s ≡ true → eqb l 0 ≡ false
flag-some true l h q = rw h refl
flag-some false l h q = absurd (true≢false (sym q))

pub sending-count : {b : Buf} {r : EpState} {ls : List ℕ} {p : InPage} → InFits b r ls p → p.sending ≡ true → 0
    < count_of r
sending-count {r = r} {p = p} f s = f.sends (flag-some p.sending r.loaded f.loaded s)

-- the same packets, in a buffer where they stand; whether the last address is a load's is free
pub in-again : {b b' : Buf} {r : EpState} {ls : List ℕ} {p : InPage} → InFits b r ls p → (l : Bool)
    → Held r.slots b' r ls p.waiting
    → let p' = with_sending p p.sending l p.source p.shown in Stands b' r p' → InFits b' r ls p'
in-again f l held stands = record {
  held = held;
  ringless = f.ringless;
  loaded = f.loaded;
  sends = f.sends;
  turn = f.turn;
  ledger = f.ledger;
  reached = f.reached;
  stands = stands;
}

-- ---- the buffer changed, away from those that wait

module _ {b b' : Buf} {r : EpState} {ls : List ℕ} (long : length b' ≡ length b) (w : waiting b' r ls
    ≡ waiting b r ls) where
  pub held_bytes : {most : ℕ} {ws : List (List ℕ)} → Held most b r ls ws → Held most b' r ls ws
  held_bytes h = record {
    placed = subst (λ n. Placed n r) (sym long) h.placed;
    ring = h.ring;
    least
        = h.least;
    waits = w ∙ h.waits;
  }

  pub out-bytes : {ss : List ℕ} {p : OutPage} → OutFits b r ls ss p → OutFits b' r ls ss p
  out-bytes h = record {
    held = held_bytes h.held;
    stamps = h.stamps;
    opened = h.opened;
    shows = h.shows;
    lost = h.lost;
    slot = h.slot;
    from = h.from;
    upto = h.upto;
    ledger = h.ledger;
    short = h.short;
  }

  pub in_bytes : {p : InPage} → (0 < count_of r → Same (slot_addr r r.tail) (slot_addr r r.tail + r.stride) b b')
      → InFits b r ls p → InFits b' r ls p
  in_bytes {p} s h = in-again h p.load (held_bytes h.held) (record {
    slot = h.stands.slot;
    bytes = λ q k l u. s (sending-count h q) k (omega (arith, h.stands.slot q)) (omega (arith, h.stands.slot q))
        ∙ h.stands.bytes q k l u;
  })

pub out-moved : {b : Buf} {r r' : EpState} {ls ls' ss ss' : List ℕ} {p : OutPage} → r' ≡ r → ls' ≡ ls → ss' ≡ ss
    → OutFits b r ls ss p → OutFits b r' ls' ss' p
out-moved {b} {r} {r'} {ls} {ls'} {ss} {ss'} {p} h k l f =
    subst (λ x. OutFits b x ls' ss' p) (sym h) (subst (λ x. OutFits b r x ss' p) (sym k)
    (subst (λ x. OutFits b r ls x p) (sym l) f))

pub in_moved : {b : Buf} {r r' : EpState} {ls ls' : List ℕ} {p : InPage} → r' ≡ r → ls' ≡ ls → InFits b r ls p
    → InFits b r' ls' p
in_moved {b} {r} {r'} {ls} {ls'} {p} h k f = subst (λ x. InFits b x ls' p) (sym h)
    (subst (λ x. InFits b r x p) (sym k) f)

-- ---- allocation, the buffers' places and the sets of endpoints as they were

pub record SamePlaces (d d' : Driver) : Type 0 where
  pub sized : Sized d'
  pub allocator : d'.allocator ≡ d.allocator
  pub stage : d'.globals.stage ≡ d.globals.stage
  pub ep0_buf : d'.globals.ep0_buf ≡ d.globals.ep0_buf
  pub ep0_max : d'.globals.ep0_max ≡ d.globals.ep0_max
  pub iso_outs_lem : d'.globals.iso_out_eps ≡ d.globals.iso_out_eps
  pub place : (dir : Dir) (x : ℕ) → SamePlace (ep_on d dir x) (ep_on d' dir x)
  pub iso : (dir : Dir) (x : ℕ) → (ep_on d' dir x).iso ≡ (ep_on d dir x).iso

-- what is left to show
pub record Parts (ψ : Phase) (b : Buf) (d : Driver) (t : Pages) : Type 0 where
  pub step : PhaseStep ψ
  pub same : SameKept d t.kept
  pub outs : (e : ℕ) → OutFits b (ep_on d Out e) (lens_of d Out e) (slot_stamps d e) (t.outs e)
  pub ins : (e : ℕ) → InFits b (ep_on d In e) (lens_of d In e) (t.ins e)
  pub arming : (e : ℕ) → Arming ψ e (bit_is_set (iso_outs d.globals) (e % 16)) (ep_on d Out e) (t.outs e)

pub end_kept : {r r' : EpState} → SamePlace r r' → end_of r' ≡ end_of r
end_kept k = rw (k.base, k.stride, k.slots) refl

shape-kept : (a : Bool) (l : Allocator) (dir : Dir) {r r' : EpState} → SamePlace r r' → r'.iso ≡ r.iso
    → Shape a l dir r → Shape a l dir r'
shape-kept true l dir k i u = record {
  stride = k.stride ∙ u.stride;
  slots = k.slots ∙ u.slots ∙ ap (λ (n : ℕ). slots_of (is_on n) dir) (sym i);
  below = rw (k.base, k.stride, k.slots) u.below;
}
shape-kept false l dir k i u = record {
  iso = i ∙ u.iso;
  base = k.base ∙ u.base;
  stride = k.stride
      ∙ u.stride;
  slots = k.slots ∙ u.slots;
}

apart-kept : {lo lo' hi hi' x x' y y' : ℕ} → lo' ≡ lo → hi' ≡ hi → x' ≡ x → y' ≡ y → Apart lo hi x y
    → Apart lo' hi' x' y'
apart-kept a b c d h = rw (a, b, c, d) h

pub rebuilt : {φ ψ : Phase} {b b' : Buf} {d d' : Driver} {t t' : Pages}
    → Coupling φ b d t → SamePlaces d d' → length b' ≡ length b → Parts ψ b' d' t' → Coupling ψ b' d' t'
rebuilt {d = d} {d' = d'} R k l p =
    let room : ep0_room d'.globals d'.allocator ≡ ep0_room d.globals d.allocator
    = rw (k.stage, k.allocator) refl in
    record {
      step = p.step;
      sized = k.sized;
      sound = rw k.allocator R.sound;
      good = rw k.allocator R.good;
      long = rw k.allocator (l ∙ R.long);
      same = p.same;
      shape = λ dir x. subst (λ a. Shape (bit_is_set (allocated_ins a dir) (x % 16)) a dir (ep_on d' dir x))
          (sym k.allocator)
          (shape-kept (bit_is_set (allocated_ins d.allocator dir) (x % 16)) d.allocator dir (k.place dir x)
          (k.iso dir x) (R.shape dir x));
      outs = p.outs;
      ins = p.ins;
      arming = p.arming;
      apart = λ dir dir' x y n. apart-kept (k.place dir x).base
          (end_kept (k.place dir x)) (k.place dir' y).base (end_kept (k.place dir' y)) (R.apart dir dir' x y n);
      ep0_below = rw (room, k.ep0_buf, k.allocator) R.ep0_below;
      ep0_apart = λ dir x. apart-kept k.ep0_buf (rw (room, k.ep0_buf) refl) (k.place dir x).base
          (end_kept (k.place dir x)) (R.ep0_apart dir x);
      ep0_lies = rw (k.ep0_buf, k.allocator, l) R.ep0_lies;
      ep0_least = rw (room, k.ep0_max) R.ep0_least;
      isos = λ x. ap (λ (n : ℕ). bit_is_set n (x % 16)) k.iso_outs_lem ∙ R.isos x ∙ ap is_on (sym (k.iso Out x));
    }

-- ---- one endpoint changed, bytes in its region alone

pub keeps-changed : {dir : Dir} {e : ℕ} {d d' : Driver} → Changed dir e d d' → SamePlaces d d'
keeps-changed {dir} {e} {d} {d'} c = record {
  sized = c.sized;
  allocator = c.allocator;
  stage = ap (λ (g : Globals). g.stage) c.globals;
  ep0_buf = ap (λ (g : Globals). g.ep0_buf) c.globals;
  ep0_max = ap (λ (g : Globals). g.ep0_max) c.globals;
  iso_outs_lem = ap (λ (g : Globals). g.iso_out_eps) c.globals;
  place = λ dir' x. elim (ℕ_discrete (key dir' x) (key dir e)) [
    | yes h ↦ place-by (key-ep d dir' dir x e h) (key-ep d' dir' dir x e h) c.place
    | no n ↦ place-by refl (c.eps dir' x n) (same_place (ep_on d dir' x))
  ];
  iso = λ dir' x. elim (ℕ_discrete (key dir' x) (key dir e)) [
    | yes h ↦ ap (λ (r : EpState). r.iso) (key-ep d' dir' dir x e h) ∙ c.iso
        ∙ ap (λ (r : EpState). r.iso) (sym (key-ep d dir' dir x e h))
    | no n ↦ ap (λ (r : EpState). r.iso) (c.eps dir' x n)
  ];
}
  where
    place-by : {r r' s s' : EpState} → r ≡ s → r' ≡ s' → SamePlace s s' → SamePlace r r'
    place-by {r} {r'} {s} {s'} p q k = subst (λ z. SamePlace z r') (sym p) (subst (λ z. SamePlace s z) (sym q) k)

-- a slot of a ring, and bytes in a region apart from the ring's
pub slot-foreign : {n lo hi : ℕ} {r : EpState} (i : ℕ) (b b' : Buf) → Placed n r
    → Only lo hi b b' → (end_of r ≤ lo) ⊎ (hi ≤ r.base) → Same (slot_addr r i) (slot_addr r i + r.stride) b b'
slot-foreign i b b' g o (inl a) = λ k l h. o k (inl (omega (arith, slot-upto g i)))
slot-foreign i b b' g o (inr a) = λ k l h. o k (inr (omega (arith, slot-from g i)))

pub arming-mod : (φ : Phase) (x e : ℕ) (u : Bool) (r : EpState) (p : OutPage) → x % 16 ≡ e % 16 → Arming φ e u r p
    → Arming φ x u r p
arming-mod quiet x e u r p h a = a
arming-mod (mid (switch f onn) n) x e u r p h a = subst (λ k. InRow (eqb k (f % 16) && is_on r.iso) n u r p) (sym h) a
arming-mod (mid bus_reset_lem zero) x e u r p h a = a
arming-mod (mid bus_reset_lem (suc n)) x e u r p h a = a

module _ {φ : Phase} {b b' : Buf} {d d' : Driver} {t : Pages} (R : Coupling φ b d t) where
  module _ {dir : Dir} {e : ℕ} (c : Changed dir e d d') (long : length b' ≡ length b)
      (o : Only (ep_on d dir e).base (end_of (ep_on d dir e)) b b') where
    pub other-out : (x : ℕ) → key Out x ≢ key dir e → OutFits b' (ep_on d' Out x) (lens_of d' Out x) (slot_stamps d' x)
        (t.outs x)
    other-out x n =
        let f = R.outs x in
        out-moved (c.eps Out x n) (c.lens Out x n) (c.stamps x n)
        (out-bytes long (waiting-foreign f.held.placed f.held.ring _ _ b b' o (R.apart Out dir x e n)) f)

    pub other-in : (x : ℕ) → key In x ≢ key dir e → InFits b' (ep_on d' In x) (lens_of d' In x) (t.ins x)
    other-in x n =
        let f = R.ins x in
        in_moved (c.eps In x n) (c.lens In x n)
        (in_bytes long (waiting-foreign f.held.placed f.held.ring _ _ b b' o (R.apart In dir x e n))
        (λ _. slot-foreign (ep_on d In x).tail b b' f.held.placed o (R.apart In dir x e n)) f)

  -- OUT e
  pub out-changed : {ψ : Phase} {k : Kept} (e : ℕ) (p : OutPage) → Changed Out e d d' → SameKept d' k → length b'
      ≡ length b
      → Only (ep_on d Out e).base (end_of (ep_on d Out e)) b b'
      → OutFits b' (ep_on d' Out e) (lens_of d' Out e) (slot_stamps d' e) p → PhaseStep ψ
      → ((x : ℕ) (u : Bool) → x % 16 ≢ e % 16 → Arming φ x u (ep_on d Out x) (t.outs x)
      → Arming ψ x u (ep_on d Out x) (t.outs x))
      → Arming ψ e (bit_is_set (iso_outs d.globals) (e % 16)) (ep_on d' Out e) p
      → Coupling ψ b' d' (with_out (with_kept t k) e p)
  out-changed {ψ} {k} e p c s long o f step others a = rebuilt R (keeps-changed c) long (record {
    step = step;
    same = s;
    outs = λ x. at-elim (λ q. OutFits b' (ep_on d' Out x) (lens_of d' Out x) (slot_stamps d' x) q) e x p t.outs
        (λ h. out-moved (ep-mod d' Out x e h) (lens-mod d' Out x e h) (stamps-mod d' x e h) f)
        (λ n. other-out c long o x (key-other Out x e n));
    ins = λ x. other-in c long o x (λ h. key_apart e x (sym h));
    arming = λ x. subst (λ g. Arming ψ x (bit_is_set (iso_outs g) (x % 16)) (ep_on d' Out x) (at e p t.outs x))
        (sym c.globals)
        (at-elim (λ q. Arming ψ x (bit_is_set (iso_outs d.globals) (x % 16)) (ep_on d' Out x) q) e x p t.outs
        (λ h. subst (λ r. Arming ψ x (bit_is_set (iso_outs d.globals) (x % 16)) r p) (sym (ep-mod d' Out x e h))
        (subst (λ j. Arming ψ x (bit_is_set (iso_outs d.globals) j) (ep_on d' Out e) p)
        (sym h) (arming-mod ψ x e (bit_is_set (iso_outs d.globals) (e % 16)) (ep_on d' Out e) p h a)))
        (λ n. subst (λ r. Arming ψ x (bit_is_set (iso_outs d.globals) (x % 16)) r (t.outs x))
        (sym (c.eps Out x (key-other Out x e n)))
        (others x (bit_is_set (iso_outs d.globals) (x % 16)) n (R.arming x))));
  })

  -- IN e
  pub in-changed : {k : Kept} (e : ℕ) (p : InPage) → Changed In e d d' → SameKept d' k → length b' ≡ length b
      → Only (ep_on d In e).base (end_of (ep_on d In e)) b b' → InFits b' (ep_on d' In e) (lens_of d' In e) p
      → Coupling φ b' d' (with_in (with_kept t k) e p)
  in-changed {k} e p c s long o f = rebuilt R (keeps-changed c) long (record {
    step = R.step;
    same = s;
    outs = λ x. other-out c long o x (key_apart x e);
    ins = λ x. at-elim (λ q. InFits b' (ep_on d' In x) (lens_of d' In x) q) e x p t.ins
        (λ h. in_moved (ep-mod d' In x e h) (lens-mod d' In x e h) f)
        (λ n. other-in c long o x (key-other In x e n));
    arming = λ x. subst (λ g. Arming φ x (bit_is_set (iso_outs g) (x % 16)) (ep_on d' Out x) (t.outs x)) (sym c.globals)
        (subst (λ r. Arming φ x (bit_is_set (iso_outs d.globals) (x % 16)) r (t.outs x))
        (sym (c.eps Out x (key_apart x e))) (R.arming x));
  })

-- a change of marks or of a copy
pub only-bytes : {lo hi : ℕ} {b b' : Buf} → marks.Only lo hi b b' → Only lo hi b b'
only-bytes m k (inl h) = m.below k h
only-bytes m k (inr h) = m.above k h
