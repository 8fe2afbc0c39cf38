-- Being the same but for x's data: symmetric, and kept where one of the two is touched
use Rattle.std.specs.Prelude.{Bool, true, false, ◌&&◌, ◌≡◌, refl, List, ℕ, get_or}
use Rattle.std.proofs.Common.{ap, subst, sym, ◌∙◌}
use Rattle.regs.specs.declared.Dir.TheVariants.{Out}
use Rattle.state.specs.Wakes.{Wakes}
use Rattle.state.specs.WakesLaws.{Room}
use Rattle.state.specs.declared.EpState.{EpState}
use Rattle.state.specs.declared.Request.{Request}
use Rattle.state.specs.Driver.{Driver, key, ep_on, request_on, no_request}
use Rattle.ring.specs.Only.{Only}
use Rattle.ring.specs.OnlyLaws.{only-refl, only-trans}
use Rattle.script.specs.Statics.{with_ready}
use Rattle.script.specs.Simulates.{Phase}
use Rattle.script.specs.Machine.{Buf}
use Rattle.script_ops.specs.Rings.{St}
use Rattle.proof_book.specs.Coupling.{end_of}
use Rattle.proof_book.specs.FrameLaws.{Changed, same_place, end_kept}
use Rattle.proof_book.proofs.OutsLaws.{Inner}
use Rattle.proof_isolation.specs.EqualExcept.{OtherWakes, Stays, ButBy, Beside, Lawful, Channel, LowEquiv}
use Rattle.proof_isolation.specs.EqualExcept.{Touched}

pub and-false : (b : Bool) → (b && false) ≡ false
and-false true = refl
and-false false = refl

-- ---- wake-ups

pub wakes-refl : (x : ℕ) (w : Wakes) → Room w → OtherWakes x w w
wakes-refl x w r = record { room = r; room' = r; same = λ p q. refl }

pub wakes-sym : {x : ℕ} {w w' : Wakes} → OtherWakes x w w' → OtherWakes x w' w
wakes-sym h = record { room = h.room'; room' = h.room; same = λ p q. sym (h.same q p) }

-- ---- records

pub stays-refl : (r : EpState) → Stays r r
stays-refl r = record { place = same_place r; plain = refl }

stays-sym : {r r' : EpState} → Stays r r' → Stays r' r
stays-sym h = record {
  place = record {
    base = sym h.place.base;
    stride = sym h.place.stride;
    slots
        = sym h.place.slots;
  };
  plain = sym h.plain;
}

stays-trans : {r r' r'' : EpState} → Stays r r' → Stays r' r'' → Stays r r''
stays-trans h k = record {
  place = record {
    base = k.place.base ∙ h.place.base;
    stride = k.place.stride ∙ h.place.stride;
    slots
        = k.place.slots ∙ h.place.slots;
  };
  plain = k.plain ∙ h.plain;
}

-- its ring alone changed
pub inner-stays : {r r' : EpState} → Inner r r' → Stays r r'
inner-stays h = record { place = h.place; plain = ap (with_ready 0) h.plain }

-- ---- drivers

pub but-refl : (x : ℕ) (d : Driver) → Beside x d d
but-refl x d = record {
  globals = refl;
  allocator = refl;
  control = refl;
  paced = refl;
  wakes = refl;
  requests = λ dir e n. refl;
  eps = λ dir e n. refl;
  lens = λ dir e n. refl;
  stamps = λ e n. refl;
  own = stays-refl (ep_on d Out x);
}

module _ {W U : Wakes → Wakes → Type 0} {x : ℕ} where
  but-sym : {d d' : Driver} → ButBy W x d d' → U d'.wakes d.wakes → ButBy U x d' d
  but-sym h w = record {
    globals = sym h.globals;
    allocator = sym h.allocator;
    control = sym h.control;
    paced = sym h.paced;
    wakes = w;
    requests = λ dir e n. sym (h.requests dir e n);
    eps = λ dir e n. sym (h.eps dir e n);
    lens = λ dir e n. sym (h.lens dir e n);
    stamps = λ e n. sym (h.stamps e n);
    own = stays-sym h.own;
  }

  but-trans : {Y : Wakes → Wakes → Type 0} {d d' d'' : Driver} → ButBy W x d d' → ButBy Y x d' d''
      → U d.wakes d''.wakes → ButBy U x d d''
  but-trans h k w = record {
    globals = h.globals ∙ k.globals;
    allocator = h.allocator ∙ k.allocator;
    control = h.control ∙ k.control;
    paced = h.paced ∙ k.paced;
    wakes = w;
    requests = λ dir e n. h.requests dir e n ∙ k.requests dir e n;
    eps = λ dir e n. h.eps dir e n ∙ k.eps dir e n;
    lens = λ dir e n. h.lens dir e n ∙ k.lens dir e n;
    stamps = λ e n. h.stamps e n ∙ k.stamps e n;
    own = stays-trans h.own k.own;
  }

-- ---- states with their buffers

only-sym : {lo hi : ℕ} {b c : Buf} → Only lo hi b c → Only lo hi c b
only-sym h = record { long = sym h.long; below = λ k l. sym (h.below k l); above = λ k l. sym (h.above k l) }

seat : {W : Wakes → Wakes → Type 0} {x : ℕ} {d d' : Driver} (b c : Buf) → ButBy W x d d'
    → Only (ep_on d Out x).base (end_of (ep_on d Out x)) b c → Only (ep_on d' Out x).base (end_of (ep_on d' Out x)) b c
seat {x = x} {d = d} {d' = d'} b c h o =
    let p = h.own.place in
    subst (λ hi. Only (ep_on d' Out x).base hi b c) (sym (end_kept p))
    (subst (λ lo. Only lo (end_of (ep_on d Out x)) b c) (sym p.base) o)

module _ {c : Channel} {φ : Phase} where
  pub like-refl : {s : St} → Lawful c.iso φ s → Room s.0.wakes → LowEquiv c φ s s
  like-refl {s} l r = record {
    left = l;
    right = l;
    but = but-trans {U = OtherWakes c.number} (but-refl c.number s.0) (but-refl c.number s.0)
        (wakes-refl c.number s.0.wakes r);
    bytes = only-refl _ _ s.1;
  }

  pub like-sym : {s t : St} → LowEquiv c φ s t → LowEquiv c φ t s
  like-sym {s} {t} h = record {
    left = h.right;
    right = h.left;
    but = but-sym {U = OtherWakes c.number} h.but (wakes-sym h.but.wakes);
    bytes = seat t.1 s.1 h.but (only-sym h.bytes);
  }

  pub touched-refl : {s : St} → Lawful c.iso φ s → Touched c φ s s
  touched-refl {s} l = record { left = l; right = l; but = but-refl c.number s.0; bytes = only-refl _ _ s.1 }

  before : {s t : St} → Touched c φ s t → Beside c.number t.0 s.0
  before h = but-sym {U = λ w w'. w ≡ w'} h.but (sym h.but.wakes)

  pub touched-trans : {s t u : St} → Touched c φ s t → Touched c φ t u → Touched c φ s u
  touched-trans {s} {t} {u} h k = record {
    left = h.left;
    right = k.right;
    but = but-trans {U = λ w w'. w ≡ w'} h.but k.but (h.but.wakes ∙ k.but.wakes);
    bytes = only-trans h.bytes (seat t.1 u.1 (before h) k.bytes);
  }

  -- what is done to x's data in one run leaves the two the same but for it
  pub touch : {s t u : St} → Touched c φ s t → LowEquiv c φ s u → LowEquiv c φ t u
  touch {s} {t} {u} h k = record {
    left = h.right;
    right = k.right;
    but = but-trans {U = OtherWakes c.number} (before h) k.but
        (subst (λ w. OtherWakes c.number w u.0.wakes) h.but.wakes k.but.wakes);
    bytes = seat t.1 u.1 h.but (only-trans (only-sym h.bytes) k.bytes);
  }

-- ---- a change of x's own record, lengths and stamps alone

pub own-changed : {x : ℕ} {d d' : Driver} → Changed Out x d d' → Stays (ep_on d Out x) (ep_on d' Out x) → Beside x d d'
unfolding request_on
own-changed {x} {d} {d'} c k = record {
  globals = sym c.globals;
  allocator = sym c.allocator;
  control = sym c.control;
  paced = sym c.paced;
  wakes = sym c.wakes;
  requests = λ dir e n. ap (λ (l : List Request). get_or l (key dir e) no_request) (sym c.requests);
  eps = λ dir e n. sym (c.eps dir e n);
  lens = λ dir e n. sym (c.lens dir e n);
  stamps = λ e n. sym (c.stamps e n);
  own = k;
}
