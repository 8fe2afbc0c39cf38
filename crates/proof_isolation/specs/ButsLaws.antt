-- Changes that leave two states the same but for x's data
use Rattle.std.specs.Prelude.{Bool, true, false, cond, List, ◌≢◌, ◌≡◌, refl, ℕ, zero, suc, ◌+◌, ◌≤◌}
use Rattle.std.proofs.Common.{inl, inr, ⊎_elim, ap, subst, ◌∙◌, arith}
use Rattle.std.proofs.Math.Path.{sym}
use Rattle.std.proofs.Math.Decide.{ℕ_discrete}
use Rattle.regs.specs.declared.Dir.{Dir}
use Rattle.regs.specs.declared.Dir.TheVariants.{Out}
use Rattle.state.specs.declared.EpState.{EpState}
use Rattle.state.specs.declared.Globals.{Globals}
use Rattle.state.specs.Wakes.{Wakes}
use Rattle.state.specs.declared.Request.{Request}
use Rattle.state.specs.Driver.{Driver, key, ep_on, with_on, len_on, stamp_on, request_on, with_globals, with_wakes}
use Rattle.state.specs.Driver.{with_stamps, with_paced, with_requests, with_control}
use Rattle.state.specs.Laws.{Sized, ep_on-same, ep_on-other}
use Rattle.ring.specs.Only.{Same, Only}
use Rattle.ring.specs.OnlyLaws.{only-apart}
use Rattle.ring.specs.Waiting.{SamePlace}
use Rattle.state.specs.declared.Control.{Control}
use Rattle.script.specs.Cells.{Cell, Val, control-cell}
use Rattle.script.specs.Control.{DATA-OUT}
use Rattle.script.specs.Script.{Act, DmaStep, Burst, last_of}
use Rattle.script.specs.Statics.{is_on}
use Rattle.script.specs.Simulates.{Phase, quiet, mid}
use Rattle.script.specs.TransferKinds.{allocates}
use Rattle.script_ops.specs.Rings.{St, row_on}
use Rattle.script_ops.specs.Concrete.{put_on, act_on, hand_on}
use Rattle.proof_book.specs.Coupling.{end_of, ep0_room, lens_of, slot_stamps}
use Rattle.proof_book.specs.LensLaws.{key-ep, lens-on, stamps-on}
use Rattle.proof_book.specs.FrameLaws.{Changed, same_place}
use Rattle.proof_book.proofs.AgreesLaws.{agree}
use Rattle.proof_book.proofs.RowsLaws.{rows_first, rows_next, rows-finish}
use Rattle.proof_book.specs.TransferKinds.{Steady, Has}
use Rattle.proof_book.specs.TransferKindsLaws.{sorted, row-steady}
use Rattle.proof_isolation.specs.EqualExcept.{OtherWakes, Stays, ButBy, EqualExcept, Lawful, Channel, LowEquiv}
use Rattle.proof_isolation.specs.Settled.{is_control}
use Rattle.proof_isolation.specs.SettledLaws.{put-settled, no_start, act-settled, hand-settled, row_settled}
use Rattle.proof_isolation.specs.SettledLaws.{settled-bounded}
use Rattle.proof_isolation.specs.LikesLaws.{stays-refl}

-- ---- drivers

-- with other parts; its records, their lengths and the allocator stay
abbrev with_parts : Driver → Globals → Control → List ℕ → Wakes → List Request → List ℕ → Driver
with_parts d g c p w r t = with_stamps (with_requests (with_wakes (with_paced (with_control (with_globals d g) c) p) w) r) t

pub but-parts : {W : Wakes → Wakes → Type 0} {x : ℕ} {d d' : Driver} → ButBy W x d d'
    → {g g' : Globals} {c c' : Control} {p p' : List ℕ} {w w' : Wakes} {r r' : List Request} {t t' : List ℕ}
    → g ≡ g' → c ≡ c' → p ≡ p' → W w w'
    → ((dir : Dir) (e : ℕ) → key dir e ≢ key Out x → request_on (with_requests d r) dir e
    ≡ request_on (with_requests d' r') dir e)
    → ((e : ℕ) → key Out e ≢ key Out x → slot_stamps (with_stamps d t) e ≡ slot_stamps (with_stamps d' t') e)
    → ButBy W x (with_parts d g c p w r t) (with_parts d' g' c' p' w' r' t')
unfolding ep_on len_on stamp_on request_on
but-parts h g c p w r t = record {
  globals = g;
  allocator = h.allocator;
  control = c;
  paced = p;
  wakes = w;
  requests = r;
  eps = h.eps;
  lens = h.lens;
  stamps = t;
  own = h.own;
}

module _ {x : ℕ} {d d' : Driver} (h : EqualExcept x d d') where
  pub but-globals : (g g' : Globals) → g ≡ g' → EqualExcept x (with_globals d g) (with_globals d' g')
  unfolding stamp_on request_on
  but-globals g g' e = but-parts h e h.control h.paced h.wakes h.requests h.stamps

  pub but-wakes : (w w' : Wakes) → OtherWakes x w w' → EqualExcept x (with_wakes d w) (with_wakes d' w')
  unfolding stamp_on request_on
  but-wakes w w' e = but-parts h h.globals h.control h.paced e h.requests h.stamps

  -- one endpoint's record: the same one, or x's with what stays of it
  module _ (z : Sized d) (z' : Sized d') (dir : Dir) (e : ℕ) (r r' : EpState) where
    pub but-on : (key dir e ≢ key Out x → r ≡ r') → (key dir e ≡ key Out x → Stays r r')
        → EqualExcept x (with_on d dir e r) (with_on d' dir e r')
    unfolding with_on request_on
    but-on f g = record {
      globals = h.globals;
      allocator = h.allocator;
      control = h.control;
      paced = h.paced;
      wakes = h.wakes;
      requests = h.requests;
      eps = λ a c n. elim (ℕ_discrete (key a c) (key dir e)) [
        | yes p ↦ key-ep (with_on d dir e r) a dir c e p ∙ ep_on-same d dir e r z
            ∙ f (λ q. n (p ∙ q)) ∙ sym (ep_on-same d' dir e r' z') ∙ sym (key-ep (with_on d' dir e r') a dir c e p)
        | no p ↦ ep_on-other d dir e r a c p ∙ h.eps a c n ∙ sym (ep_on-other d' dir e r' a c p)
      ];
      lens = λ a c n. lens-on d dir e r a c ∙ h.lens a c n ∙ sym (lens-on d' dir e r' a c);
      stamps = λ c n. stamps-on d dir e r c ∙ h.stamps c n ∙ sym (stamps-on d' dir e r' c);
      own = elim (ℕ_discrete (key Out x) (key dir e)) [
        | yes p ↦ rw (
          key-ep (with_on d dir e r) Out dir x e p ∙ ep_on-same d dir e r z,
          key-ep (with_on d' dir e r') Out dir x e p ∙ ep_on-same d' dir e r' z',
        ) (g (sym p))
        | no p ↦ rw (ep_on-other d dir e r Out x p, ep_on-other d' dir e r' Out x p) h.own
      ];
    }

  -- an endpoint but x
  pub but-changed : {d1 d1' : Driver} (dir : Dir) (e : ℕ) → key dir e ≢ key Out x → Changed dir e d d1
      → Changed dir e d' d1'
      → ep_on d1 dir e ≡ ep_on d1' dir e → ((a : Dir) (c : ℕ) → key a c ≡ key dir e → lens_of d1 a c ≡ lens_of d1' a c)
      → ((c : ℕ) → key Out c ≡ key dir e → slot_stamps d1 c ≡ slot_stamps d1' c) → EqualExcept x d1 d1'
  unfolding request_on
  but-changed {d1} {d1'} dir e n u v p l s = record {
    globals = u.globals ∙ h.globals ∙ sym v.globals;
    allocator = u.allocator ∙ h.allocator ∙ sym v.allocator;
    control = u.control ∙ h.control ∙ sym v.control;
    paced = u.paced ∙ h.paced ∙ sym v.paced;
    wakes = rw (u.wakes, v.wakes) h.wakes;
    requests = λ a c m. rw (u.requests, v.requests) (h.requests a c m);
    eps = λ a c m. elim (ℕ_discrete (key a c) (key dir e)) [
      | yes q ↦ key-ep d1 a dir c e q ∙ p ∙ sym (key-ep d1' a dir c e q)
      | no q ↦ u.eps a c q ∙ h.eps a c m ∙ sym (v.eps a c q)
    ];
    lens = λ a c m. elim (ℕ_discrete (key a c) (key dir e)) [
      | yes q ↦ l a c q
      | no q ↦ u.lens a c q ∙ h.lens a c m ∙ sym (v.lens a c q)
    ];
    stamps = λ c m. elim (ℕ_discrete (key Out c) (key dir e)) [
      | yes q ↦ s c q
      | no q ↦ u.stamps c q ∙ h.stamps c m ∙ sym (v.stamps c q)
    ];
    own = rw (u.eps Out x (λ q. n (sym q)), v.eps Out x (λ q. n (sym q))) h.own;
  }

-- what stays of any record, the channel's too
pub stays-any : {x : ℕ} {d d' : Driver} → EqualExcept x d d' → (dir : Dir) (e : ℕ)
    → Stays (ep_on d dir e) (ep_on d' dir e)
stays-any {x} {d} {d'} h dir e = elim (ℕ_discrete (key dir e) (key Out x)) [
  | yes p ↦ rw (key-ep d dir Out e x p, key-ep d' dir Out e x p) h.own
  | no n ↦ subst (λ r. Stays (ep_on d dir e) r) (h.eps dir e n) (stays-refl (ep_on d dir e))
]

pub but-cond : {x : ℕ} {a a' b b' : Driver} (u u' : Bool) → u ≡ u' → EqualExcept x a a' → EqualExcept x b b'
    → EqualExcept x (cond u a b) (cond u' a' b')
but-cond {x} {a} {a'} {b} {b'} u u' e p q = subst (λ v. EqualExcept x (cond u a b) (cond v a' b')) e (by u)
  where
    by : (u : Bool) → EqualExcept x (cond u a b) (cond u a' b')
    by true = p
    by false = q

-- where x's slots lie stays
pub changed-seat : (x : ℕ) {d d1 : Driver} {dir : Dir} {e : ℕ} → Changed dir e d d1
    → SamePlace (ep_on d Out x) (ep_on d1 Out x)
changed-seat x {d} {d1} {dir} {e} c = elim (ℕ_discrete (key Out x) (key dir e)) [
  | yes p ↦ rw (key-ep d Out dir x e p, key-ep d1 Out dir x e p) c.place
  | no p ↦ rw (c.eps Out x p) (same_place (ep_on d Out x))
]

-- ---- states

module _ {c : Channel} where
  pub like-made : {φ ψ : Phase} {s t s1 t1 : St} → LowEquiv c φ s t → Lawful c.iso ψ s1 → Lawful c.iso ψ t1
      → EqualExcept c.number s1.0 t1.0
      → SamePlace (ep_on s.0 Out c.number) (ep_on s1.0 Out c.number)
      → Only (ep_on s.0 Out c.number).base (end_of (ep_on s.0 Out c.number)) s1.1 t1.1
      → LowEquiv c ψ s1 t1
  like-made {s1 = s1} {t1 = t1} h l r b p o = record {
    left = l;
    right = r;
    but = b;
    bytes
        = rw (p.base, p.slots, p.stride) o;
  }

  -- bytes of another endpoint's slots are the same
  pub others_same : {φ : Phase} {s t : St} → LowEquiv c φ s t → (dir : Dir) (e lo hi : ℕ)
      → key dir e ≢ key Out c.number
      → (ep_on s.0 dir e).base ≤ lo → hi ≤ end_of (ep_on s.0 dir e) → Same lo hi s.1 t.1
  others_same {s = s} h dir e lo hi n p q =
      only-apart lo hi h.bytes (⊎_elim (λ a. inr (omega arith)) (λ a. inl (omega arith))
      (h.left.rest.apart Out dir c.number e (λ z. n (sym z))))

  -- and EP0's
  pub ep0-same : {φ : Phase} {s t : St} → LowEquiv c φ s t → (lo hi : ℕ)
      → s.0.globals.ep0_buf ≤ lo → hi ≤ s.0.globals.ep0_buf + s.0.allocator.size → Same lo hi s.1 t.1
  ep0-same {s = s} h lo hi p q =
      let room : ep0_room s.0.globals s.0.allocator ≡ s.0.allocator.size = rw h.left.stage refl in
      only-apart lo hi h.bytes (⊎_elim (λ a. inl (omega (arith, room))) (λ a. inr (omega (arith, room)))
      (h.left.rest.ep0_apart Out c.number))

-- every operation leaves a lawful state
module _ (c : Channel) where
  pub lawful-put : (n : Cell) (v : Val n) {s : St} → Lawful c.iso quiet s → is_control n ≡ false
      → Lawful c.iso quiet (put_on n v s)
  lawful-put n v {s} l h = let k = put-settled n h v s in record {
    pages = _;
    rest = (agree.put n v s.1 s.0 l.pages l.rest).1;
    has = (sorted c.iso c.ep0).put n v s l.has;
    stage = k.stage ∙ l.stage;
    bounded = settled-bounded k l.bounded;
  }

  -- the control request: of a data_out with a length within EP0's maximum
  pub lawful-control : (v : Control) {s : St} → (v.sort ≡ DATA-OUT → v.length ≤ s.0.globals.ep0_max)
      → Lawful c.iso quiet s → Lawful c.iso quiet (put_on control-cell v s)
  lawful-control v {s} h l = record {
    pages = _;
    rest = (agree.put control-cell v s.1 s.0 l.pages l.rest).1;
    has = (sorted c.iso c.ep0).put control-cell v s l.has;
    stage = l.stage;
    bounded = λ z. (l.stage, h z);
  }

  pub lawful-act : (q : Act) → allocates q ≡ false → {s : St} → Lawful c.iso quiet s
      → Lawful c.iso quiet (act_on q s)
  lawful-act q a {s} l = let k = act-settled q (no_start q a) s in record {
    pages = _;
    rest = (agree.act q s.1 s.0 l.pages l.rest).1;
    has = (sorted c.iso c.ep0).act q a s l.has;
    stage = k.stage ∙ l.stage;
    bounded = settled-bounded k l.bounded;
  }

  pub lawful-hand : (q : DmaStep) {s : St} → Lawful c.iso quiet s → Lawful c.iso quiet (hand_on q s).1
  lawful-hand q {s} l = let k = hand-settled q s in record {
    pages = _;
    rest = (agree.hand q s.1 s.0 l.pages l.rest).0;
    has = (sorted c.iso c.ep0).hand q s l.has;
    stage = k.stage ∙ l.stage;
    bounded = settled-bounded k l.bounded;
  }

  -- a row: its first step, each other one, its end
  has-by : {d d' : Driver} → Steady d d' → Has c.iso d → Has c.iso d'
  has-by p k = record {
    flags = λ dir e. ap is_on (p.flags dir e) ∙ k.flags dir e;
    outs = rw p.outs k.outs;
    every
        = rw p.every k.every;
  }

  module _ (g : Burst) where
    pub lawful-first : {s : St} → Lawful c.iso quiet s → Lawful c.iso (mid g (last_of g)) (row_on g (last_of g) s).1
    lawful-first {s} l = let k = row_settled g (last_of g) s in record {
      pages = _;
      rest = (rows_first g s.1 s.0 l.pages l.rest).1;
      has = has-by (row-steady g (last_of g) s) l.has;
      stage = k.stage ∙ l.stage;
      bounded = settled-bounded k l.bounded;
    }

    pub lawful-next : (n : ℕ) {s : St} → Lawful c.iso (mid g (suc n)) s → Lawful c.iso (mid g n) (row_on g n s).1
    lawful-next n {s} l = let k = row_settled g n s in record {
      pages = _;
      rest = (rows_next g n s.1 s.0 l.pages l.rest).1;
      has = has-by (row-steady g n s) l.has;
      stage = k.stage ∙ l.stage;
      bounded = settled-bounded k l.bounded;
    }

    lawful-over : {s : St} → Lawful c.iso (mid g zero) s → Lawful c.iso quiet s
    lawful-over {s} l = record {
      pages = l.pages;
      rest = rows-finish g s.1 s.0 l.pages l.rest;
      has = l.has;
      stage = l.stage;
      bounded = l.bounded;
    }

    pub row-over : (s t : St) → LowEquiv c (mid g zero) s t → LowEquiv c quiet s t
    row-over s t l = record {
      left = lawful-over l.left;
      right = lawful-over l.right;
      but = l.but;
      bytes
          = l.bytes;
    }
