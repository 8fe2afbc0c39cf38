-- Records that are written anew: by a bus reset, by an allocation
use Rattle.std.specs.Prelude.{Bool, cond, ◌≡◌, ltb}
use Rattle.std.proofs.Math.Bool.{true, false}
use Rattle.std.proofs.Math.Path.{refl, ap, sym}
use Rattle.std.proofs.Common.{◌∙◌, arith}
use Prim.Native.Nat.{ℕ, zero, suc, ◌%◌, ◌<◌}
use Rattle.std.proofs.Math.Decide.{ℕ_discrete}
use Rattle.std.proofs.Math.Dec.{eqb}
use Rattle.std.proofs.Math.ListN.{length, length-set}
use Rattle.regs.specs.declared.Dir.{Dir}
use Rattle.regs.specs.declared.Dir.TheVariants.{Out, In}
use Rattle.state.specs.declared.EpState.{EpState}
use Rattle.state.specs.Ep.{reset_of}
use Rattle.state.specs.Driver.{Driver, key, ep_on, with_on}
use Rattle.script.specs.Statics.{is_on}
use Rattle.script_ops.specs.Rings.{St, reset_below, reset_all}
use Rattle.bits.specs.Bit.{with_bit}
use Rattle.state.specs.declared.Globals.{Globals}
use Rattle.state.specs.Fresh.{no_stamps}
use Rattle.state.specs.Driver.{with_allocator}
use Rattle.alloc.specs.declared.Answer as alloc
use Rattle.alloc.specs.declared.Answer.TheVariants as variant
use Rattle.alloc.specs.Alloc.{allocate_of, allocated, is_iso}
use Rattle.script.specs.Script.{allocate}
use Rattle.script.specs.TogglesLaws.{number}
use Rattle.script.specs.Usb20Toggles.{initial}
use Rattle.script_ops.specs.Records.{with_iso_sets, iso_added, with_sets, record_given, sets_given, given_to, allocated_on}
use Rattle.script_ops.specs.Concrete.{concrete}
use Rattle.proof_usb20.specs.Sequence.{Track}
use Rattle.proof_usb20.specs.Follow.{FitsAs, Fits, view}
use Rattle.proof_usb20.specs.CalmLaws.{Whole}
use Rattle.proof_usb20.specs.ViewsLaws.{ep-other}
use Rattle.proof_usb20.specs.ReadingLaws.{Own, own-ep, own-with, fits-2}

module _ (D : Dir) (E : ℕ) where
  -- ---- what becomes of the endpoint's record where one is written anew

  pub record Like (x y : Driver) : Type 0 where
    pub len : (ep_on y D E).len ≡ (ep_on x D E).len
    pub tog : (ep_on x D E).tog ≡ 0 → (ep_on y D E).tog ≡ 0
    pub ready : is_on (ep_on x D E).ready ≡ false → is_on (ep_on y D E).ready ≡ false
    pub armed : is_on (ep_on x D E).armed ≡ false → is_on (ep_on y D E).armed ≡ false
    pub places : length y.eps ≡ length x.eps

  like_then : {x y z : Driver} → Like x y → Like y z → Like x z
  like_then p q = record {
    len = q.len ∙ p.len;
    tog = λ h. q.tog (p.tog h);
    ready = λ h. q.ready (p.ready h);
    armed = λ h. q.armed (p.armed h);
    places = q.places ∙ p.places;
  }

  -- a record with no completion and DATA0
  module _ (x : Driver) (d : Dir) (e : ℕ) (r : EpState) (l : length x.eps ≡ 32)
      (n : r.len ≡ (ep_on x d e).len) (t : r.tog ≡ 0) (y : is_on r.ready ≡ false) (g : is_on r.armed ≡ false) where
    here : Own D E d e
        → ((ep_on (with_on x d e r) D E).tog ≡ 0) × (is_on (ep_on (with_on x d e r) D E).ready ≡ false)
        × (is_on (ep_on (with_on x d e r) D E).armed ≡ false)
    here o = (
      ap (λ (q : EpState). q.tog) (own-with D E x d e r o l) ∙ t,
      ap (λ (q : EpState). is_on q.ready) (own-with D E x d e r o l) ∙ y,
      ap (λ (q : EpState). is_on q.armed) (own-with D E x d e r o l) ∙ g,
    )

    one : Like x (with_on x d e r)
    unfolding with_on
    one = by (ℕ_discrete (key d e) (key D E))
      where
        by : Dec (key d e ≡ key D E) → Like x (with_on x d e r)
        by (yes o) = record {
          len = ap (λ (q : EpState). q.len) (own-with D E x d e r o l)
              ∙ (n ∙ ap (λ (q : EpState). q.len) (own-ep D E x d e o));
          tog = λ _. (here o).0;
          ready = λ _. (here o).1;
          armed = λ _. (here o).2;
          places = length-set x.eps (key d e) r;
        }
        by (no o) = let same = ep-other x d e r D E (λ z. o (sym z)) in record {
          len = ap (λ (q : EpState). q.len) same;
          tog = λ h. ap (λ (q : EpState). q.tog) same ∙ h;
          ready = λ h. ap (λ (q : EpState). is_on q.ready) same ∙ h;
          armed = λ h. ap (λ (q : EpState). is_on q.armed) same ∙ h;
          places = length-set x.eps (key d e) r;
        }

  like : (x : Driver) → Like x x
  like x = record { len = refl; tog = λ h. h; ready = λ h. h; armed = λ h. h; places = refl }

  -- ---- a bus reset

  abbrev Reset : Driver → Type 0
  Reset y = ((ep_on y D E).tog ≡ 0) × (is_on (ep_on y D E).ready ≡ false) × (is_on (ep_on y D E).armed ≡ false)

  below_globals : (n : ℕ) (x : Driver) → (reset_below n x).globals ≡ x.globals
  unfolding reset_below with_on
  below_globals zero x = refl
  below_globals (suc n) x = below_globals n x

  sets_stage : (d : Dir) (kind interval e : ℕ) (g : Globals) → (with_sets d kind interval e g).stage ≡ g.stage
  unfolding with_sets
  sets_stage d kind interval e g = by (is_iso kind) d
    where
      often : (c : Bool)
          → (cond c (with_iso_sets g.iso_out_eps (with_bit g.iso_in_every (e % 16) true) g) g).stage ≡ g.stage
      often true = refl
      often false = refl

      by : (b : Bool) (d : Dir) → (cond b (iso_added d interval e g) g).stage ≡ g.stage
      by false d = refl
      by true Out = refl
      by true In = often (ltb interval 2)

  given : (w : Track) (d : Dir) (kind maximum interval e base slots : ℕ) (x : Driver) → length x.eps ≡ 32
      → Fits w (view D E x) → eqb x.globals.stage 2 ≡ false
      → let y = sets_given d kind interval e (record_given d kind maximum e base slots x) in
      Fits w (view D E y) × (length y.eps ≡ 32) × (y.globals.stage ≡ x.globals.stage)
  unfolding sets_given record_given allocated is_on ep_on with_on
  given w d kind maximum interval e base slots x l r two =
      let q = one x d e (allocated (ep_on x d e) kind maximum base x.allocator.size slots) l refl refl refl refl in
      let early = r.early two in
      let stage = sets_stage d kind interval e x.globals in (
        record {
          tog = q.tog (r.tog ∙ ap number early.0) ∙ sym (ap number early.0);
          ready = q.ready (r.ready ∙ early.1) ∙ sym early.1;
          armed = q.armed (r.armed ∙ early.2) ∙ sym early.2;
          len = q.len ∙ r.len;
          early = λ _. early;
        },
        q.places ∙ l,
        stage,
      )

  abbrev cleared : Driver → Dir → ℕ → Driver
  cleared x d n = with_on x d n (reset_of (ep_on x d n))

  clears : (x : Driver) (d : Dir) (n : ℕ) → length x.eps ≡ 32 → Like x (cleared x d n)
  unfolding is_on
  clears x d n l = one x d n (reset_of (ep_on x d n)) l refl refl refl refl

  clears_here : (x : Driver) (d : Dir) (n : ℕ) → length x.eps ≡ 32 → Own D E d n → Reset (cleared x d n)
  unfolding is_on
  clears_here x d n l o = here x d n (reset_of (ep_on x d n)) l refl refl refl refl o

  own_key : (d : Dir) (n : ℕ) → D ≡ d → E % 16 ≡ n → Own D E d n
  unfolding key
  own_key Out n g k = rw g (omega (arith, k))
  own_key In n g k = rw g (omega (arith, k))

  next : (n : ℕ) (x a : Driver) → length x.eps ≡ 32 → Like x a → (E % 16 < n → Reset a) → (d : Dir) → D ≡ d
      → Dec (E % 16 ≡ n)
      → let c = cleared (cleared a Out n) In n in Like x c × (E % 16 < suc n → Reset c)
  next n x a l h r d g k =
      let p = clears a Out n (h.places ∙ l) in
      let q = clears (cleared a Out n) In n (p.places ∙ (h.places ∙ l)) in
      (like_then h (like_then p q), at d g k p q)
    where
      at : (d : Dir) → D ≡ d → Dec (E % 16 ≡ n) → Like a (cleared a Out n)
          → Like (cleared a Out n) (cleared (cleared a Out n) In n) → E % 16 < suc n
          → Reset (cleared (cleared a Out n) In n)
      at d g (no k) p q m = let z = r (omega (arith, m, k)) in
          (q.tog (p.tog z.0), q.ready (p.ready z.1), q.armed (p.armed z.2))
      at Out g (yes k) p q m = let z = clears_here a Out n (h.places ∙ l) (own_key Out n g k) in
          (q.tog z.0, q.ready z.1, q.armed z.2)
      at In g (yes k) p q m = clears_here (cleared a Out n) In n (p.places ∙ (h.places ∙ l)) (own_key In n g k)

  below : (n : ℕ) (x : Driver) → length x.eps ≡ 32 → Like x (reset_below n x) × (E % 16 < n → Reset (reset_below n x))
  unfolding reset_below
  below zero x l = (like x, λ h. absurd (omega (arith, h)))
  below (suc n) x l = let h = below n x l in next n x (reset_below n x) l h.0 h.1 D refl (ℕ_discrete (E % 16) n)

  pub reset_fits : (w : Track) (x : Driver) → length x.eps ≡ 32 → Fits w (view D E x)
      → eqb x.globals.stage 2 ≡ true → FitsAs initial false w.len false (view D E (reset_all x))
  unfolding reset_all no_stamps ep_on
  reset_fits w x l r two = let h = below 16 x l in let z = h.1 (omega arith) in
      fits-2 D E (ap (λ (g : Globals). eqb g.stage 2) (below_globals 16 x) ∙ two) z.0 z.1 (h.0.len ∙ r.len)
      z.2

  -- ---- an allocation, before EP0's start

  pub alloc_fits : (w : Track) (s : St) (d : Dir) (kind address maximum interval : ℕ) → Whole s
      → Fits w (view D E s.0) → eqb s.0.globals.stage 2 ≡ false
      → let t = concrete.act (allocate d kind address maximum interval) s in Fits w (view D E t.0) × Whole t
      × (t.0.globals.stage ≡ s.0.globals.stage)
  unfolding allocated_on given_to sets_given ep_on
  alloc_fits w s d kind address maximum interval l r two =
      let z = allocate_of s.0.allocator kind address maximum d in
      by z.answer (with_allocator s.0 z.after) l r two
    where
      by : (a : alloc.Answer) (x : Driver) → length x.eps ≡ 32 → Fits w (view D E x)
          → eqb x.globals.stage 2 ≡ false
          → let y = given_to d kind maximum interval a x in Fits w (view D E y) × (length y.eps ≡ 32)
          × (y.globals.stage ≡ x.globals.stage)
      by (variant.Refused n) x l r two = (r, l, refl)
      by (variant.Given e base slots) x l r two = given w d kind maximum interval e base slots x l r two
