-- An accepted allocation keeps the relation
use Rattle.std.specs.Prelude.{Bool, true, false, List, [], ◌≢◌, ◌≡◌, ℕ, ◌+◌, ◌*◌, ◌%◌, ◌^◌, ◌≤◌, ◌<◌, eqb, length, get_or}
use Rattle.std.proofs.Common.{true≢false, inl, inr, subst, ◌∙◌, arith, mul-le-mul_right, add-mul, eq-eqb, eqb-true}
use Rattle.std.proofs.Math.Path.{refl, ap, sym}
use Rattle.std.proofs.Math.ListN.{length-set}
use Rattle.bits.specs.Bit.{bit_is_set}
use Rattle.bits.specs.TablesLaws.{length-tab}
use Rattle.regs.specs.declared.Dir.{Dir}
use Rattle.regs.specs.declared.Dir.TheVariants.{Out, In}
use Rattle.state.specs.declared.EpState.{EpState}
use Rattle.state.specs.declared.Allocator.{Allocator}
use Rattle.state.specs.Driver.{Driver, key, ep_on, with_on, len_on, stamp_on, paced_on, request_on, with_allocator}
use Rattle.state.specs.Laws.{Sized, ep_on-same, ep_on-other}
use Rattle.alloc.specs.declared.Answer.TheVariants.{Given}
use Rattle.alloc.specs.Alloc.{if, is_out, allocated_ins, slots_of, is_iso, allocated}
use Rattle.alloc.specs.Outcome.{same_dir, in_added, Gives}
use Rattle.alloc.specs.Run.{kept}
use Rattle.alloc.proofs.RunLaws.{step}
use Rattle.alloc.specs.Sound.{Sound}
use Rattle.script.specs.Simulates.{quiet}
use Rattle.script.specs.Cells.{EpCore}
use Rattle.script.specs.Statics.{is_on, iso_outs}
use Rattle.script.specs.Machine.{Buf}
use Rattle.script_ops.specs.Records.{plain_of, with_sets, record_given, sets_given, given_to}
use Rattle.proof_book.specs.Pages.{Kept, Pages, at, with_kept, kept_globals, kept_allocator, kept_plain}
use Rattle.proof_book.specs.Book.{shaped_plain, pages_given, given_b}
use Rattle.proof_book.specs.Coupling.{SameKept, Unused, Shape, Apart, Held, Coupling, lens_of, slot_stamps, end_of}
use Rattle.proof_book.specs.Coupling.{ep0_room}
use Rattle.proof_book.specs.CellsLaws.{key-by, ep_on-by, on-key, plain-put}
use Rattle.proof_book.proofs.GivenPartsLaws.{slots-divide, flag-on, flags-same, new-held, receives-by, SetsOnly}
use Rattle.proof_book.proofs.GivenPartsLaws.{outs_after, sets-only, outs-here, outs-there, Fits, SamePage, fits-as}
use Rattle.proof_book.proofs.GivenPartsLaws.{given-page, pages-kept, Lost, new-fits, Rests, new-rests, shape-wider}
use Rattle.proof_book.proofs.GivenPartsLaws.{ends_as_lem}

-- ---- an accepted allocation

pub low-16 : (e : ℕ) → e ≤ 15 → e % 16 ≡ e
low-16 e h = omega arith

added-here : (e : ℕ) (a b : Allocator) (dir : Dir) (iso : Bool) (base n : ℕ)
    → Gives a iso dir e base n b → (x : ℕ) → x % 16 ≡ e % 16 → bit_is_set (allocated_ins b dir) (x % 16) ≡ true
unfolding is_out
added-here e a b dir iso base n g x q = ap (bit_is_set (allocated_ins b dir)) (q ∙ low-16 e g.number.high)
    ∙ (g.allocates dir e ∙ by dir (eqb e e) (eq-eqb e e refl))
  where
    by : (dir : Dir) (k : Bool) → k ≡ true → if (same_dir dir dir) (if k true (bit_is_set (allocated_ins a dir) e))
        (bit_is_set (allocated_ins a dir) e) ≡ true
    by Out true h = refl
    by In true h = refl
    by Out false h = absurd (true≢false (sym h))
    by In false h = absurd (true≢false (sym h))

added-there : (e : ℕ) (a b : Allocator) (dir : Dir) (iso : Bool) (base n : ℕ) → Gives a iso dir e base n b
    → (dir' : Dir) (x : ℕ) → key dir' x ≢ key dir e → bit_is_set (allocated_ins b dir') (x % 16)
    ≡ bit_is_set (allocated_ins a dir') (x % 16)
unfolding key is_out
added-there e a b dir iso base n g dir' x q = g.allocates dir' (x % 16) ∙ by dir dir' q
  where
    other : (dir : Dir) → x % 16 ≢ e % 16 → (k : Bool)
        → eqb e (x % 16) ≡ k → if k true (bit_is_set (allocated_ins a dir) (x % 16)) ≡ bit_is_set (allocated_ins a dir) (x % 16)
    other dir h true k = absurd (h (sym (eqb-true e (x % 16) k) ∙ sym (low-16 e g.number.high)))
    other dir h false k = refl

    by : (dir dir' : Dir) → key dir' x ≢ key dir e → in_added (same_dir dir dir') (allocated_ins a dir') e (x % 16)
        ≡ bit_is_set (allocated_ins a dir') (x % 16)
    by Out Out q = other Out q (eqb e (x % 16)) refl
    by Out In q = refl
    by In Out q = refl
    by In In q = other In (λ h. q (ap (16 +◌) h)) (eqb e (x % 16)) refl

module _ {b : Buf} {d : Driver} {t : Pages} (r : Coupling quiet b d t) (dir : Dir) (kind maximum interval e base n : ℕ)
    (a : Allocator)
    (small : maximum ≤ d.allocator.size) (g : Gives d.allocator (is_iso kind) dir e base n a) (snd : Sound a) where
  abbrev R : EpState
  R = allocated (ep_on d dir e) kind maximum base a.size n

  abbrev D : Driver
  D = given_to dir kind maximum interval (Given e base n) (with_allocator d a)

  abbrev T : Pages
  T = given_b dir kind maximum interval (Given e base n) (with_kept t (kept_allocator t.kept a))

  fresh-number : bit_is_set (allocated_ins d.allocator dir) (e % 16) ≡ false
  fresh-number = rw (low-16 e g.number.high) (sym (r.sound.taken dir e) ∙ g.number.untaken)

  unused : Unused (ep_on d dir e)
  unused = subst (λ (u : Bool). Shape u d.allocator dir (ep_on d dir e)) fresh-number (r.shape dir e)

  next-mul : (d.allocator.next + n) * d.allocator.size ≡ d.allocator.next * d.allocator.size + n
      * d.allocator.size
  next-mul = add-mul d.allocator.next n d.allocator.size

  below_next : (dir' : Dir) (x : ℕ) → end_of (ep_on d dir' x) ≤ base
  below_next dir' x = by (bit_is_set (allocated_ins d.allocator dir') (x % 16)) (r.shape dir' x)
    where
      by : (u : Bool) → Shape u d.allocator dir' (ep_on d dir' x) → end_of (ep_on d dir' x) ≤ base
      by true s = omega (arith, s.below, g.starts)
      by false s = rw (s.base, s.stride, s.slots) (omega arith)

  low : length b ≤ 65536
  low = omega (arith, r.long, r.sound.small)

  inside : base + n * a.size ≤ length b
  inside = rw g.number.same_size (omega (
    arith,
    g.starts,
    next-mul,
    r.long,
    mul-le-mul_right d.allocator.size
        g.fits,
  ))

  held : (most : ℕ) (ls : List ℕ) → length ls ≡ 16 → ((i : ℕ) → get_or ls i 0 ≤ 0) → Held most b R ls []
  held most ls l z = subst (λ (k : ℕ). Held most b (allocated (ep_on d dir e) kind maximum base a.size k) ls [])
      (sym g.slots)
      (new-held most b (ep_on d dir e) ls kind maximum base a.size dir l z (rw g.number.same_size small)
      (rw g.slots at inside) low)

  here : (x : ℕ) → x % 16 ≡ e % 16 → ep_on D dir x ≡ R
  unfolding ep_on with_on given_to sets_given record_given
  here x q = ep_on-by (with_on (with_allocator d a) dir e R) dir x e q ∙ ep_on-same (with_allocator d a) dir e R (record {
    eps = r.sized.eps;
    lens = r.sized.lens;
    stamps = r.sized.stamps;
    paced = r.sized.paced;
    requests = r.sized.requests;
  })

  there : (dir' : Dir) (x : ℕ) → key dir' x ≢ key dir e → ep_on D dir' x ≡ ep_on d dir' x
  unfolding ep_on with_on given_to sets_given record_given
  there dir' x q = ep_on-other (with_allocator d a) dir e R dir' x q

  lens-as : (dir' : Dir) (x : ℕ) → lens_of D dir' x ≡ lens_of d dir' x
  unfolding len_on with_on given_to sets_given record_given
  lens-as dir' x = refl

  stamps-as : (x : ℕ) → slot_stamps D x ≡ slot_stamps d x
  unfolding stamp_on with_on given_to sets_given record_given
  stamps-as x = refl

  fits : (dir' : Dir) (x : ℕ) → Fits dir' b (ep_on d dir' x) (lens_of d dir' x) (slot_stamps d x) t x
  fits Out x = r.outs x
  fits In x = r.ins x

  capped-0 : (dir' : Dir) (x : ℕ) → (ep_on d dir' x).stride ≡ 0 → (i : ℕ) → get_or (lens_of d dir' x) i 0 ≤ 0
  capped-0 Out x h i = rw h at ((r.outs x).held.ring.capped i)
  capped-0 In x h i = rw h at ((r.ins x).held.ring.capped i)

  abbrev T0 : Pages
  T0 = with_kept t (kept_plain (kept_allocator t.kept a) dir e (shaped_plain (t.kept.plain dir e) kind maximum base))

  lost_as : (dir' : Dir) (x : ℕ) → Lost dir' (ep_on d dir' x) T0 x
  lost_as Out x = (r.outs x).lost
  lost_as In x = tt

  page-as : (dir' : Dir) (x : ℕ) → SamePage dir' (pages_given dir e base T0) T x
  page-as Out x = refl
  page-as In x = refl

  page-there : (dir' : Dir) (x : ℕ) → key dir' x ≢ key dir e → SamePage dir' t T x
  page-there Out x q = given-page Out dir e base x T0 q
  page-there In x q = given-page In dir e base x T0 q

  fits_after : (dir' : Dir) (x : ℕ) → Fits dir' b (ep_on D dir' x) (lens_of D dir' x) (slot_stamps D x) T x
  fits_after = on-key (λ dir' x. Fits dir' b (ep_on D dir' x) (lens_of D dir' x) (slot_stamps D x) T x) dir e
      (λ x q. rw (lens-as dir x, stamps-as x)
      (fits-as dir b R (ep_on D dir x) (lens_of d dir x) (slot_stamps d x) (pages_given dir e base T0) T x (here x q)
      (page-as dir x)
      (new-fits dir b (ep_on d dir e) (lens_of d dir x) (slot_stamps d x) T0 kind maximum base a.size n e x q
      (λ most. held most (lens_of d dir x) (length-tab (λ i. len_on d dir x i) 16)
      (capped-0 dir x (rw (ep_on-by d dir x e q) unused.stride)))
      (rw g.slots (slots-divide (is_iso kind) dir).0) (lost_as dir e))))
      (λ dir' x q. rw (lens-as dir' x, stamps-as x) (fits-as dir' b (ep_on d dir' x) (ep_on D dir' x)
      (lens_of d dir' x) (slot_stamps d x) t T x (there dir' x q) (page-there dir' x q) (fits dir' x)))

  plain-as : plain_of R ≡ shaped_plain (t.kept.plain dir e) kind maximum base
  unfolding allocated
  plain-as =
      ap (λ (i : ℕ). record {
        ready = 0;
        len = (ep_on d dir e).len;
        armed = 0;
        last_frame = 0x1800;
        tog = 0;
        iso = i;
        kind = kind % 4;
        base = base;
        max_len = maximum;
      }) (flags-same (is_iso kind))
      ∙ ap (λ (p : EpCore). shaped_plain p kind maximum base) (r.same.plain dir e)

  iso-as : is_on R.iso ≡ is_iso kind
  unfolding allocated
  iso-as = ap is_on (flags-same (is_iso kind)) ∙ flag-on (is_iso kind)

  end_below : base + n * a.size ≤ a.next * a.size
  end_below = rw (g.number.same_size, g.used) (omega (arith, g.starts, next-mul))

  shape-here : Shape true a dir R
  unfolding allocated
  shape-here = record {
    stride = refl;
    slots = g.slots ∙ sym (ap (λ (i : Bool). slots_of i dir) iso-as);
    below = end_below;
  }

  shape-after : (dir' : Dir) (x : ℕ) → Shape (bit_is_set (allocated_ins a dir') (x % 16)) a dir' (ep_on D dir' x)
  shape-after = on-key (λ dir' x. Shape (bit_is_set (allocated_ins a dir') (x % 16)) a dir' (ep_on D dir' x)) dir e
      (λ x q. rw (added-here e d.allocator a dir (is_iso kind) base n g x q, here x q) shape-here)
      (λ dir' x q. rw (added-there e d.allocator a dir (is_iso kind) base n g dir' x q, there dir' x q)
      (shape-wider (bit_is_set (allocated_ins d.allocator dir') (x % 16))
      d.allocator a dir' (ep_on d dir' x) g.number.same_size (omega (arith, g.used)) (r.shape dir' x)))

  outs-as : SetsOnly (outs_after (is_iso kind) dir e d.globals.iso_out_eps) d.globals D.globals
  unfolding with_on given_to sets_given record_given
  outs-as = sets-only dir kind interval e d.globals

  base-low : base < 2 ^ 32
  base-low = omega (arith, inside, low)

  arming-after : (dir' : Dir) (x : ℕ) → Rests dir' (bit_is_set (iso_outs D.globals) (x % 16)) (ep_on D dir' x) (T.outs x)
  arming-after = on-key (λ dir' x. Rests dir' (bit_is_set (iso_outs D.globals) (x % 16)) (ep_on D dir' x) (T.outs x)) dir e
      (λ x q. rw (here x q) (new-rests dir (ep_on d dir e) kind maximum base a.size n e x T0
      (bit_is_set (iso_outs D.globals) (x % 16)) base-low q))
      old
    where
      old : (dir' : Dir) (x : ℕ) → key dir' x ≢ key dir e
          → Rests dir' (bit_is_set (iso_outs D.globals) (x % 16)) (ep_on D dir' x) (T.outs x)
      old Out x q = rw (
        receives-by d.globals D.globals x outs-as.config
            (ap (λ (w : ℕ). bit_is_set w (x % 16)) outs-as.isos
            ∙ outs-there (is_iso kind) dir e x d.globals.iso_out_eps q),
        there Out x q,
        page-there Out x q,
      ) (r.arming x)
      old In x q = tt

  apart-after : (dir₁ dir₂ : Dir) (x y : ℕ) → key dir₁ x ≢ key dir₂ y
      → Apart (ep_on D dir₁ x).base (end_of (ep_on D dir₁ x)) (ep_on D dir₂ y).base (end_of (ep_on D dir₂ y))
  unfolding allocated
  apart-after dir₁ dir₂ x y = on-key
      (λ dir₁ x. key dir₁ x ≢ key dir₂ y
      → Apart (ep_on D dir₁ x).base (end_of (ep_on D dir₁ x)) (ep_on D dir₂ y).base (end_of (ep_on D dir₂ y))) dir e
      (λ x q h. rw (here x q, there dir₂ y (λ z. h (key-by dir x e q ∙ sym z))) (inr (below_next dir₂ y)))
      (λ dir₁ x q h. on-key (λ dir₂ y. key dir₁ x ≢ key dir₂ y
      → Apart (ep_on D dir₁ x).base (end_of (ep_on D dir₁ x)) (ep_on D dir₂ y).base (end_of (ep_on D dir₂ y))) dir e
      (λ y p h. rw (here y p, there dir₁ x q) (inl (below_next dir₁ x)))
      (λ dir₂ y p h. rw (there dir₁ x q, there dir₂ y p) (r.apart dir₁ dir₂ x y h)) dir₂ y h)
      dir₁ x

  ep0-top : d.globals.ep0_buf + ep0_room d.globals d.allocator ≤ base
  ep0-top = omega (arith, r.ep0_below, g.starts)

  ep0-apart-after : (dir' : Dir) (x : ℕ) → Apart d.globals.ep0_buf
      (d.globals.ep0_buf + ep0_room d.globals d.allocator) (ep_on D dir' x).base (end_of (ep_on D dir' x))
  unfolding allocated
  ep0-apart-after = on-key
      (λ dir' x. Apart d.globals.ep0_buf
      (d.globals.ep0_buf + ep0_room d.globals d.allocator) (ep_on D dir' x).base (end_of (ep_on D dir' x))) dir e
      (λ x q. rw (here x q) (inl ep0-top))
      (λ dir' x q. rw (there dir' x q) (r.ep0_apart dir' x))

  abbrev IsosAs : Dir → ℕ → Type 0
  IsosAs Out x = bit_is_set D.globals.iso_out_eps (x % 16) ≡ is_on (ep_on D Out x).iso
  IsosAs In x = Unit {0}

  isos-here : (dir' : Dir) → dir' ≡ dir → (x : ℕ) → x % 16 ≡ e % 16 → IsosAs dir' x
  isos-here Out p x q = ap (λ (w : ℕ). bit_is_set w (x % 16)) outs-as.isos
      ∙ (subst (λ (z : Dir). bit_is_set (outs_after (is_iso kind) z e d.globals.iso_out_eps) (x % 16) ≡ is_iso kind) p
      (outs-here (is_iso kind) e x d.globals.iso_out_eps q
      (r.isos e ∙ subst (λ (z : Dir). is_on (ep_on d z e).iso ≡ false) (sym p) (ap is_on unused.iso ∙ flag-on false)))
      ∙ (sym iso-as ∙ sym (ap (λ (y : EpState). is_on y.iso)
      (subst (λ (z : Dir). ep_on D z x ≡ R) (sym p) (here x q)))))
  isos-here In p x q = tt

  isos-there : (dir' : Dir) (x : ℕ) → key dir' x ≢ key dir e → IsosAs dir' x
  isos-there Out x q = ap (λ (w : ℕ). bit_is_set w (x % 16)) outs-as.isos
      ∙ (outs-there (is_iso kind) dir e x d.globals.iso_out_eps q
      ∙ (r.isos x ∙ sym (ap (λ (y : EpState). is_on y.iso) (there Out x q))))
  isos-there In x q = tt

  same_after : SameKept D (kept_globals T0.kept (with_sets dir kind interval e T0.kept.globals))
  unfolding with_on given_to sets_given record_given ep_on paced_on request_on
  same_after = record {
    globals = ap (with_sets dir kind interval e) r.same.globals;
    wakes = r.same.wakes;
    control = r.same.control;
    allocator = refl;
    paced = r.same.paced;
    requests = r.same.requests;
    plain = plain-put (with_allocator d a) t.kept dir e R (record {
      eps = r.sized.eps;
      lens = r.sized.lens;
      stamps = r.sized.stamps;
      paced = r.sized.paced;
      requests = r.sized.requests;
    }) r.same.plain (shaped_plain (t.kept.plain dir e) kind maximum base) plain-as;
  }

  sized-after : Sized D
  unfolding with_on given_to sets_given record_given ep_on
  sized-after = record {
    eps = length-set d.eps (key dir e) R ∙ r.sized.eps;
    lens = r.sized.lens;
    stamps = r.sized.stamps;
    paced = r.sized.paced;
    requests = r.sized.requests;
  }

  allocator-after : D.allocator ≡ a
  unfolding with_on given_to sets_given record_given
  allocator-after = refl

  ep0-end : D.globals.ep0_buf + ep0_room D.globals a ≡ d.globals.ep0_buf + ep0_room d.globals d.allocator
  ep0-end = ends_as_lem _ _ d.globals.stage D.globals.stage d.allocator.size a.size outs-as.ep0_buf
      outs-as.stage g.number.same_size

  pub gives : Coupling quiet b D T
  gives = record {
    step = tt;
    sized = sized-after;
    sound = rw allocator-after snd;
    good = rw (allocator-after, g.number.same_size) r.good;
    long = rw (allocator-after, g.number.same_size, g.number.same_count) r.long;
    same = subst (λ (k : Kept). SameKept D (kept_globals k (with_sets dir kind interval e k.globals)))
        (sym (pages-kept dir e base T0)) same_after;
    shape = λ dir' x. subst (λ (y : Allocator). Shape (bit_is_set (allocated_ins y dir') (x % 16)) y dir' (ep_on D dir' x))
        (sym allocator-after) (shape-after dir' x);
    outs = fits_after Out;
    ins = fits_after In;
    arming = arming-after Out;
    apart = apart-after;
    ep0_below = subst (λ (y : Allocator). D.globals.ep0_buf + ep0_room D.globals y ≤ y.next * y.size)
        (sym allocator-after)
        (subst (λ (k : ℕ). k ≤ a.next * a.size) (sym ep0-end) (omega (arith, ep0-top, end_below)));
    ep0_apart = λ dir' x. subst
        (λ (y : Allocator). Apart D.globals.ep0_buf (D.globals.ep0_buf + ep0_room D.globals y)
        (ep_on D dir' x).base (end_of (ep_on D dir' x))) (sym allocator-after)
        (subst (λ (k : ℕ). Apart D.globals.ep0_buf k (ep_on D dir' x).base (end_of (ep_on D dir' x))) (sym ep0-end)
        (subst (λ (k : ℕ). Apart k (d.globals.ep0_buf + ep0_room d.globals d.allocator) (ep_on D dir' x).base
        (end_of (ep_on D dir' x)))
        (sym outs-as.ep0_buf) (ep0-apart-after dir' x)));
    ep0_lies = subst (λ (y : Allocator). D.globals.ep0_buf + y.size ≤ length b)
        (sym allocator-after) (rw (outs-as.ep0_buf, g.number.same_size) r.ep0_lies);
    ep0_least = subst (λ (y : Allocator). D.globals.ep0_max ≤ ep0_room D.globals y) (sym allocator-after)
        (rw (outs-as.ep0_max, outs-as.stage, g.number.same_size) r.ep0_least);
    isos = on-key IsosAs dir e (isos-here dir refl) isos-there Out;
  }
