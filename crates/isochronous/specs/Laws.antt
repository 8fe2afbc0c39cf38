-- Walks and completions, a step at a time. Assumes nothing.
use Rattle.std.specs.Prelude.{◌≡◌, ◌≢◌, Bool, true, false, cond, List, [], ◌∷◌, ℕ, zero, suc, ◌-◌, ◌^◌, ◌<◌, ◌≤◌}
use Rattle.std.proofs.Math.Path.{refl}
use Rattle.std.proofs.Common.{ap, sym, subst, ◌∙◌, ⊎_elim, arith, pow_mono, lt-ltb, ltb-true}
use Rattle.bits.specs.Bit.{bit, bit_is_set}
use Rattle.bits.specs.BitLaws.{bit-cases, bit_le}
use Rattle.bits.specs.Walk.{set_bits, lowest, rest}
use Rattle.bits.specs.WalkLaws.{walk_none, walk_step, rest_lt}
use Rattle.regs.specs.declared.Access.{Access}
use Rattle.regs.specs.declared.Access.TheVariants.{Read}
use Rattle.regs.specs.declared.Reg.TheVariants.{MisSt, FrameNo}
use Rattle.regs.specs.declared.Dir.TheVariants.{In}
use Rattle.regs.specs.Enables as enables
use Rattle.regs.specs.Registers.{fits_in}
use Rattle.frame.specs.Usb20.{index_of, frame_of}
use Rattle.frame.specs.Advance.{NO_FRAME, previous, completions, in_previous}
use Rattle.frame.specs.Laws.{completions-le}
use Rattle.state.specs.declared.EpState.{EpState}
use Rattle.state.specs.Driver.{Driver, ep_on, paced_on, with_paced_on, with_globals}
use Rattle.state.specs.declared.Globals.{Globals}
use Rattle.script.specs.Tree as tree
use Rattle.script.specs.Tree.{asks, ends, bind_out}
use Rattle.script.specs.Script.{run}
use Rattle.script.specs.Machine.{nothing, awaited}
use Rattle.script.specs.Statics.{with_sof_frame, every_iso_in}
use Rattle.script.specs.IsoIn.{iso_in_complete, unseen, on_sof, sof_walk, late_walk, iso_in_completions}
use Rattle.script_ops.specs.Rings.{St}
use Rattle.script_ops.specs.Concrete.{concrete, go}
use Rattle.isochronous.specs.declared.complete.Complete.{Complete}
use Rattle.isochronous.specs.declared.complete.CompleteNext.{CompleteNext}
use Rattle.isochronous.specs.declared.complete.CompleteNext.TheVariants as next
use Rattle.isochronous.specs.declared.complete.Begun.{Begun}
use Rattle.isochronous.specs.declared.iso_in.Found.{Found}
use Rattle.isochronous.specs.declared.iso_in.Found.TheVariants as found
use Rattle.isochronous.specs.declared.sof.Sof.{Sof}
use Rattle.isochronous.specs.declared.sof.Sof.TheVariants as sof-point
use Rattle.isochronous.specs.Frames.{framed_on, is_first}
use Rattle.isochronous.specs.Complete as complete
use Rattle.isochronous.specs.Sof as sof
use Rattle.isochronous.specs.Late as late
use Rattle.isochronous.specs.Advance as advance

-- ---- numbers

-- no bit of a mask is set above its width
pub set-above : (w e : ℕ) → w < 2 ^ 16 → 16 ≤ e → bit_is_set w e ≡ false
unfolding bit_is_set
set-above w e h k =
    ⊎_elim
    (λ (z : bit w e ≡ 0). rw z refl)
    (λ (o : bit w e ≡ 1). let l = bit_le w e o in let m : 2 ^ 16 ≤ 2 ^ e
    = pow_mono {i = 16} {j = e} k in absurd (omega arith))
    (bit-cases w e)

-- a reading of 8 bits or less is a byte
pub wider : (v w : ℕ) → 2 ^ w ≤ 256 → fits_in v w ≡ true → fits_in v 8 ≡ true
unfolding fits_in
wider v w h fits = lt-ltb v 256 (below (2 ^ w) h (ltb-true v (2 ^ w) fits))
  where
    below : (m : ℕ) → m ≤ 256 → v < m → v < 256
    below m h k = omega arith

-- the rest of a mask is less, so a walk ends
pub rest-less : (m k : ℕ) → 0 < m → m < 2 ^ 16 → k ≡ rest m → k < m
rest-less m k p l h = rw h (rest_lt m p l)

-- an advance's completions are few
pub few : (n last now : ℕ) → n ≡ completions last now → n ≤ 3
few n last now h = rw h (completions-le last now)

pub fits-mis : (p : Sof) (v e m : ℕ) → p ≡ sof-point.Mis e m → sof.fits_at p v ≡ true → fits_in v 8 ≡ true
unfolding sof.fits_at
fits-mis p v e m h fits = wider v 2 (omega arith) (ap (λ (q : Sof). sof.fits_at q v) (sym h) ∙ fits)

pub fits-st : (p : Sof) (v e m : ℕ) → p ≡ sof-point.St e m → sof.fits_at p v ≡ true → fits_in v 8 ≡ true
unfolding sof.fits_at
fits-st p v e m h fits = wider v 7 (omega arith) (ap (λ (q : Sof). sof.fits_at q v) (sym h) ∙ fits)

-- ---- a completion's answer

abbrev asked : Access → Complete → Driver → List ℕ → tree.Out St Unit
asked q p d b = asks q (d, b) (λ _ t. complete.denote p t)

pub next-linked : (n : CompleteNext) (q : Access) (p : Complete) → n ≡ next.Asks q p → complete.Linked n → awaited q
    ≡ nothing
next-linked n q p h l = subst complete.Linked h l

next-asked : (n : CompleteNext) (q : Access) (p : Complete) (d : Driver) (b : List ℕ) (o : tree.Out St Unit)
    → n ≡ next.Asks q p → complete.meaning n d b ≡ o → asked q p d b ≡ o
next-asked n q p d b o h k = ap (λ (x : CompleteNext). complete.meaning x d b) (sym h) ∙ k

next-ended : (n : CompleteNext) (d : Driver) (b : List ℕ) (o : tree.Out St Unit) → n ≡ next.Ends
    → complete.meaning n d b ≡ o → ends tt (d, b) ≡ o
next-ended n d b o h k = ap (λ (x : CompleteNext). complete.meaning x d b) (sym h) ∙ k

-- ---- the SOF's walk

abbrev sof_over : ℕ → List ℕ → tree.Prog St Unit
sof_over frame l t = bind_out (run concrete (sof_walk {i = true} frame l) t) (λ _ u. sof.called u)

sof-over : (frame m : ℕ) (l : List ℕ) (t : St) → set_bits m ≡ l → sof.walking frame m t ≡ sof_over frame l t
unfolding sof.walking
sof-over frame m l t h = ap (λ (x : List ℕ). sof_over frame x t) h

sof-nil : (frame : ℕ) (t : St) → sof_over frame [] t ≡ sof.called t
unfolding sof_walk
sof-nil frame t = refl

pub sof-none : (frame m : ℕ) (t : St) → m ≡ 0 → sof.walking frame m t ≡ sof.called t
sof-none frame m t h = ap (λ (x : ℕ). sof.walking frame x t) h ∙ (sof-over frame 0 [] t walk_none ∙ sof-nil frame t)

-- one endpoint, passed over or not
abbrev pub sof_at : ℕ → ℕ → ℕ → Bool → tree.Prog St Unit
sof_at frame e m passed t = cond passed (sof.walking frame m t) (sof.looked frame (found.At e m) t)

abbrev sof_with : ℕ → ℕ → ℕ → Bool → tree.Prog St Unit
sof_with frame e m passed t = sof.then_walk frame m (cond passed (ends tt t)
    (asks (Read MisSt 0) t (λ v u. run concrete (sof.after_mis frame e v) u)))

sof-told : (frame e m : ℕ) (t : St) (passed : Bool) → sof_with frame e m passed t ≡ sof_at frame e m passed t
unfolding sof.walking
sof-told frame e m t true = refl
sof-told frame e m t false = refl

sof-cons : (frame e m : ℕ) (t : St) (passed : Bool) → in_previous (ep_on t.0 In e).last_frame frame ≡ passed
    → sof_over frame (e ∷ set_bits m) t ≡ sof_at frame e m passed t
unfolding sof_walk
sof-cons frame e m t passed h = ap (λ (x : Bool). sof_with frame e m x t) h ∙ sof-told frame e m t passed

pub sof-step : (frame m e k : ℕ) (t : St) (r : EpState) (x passed : Bool)
    → 0 < m
    → m < 2 ^ 16
    → e ≡ lowest m
    → k ≡ rest m
    → r ≡ ep_on t.0 In e
    → x ≡ in_previous r.last_frame frame
    → x ≡ passed
    → sof.walking frame m t ≡ sof_at frame e k passed t
sof-step frame m e k t r x passed p l he hk hr hx hp =
    sof-over frame m (lowest m ∷ set_bits (rest m)) t (walk_step m p l)
    ∙ (ap (λ (z : ℕ). sof_over frame (z ∷ set_bits (rest m)) t) (sym he)
    ∙ (ap (λ (z : ℕ). sof_over frame (e ∷ set_bits z) t) (sym hk)
    ∙ sof-cons frame e k t passed (ap (λ (z : EpState). in_previous z.last_frame frame) (sym hr) ∙ (sym hx ∙ hp))))

entered : (frame : ℕ) (d : Driver) (b : List ℕ)
    → sof.walking frame (every_iso_in (with_sof_frame frame d.globals))
    (with_globals d (with_sof_frame frame d.globals), b)
    ≡ go {i = true} (on_sof frame) d b
unfolding sof.walking
entered frame d b = refl

pub sof-entered : (frame m : ℕ) (d x : Driver) (g : Globals) (b : List ℕ)
    → g ≡ d.globals
    → x ≡ with_globals d (with_sof_frame frame g)
    → m ≡ every_iso_in (with_sof_frame frame g)
    → sof.walking frame m (x, b) ≡ go {i = true} (on_sof frame) d b
sof-entered frame m d x g b hg hx hm =
    ap (λ (z : ℕ). sof.walking frame z (x, b)) hm
    ∙ (ap (λ (z : Driver). sof.walking frame (every_iso_in (with_sof_frame frame g)) (z, b)) hx
    ∙ (ap (λ (z : Globals). sof.walking frame (every_iso_in (with_sof_frame frame z))
    (with_globals d (with_sof_frame frame z), b)) hg
    ∙ entered frame d b))

unseen-framed : (frame e : ℕ) (d : Driver) (b : List ℕ)
    → go {i = true} (iso_in_complete e) (framed_on d e (frame_of (previous (index_of frame)))) b
    ≡ go {i = true} (unseen frame e) d b
unfolding framed_on
unseen-framed frame e d b = refl

pub sof-begun : (frame e m k : ℕ) (q : Access) (p : Complete) (d x y : Driver) (b : List ℕ)
    → asked q p y b ≡ go {i = true} (iso_in_complete e) x b
    → x ≡ framed_on d e k
    → k ≡ frame_of (previous (index_of frame))
    → asks q (y, b) (λ _ t. sof.then_walk frame m (complete.denote p t))
    ≡ sof.then_walk frame m (go {i = true} (unseen frame e) d b)
sof-begun frame e m k q p d x y b h hx hk =
    ap (sof.then_walk frame m) (h
    ∙ (ap (λ (z : Driver). go {i = true} (iso_in_complete e) z b) (hx ∙ ap (framed_on d e) hk)
    ∙ unseen-framed frame e d b))

pub sof-more : (frame m : ℕ) (n : CompleteNext) (q : Access) (p : Complete) (d : Driver) (b : List ℕ)
    (o : tree.Out St Unit)
    → n ≡ next.Asks q p
    → complete.meaning n d b ≡ o
    → asks q (d, b) (λ _ t. sof.then_walk frame m (complete.denote p t)) ≡ sof.then_walk frame m o
sof-more frame m n q p d b o h k = ap (sof.then_walk frame m) (next-asked n q p d b o h k)

sof-on : (frame m : ℕ) (t : St) → sof.walking frame m t ≡ sof.then_walk frame m (ends tt t)
unfolding sof.walking
sof-on frame m t = refl

pub sof-next : (frame m : ℕ) (n : CompleteNext) (d : Driver) (b : List ℕ) (o : tree.Out St Unit)
    → n ≡ next.Ends
    → complete.meaning n d b ≡ o
    → sof.walking frame m (d, b) ≡ sof.then_walk frame m o
sof-next frame m n d b o h k = sof-on frame m (d, b) ∙ ap (sof.then_walk frame m) (next-ended n d b o h k)

-- ---- a late entry's walk

abbrev late_over : ℕ → List ℕ → tree.Prog St Unit
late_over frame l t = run concrete (late_walk {i = true} frame l) t

late-over : (frame m : ℕ) (l : List ℕ) (t : St) → set_bits m ≡ l → late.walking frame m t ≡ late_over frame l t
unfolding late.walking
late-over frame m l t h = ap (λ (x : List ℕ). late_over frame x t) h

late-nil : (frame : ℕ) (t : St) → late_over frame [] t ≡ ends tt t
unfolding late_walk
late-nil frame t = refl

pub late-none : (frame m : ℕ) (t : St) → m ≡ 0 → late.walking frame m t ≡ ends tt t
late-none frame m t h = ap (λ (x : ℕ). late.walking frame x t) h ∙ (late-over frame 0 [] t walk_none ∙ late-nil frame t)

-- one endpoint, its frame recorded: its first completion in it or not
abbrev pub late_at : ℕ → ℕ → ℕ → Bool → tree.Prog St Unit
late_at frame e m first t = cond first (late.looked frame (found.At e m) t) (late.walking frame m t)

abbrev late_with : ℕ → ℕ → ℕ → Bool → tree.Prog St Unit
late_with frame e m first t = bind_out (cond first (run concrete (iso_in_complete {i = true} e) t) (ends tt t))
    (λ _ u. late_over frame (set_bits m) u)

late-told : (frame e m : ℕ) (t : St) (first : Bool) → late_with frame e m first t ≡ late_at frame e m first t
unfolding late.walking
late-told frame e m t true = refl
late-told frame e m t false = refl

late-cons : (frame e m : ℕ) (d : Driver) (b : List ℕ) (first : Bool)
    → is_first d e frame ≡ first → late_over frame (e ∷ set_bits m) (d, b) ≡ late_at frame e m first (framed_on d e frame, b)
unfolding late_walk is_first framed_on
late-cons frame e m d b first h = ap (λ (x : Bool). late_with frame e m x (framed_on d e frame, b)) h
    ∙ late-told frame e m (framed_on d e frame, b) first

pub late_step : (frame m e k : ℕ) (d y : Driver) (b : List ℕ) (x first : Bool)
    → 0 < m
    → m < 2 ^ 16
    → e ≡ lowest m
    → k ≡ rest m
    → y ≡ framed_on d e frame
    → x ≡ is_first d e frame
    → x ≡ first
    → late.walking frame m (d, b) ≡ late_at frame e k first (y, b)
late_step frame m e k d y b x first p l he hk hy hx hf =
    late-over frame m (lowest m ∷ set_bits (rest m)) (d, b) (walk_step m p l)
    ∙ (ap (λ (z : ℕ). late_over frame (z ∷ set_bits (rest m)) (d, b)) (sym he)
    ∙ (ap (λ (z : ℕ). late_over frame (e ∷ set_bits z) (d, b)) (sym hk)
    ∙ (late-cons frame e k d b first (sym hx ∙ hf)
    ∙ ap (λ (z : Driver). late_at frame e k first (z, b)) (sym hy))))

pub late-at : (frame e m : ℕ) (f : Found) (q : Access) (p : Complete) (d y : Driver) (b : List ℕ) (o : tree.Out St Unit)
    → f ≡ found.At e m
    → late.looked frame f (d, b) ≡ o
    → asked q p y b ≡ go {i = true} (iso_in_complete e) d b
    → asks q (y, b) (λ _ t. late.then_walk frame m (complete.denote p t)) ≡ o
late-at frame e m f q p d y b o hf ho h = ap (late.then_walk frame m) h
    ∙ (ap (λ (x : Found). late.looked frame x (d, b)) (sym hf) ∙ ho)

pub late-more : (frame m : ℕ) (n : CompleteNext) (q : Access) (p : Complete) (d : Driver) (b : List ℕ)
    (o : tree.Out St Unit)
    → n ≡ next.Asks q p
    → complete.meaning n d b ≡ o
    → asks q (d, b) (λ _ t. late.then_walk frame m (complete.denote p t)) ≡ late.then_walk frame m o
late-more frame m n q p d b o h k = ap (late.then_walk frame m) (next-asked n q p d b o h k)

pub late-next : (frame m : ℕ) (n : CompleteNext) (d : Driver) (b : List ℕ) (o : tree.Out St Unit)
    → n ≡ next.Ends
    → complete.meaning n d b ≡ o
    → late.walking frame m (d, b) ≡ late.then_walk frame m o
late-next frame m n d b o h k = ap (late.then_walk frame m) (next-ended n d b o h k)

-- ---- a paced advance's completions

none : (e frame : ℕ) (d : Driver) (b : List ℕ) → advance.completing e 0 frame (d, b) ≡ ends 0 (with_paced_on d e frame, b)
unfolding advance.completing iso_in_completions
none e frame d b = refl

pub paced-none : (e n frame : ℕ) (d : Driver) (b : List ℕ) → n ≡ 0 → advance.completing e n frame (d, b)
    ≡ ends 0 (with_paced_on d e frame, b)
paced-none e n frame d b h = ap (λ (x : ℕ). advance.completing e x frame (d, b)) h ∙ none e frame d b

more : (e n frame : ℕ) (t : St) → advance.completing e (suc n) frame t
    ≡ advance.then_more e n frame (run concrete (iso_in_complete {i = true} e) t)
unfolding advance.completing iso_in_completions
more e n frame t = refl

less : (n : ℕ) → suc n - 1 ≡ n
less n = omega arith

some : (e n frame : ℕ) (t : St) → n ≢ 0 → advance.completing e n frame t
    ≡ advance.then_more e (n - 1) frame (run concrete (iso_in_complete {i = true} e) t)
some e zero frame t h = absurd (h refl)
some e (suc n) frame t h = more e n frame t ∙ ap (λ (k : ℕ). advance.then_more e k frame
    (run concrete (iso_in_complete {i = true} e) t)) (sym (less n))

-- by the point at which the completion stands
pub paced-begun : (e n frame : ℕ) (x : Begun) (p : Complete) (d y : Driver) (b : List ℕ)
    → n ≢ 0
    → x.point ≡ p
    → complete.begun x y b ≡ go {i = true} (iso_in_complete e) d b
    → asks x.access (y, b) (λ _ t. advance.then_more e (n - 1) frame (complete.denote p t))
    ≡ advance.completing e n frame (d, b)
paced-begun e n frame x p d y b z k h =
    ap (advance.then_more e (n - 1) frame) (ap (λ (r : Complete). asked x.access r y b) (sym k) ∙ h)
    ∙ sym (some e n frame (d, b) z)

-- one is done
pub paced-on : (e m frame : ℕ) (t : St) → advance.completing e m frame t ≡ advance.then_more e m frame (ends tt t)
unfolding advance.completing
paced-on e m frame t = refl

-- `iso_in_advance`, by the endpoint: paced and enabled, paced, neither
abbrev counted : ℕ → Driver → List ℕ → tree.Out St Unit
counted e d b = asks (Read FrameNo 0) (d, b)
    (λ v t. bind_out (run concrete (iso_in_completions {i = false} (completions (paced_on t.0 e) (index_of v)) e) t)
    (λ _ u. ends tt (with_paced_on u.0 e (frame_of (index_of v)), u.1)))

abbrev forgotten : ℕ → Driver → List ℕ → tree.Out St Unit
forgotten e d b = ends tt (with_paced_on d e NO_FRAME, b)

abbrev over : Driver → List ℕ → tree.Out St Unit
over d b = ends tt (d, b)

abbrev chosen : ℕ → Driver → List ℕ → Bool → tree.Out St Unit
chosen e d b on = cond on (counted e d b) (forgotten e d b)

abbrev first : ℕ → Driver → List ℕ → Bool → Bool → tree.Out St Unit
first e d b paced on = cond paced (chosen e d b on) (over d b)

abbrev sorted : ℕ → Driver → List ℕ → Bool → Bool → tree.Out St ℕ
sorted e d b paced on = bind_out (first e d b paced on) (λ _ u. ends 0 u)

module _ (e : ℕ) (d : Driver) (b : List ℕ) where
  of-sort : (paced on : Bool) → bit_is_set d.globals.iso_in_paced e ≡ paced
      → enables.is_on d.globals.ep_config In e ≡ on → go (advance.advance e) d b ≡ sorted e d b paced on
  of-sort paced on h k = ap (λ (x : Bool). sorted e d b x (enables.is_on d.globals.ep_config In e)) h
      ∙ ap (λ (x : Bool). sorted e d b paced x) k

  reads : sorted e d b true true ≡ asks (Read FrameNo 0) (d, b) (λ v t. advance.after_frame_no e v t)
  unfolding advance.completing
  reads = refl

  pub advance-reads : bit_is_set d.globals.iso_in_paced e ≡ true → enables.is_on d.globals.ep_config In e ≡ true
      → go (advance.advance e) d b ≡ asks (Read FrameNo 0) (d, b) (λ v t. advance.after_frame_no e v t)
  advance-reads h k = of-sort true true h k ∙ reads

  pub advance-forgets : bit_is_set d.globals.iso_in_paced e ≡ true → enables.is_on d.globals.ep_config In e
      ≡ false
      → go (advance.advance e) d b ≡ ends 0 (with_paced_on d e NO_FRAME, b)
  advance-forgets h k = of-sort true false h k

  pub advance-ends : bit_is_set d.globals.iso_in_paced e ≡ false → go (advance.advance e) d b ≡ ends 0 (d, b)
  advance-ends h = of-sort false (enables.is_on d.globals.ep_config In e) h refl
