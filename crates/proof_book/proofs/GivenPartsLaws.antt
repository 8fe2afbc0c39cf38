-- What an accepted allocation changes, part by part: the allocator, the endpoint's record, the sets of endpoints, its
-- page
use Rattle.std.specs.Prelude.{Bool, true, false, cond, List, [], ◌≢◌, ◌≡◌, refl, ℕ, ◌+◌, ◌-◌, ◌*◌, ◌%◌, ◌^◌, ◌≤◌, ◌<◌, eqb, ltb, length, get_or}
use Rattle.std.proofs.Common.{ap, subst, sym, ◌∙◌, arith, mod-lt, mul-le-mul_right, le_trans, eq-eqb, ne_eqb}
use Rattle.std.proofs.Math.Nat.{zero-mod}
use Rattle.bits.specs.Bit.{bit_is_set, with_bit, both}
use Rattle.bits.specs.BitLaws.{set-with}
use Rattle.regs.specs.declared.Dir.{Dir}
use Rattle.regs.specs.declared.Dir.TheVariants.{Out, In}
use Rattle.regs.specs.Enables as enables
use Rattle.regs.specs.EnablesLaws.{out-enabled-set}
use Rattle.state.specs.declared.EpState.{EpState}
use Rattle.state.specs.declared.Globals.{Globals}
use Rattle.state.specs.declared.Allocator.{Allocator}
use Rattle.state.specs.Driver.{Driver, key, ep_on, len_on, stamp_on, paced_on, request_on, with_allocator}
use Rattle.alloc.specs.Alloc.{allocated_ins, slots_of, is_iso, allocated}
use Rattle.alloc.specs.Alloc as alloc
use Rattle.alloc.specs.Run.{kept}
use Rattle.alloc.proofs.RunLaws.{step}
use Rattle.alloc.specs.Sound.{Sound}
use Rattle.ring.specs.Slot.{slot_of, slot_addr}
use Rattle.ring.specs.Laws.{reset-count, reset-waits, reset_ring}
use Rattle.script.specs.Simulates.{quiet}
use Rattle.script.specs.Statics.{is_on, flag, iso_outs}
use Rattle.script.specs.Machine.{Buf}
use Rattle.script_ops.specs.Records.{with_sets, iso_added, with_iso_sets}
use Rattle.proof_book.specs.Pages.{OutPage, Pages, on, with_kept, kept_allocator}
use Rattle.proof_book.specs.Book.{slot_told, empty_out, empty_in, pages_given}
use Rattle.proof_book.specs.Coupling.{Shape, Held, OutFits, InFits, AtRest, Coupling, end_of}
use Rattle.proof_book.specs.KeptLaws.{same_values}
use Rattle.proof_book.specs.EmptyPagesLaws.{empty-out, empty-in}
use Rattle.proof_book.specs.CellsLaws.{key-by, at_same, at_other}

-- ---- an allocator with the same buffers, of which perhaps more are used

pub record Further (a b : Allocator) : Type 0 where
  pub size : b.size ≡ a.size
  pub count : b.count ≡ a.count
  pub next : a.next ≤ b.next
  pub sound : Sound b
  pub allocated : (dir : Dir) (j : ℕ) → bit_is_set (allocated_ins b dir) j ≡ bit_is_set (allocated_ins a dir) j

below-further : (a b : Allocator) → Further a b → (n : ℕ) → n ≤ a.next * a.size → n ≤ b.next * b.size
below-further a b f n h = rw f.size (le_trans h (mul-le-mul_right a.size f.next))

shape-further : (used : Bool) (a b : Allocator) → Further a b → (dir : Dir) (r : EpState) → Shape used a dir r
    → Shape used b dir r
shape-further true a b f dir r s = record {
  stride = s.stride ∙ sym f.size;
  slots = s.slots;
  below
      = below-further a b f (end_of r) s.below;
}
shape-further false a b f dir r s = s

-- the relation with the allocator further on
pub further : {b : Buf} {d : Driver} {t : Pages} → Coupling quiet b d t → (a : Allocator)
    → Further d.allocator a → Coupling quiet b (with_allocator d a) (with_kept t (kept_allocator t.kept a))
unfolding ep_on len_on stamp_on paced_on request_on
further {b = b} {d = d} {t = t} r a f = record {
  step = tt;
  sized = record {
    eps = r.sized.eps;
    lens = r.sized.lens;
    stamps = r.sized.stamps;
    paced
        = r.sized.paced;
    requests = r.sized.requests;
  };
  sound = f.sound;
  good = rw f.size r.good;
  long = rw (f.size, f.count) r.long;
  same = same_values r.same (λ e. refl, λ dir e. refl, λ dir e. refl) r.same.globals r.same.wakes
      r.same.control refl;
  shape = λ dir e. rw (f.allocated dir (e % 16))
      (shape-further (bit_is_set (allocated_ins d.allocator dir) (e % 16)) d.allocator a f dir (ep_on d dir e)
      (r.shape dir e));
  outs = r.outs;
  ins = r.ins;
  arming = r.arming;
  apart = r.apart;
  ep0_below = subst (λ (z : ℕ). d.globals.ep0_buf + cond (eqb d.globals.stage 2) z 0 ≤ a.next * a.size)
      (sym f.size) (below-further d.allocator a f _ r.ep0_below);
  ep0_apart = λ dir e. rw f.size (r.ep0_apart dir e);
  ep0_lies = rw f.size r.ep0_lies;
  ep0_least = rw f.size r.ep0_least;
  isos = r.isos;
}

-- ---- a new endpoint's record

-- slots that an allocation gives
pub slots-divide : (iso : Bool) (dir : Dir) → (1 ≤ slots_of iso dir) × (slots_of iso dir ≤ 16)
unfolding slots_of
slots-divide false dir = (omega arith, omega arith)
slots-divide true Out = (omega arith, omega arith)
slots-divide true In = (omega arith, omega arith)

part_of : (iso : Bool) (dir : Dir) → ℕ
part_of false dir = 256
part_of true Out = 16
part_of true In = 128

part-is : (iso : Bool) (dir : Dir) → slots_of iso dir * part_of iso dir ≡ 256
unfolding slots_of part_of
part-is false dir = refl
part-is true Out = refl
part-is true In = refl

pub flag-on : (x : Bool) → is_on (flag x) ≡ x
unfolding is_on
flag-on true = refl
flag-on false = refl

pub flags-same : (x : Bool) → alloc.flag x ≡ flag x
flags-same true = refl
flags-same false = refl

zero-slot : (r : EpState) → slot_of r 0 ≡ 0
unfolding slot_of
zero-slot r = go (eqb r.slots 0)
  where
    go : (x : Bool) → cond x 0 (0 % r.slots) ≡ 0
    go true = refl
    go false = zero-mod r.slots

pub zero-addr : (r : EpState) → r.base < 2 ^ 32 → slot_addr r 0 ≡ r.base
unfolding slot_addr
zero-addr r h = rw (zero-slot r) (omega (arith, h))

-- in an endpoint's buffers after its allocation none wait
pub new-held : (most : ℕ) (b : Buf) (r : EpState) (ls : List ℕ) (kind maximum base size : ℕ) (dir : Dir) → length ls
    ≡ 16 → ((i : ℕ) → get_or ls i 0 ≤ 0)
    → maximum ≤ size → base + slots_of (is_iso kind) dir * size ≤ length b → length b ≤ 65536
    → Held most b (allocated r kind maximum base size (slots_of (is_iso kind) dir)) ls []
unfolding allocated
new-held most b r ls kind maximum base size dir long none small inside low =
    let n = allocated r kind maximum base size (slots_of (is_iso kind) dir) in
    record {
      placed = record {
        part = part_of (is_iso kind) dir;
        divides = part-is (is_iso kind) dir;
        byte = omega (arith, slots-divide (is_iso kind) dir);
        inside = inside;
        low = omega arith;
      };
      ring = reset_ring n refl refl most ls (omega (arith, slots-divide (is_iso kind) dir)) (λ i. omega (arith, none i));
      least = small;
      waits = reset-waits n refl refl b ls;
    }

-- ---- the set of isochronous OUT endpoints

pub receives : (g : Globals) (j : ℕ) → bit_is_set (iso_outs g) (j % 16)
    ≡ both (bit_is_set g.iso_out_eps (j % 16)) (enables.is_on g.ep_config Out (j % 16))
unfolding iso_outs
receives g j = out-enabled-set g.ep_config g.iso_out_eps (j % 16) (mod-lt j (omega arith))

pub receives-by : (g g' : Globals) (j : ℕ) → g'.ep_config ≡ g.ep_config → bit_is_set g'.iso_out_eps (j % 16)
    ≡ bit_is_set g.iso_out_eps (j % 16) → bit_is_set (iso_outs g') (j % 16) ≡ bit_is_set (iso_outs g) (j % 16)
receives-by g g' j c i = receives g' j ∙ rw (c, i) (sym (receives g j))

-- an allocation adds its number to a set, and leaves all else
pub record SetsOnly (outs : ℕ) (g g' : Globals) : Type 0 where
  pub config : g'.ep_config ≡ g.ep_config
  pub stage : g'.stage ≡ g.stage
  pub ep0_buf : g'.ep0_buf ≡ g.ep0_buf
  pub ep0_max : g'.ep0_max ≡ g.ep0_max
  pub isos : g'.iso_out_eps ≡ outs

pub outs_after : Bool → Dir → ℕ → ℕ → ℕ
outs_after true Out e w = with_bit w (e % 16) true
outs_after true In e w = w
outs_after false dir e w = w

pub sets-only : (dir : Dir) (kind interval e : ℕ) (g : Globals)
    → SetsOnly (outs_after (is_iso kind) dir e g.iso_out_eps) g (with_sets dir kind interval e g)
unfolding with_sets outs_after
sets-only dir kind interval e g = by-sort (is_iso kind) dir
  where
    by-every : (l : Bool) → SetsOnly g.iso_out_eps g
        (cond l (with_iso_sets g.iso_out_eps (with_bit g.iso_in_every (e % 16) true) g) g)
    by-every true = record { config = refl; stage = refl; ep0_buf = refl; ep0_max = refl; isos = refl }
    by-every false = record { config = refl; stage = refl; ep0_buf = refl; ep0_max = refl; isos = refl }

    by-sort : (i : Bool) (dir : Dir) → SetsOnly (outs_after i dir e g.iso_out_eps) g
        (cond i (iso_added dir interval e g) g)
    by-sort true Out = record { config = refl; stage = refl; ep0_buf = refl; ep0_max = refl; isos = refl }
    by-sort true In = by-every (ltb interval 2)
    by-sort false dir = record { config = refl; stage = refl; ep0_buf = refl; ep0_max = refl; isos = refl }

pub sets_stage : (dir : Dir) (kind interval e : ℕ) (g : Globals) → (with_sets dir kind interval e g).stage ≡ g.stage
sets_stage dir kind interval e g = (sets-only dir kind interval e g).stage

-- the number's own bit, and the others
pub outs-here : (i : Bool) (e x w : ℕ) → x % 16 ≡ e % 16 → bit_is_set w (e % 16) ≡ false
    → bit_is_set (outs_after i Out e w) (x % 16) ≡ i
unfolding outs_after
outs-here true e x w q u = rw q (set-with w (e % 16) true (e % 16) ∙ rw (eq-eqb (e % 16) (e % 16) refl) refl)
outs-here false e x w q u = rw q u

pub outs-there : (i : Bool) (dir : Dir) (e x w : ℕ) → key Out x ≢ key dir e → bit_is_set (outs_after i dir e w) (x % 16)
    ≡ bit_is_set w (x % 16)
unfolding outs_after key
outs-there true Out e x w q = set-with w (e % 16) true (x % 16) ∙ rw (ne_eqb (e % 16) (x % 16) (λ z. q (sym z))) refl
outs-there true In e x w q = refl
outs-there false dir e x w q = refl

-- ---- an endpoint's page

abbrev pub Fits : Dir → Buf → EpState → List ℕ → List ℕ → Pages → ℕ → Type 0
Fits Out b r ls ss t x = OutFits b r ls ss (t.outs x)
Fits In b r ls ss t x = InFits b r ls (t.ins x)

abbrev pub SamePage : Dir → Pages → Pages → ℕ → Type 0
SamePage Out t t' x = t'.outs x ≡ t.outs x
SamePage In t t' x = t'.ins x ≡ t.ins x

pub fits-as : (dir : Dir) (b : Buf) (r r' : EpState) (ls ss : List ℕ) (t t' : Pages) (x : ℕ)
    → r' ≡ r → SamePage dir t t' x → Fits dir b r ls ss t x → Fits dir b r' ls ss t' x
fits-as Out b r r' ls ss t t' x q o f = rw (q, o) f
fits-as In b r r' ls ss t t' x q i f = rw (q, i) f

pub given-page : (dir' dir : Dir) (e base x : ℕ) (t : Pages) → key dir' x ≢ key dir e
    → SamePage dir' t (pages_given dir e base t) x
given-page Out Out e base x t q = at_other e x (slot_told (empty_out (t.outs e)) base) t.outs
    (λ h. q (key-by Out x e h))
given-page Out In e base x t q = refl
given-page In Out e base x t q = refl
given-page In In e base x t q = at_other e x empty_in t.ins (λ h. q (key-by In x e h))

pub pages-kept : (dir : Dir) (e base : ℕ) (t : Pages) → (pages_given dir e base t).kept ≡ t.kept
pages-kept Out e base t = refl
pages-kept In e base t = refl

abbrev pub Lost : Dir → EpState → Pages → ℕ → Type 0
Lost Out r t e = r.overruns ≡ (t.outs e).lost % 2 ^ 32
Lost In r t e = Unit {0}

pub new-fits : (dir : Dir) (b : Buf) (r : EpState) (ls ss : List ℕ) (t : Pages) (kind maximum base size n e x : ℕ)
    → x % 16 ≡ e % 16
    → ((most : ℕ) → Held most b (allocated r kind maximum base size n) ls []) → 1 ≤ n → Lost dir r t e
    → Fits dir b (allocated r kind maximum base size n) ls ss (pages_given dir e base t) x
unfolding allocated
new-fits Out b r ls ss t kind maximum base size n e x q held some lost =
    rw (at_same e x (slot_told (empty_out (t.outs e)) base) t.outs q)
    (empty-out refl refl refl (held (n - 1)) (slot_told (t.outs e) base)
    (record { lost = lost; slot = refl; from = omega arith; upto = omega (arith, mul-le-mul_right size some) }) ss)
new-fits In b r ls ss t kind maximum base size n e x q held some lost =
    rw (at_same e x empty_in t.ins q) (empty-in refl refl refl (held n))

new-rest : (r : EpState) (kind maximum base size n : ℕ) (p : OutPage) (on : Bool)
    → base < 2 ^ 32 → p.slot ≡ base → AtRest on (allocated r kind maximum base size n) p
unfolding allocated
new-rest r kind maximum base size n p on low q = record {
  armed = λ h. q ∙ sym (zero-addr (allocated r kind maximum base size n) low);
  none = λ h. reset-count (allocated r kind maximum base size n) refl refl;
}

abbrev pub Rests : Dir → Bool → EpState → OutPage → Type 0
Rests Out on r p = AtRest on r p
Rests In on r p = Unit {0}

pub new-rests : (dir : Dir) (r : EpState) (kind maximum base size n e x : ℕ) (t : Pages) (on : Bool) → base < 2 ^ 32
    → x % 16 ≡ e % 16 → Rests dir on (allocated r kind maximum base size n) ((pages_given dir e base t).outs x)
new-rests Out r kind maximum base size n e x t on low q = new-rest r kind maximum base size n _ on low
    (ap (λ (p : OutPage). p.slot) (at_same e x (slot_told (empty_out (t.outs e)) base) t.outs q))
new-rests In r kind maximum base size n e x t on low q = tt

pub shape-wider : (used : Bool) (a b : Allocator) (dir : Dir) (r : EpState) → b.size ≡ a.size → a.next ≤ b.next
    → Shape used a dir r → Shape used b dir r
shape-wider true a b dir r z m s = record {
  stride = s.stride ∙ sym z;
  slots = s.slots;
  below
      = rw z (le_trans s.below (mul-le-mul_right a.size m));
}
shape-wider false a b dir r z m s = s

pub ends_as_lem : (x x' s s' z z' : ℕ) → x' ≡ x → s' ≡ s → z' ≡ z → x' + cond (eqb s' 2) z' 0 ≡ x + cond (eqb s 2) z 0
ends_as_lem x x' s s' z z' p q r = rw (p, q, r) refl
