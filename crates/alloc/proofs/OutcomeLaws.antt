-- What an allocation does, by its answer: which numbers its sets then have, which buffers are used, and that nothing
-- else changes. Assumes nothing.
use Rattle.std.specs.Prelude.{◌≡◌, Bool, not, ℕ, ◌+◌, ◌*◌, ◌≤◌, ◌<◌, eqb, ltb}
use Rattle.std.proofs.Math.Path.{refl}
use Rattle.std.proofs.Common.{sym, ap, ◌∙◌, true≢false, ltb-true, ltb-false}
use Rattle.std.proofs.Math.Bool.{true, false}
use Rattle.std.proofs.lemmas.Bool.{not-true}
use Rattle.bits.specs.Bit.{bit, pick, bit_is_set, with_bit}
use Rattle.bits.specs.BitLaws.{bit-with}
use Rattle.state.specs.declared.Allocator.{Allocator}
use Rattle.regs.specs.declared.Dir.{Dir}
use Rattle.regs.specs.declared.Dir.TheVariants.{Out, In}
use Rattle.alloc.specs.declared.Found.{Found}
use Rattle.alloc.specs.declared.Found.TheVariants.{Number, Nothing}
use Rattle.alloc.specs.Alloc.{if, taken_ins, nums_of, allocated_ins, add_to, is_out, is_iso, is_free, number_of, slots_of}
use Rattle.alloc.specs.Alloc.{taken, with_allocated, with_next, buffered_of, numbered_of, allocate_of}
use Rattle.alloc.specs.Number.{either, number-good}
use Rattle.alloc.specs.Outcome.{same, same_dir, in_added, Takes, Gives, six, seven, eight, given, Outcome}

set-with : (w e j : ℕ) → bit_is_set (with_bit w e true) j ≡ if (eqb e j) true (bit_is_set w j)
unfolding bit_is_set
set-with w e j = ap (λ (x : ℕ). eqb x 1) (bit-with w e true j) ∙ go (eqb e j)
  where
    go : (t : Bool) → eqb (pick t 1 (bit w j)) 1 ≡ if t true (eqb (bit w j) 1)
    go true = refl
    go false = refl

added : (here : Bool) (w e j : ℕ) → bit_is_set (add_to here w e) j ≡ in_added here w e j
unfolding add_to
added true w e j = set-with w e j
added false w e j = refl

pub stays : (here : Bool) (w e j : ℕ) → bit_is_set w j ≡ true → in_added here w e j ≡ true
stays true w e j q = go (eqb e j) q
  where
    go : (t : Bool) → bit_is_set w j ≡ true → if t true (bit_is_set w j) ≡ true
    go true q = refl
    go false q = q
stays false w e j q = q

-- ---- the laws

free-untaken : (a : Allocator) (iso : Bool) (dir : Dir) (e : ℕ) → is_free a iso dir e ≡ true
    → (bit_is_set (taken_ins a dir) e ≡ false) × (bit_is_set (nums_of a (not iso)) e ≡ false)
unfolding is_free
free-untaken a iso dir e q = go (bit_is_set (taken_ins a dir) e) (bit_is_set (nums_of a (not iso)) e) q
  where
    go : (t s : Bool) → if t false (not s) ≡ true → (t ≡ false) × (s ≡ false)
    go true s q = absurd (true≢false (sym q))
    go false s q = (refl, not-true s q)

module _ (a : Allocator) (iso : Bool) (dir : Dir) (e : ℕ) where
  taken-takes : (d : Dir) (j : ℕ) → bit_is_set (taken_ins (taken a iso dir e) d) j ≡ in_added (same_dir dir d) (taken_ins a d) e j
  unfolding taken taken_ins
  taken-takes Out j = added (is_out dir) a.taken_out e j
  taken-takes In j = added (not (is_out dir)) a.taken_in e j

  taken-sorts : (s : Bool) (j : ℕ) → bit_is_set (nums_of (taken a iso dir e) s) j ≡ in_added (same iso s) (nums_of a s) e j
  unfolding taken nums_of
  taken-sorts true j = added iso a.iso_nums e j
  taken-sorts false j = added (not iso) a.other_nums e j

-- whatever changes next and the allocated numbers alone, leaves a number taken
takes-more : (a : Allocator) (iso : Bool) (dir : Dir) (e : ℕ) (b : Allocator) → (1 ≤ e) × (e ≤ 15)
    × (is_free a iso dir e ≡ true)
    → b.size ≡ a.size → b.count ≡ a.count → ((d : Dir) → taken_ins b d ≡ taken_ins (taken a iso dir e) d)
    → ((s : Bool) → nums_of b s ≡ nums_of (taken a iso dir e) s) → Takes a iso dir e b
takes-more a iso dir e b g p q t s =
    let f = free-untaken a iso dir e g.2 in
    record {
      low = g.0;
      high = g.1;
      untaken = f.0;
      unmixed = f.1;
      same_size = p;
      same_count = q;
      takes = λ d j. ap (λ (w : ℕ). bit_is_set w j) (t d) ∙ taken-takes a iso dir e d j;
      sorts = λ r j. ap (λ (w : ℕ). bit_is_set w j) (s r) ∙ taken-sorts a iso dir e r j;
    }

-- the buffers are there
module _ (a : Allocator) (iso : Bool) (dir : Dir) (e : ℕ) where
  gives : (1 ≤ e) × (e ≤ 15) × (is_free a iso dir e ≡ true) → a.next + slots_of iso dir ≤ a.count
      → Gives a iso dir e (a.next * a.size) (slots_of iso dir)
      (with_allocated (with_next (taken a iso dir e) (a.next + slots_of iso dir)) dir e)
  unfolding with_allocated with_next taken taken_ins nums_of allocated_ins
  gives g l = record {
    number = takes-more a iso dir e _ g refl refl in-dir in-sort;
    starts = refl;
    slots = refl;
    fits = l;
    used = refl;
    allocates = in-allocated;
  }
    where
      in-dir : (d : Dir)
          → taken_ins (with_allocated (with_next (taken a iso dir e) (a.next + slots_of iso dir)) dir e) d
          ≡ taken_ins (taken a iso dir e) d
      in-dir Out = refl
      in-dir In = refl

      in-sort : (s : Bool)
          → nums_of (with_allocated (with_next (taken a iso dir e) (a.next + slots_of iso dir)) dir e) s
          ≡ nums_of (taken a iso dir e) s
      in-sort true = refl
      in-sort false = refl

      in-allocated : (d : Dir) (j : ℕ)
          → bit_is_set (allocated_ins (with_allocated (with_next (taken a iso dir e) (a.next + slots_of iso dir)) dir e) d) j
          ≡ in_added (same_dir dir d) (allocated_ins a d) e j
      in-allocated Out j = added (is_out dir) a.allocated_out e j
      in-allocated In j = added (not (is_out dir)) a.allocated_in e j

module _ (a : Allocator) (kind address maximum : ℕ) (dir : Dir) where
  numbered : maximum ≤ a.size → (f : Found) → number_of a (is_iso kind) address dir ≡ f
      → Outcome a kind address maximum dir (numbered_of a (is_iso kind) dir f)
  unfolding numbered_of buffered_of
  numbered m Nothing q = seven m q
  numbered m (Number e) q =
      let g = number-good a (is_iso kind) dir address e q in
      either (Outcome a kind address maximum dir) (ltb a.count (a.next + slots_of (is_iso kind) dir)) _ _
      (λ t. eight e m q (ltb-true _ _ t))
      (λ f. given e _ _ _ m q (gives a (is_iso kind) dir e g (ltb-false _ _ f)))

  pub outcome : Outcome a kind address maximum dir (allocate_of a kind address maximum dir)
  unfolding allocate_of
  outcome =
      either (Outcome a kind address maximum dir) (ltb a.size maximum) _ _ (λ t. six (ltb-true _ _ t))
      (λ f. numbered (ltb-false _ _ f) (number_of a (is_iso kind) address dir) refl)
