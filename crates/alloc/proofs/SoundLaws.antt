-- Laws on the definitions of Sound.antt
use Rattle.std.specs.Prelude.{◌≡◌, refl, Bool, true, false, not, List, [], ◌∷◌, ℕ, ◌+◌, ◌*◌, ◌≤◌, eqb, leb}
use Rattle.std.proofs.Common.{sym, ap, ◌∙◌, true≢false, le_trans, arith, eqb-true, ne_eqb, leb-true}
use Rattle.std.proofs.Math.Nat.{zero-div}
use Rattle.bits.specs.Bit.{bit_is_set}
use Rattle.state.specs.declared.Allocator.{Allocator}
use Rattle.regs.specs.declared.Dir.{Dir}
use Rattle.regs.specs.declared.Dir.TheVariants.{Out, In}
use Rattle.alloc.specs.declared.Allocation.{Allocation}
use Rattle.alloc.specs.Alloc.{if, fresh, taken_ins, nums_of, allocated_ins, is_iso, with_next}
use Rattle.alloc.specs.Buffer.{good_size, good_buffer}
use Rattle.alloc.specs.Outcome.{same_dir, in_added, Takes}
use Rattle.alloc.specs.Run.{Call, called, Step, kept, gave, gave_ep0, Region, regions, All, end}
use Rattle.alloc.proofs.RunLaws.{step, inside}
use Rattle.alloc.specs.Sound.{Sound}

-- ---- start-up

empty : (e : ℕ) → bit_is_set 0 e ≡ false
unfolding bit_is_set
empty e = rw (zero-div)

-- a start-up that row 2 does not stop
pub sound-fresh : (size count : ℕ) → good_buffer size count ≡ true → Sound (fresh size count)
unfolding fresh good_buffer taken_ins nums_of allocated_ins
sound-fresh size count q = record {
  room = omega arith;
  small = fits (good_size size) (eqb count 0) q;
  not_zero = clear;
  taken = none;
  unmixed = λ e p. empty e;
}
  where
    fits : (s z : Bool) → if s (if z false (leb (count * size) 65536)) false ≡ true → count * size ≤ 65536
    fits true true p = absurd (true≢false (sym p))
    fits true false p = leb-true _ _ p
    fits false z p = absurd (true≢false (sym p))

    clear : (d : Dir) → bit_is_set (taken_ins (fresh size count) d) 0 ≡ false
    clear Out = empty 0
    clear In = empty 0

    none : (d : Dir) (e : ℕ) → bit_is_set (taken_ins (fresh size count) d) e ≡ bit_is_set (allocated_ins (fresh size count) d) e
    none Out e = refl
    none In e = refl

-- ---- each call

module _ (a : Allocator) (iso : Bool) (dir : Dir) (e : ℕ) (b : Allocator) (t : Takes a iso dir e b) (s : Sound a) where
  zero-kept : (d : Dir) → bit_is_set (taken_ins b d) 0 ≡ false
  zero-kept d = t.takes d 0 ∙ go (same_dir dir d)
    where
      go : (here : Bool) → in_added here (taken_ins a d) e 0 ≡ false
      go true = rw (ne_eqb e 0 (λ z. absurd (omega (arith, t.low)))) (s.not_zero d)
      go false = s.not_zero d

  unmixed-kept : (j : ℕ) → bit_is_set (nums_of b true) j ≡ true → bit_is_set (nums_of b false) j ≡ false
  unmixed-kept j p = t.sorts false j ∙ go iso t.unmixed (sym (t.sorts true j) ∙ p) (eqb e j) refl
    where
      go : (i : Bool) → bit_is_set (nums_of a (not i)) e ≡ false → in_added i (nums_of a true) e j ≡ true → (k : Bool) → eqb e j
          ≡ k
          → in_added (not i) (nums_of a false) e j ≡ false
      go true u p true k = ap (bit_is_set (nums_of a false)) (sym (eqb-true e j k)) ∙ u
      go true u p false k = s.unmixed j (rw k at p)
      go false u p true k = absurd (true≢false (sym p ∙ ap (bit_is_set (nums_of a true)) (sym (eqb-true e j k)) ∙ u))
      go false u p false k = rw k (s.unmixed j p)

sound-step : (a : Allocator) (c : Call) (r : Allocation) → Step a c r → Sound a → Sound r.after
unfolding with_next taken_ins nums_of allocated_ins
sound-step a c r (kept d n w k) s = s
sound-step a c r (gave kind address maximum dir e base n b m g) s = record {
  room = omega (arith, g.used, g.fits, g.number.same_count);
  small = rw (g.number.same_size, g.number.same_count) s.small;
  not_zero = zero-kept a (is_iso kind) dir e b g.number s;
  taken = λ d j. g.number.takes d j ∙ go (same_dir dir d) (eqb e j) d j ∙ sym (g.allocates d j);
  unmixed = unmixed-kept a (is_iso kind) dir e b g.number s;
}
  where
    go : (here k : Bool) (d : Dir) (j : ℕ) → if here (if k true (bit_is_set (taken_ins a d) j)) (bit_is_set (taken_ins a d) j)
        ≡ if here (if k true (bit_is_set (allocated_ins a d) j)) (bit_is_set (allocated_ins a d) j)
    go true true d j = refl
    go true false d j = s.taken d j
    go false k d j = s.taken d j
sound-step a c r (gave_ep0 maximum x m l) s = record {
  room = omega arith;
  small = s.small;
  not_zero = zero;
  taken = more;
  unmixed = s.unmixed;
}
  where
    zero : (d : Dir) → bit_is_set (taken_ins (with_next a (a.next + 1)) d) 0 ≡ false
    zero Out = s.not_zero Out
    zero In = s.not_zero In

    more : (d : Dir) (e : ℕ) → bit_is_set (taken_ins (with_next a (a.next + 1)) d) e
        ≡ bit_is_set (allocated_ins (with_next a (a.next + 1)) d) e
    more Out e = s.taken Out e
    more In e = s.taken In e

-- every call, refused or not, keeps the allocator sound
pub sound-call : (a : Allocator) (c : Call) → Sound a → Sound (called a c).after
sound-call a c s = sound-step a c (called a c) (step a c) s

-- every buffer given lies inside the slot buffer, and so below 65,536
pub sound-inside : (a : Allocator) → Sound a → (cs : List Call)
    → All (λ r. (end a.size r ≤ a.count * a.size) × (end a.size r ≤ 65536)) (regions a cs)
sound-inside a s cs = go (regions a cs) (inside a s.room cs)
  where
    go : (rs : List Region) → All (λ r. (a.next * a.size ≤ r.base) × (end a.size r ≤ a.count * a.size)) rs
        → All (λ r. (end a.size r ≤ a.count * a.size) × (end a.size r ≤ 65536)) rs
    go [] h = tt
    go (r ∷ rs) h = ((h.0.1, le_trans h.0.1 s.small), go rs h.1)
