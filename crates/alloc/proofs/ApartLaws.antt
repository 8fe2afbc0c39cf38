-- The endpoint numbers that any list of calls was given: 1 to 15, no number twice in one direction, and no two sorts on
-- one number.
-- Assumes nothing.
use Rattle.std.specs.Prelude.{◌≡◌, refl, Bool, not, ℕ, ◌+◌, ◌≤◌}
use Rattle.std.proofs.Common.{sym, ap, ◌∙◌, true≢false, eq-eqb}
use Rattle.std.proofs.Math.Bool.{true, false}
use mathlib.Core.List.{List, [], ◌∷◌}
use Rattle.bits.specs.Bit.{bit_is_set}
use Rattle.state.specs.declared.Allocator.{Allocator}
use Rattle.regs.specs.declared.Dir.{Dir}
use Rattle.regs.specs.declared.Dir.TheVariants.{Out, In}
use Rattle.alloc.specs.declared.Allocation.{Allocation}
use Rattle.alloc.specs.Alloc.{taken_ins, nums_of, is_iso, is_out, with_next}
use Rattle.alloc.specs.Outcome.{same, same_dir, in_added, Takes}
use Rattle.alloc.proofs.OutcomeLaws.{stays}
use Rattle.alloc.specs.Run.{Call, endpoint, ep0, called, Step, kept, gave, gave_ep0, Region, noted, regions}
use Rattle.alloc.proofs.RunLaws.{step}
use Rattle.alloc.specs.Run.{All}
use Rattle.alloc.specs.Apart.{Numbered, Apart, AllApart, Has}

-- ---- laws

numbered_step : (a : Allocator) (c : Call) (r : Allocation) → Step a c r → (rs : List Region)
    → All (λ q. Numbered q.call q.number) rs
    → All (λ q. Numbered q.call q.number) (noted c r.answer rs)
numbered_step a c r (kept d n w k) rs h = h
numbered_step a c r (gave kind address maximum dir e base n b m g) rs h = ((g.number.low, g.number.high), h)
numbered_step a c r (gave_ep0 maximum x m l) rs h = (refl, h)

pub numbered : (a : Allocator) (cs : List Call) → All (λ q. Numbered q.call q.number) (regions a cs)
unfolding regions
numbered a [] = tt
numbered a (c ∷ cs) = numbered_step a c (called a c) (step a c) _ (numbered (called a c).after cs)

still : (a : Allocator) (iso : Bool) (dir : Dir) (e : ℕ) (b : Allocator) → Takes a iso dir e b
    → (s : Bool) (d : Dir) (j : ℕ) → Has a s d j → Has b s d j
still a iso dir e b t s d j h =
    (t.takes d j ∙ stays (same_dir dir d) _ e j h.0, t.sorts s j ∙ stays (same iso s) _ e j h.1)

-- what was taken is had
had : (a : Allocator) (iso : Bool) (dir : Dir) (e : ℕ) (b : Allocator) → Takes a iso dir e b → Has b iso dir e
unfolding is_out
had a iso dir e b t = (t.takes dir e ∙ go dir, t.sorts iso e ∙ so iso)
  where
    go : (d : Dir) → in_added (same_dir d d) (taken_ins a d) e e ≡ true
    go Out = rw (eq-eqb e e refl)
    go In = rw (eq-eqb e e refl)

    so : (s : Bool) → in_added (same s s) (nums_of a s) e e ≡ true
    so true = rw (eq-eqb e e refl)
    so false = rw (eq-eqb e e refl)

-- what is had is not given again in this direction, nor to the other sort
not-again : (a : Allocator) (s : Bool) (d : Dir) (e : ℕ) → Has a s d e → (iso : Bool) (dir : Dir)
    → bit_is_set (taken_ins a dir) e ≡ false
    → bit_is_set (nums_of a (not iso)) e ≡ false → (same_dir d dir ≡ false) × (s ≡ iso)
unfolding is_out
not-again a s d e h iso dir u v = (go d dir h.0 u, so s iso h.1 v)
  where
    go : (d f : Dir) → bit_is_set (taken_ins a d) e ≡ true → bit_is_set (taken_ins a f) e ≡ false → same_dir d f ≡ false
    go Out Out p q = absurd (true≢false (sym p ∙ q))
    go Out In p q = refl
    go In Out p q = refl
    go In In p q = absurd (true≢false (sym p ∙ q))

    so : (s i : Bool) → bit_is_set (nums_of a s) e ≡ true → bit_is_set (nums_of a (not i)) e ≡ false → s ≡ i
    so true true p q = refl
    so true false p q = absurd (true≢false (sym p ∙ q))
    so false true p q = absurd (true≢false (sym p ∙ q))
    so false false p q = refl

-- a number that is had, against one that is given later
module _ (k x m : ℕ) (d : Dir) (e : ℕ) where
  later-step : (a : Allocator) (c : Call) (r : Allocation) → Step a c r → Has a (is_iso k) d e → (rs : List Region)
      → (Has r.after (is_iso k) d e → All (λ q. Apart (endpoint k x m d) e q.call q.number) rs)
      → All (λ q. Apart (endpoint k x m d) e q.call q.number) (noted c r.answer rs)
  unfolding with_next taken_ins nums_of
  later-step a c r (kept f n w j) h rs ih = ih h
  later-step a c r (gave kind address maximum dir g base n b l o) h rs ih = (
    λ q. not-again a (is_iso k) d e h (is_iso kind) dir
        (ap (bit_is_set (taken_ins a dir)) q ∙ o.number.untaken) (ap (bit_is_set (nums_of a (not (is_iso kind)))) q
        ∙ o.number.unmixed),
    ih (still a (is_iso kind) dir g b o.number (is_iso k) d e h),
  )
  later-step a c r (gave_ep0 maximum x l p) h rs ih = (tt, ih (dirs d (is_iso k) h))
    where
      dirs : (f : Dir) (s : Bool) → Has a s f e → Has (with_next a (a.next + 1)) s f e
      dirs Out true h = h
      dirs Out false h = h
      dirs In true h = h
      dirs In false h = h

  later : (a : Allocator) → Has a (is_iso k) d e → (cs : List Call)
      → All (λ q. Apart (endpoint k x m d) e q.call q.number) (regions a cs)
  unfolding regions
  later a h [] = tt
  later a h (c ∷ cs) = later-step a c (called a c) (step a c) h _ (λ i. later (called a c).after i cs)

any : (m e : ℕ) (rs : List Region) → All (λ q. Apart (ep0 m) e q.call q.number) rs
any m e [] = tt
any m e (r ∷ rs) = (tt, any m e rs)

apart-step : (a : Allocator) (c : Call) (r : Allocation) → Step a c r → (cs : List Call)
    → AllApart (regions r.after cs)
    → AllApart (noted c r.answer (regions r.after cs))
apart-step a c r (kept f n w j) cs h = h
apart-step a c r (gave kind address maximum dir e base n b l o) cs h =
    (later kind address maximum dir e b (had a (is_iso kind) dir e b o.number) cs, h)
apart-step a c r (gave_ep0 maximum x l p) cs h = (any maximum 0 (regions (with_next a (a.next + 1)) cs), h)

-- no number is given twice in one direction, and sorts never mix on a number
pub numbers_apart : (a : Allocator) (cs : List Call) → AllApart (regions a cs)
unfolding regions
numbers_apart a [] = tt
numbers_apart a (c ∷ cs) = apart-step a c (called a c) (step a c) cs (numbers_apart (called a c).after cs)
