-- Any list of allocations and EP0 starts: the buffers that were given lie one above the other inside the slot buffer.
-- Assumes nothing.
use Rattle.std.specs.Prelude.{◌≡◌, refl, ◌⊎◌, List, [], ◌∷◌, ℕ, ◌+◌, ◌*◌, ◌≤◌, ◌<◌, eqb, leb, ltb}
use Rattle.std.proofs.Common.{subst, inl, inr, le_refl, le_trans, add-mul, mul-le-mul_right, arith, eqb-true, ltb-false, leb-true, leb-false}
use Rattle.state.specs.declared.Allocator.{Allocator}
use Rattle.regs.specs.declared.Dir.{Dir}
use Rattle.alloc.specs.declared.Allocation.{Allocation}
use Rattle.alloc.specs.Alloc.{with_next, allocate_ep0_of}
use Rattle.alloc.specs.Number.{either}
use Rattle.alloc.specs.Outcome.{Outcome, six, seven, eight, given}
use Rattle.alloc.proofs.OutcomeLaws.{outcome}
use Rattle.alloc.specs.Run.{endpoint, ep0, Call, called, kept, gave, gave_ep0, Step, Region, noted, regions, end, Stacked, All, Disjoint}

-- ---- laws

numbered : (a : Allocator) (kind address maximum : ℕ) (dir : Dir) (r : Allocation)
    → Outcome a kind address maximum dir r
    → Step a (endpoint kind address maximum dir) r
numbered a kind address maximum dir r (six l) = kept (endpoint kind address maximum dir) 6 (omega arith, omega arith)
    (λ n. absurd (omega arith))
numbered a kind address maximum dir r (seven m q) = kept (endpoint kind address maximum dir) 7
    (omega arith, omega arith) (λ n. absurd (omega arith))
numbered a kind address maximum dir r (eight e m q l) = kept (endpoint kind address maximum dir) 8
    (omega arith, omega arith) (λ n. l)
numbered a kind address maximum dir r (given e base n b m q g) = gave kind address maximum dir e base n b m g

pub step : (a : Allocator) (c : Call) → Step a c (called a c)
unfolding allocate_ep0_of
step a (endpoint kind address maximum dir) = numbered a kind address maximum dir _ (outcome a kind address maximum dir)
step a (ep0 maximum) =
    either (Step a (ep0 maximum)) (eqb maximum 64) _ _
    (λ e. either (Step a (ep0 maximum)) (ltb a.size maximum) _ _
    (λ t. kept (ep0 maximum) 6 (inr (inl refl)) (λ n. absurd (omega arith)))
    (λ m. either (Step a (ep0 maximum)) (leb a.count a.next) _ _
    (λ t. kept (ep0 maximum) 8 (inr (inr refl)) (λ n. let h : a.count ≤ a.next = leb-true _ _ t in omega arith))
    (λ f. gave_ep0 maximum (eqb-true _ _ e) (ltb-false _ _ m) (leb-false _ _ f))))
    (λ f. kept (ep0 maximum) 22 (inl refl) (λ n. absurd (omega arith)))

lower : (size from less to : ℕ) (rs : List Region) → less ≤ from → Stacked size from to rs → Stacked size less to rs
lower size from less to [] h s = le_trans h s
lower size from less to (r ∷ rs) h s = (le_trans h s.0, s.1)

same-stack : (size from to size' from' to' : ℕ) (rs : List Region) → size' ≡ size → from' ≡ from → to' ≡ to
    → Stacked size' from' to' rs → Stacked size from to rs
same-stack size from to size' from' to' rs p q r s =
    subst (λ (x : ℕ). Stacked x from to rs) p
    (subst (λ (x : ℕ). Stacked size' x to rs) q (subst (λ (x : ℕ). Stacked size' from' x rs) r s))

stacked-step : (a : Allocator) (c : Call) (r : Allocation) → Step a c r → a.next ≤ a.count → (rs : List Region)
    → (r.after.next ≤ r.after.count → Stacked r.after.size (r.after.next * r.after.size)
    (r.after.count * r.after.size) rs)
    → Stacked a.size (a.next * a.size) (a.count * a.size) (noted c r.answer rs)
unfolding with_next
stacked-step a c r (kept d n w k) h rs ih = ih h
stacked-step a c r (gave kind address maximum dir e base n b m g) h rs ih =
    let d = add-mul a.next n a.size in (
      omega (arith, g.starts),
      same-stack _ _ _ _ _ _ rs g.number.same_size (cc) (cc)
          (ih (omega (arith, g.used, g.fits, g.number.same_count))),
    )
stacked-step a c r (gave_ep0 maximum e m l) h rs ih = (
  le_refl _,
  same-stack _ _ _ _ _ _ rs refl (add-mul a.next 1 a.size) refl (ih (omega arith)),
)

-- the buffers given by any calls lie one above the other, from the next buffer up to the last
pub stacked : (a : Allocator) → a.next ≤ a.count → (cs : List Call)
    → Stacked a.size (a.next * a.size) (a.count * a.size) (regions a cs)
unfolding regions
stacked a h [] = mul-le-mul_right a.size h
stacked a h (c ∷ cs) = stacked-step a c (called a c) (step a c) h _ (λ k. stacked (called a c).after k cs)

within : (size from to : ℕ) (rs : List Region) → Stacked size from to rs
    → All (λ r. (from ≤ r.base) × (end size r ≤ to)) rs
within size from to [] s = tt
within size from to (r ∷ rs) s = (
  (s.0, top size (end size r) to rs s.1),
  raised rs
      (within size (end size r) to rs s.1),
)
  where
    top : (size from to : ℕ) (rs : List Region) → Stacked size from to rs → from ≤ to
    top size from to [] s = s
    top size from to (q ∷ rs) s = let t = top size (end size q) to rs s.1 in omega (arith, s.0)

    raised : (rs : List Region) → All (λ q. (end size r ≤ q.base) × (end size q ≤ to)) rs
        → All (λ q. (from ≤ q.base) × (end size q ≤ to)) rs
    raised [] a = tt
    raised (q ∷ rs) a = ((omega (arith, s.0, a.0.0), a.0.1), raised rs a.1)

for-all : (P Q : Region → Type 0) → ((r : Region) → P r → Q r) → (rs : List Region) → All P rs → All Q rs
for-all P Q f [] a = tt
for-all P Q f (r ∷ rs) a = (f r a.0, for-all P Q f rs a.1)

apart : (size from to : ℕ) (rs : List Region) → Stacked size from to rs → Disjoint size rs
apart size from to [] s = tt
apart size from to (r ∷ rs) s =
    (for-all _ _ (λ q h. h.0) rs (within size (end size r) to rs s.1), apart size (end size r) to rs s.1)

-- no byte is given twice
pub disjoint : (a : Allocator) → a.next ≤ a.count → (cs : List Call) → Disjoint a.size (regions a cs)
disjoint a h cs = apart a.size (a.next * a.size) (a.count * a.size) (regions a cs) (stacked a h cs)

-- and none outside the buffers that were left
pub inside : (a : Allocator) → a.next ≤ a.count → (cs : List Call)
    → All (λ r. (a.next * a.size ≤ r.base) × (end a.size r ≤ a.count * a.size)) (regions a cs)
inside a h cs = within a.size (a.next * a.size) (a.count * a.size) (regions a cs) (stacked a h cs)
