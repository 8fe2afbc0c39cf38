-- Document 01's rows for an allocation and EP0's start: a refusal is 6, 7 or 8, of EP0's start 22, 6 or 8, and changes
-- nothing; what is accepted has a maximum within the buffer size. Assumes nothing.
use Rattle.std.specs.Prelude.{◌≡◌, refl, ℕ, ◌+◌, ◌≤◌, ◌<◌}
use Rattle.std.proofs.Common.{sym, subst, ◌∙◌, arith, lt-ltb, ne_eqb}
use Rattle.state.specs.declared.Allocator.{Allocator}
use Rattle.alloc.specs.declared.Answer.TheVariants.{Refused, Given}
use Rattle.alloc.specs.declared.Allocation.{Allocation}
use Rattle.alloc.specs.Alloc.{refused, allocate_ep0_of}
use Rattle.alloc.specs.Run.{Call, ep0, called, slots_needed, Refuses, Step, kept, gave, gave_ep0}
use Rattle.alloc.proofs.RunLaws.{step}
use Rattle.alloc.specs.Rows.{maximum_of}

module _ (a : Allocator) where
  rows_step : (c : Call) (r : Allocation) → Step a c r → (n : ℕ) → r.answer ≡ Refused n → Refuses c n
  rows_step c r (kept d k w u) n q = let e : k ≡ n = cc in subst (Refuses c) e w
  rows_step c r (gave kind address maximum dir e base k b m g) n q = let z : ◌≡◌ {A = ℕ} 0 1
      = cc in absurd (omega arith)
  rows_step c r (gave_ep0 maximum f m l) n q = let z : ◌≡◌ {A = ℕ} 0 1 = cc in absurd (omega arith)

  -- a refusal is 6, 7 or 8, of EP0's start 22, 6 or 8
  pub rows : (c : Call) (n : ℕ) → (called a c).answer ≡ Refused n → Refuses c n
  rows c n q = rows_step c (called a c) (step a c) n q

  keeps-step : (c : Call) (r : Allocation) → Step a c r → (n : ℕ) → r.answer ≡ Refused n → r.after ≡ a
  keeps-step c r (kept d k w u) n q = refl
  keeps-step c r (gave kind address maximum dir e base k b m g) n q = let z : ◌≡◌ {A = ℕ} 0 1
      = cc in absurd (omega arith)
  keeps-step c r (gave_ep0 maximum f m l) n q = let z : ◌≡◌ {A = ℕ} 0 1 = cc in absurd (omega arith)

  -- a refusal changes nothing
  pub keeps : (c : Call) (n : ℕ) → (called a c).answer ≡ Refused n → (called a c).after ≡ a
  keeps c n q = keeps-step c (called a c) (step a c) n q

  eight-step : (c : Call) (r : Allocation) → Step a c r → r.answer ≡ Refused 8 → a.count < a.next + slots_needed c
  eight-step c r (kept d n w k) q = let e : n ≡ 8 = cc in k e
  eight-step c r (gave kind address maximum dir e base k b m g) q = let z : ◌≡◌ {A = ℕ} 0 1 = cc in absurd (omega arith)
  eight-step c r (gave_ep0 maximum f m l) q = let z : ◌≡◌ {A = ℕ} 0 1 = cc in absurd (omega arith)

  -- 8 says that fewer buffers are left than the call needs
  pub eight-short : (c : Call) → (called a c).answer ≡ Refused 8 → a.count < a.next + slots_needed c
  eight-short c q = eight-step c (called a c) (step a c) q

  maximum-step : (c : Call) (r : Allocation) → Step a c r → (e base n : ℕ) → r.answer ≡ Given e base n → maximum_of c
      ≤ a.size
  maximum-step c r (kept d k w u) e base n q = let z : ◌≡◌ {A = ℕ} 0 1 = cc in absurd (omega arith)
  maximum-step c r (gave kind address maximum dir f base' k b m g) e base n q = m
  maximum-step c r (gave_ep0 maximum f m l) e base n q = m

  -- what is accepted has a maximum within the buffer size
  pub given-maximum : (c : Call) (e base n : ℕ) → (called a c).answer ≡ Given e base n → maximum_of c ≤ a.size
  given-maximum c e base n q = maximum-step c (called a c) (step a c) e base n q

  ep0-step : (c : Call) (maximum : ℕ) (r : Allocation) → Step a c r → c ≡ ep0 maximum → (e base n : ℕ) → r.answer
      ≡ Given e base n → maximum ≡ 64
  ep0-step c maximum r (kept d k w u) p e base n q = let z : ◌≡◌ {A = ℕ} 0 1 = cc in absurd (omega arith)
  ep0-step c maximum r (gave kind address m dir f base' k b l g) p e base n q = let z : ◌≡◌ {A = ℕ} 0 1
      = cc in absurd (omega arith)
  ep0-step c maximum r (gave_ep0 m f l h) p e base n q = let z : m ≡ maximum = cc in sym z ∙ f

  -- EP0's is 64
  pub ep0-maximum : (maximum e base n : ℕ) → (called a (ep0 maximum)).answer ≡ Given e base n → maximum ≡ 64
  ep0-maximum maximum e base n q = ep0-step (ep0 maximum) maximum (called a (ep0 maximum)) (step a (ep0 maximum)) refl e
      base n q

  -- with 64, buffers of fewer bytes end at 6; any other maximum ends at 22
  pub ep0-six : a.size < 64 → called a (ep0 64) ≡ refused 6 a
  unfolding allocate_ep0_of
  ep0-six h = simp (lt-ltb a.size 64 h)

  pub ep0-other : (maximum : ℕ) → (maximum ≡ 64 → ⊥) → called a (ep0 maximum) ≡ refused 22 a
  unfolding allocate_ep0_of
  ep0-other maximum h = simp (ne_eqb maximum 64 h)
