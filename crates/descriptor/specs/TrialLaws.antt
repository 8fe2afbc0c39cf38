-- The trial of the first i of a list's endpoints. Assumes nothing.
use Rattle.std.specs.Prelude.{◌≡◌, refl, Bool, true, false, cond, List, [], ◌∷◌, ◌++◌, ℕ, zero, suc, ◌+◌, ◌≤◌, eqb, get_or}
use Rattle.std.proofs.Common.{ap, ◌∙◌, add-zero, add-suc, add-one, arith, eq-eqb, ne_eqb}
use Rattle.alloc.specs.declared.Answer.{Answer}
use Rattle.alloc.specs.declared.Answer.TheVariants.{Refused, Given}
use Rattle.state.specs.declared.Allocator.{Allocator}
use Rattle.descriptor.specs.declared.Endpoint.{Endpoint}
use Rattle.descriptor.specs.Endpoints.{none}
use Rattle.descriptor.specs.Writing.{up_to}
use Rattle.descriptor.specs.declared.preview.Trial.{Trial}
use Rattle.descriptor.specs.Asked.{Fair, fair-asked}
use Rattle.descriptor.specs.Trial.{asked, given, answered, step, tried}

pub tried-stopped : (t : Trial) (es : List Endpoint) → (t.refusal ≡ 0 → ⊥) → tried t es ≡ t
unfolding tried
tried-stopped t [] h = refl
tried-stopped t (e ∷ es) h = rw (ne_eqb t.refusal 0 h)

-- one more at the end
tried-snoc : (t : Trial) (es : List Endpoint) (e : Endpoint) → tried t (es ++ (e ∷ [])) ≡ tried (tried t es) (e ∷ [])
unfolding tried
tried-snoc t [] e = refl
tried-snoc t (x ∷ es) e = go (tried-snoc (step t x) es e) (eqb t.refusal 0) refl
  where
    go : tried (step t x) (es ++ (e ∷ [])) ≡ tried (tried (step t x) es) (e ∷ []) → (z : Bool) → eqb t.refusal 0 ≡ z
        → cond z (tried (step t x) (es ++ (e ∷ []))) t ≡ tried (cond z (tried (step t x) es) t) (e ∷ [])
    go i true q = i
    go i false q = rw q

pub tried-more : (t : Trial) (es : List Endpoint) (i : ℕ) → (tried t (up_to i es)).refusal ≡ 0
    → tried t (up_to (i + 1) es) ≡ step (tried t (up_to i es)) (get_or es i none)
unfolding up_to tried
tried-more t es i h = rw add-one (tried-snoc t (up_to i es) (get_or es i none) ∙ rw (eq-eqb _ 0 h))

pub tried-none : (t : Trial) (es : List Endpoint) → tried t (up_to 0 es) ≡ t
unfolding up_to tried
tried-none t es = refl

-- once stopped, the rest changes nothing
pub tried-on : (t : Trial) (es : List Endpoint) (i n : ℕ) → ((tried t (up_to i es)).refusal ≡ 0 → ⊥)
    → tried t (up_to (i + n) es) ≡ tried t (up_to i es)
unfolding up_to
tried-on t es i zero h = rw add-zero
tried-on t es i (suc n) h =
    ap (λ (k : ℕ). tried t (up_to k es)) (add-suc i n)
    ∙ tried-snoc t (up_to (i + n) es) (get_or es (i + n) none)
    ∙ rw (tried-on t es i n h) (tried-stopped (tried t (up_to i es)) (get_or es (i + n) none ∷ []) h)

-- ---- how much a step gives

pub count-step : (t : Trial) (e : Endpoint) → (step t e).count ≤ t.count + 1
unfolding step answered given
count-step t e = go (asked t.after e).after (asked t.after e).answer
  where
    go : (b : Allocator) (x : Answer) → (answered t b x).count ≤ t.count + 1
    go b (Refused n) = omega arith
    go b (Given n base slots) = omega arith

pub buffers-step : (t : Trial) (e : Endpoint) → (step t e).buffers ≤ t.buffers + 16
unfolding step answered given
buffers-step t e = go (asked t.after e).after (asked t.after e).answer (fair-asked t.after e)
  where
    go : (b : Allocator) (x : Answer) → Fair t.after b x → (answered t b x).buffers ≤ t.buffers + 16
    go b (Refused n) h = omega arith
    go b (Given n base slots) h = omega arith
