-- Each step leads further, so that the packets found one at a time are those that are read.
use Rattle.std.specs.Prelude.{◌≡◌, ℕ, zero, suc, ◌+◌, ◌-◌, ◌*◌, ◌/◌, ◌<◌, ◌≤◌, Bool, true, false, cond, ◌≢◌, refl, Option, Some, None}
use Rattle.std.proofs.Common.{sym, subst, ◌∙◌, arith}
use Rattle.std.proofs.Math.Decide.{dec_lt, ℕ_discrete}
use Rattle.card.specs.declared.stream.Step.{Step}
use Rattle.card.specs.declared.stream.Step.TheVariants.{Ends, Goes, Gives}
use Rattle.card.specs.declared.stream.Found.{Found}
use Rattle.card.specs.Reading.{View, total, begins, seek, seek_from, block_end, clean_up_to, intact, length_at}
use Rattle.card.specs.Reading.{endpoint_at, begin_at, step_at, find}
use Rattle.card.specs.Steps.{intact-good, intact-cut, packet-in, packet-past, begin-filler, begin-packet}
use Rattle.card.specs.Steps.{step-short, step-begin}
use Rattle.card.proofs.Clean.{clean-low}

pub seek-low : (v : View) (n k : ℕ) → k * 504 ≤ seek v k n
unfolding seek
seek-low v zero k = omega arith
seek-low v (suc n) k = go (seek-low v n (k + 1)) (begins v k)
  where
    go : (k + 1) * 504 ≤ seek v (k + 1) n → (b : Bool) → k * 504
        ≤ cond b (k * 504 + (v.named k - 6)) (seek v (k + 1) n)
    go i true = omega arith
    go i false = omega arith

-- what holds where nothing is cut
intact-further : (v : View) (d x : ℕ) (s : Step) (e : ℕ) → (s ≡ Goes e → d < e) → intact v d x s ≡ Goes e → d < e
intact-further v d x s e h i = elim (dec_lt (clean_up_to v d x) (block_end x)) [
  | yes c ↦ (let g : Goes (seek_from v (clean_up_to v d x + 1)) ≡ Goes e = sym (intact-cut v d x s c) ∙ i in
      let f : seek_from v (clean_up_to v d x + 1) ≡ e = cc in
      omega (
        arith,
        seek-low v (v.blocks - (clean_up_to v d x + 1)) (clean_up_to v d x + 1),
        clean-low v
            (block_end x - d / 504) (d / 504),
      ))
  | no c ↦ h (sym (intact-good v d x s (omega arith)) ∙ i)
]

ends_nowhere : (e : ℕ) → Ends ≢ Goes e
ends_nowhere e h = let z : ◌≡◌ {A = ℕ} 0 1 = cc in omega arith

gives-nowhere : (a n e : ℕ) → Gives a n ≢ Goes e
gives-nowhere a n e h = let z : ◌≡◌ {A = ℕ} 0 1 = cc in omega arith

begin-further : (v : View) (d e : ℕ) → begin_at v d ≡ Goes e → d < e
begin-further v d e h = elim (ℕ_discrete (endpoint_at v d) 0) [
  | yes z ↦ absurd (ends_nowhere e (sym (begin-filler v d z) ∙ h))
  | no z ↦ elim (dec_lt (total v) (d + 3 + length_at v d)) [
    | yes p ↦ intact-further v d (total v) Ends e (λ g. absurd (ends_nowhere e g))
        (sym (begin-packet v d z ∙ packet-past v d (length_at v d) p) ∙ h)
    | no p ↦ intact-further v d (d + 3 + length_at v d) (Gives (endpoint_at v d) (length_at v d)) e
        (λ g. absurd (gives-nowhere _ _ e g))
        (sym (begin-packet v d z ∙ packet-in v d (length_at v d) (omega arith)) ∙ h)
  ]
]

pub goes_further : (v : View) (d e : ℕ) → step_at v d ≡ Goes e → (d + 3 ≤ total v) × (d < e)
goes_further v d e h = elim (dec_lt (total v) (d + 3)) [
  | yes s ↦ absurd (ends_nowhere e (sym (step-short v d s) ∙ h))
  | no s ↦ (
    omega arith,
    intact-further v d (d + 3) (begin_at v d) e (begin-further v d e)
        (sym (step-begin v d (omega arith)) ∙ h),
  )
]

-- a packet that is given lies in the stream
intact-gives : (v : View) (d x : ℕ) (s : Step) (a n : ℕ) → intact v d x s ≡ Gives a n → s ≡ Gives a n
intact-gives v d x s a n i = elim (dec_lt (clean_up_to v d x) (block_end x)) [
  | yes c ↦ absurd (gives-nowhere a n _ (sym i ∙ intact-cut v d x s c))
  | no c ↦ sym (intact-good v d x s (omega arith)) ∙ i
]

ends-gives : (a n : ℕ) → Ends ≢ Gives a n
ends-gives a n h = let z : ◌≡◌ {A = ℕ} 0 1 = cc in omega arith

-- a packet that begins at d has the header there, and lies in the stream and in good blocks
begin-gives : (v : View) (d a n : ℕ) → begin_at v d ≡ Gives a n
    → (endpoint_at v d ≡ a) × (length_at v d ≡ n) × (d + 3 + n ≤ total v)
    × (intact v d (d + 3 + n) (Gives a n) ≡ Gives a n)
begin-gives v d a n h = elim (ℕ_discrete (endpoint_at v d) 0) [
  | yes z ↦ absurd (ends-gives a n (sym (begin-filler v d z) ∙ h))
  | no z ↦ elim (dec_lt (total v) (d + 3 + length_at v d)) [
    | yes p ↦ absurd (ends-gives a n (intact-gives v d (total v) Ends a n
        (sym (begin-packet v d z ∙ packet-past v d (length_at v d) p) ∙ h)))
    | no p ↦ (let i = sym (begin-packet v d z ∙ packet-in v d (length_at v d) (omega arith)) ∙ h in
        let g = intact-gives v d (d + 3 + length_at v d) (Gives (endpoint_at v d) (length_at v d)) a n i in
        let x : endpoint_at v d ≡ a = cc in
        let y : length_at v d ≡ n = cc in
        (x, y, omega arith, rw (x, y) at i))
  ]
]

pub gives_fits : (v : View) (d a n : ℕ) → step_at v d ≡ Gives a n → d + 3 + n ≤ total v
gives_fits v d a n h = elim (dec_lt (total v) (d + 3)) [
  | yes s ↦ absurd (ends-gives a n (sym (step-short v d s) ∙ h))
  | no s ↦ (begin-gives v d a n (intact-gives v d (d + 3) (begin_at v d) a n (sym (step-begin v d (omega arith)) ∙ h))).2
]

-- ---- the next packet

pub find-end : (v : View) (f d : ℕ) → step_at v d ≡ Ends → find v f d ≡ None
unfolding find
find-end v zero d h = refl
find-end v (suc f) d h = rw (h, find)

pub find-go : (v : View) (f d e : ℕ) → step_at v d ≡ Goes e → find v (suc f) d ≡ find v f e
unfolding find
find-go v f d e h = rw (h, find)

pub find-give : (v : View) (f d a n : ℕ) → step_at v d ≡ Gives a n → find v (suc f) d
    ≡ Some (record { at = d; endpoint = a; len = n })
unfolding find
find-give v f d a n h = rw (h, find)

-- a search under way, by what is found next
pub find-ends : (v : View) (f d : ℕ) (t : Option Found) → find v f d ≡ t → step_at v d ≡ Ends → None ≡ t
find-ends v f d t e h = sym (find-end v f d h) ∙ e

pub find-gives : (v : View) (f d a n : ℕ) (t : Option Found) → total v ≤ d + f → find v f d ≡ t
    → step_at v d ≡ Gives a n
    → Some (record { at = d; endpoint = a; len = n }) ≡ t
find-gives v zero d a n t l e h = absurd (omega (arith, gives_fits v d a n h))
find-gives v (suc f) d a n t l e h = sym (find-give v f d a n h) ∙ e

pub find-goes : (v : View) (f d e : ℕ) (t : Option Found) → total v ≤ d + f → find v f d ≡ t → step_at v d ≡ Goes e
    → (g : ℕ) × (total v ≤ e + g) × (find v g e ≡ t)
find-goes v zero d x t l e h = absurd (omega (arith, (goes_further v d x h).0))
find-goes v (suc f) d x t l e h = (f, omega (arith, (goes_further v d x h).1), sym (find-go v f d x h) ∙ e)

pub nothing-packet : (p : Found) → None ≢ Some p
nothing-packet p h = let z : ◌≡◌ {A = ℕ} 0 1 = cc in omega arith

-- ---- a packet that is found lies in good blocks

intact-clean : (v : View) (d x : ℕ) (s : Step) (a n : ℕ) → intact v d x s ≡ Gives a n → block_end x ≤ clean_up_to v d x
intact-clean v d x s a n i = elim (dec_lt (clean_up_to v d x) (block_end x)) [
  | yes c ↦ absurd (gives-nowhere a n _ (sym i ∙ intact-cut v d x s c))
  | no c ↦ omega arith
]

gives-clean : (v : View) (d a n : ℕ) → step_at v d ≡ Gives a n → block_end (d + 3 + n) ≤ clean_up_to v d (d + 3 + n)
gives-clean v d a n h = elim (dec_lt (total v) (d + 3)) [
  | yes s ↦ absurd (ends-gives a n (sym (step-short v d s) ∙ h))
  | no s ↦ intact-clean v d (d + 3 + n) (Gives a n) a n
      (begin-gives v d a n (intact-gives v d (d + 3) (begin_at v d) a n (sym (step-begin v d (omega arith)) ∙ h))).3
]

-- ---- a packet that is found is the one whose header stands there

gives-header : (v : View) (d a n : ℕ) → step_at v d ≡ Gives a n → (endpoint_at v d ≡ a) × (length_at v d ≡ n)
gives-header v d a n h = elim (dec_lt (total v) (d + 3)) [
  | yes s ↦ absurd (ends-gives a n (sym (step-short v d s) ∙ h))
  | no s ↦ (let b = begin-gives v d a n (intact-gives v d (d + 3) (begin_at v d) a n (sym (step-begin v d (omega arith))
      ∙ h)) in (b.0, b.1))
]

-- what holds of each packet that a step gives holds of the one that is found
find-of : (P : Found → Type 0) (v : View)
    → ((d a n : ℕ) → step_at v d ≡ Gives a n → P (record { at = d; endpoint = a; len = n }))
    → (f d : ℕ) (p : Found) → find v f d ≡ Some p → P p
unfolding find
find-of P v q zero d p h = absurd (nothing-packet p h)
find-of P v q (suc f) d p h = go (step_at v d) refl (λ e. find-of P v q f e p)
  where
    go : (s : Step) → step_at v d ≡ s → ((e : ℕ) → find v f e ≡ Some p → P p) → P p
    go Ends e i = absurd (nothing-packet p (sym (find-end v (suc f) d e) ∙ h))
    go (Goes x) e i = i x (sym (find-go v f d x e) ∙ h)
    go (Gives b m) e i =
        let here : Found = record { at = d; endpoint = b; len = m } in
        let g : Some here ≡ Some p = sym (find-give v f d b m e) ∙ h in
        let same : here ≡ p = cc in
        subst P same (q d b m e)

-- a packet that is found lies in the stream, and in good blocks
pub find-fits : (v : View) (f d : ℕ) (p : Found) → find v f d ≡ Some p → p.at + 3 + p.len ≤ total v
find-fits v f d p h = find-of (λ q. q.at + 3 + q.len ≤ total v) v (gives_fits v) f d p h

pub find-clean : (v : View) (f d : ℕ) (p : Found) → find v f d ≡ Some p → block_end (p.at + 3 + p.len)
    ≤ clean_up_to v p.at (p.at + 3 + p.len)
find-clean v f d p h =
    find-of (λ q. block_end (q.at + 3 + q.len) ≤ clean_up_to v q.at (q.at + 3 + q.len)) v (gives-clean v) f d p h

pub find-header : (v : View) (f d : ℕ) (p : Found) → find v f d ≡ Some p → (endpoint_at v p.at ≡ p.endpoint)
    × (length_at v p.at ≡ p.len)
find-header v f d p h =
    find-of (λ q. (endpoint_at v q.at ≡ q.endpoint) × (length_at v q.at ≡ q.len)) v (gives-header v) f d p h
