-- The two words of a setup packet are the eight bytes that they are read from
use Rattle.std.specs.Prelude.{List, [], ◌∷◌, ◌++◌, ◌≡◌, refl, ℕ, ◌+◌, ◌*◌, ◌/◌, ◌%◌, ◌≤◌, ◌<◌, length, get_or, take, drop}
use Rattle.std.proofs.Common.{ap, sym, ◌∙◌, arith, le-ltb, length-drop, get_or-drop}
use Rattle.ring.specs.Copies.{bytes_at}
use Rattle.script.specs.Control.{word_bytes}
use Rattle.script_ops.specs.Rings.{word_at}
use Rattle.proof_usb20.specs.Log.{Octets}

-- a word of four bytes, taken apart
low-8 : (m k : ℕ) → m < 256 → (m + k * 256) % 256 ≡ m
low-8 m k h = omega (arith, h)

past-8 : (m k : ℕ) → m < 256 → (m + k * 256) / 256 ≡ k
past-8 m k h = omega (arith, h)

past-16 : (m k : ℕ) → m < 65536 → (m + k * 65536) / 65536 ≡ k
past-16 m k h = omega (arith, h)

past-24 : (m k : ℕ) → m < 16777216 → (m + k * 16777216) / 16777216 ≡ k
past-24 m k h = omega (arith, h)

parts : (p q r s : ℕ) → p < 256 → q < 256 → r < 256 → s < 256
    → word_bytes (p + q * 256 + r * 65536 + s * 16777216) ≡ p ∷ q ∷ r ∷ s ∷ []
parts p q r s hp hq hr hs =
    let w = p + q * 256 + r * 65536 + s * 16777216 in
    let e₁ : w ≡ p + (q + r * 256 + s * 65536) * 256 = omega arith in
    let e₂ : w ≡ (p + q * 256) + (r + s * 256) * 65536 = omega arith in
    let e₃ : w ≡ (p + q * 256 + r * 65536) + s * 16777216 = refl in
    let f₁ : q + r * 256 + s * 65536 ≡ q + (r + s * 256) * 256 = omega arith in
    let a : w % 256 ≡ p = ap (λ (n : ℕ). n % 256) e₁ ∙ low-8 p (q + r * 256 + s * 65536) hp in
    let b : w / 256 % 256 ≡ q = ap (λ (n : ℕ). n / 256 % 256) e₁
    ∙ (ap (λ (n : ℕ). n % 256) (past-8 p (q + r * 256 + s * 65536) hp ∙ f₁) ∙ low-8 q (r + s * 256) hq) in
    let c : w / 65536 % 256 ≡ r = ap (λ (n : ℕ). n / 65536 % 256) e₂
    ∙ (ap (λ (n : ℕ). n % 256) (past-16 (p + q * 256) (r + s * 256) (omega (arith, hp, hq))) ∙ low-8 r s hr) in
    let d : w / 16777216 % 256 ≡ s = ap (λ (n : ℕ). n % 256)
    (past-24 (p + q * 256 + r * 65536) s (omega (arith, hp, hq, hr))) ∙ small s hs in
    λ i. a i ∷ b i ∷ c i ∷ d i ∷ []
  where
    small : (n : ℕ) → n < 256 → n % 256 ≡ n
    small n h = omega (arith, h)

abbrev word : List ℕ → ℕ → ℕ
word l i = get_or l i 0 + get_or l (i + 1) 0 * 256 + get_or l (i + 2) 0 * 65536 + get_or l (i + 3) 0 * 16777216

of-eight : (l : List ℕ) → 8 ≤ length l → Octets (take 8 l) → word_bytes (word l 0) ++ word_bytes (word l 4) ≡ take 8 l
of-eight [] h o = absurd (omega (arith, h))
of-eight (a ∷ []) h o = absurd (omega (arith, h))
of-eight (a ∷ b ∷ []) h o = absurd (omega (arith, h))
of-eight (a ∷ b ∷ c ∷ []) h o = absurd (omega (arith, h))
of-eight (a ∷ b ∷ c ∷ d ∷ []) h o = absurd (omega (arith, h))
of-eight (a ∷ b ∷ c ∷ d ∷ e ∷ []) h o = absurd (omega (arith, h))
of-eight (a ∷ b ∷ c ∷ d ∷ e ∷ f ∷ []) h o = absurd (omega (arith, h))
of-eight (a ∷ b ∷ c ∷ d ∷ e ∷ f ∷ g ∷ []) h o = absurd (omega (arith, h))
of-eight (a ∷ b ∷ c ∷ d ∷ e ∷ f ∷ g ∷ k ∷ l) h o =
    let x = parts a b c d o.0 o.1.0 o.1.1.0 o.1.1.1.0 in
    let z = o.1.1.1.1 in
    let y = parts e f g k z.0 z.1.0 z.1.1.0 z.1.1.1.0 in
    λ i. x i ++ y i

word-at : (b : List ℕ) (at k : ℕ) → at + (k + 4) ≤ length b → word_at b (at + k) ≡ word (drop at b) k
unfolding word_at
word-at b at k h =
    let z : (i : ℕ) → get_or b (at + k + i) 0 ≡ get_or (drop at b) (k + i) 0
    = λ i. ap (λ (n : ℕ). get_or b n 0) (assoc at k i) ∙ sym (get_or-drop at b (k + i) 0) in
    rw (le-ltb (length b) (at + k + 4) (omega (arith, h)))
    (λ i. sym (get_or-drop at b k 0) i + z 1 i * 256 + z 2 i * 65536 + z 3 i * 16777216)
  where
    assoc : (a b c : ℕ) → a + b + c ≡ a + (b + c)
    assoc a b c = omega arith

pub eight-bytes : (b : List ℕ) (at : ℕ) → at + 8 ≤ length b → Octets (bytes_at b at 8)
    → word_bytes (word_at b (at + 0 * 4)) ++ word_bytes (word_at b (at + 1 * 4)) ≡ bytes_at b at 8
eight-bytes b at h o =
    let low : word_at b (at + 0 * 4) ≡ word (drop at b) 0 = word-at b at 0 (omega (arith, h)) in
    let high : word_at b (at + 1 * 4) ≡ word (drop at b) 4 = word-at b at 4 (omega (arith, h)) in
    (λ i. word_bytes (low i) ++ word_bytes (high i))
    ∙ of-eight (drop at b) (omega (arith, h, length-drop at b)) o
