-- Laws on the slots of a ring: where they lie, that they lie apart. Assumes nothing.
use Rattle.std.specs.Prelude.{◌≡◌, ℕ, zero, suc, ◌+◌, ◌-◌, ◌*◌, ◌/◌, ◌%◌, ◌^◌, ◌<◌, ◌≤◌, ◌≢◌, ◌⊎◌}
use Rattle.std.proofs.Common.{inl, inr, ap, sym, ◌∙◌, arith, mod-lt, mul-le-mul_right, mul_assoc, ne_eqb}
use Rattle.std.proofs.Math.Nat.{mod-add-mod, mod-eq_of_lt, mod-eq-sub-mod, mul-add-mod_self_left}
use Rattle.std.proofs.Math.Decide.{dec_lt}
use Rattle.state.specs.declared.EpState.{EpState}
use Rattle.ring.specs.Slot.{slot_of, slot_addr}
use Rattle.ring.specs.Waiting.{Placed}

-- numbers that differ by less than `n` have different remainders
mod-apart : (n a d : ℕ) → 0 < d → d < n → (a + d) % n ≢ a % n
mod-apart n a d p q e = elim (dec_lt (a % n + d) n) [
  | yes h ↦ omega (arith, e, mod-add-mod a n d, mod-eq_of_lt h)
  | no h ↦ (let g : n ≤ a % n + d = omega arith in
      let l : a % n < n = mod-lt a (omega arith) in
      let l' : a % n + d - n < n = omega arith in
      omega (arith, e, mod-add-mod a n d, mod-eq-sub-mod g, mod-eq_of_lt l'))
]

-- the remainder by a divisor of 256 is that of the low 8 bits
mod-part : (n q x : ℕ) → n * q ≡ 256 → x % 256 % n ≡ x % n
mod-part n q x e =
    let s : n * (q * (x / 256)) + x % 256 ≡ x = omega (arith, ap (◌* (x / 256)) e, mul_assoc n q (x / 256)) in
    sym (mul-add-mod_self_left n (q * (x / 256)) (x % 256)) ∙ ap (◌% n) s

some_of : (n q : ℕ) → n * q ≡ 256 → 0 < n
some_of zero q e = absurd (omega arith)
some_of (suc n) q e = omega arith

half_of : (n q : ℕ) → n * q ≡ 256 → n < 256 → n ≤ 128
half_of n zero e l = omega arith
half_of n (suc zero) e l = omega arith
half_of n (suc (suc q)) e l = omega arith

module _ {n : ℕ} {s : EpState} (g : Placed n s) where
  pub slots-some : 0 < s.slots
  slots-some = some_of s.slots g.part g.divides

  pub slots-half : s.slots ≤ 128
  slots-half = half_of s.slots g.part g.divides g.byte

  pub slot_is : (i : ℕ) → slot_of s i ≡ i % s.slots
  unfolding slot_of
  slot_is i = simp (ne_eqb s.slots 0 (λ e. omega (arith, slots-some)))

  pub slot-in : (i : ℕ) → slot_of s i < s.slots
  slot-in i = rw (slot_is i) (mod-lt i slots-some)

  -- the 8-bit counter gives the same slot as the number that runs on
  pub slot-wraps : (i : ℕ) → slot_of s (i % 2 ^ 8) ≡ slot_of s i
  slot-wraps i = slot_is (i % 2 ^ 8) ∙ mod-part s.slots g.part i g.divides ∙ sym (slot_is i)

  -- counters that differ by less than the slots have different slots
  pub slot-other : (i d : ℕ) → 0 < d → d < s.slots → slot_of s (i + d) ≢ slot_of s i
  slot-other i d p q e = mod-apart s.slots i d p q (sym (slot_is (i + d)) ∙ e ∙ slot_is i)

  slot-end : (x : ℕ) → x < s.slots → s.base + x * s.stride + s.stride ≤ s.base + s.slots * s.stride
  slot-end x h = omega (arith, mul-le-mul_right {m = suc x} {n = s.slots} s.stride h)

  -- no address wraps
  pub slot-lies : (i : ℕ) → slot_addr s i ≡ s.base + slot_of s i * s.stride
  unfolding slot_addr
  slot-lies i = mod-eq_of_lt (omega (arith, slot-end (slot_of s i) (slot-in i), g.inside, g.low))

  -- every slot lies in the ring's region
  pub slot-from : (i : ℕ) → s.base ≤ slot_addr s i
  slot-from i = omega (arith, slot-lies i)

  pub slot-upto : (i : ℕ) → slot_addr s i + s.stride ≤ s.base + s.slots * s.stride
  slot-upto i = omega (arith, slot-lies i, slot-end (slot_of s i) (slot-in i))

  pub places-apart : (x y : ℕ) → x ≢ y
      → (s.base + x * s.stride + s.stride ≤ s.base + y * s.stride)
      ⊎ (s.base + y * s.stride + s.stride ≤ s.base + x * s.stride)
  places-apart x y h = elim (dec_lt x y) [
    | yes l ↦ inl (omega (arith, mul-le-mul_right {m = suc x} {n = y} s.stride l))
    | no l ↦ inr (let l' : suc y ≤ x = omega arith in omega
        (arith, mul-le-mul_right {m = suc y} {n = x} s.stride l'))
  ]

  -- different slots lie apart
  pub slots_apart : (i j : ℕ) → slot_of s i ≢ slot_of s j
      → (slot_addr s i + s.stride ≤ slot_addr s j) ⊎ (slot_addr s j + s.stride ≤ slot_addr s i)
  slots_apart i j h = rw (slot-lies i, slot-lies j) (places-apart (slot_of s i) (slot_of s j) h)
