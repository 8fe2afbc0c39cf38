-- How many endpoints a walk over isochronous endpoints has: never EP0, so 15; without another one, 14
use Rattle.std.specs.Prelude.{Bool, true, false, List, ◌≡◌, refl, ℕ, zero, suc, ◌-◌, ◌/◌, ◌%◌, ◌≤◌, ◌<◌, length}
use Rattle.std.proofs.Common.{⊎_elim, sym, ◌∙◌, arith}
use Rattle.std.specs.Int.Bits.{bit_and}
use Rattle.bits.specs.Bit.{bit, bit_is_set, both}
use Rattle.bits.specs.BitLaws.{bit-suc, bit-cases, one_set, set-and}
use Rattle.bits.specs.Walk.{cons_if, bits_from, set_bits}
use Rattle.regs.specs.Enables.{in_enabled, out_enabled}
use Rattle.state.specs.declared.Globals.{Globals}
use Rattle.script.specs.Statics.{every_iso_in, iso_outs}
use Rattle.script.specs.TogglesLaws.{apart}
use Rattle.script.specs.TransferKinds.{Among}

-- no walk over such endpoints has more
abbrev pub Most : ℕ → (ℕ → Bool) → Type 0
Most k f = (m : ℕ) → Among f m → length (set_bits m) ≤ k

-- ---- lengths

cons-le : (d i k : ℕ) (l : List ℕ) → length l ≤ k → length (cons_if d i l) ≤ suc k
cons-le zero i k l h = omega arith
cons-le (suc d) i k l h = omega arith

bits-le : (k i m : ℕ) → length (bits_from k i m) ≤ k
unfolding bits_from
bits-le zero i m = omega arith
bits-le (suc k) i m = cons-le (m % 2) i k _ (bits-le k (suc i) (m / 2))

-- with a clear bit, and with two
clear-one : (k i m a : ℕ) → a < k → bit m a ≡ 0 → suc (length (bits_from k i m)) ≤ k
unfolding bits_from
clear-one zero i m a h x = absurd (omega (arith, h))
clear-one (suc k) i m zero h x = let z : m % 2 ≡ 0 = omega (arith, x) in rw z (omega (arith, bits-le k (suc i) (m / 2)))
clear-one (suc zero) i m (suc a) h x = absurd (omega (arith, h))
clear-one (suc (suc k)) i m (suc a) h x =
    let r = clear-one (suc k) (suc i) (m / 2) a (omega (arith, h)) (sym (bit-suc m a) ∙ x) in
    omega (arith, cons-le (m % 2) i k (bits_from (suc k) (suc i) (m / 2)) (omega (arith, r)))

clear-two : (k i m a b : ℕ) → a < b → b < k → bit m a ≡ 0 → bit m b ≡ 0 → suc (suc (length (bits_from k i m))) ≤ k
unfolding bits_from
clear-two k i m a zero g h x y = absurd (omega (arith, g))
clear-two zero i m a (suc b) g h x y = absurd (omega (arith, h))
clear-two (suc k) i m zero (suc b) g h x y =
    let z : m % 2 ≡ 0 = omega (arith, x) in
    rw z (omega (arith, clear-one k (suc i) (m / 2) b (omega (arith, h)) (sym (bit-suc m b) ∙ y)))
clear-two (suc zero) i m (suc a) (suc b) g h x y = absurd (omega (arith, g, h))
clear-two (suc (suc zero)) i m (suc a) (suc b) g h x y = absurd (omega (arith, g, h))
clear-two (suc (suc (suc k))) i m (suc a) (suc b) g h x y =
    let r = clear-two (suc (suc k)) (suc i) (m / 2) a b (omega (arith, g)) (omega (arith, h)) (sym (bit-suc m a) ∙ x)
    (sym (bit-suc m b) ∙ y) in
    omega (arith, cons-le (m % 2) i k (bits_from (suc (suc k)) (suc i) (m / 2)) (omega (arith, r)))

-- an endpoint that is not isochronous is in no such mask
clear : (f : ℕ → Bool) (m e : ℕ) → e < 16 → Among f m → f e ≡ false → bit m e ≡ 0
clear f m e h x z = ⊎_elim (λ (c : bit m e ≡ 0). c) (λ (o : bit m e ≡ 1). apart (sym (x e h (one_set m e o)) ∙ z))
    (bit-cases m e)

pub most-15 : (f : ℕ → Bool) → f 0 ≡ false → Most 15 f
most-15 f z m x = omega (arith, clear-one 16 0 m 0 (omega arith) (clear f m 0 (omega arith) x z))

pub most-14 : (f : ℕ → Bool) → f 0 ≡ false → (e : ℕ) → 0 < e → e < 16 → f e ≡ false → Most 14 f
most-14 f z e p h y m x = omega (arith, clear-two 16 0 m 0 e p h (clear f m 0 (omega arith) x z) (clear f m e h x y))

-- ---- the walked masks are parts of the sets

both_left : (a b : Bool) → both a b ≡ true → a ≡ true
both_left true b h = refl
both_left false b h = apart (sym h)

among-part : (f : ℕ → Bool) (m n : ℕ) → Among f m → Among f (bit_and m n)
among-part f m n x e h s = x e h (both_left (bit_is_set m e) (bit_is_set n e) (sym (set-and m n e) ∙ s))

pub among-outs : (f : ℕ → Bool) (g : Globals) → Among f g.iso_out_eps → Among f (iso_outs g)
unfolding iso_outs out_enabled
among-outs f g x = among-part f g.iso_out_eps (g.ep_config / 65536) x

pub among-ins : (f : ℕ → Bool) (g : Globals) → Among f g.iso_in_every → Among f (every_iso_in g)
unfolding every_iso_in in_enabled
among-ins f g x =
    let m = bit_and g.iso_in_every (65535 - g.iso_in_paced) in
    among-part f m (g.ep_config % 65536) (among-part f g.iso_in_every (65535 - g.iso_in_paced) x)
