-- The saved record's tag: is an interrupt under way, or anything
use Rattle.std.specs.Prelude.{true, cond, ◌≡◌, ℕ, zero, suc, ◌<◌, eqb, ltb}
use Rattle.std.proofs.Common.{arith, ne_eqb, lt-ltb}
use Rattle.std.proofs.Math.Dec.{eqb-suc-zero}
use Rattle.state.specs.declared.Saved.{Saved}
use Rattle.script_ops.specs.Numbers.{DRIVER, BUS, CONTROL, ENDPOINT, ADVANCE, INTERRUPT}
use Rattle.interrupt.specs.declared.Point as handlerPoint
use Rattle.interrupt.specs.Codec as handlerCodec
use Rattle.machine.specs.declared.Suspended.TheVariants as under
use Rattle.machine.specs.Suspended.{decode}
use Rattle.machine.specs.Rows.{is_idle, may_pass}

-- the point that a record with an interrupt's tag is
pub at-interrupt : (c : Saved) (p : handlerPoint.Point) → c.tag ≡ INTERRUPT → p ≡ handlerCodec.decode c → decode c
    ≡ under.Interrupt p
unfolding decode
at-interrupt c p t h = simp (t, h)

-- ---- nothing is under way, or an interrupt

pub at_none : (c : Saved) (t : ℕ) → t ≡ c.tag → (t ≡ DRIVER → ⊥) → (t ≡ BUS → ⊥) → (t ≡ CONTROL → ⊥)
    → (t ≡ ENDPOINT → ⊥) → (t ≡ ADVANCE → ⊥) → (t ≡ INTERRUPT → ⊥) → decode c ≡ under.Idle
unfolding decode
at_none c t h n1 n2 n3 n4 n5 n6 = simp (
  ← h,
  ne_eqb t 1 n1,
  ne_eqb t 2 n2,
  ne_eqb t 3 n3,
  ne_eqb t 4 n4,
  ne_eqb t 5 n5,
  ne_eqb t 6 n6,
)

above : (c : Saved) (t : ℕ) → t ≡ c.tag → INTERRUPT < t → decode c ≡ under.Idle
above c t h l = at_none c t h (λ e. omega arith) (λ e. omega arith) (λ e. omega arith) (λ e. omega arith)
    (λ e. omega arith) (λ e. omega arith)

-- by the tag: is nothing under way; or nothing but an interrupt
abbrev ByTag : Saved → ℕ → Type 0
ByTag c t = (is_idle (decode c) ≡ cond (eqb t 0) true (ltb INTERRUPT t))
    × (may_pass (decode c) ≡ cond (eqb t 0) true (ltb ADVANCE t))

by-tag : (c : Saved) (t : ℕ) → t ≡ c.tag → ByTag c t
unfolding is_idle may_pass decode
by-tag c zero h = (simp (← h), simp (← h))
by-tag c (suc zero) h = (simp (← h), simp (← h))
by-tag c (suc (suc zero)) h = (simp (← h), simp (← h))
by-tag c (suc (suc (suc zero))) h = (simp (← h), simp (← h))
by-tag c (suc (suc (suc (suc zero)))) h = (simp (← h), simp (← h))
by-tag c (suc (suc (suc (suc (suc zero))))) h = (simp (← h), simp (← h))
by-tag c (suc (suc (suc (suc (suc (suc zero)))))) h = (simp (← h), simp (← h))
by-tag c (suc (suc (suc (suc (suc (suc (suc t))))))) h =
    let n : ℕ = suc (suc (suc (suc (suc (suc (suc t)))))) in
    let a = above c n h (omega arith) in
    (simp (a, lt-ltb 6 n (omega arith), eqb-suc-zero), simp (a, lt-ltb 5 n (omega arith), eqb-suc-zero))

pub idle-by : (c : Saved) (t : ℕ) → t ≡ c.tag → is_idle (decode c) ≡ cond (eqb t 0) true (ltb INTERRUPT t)
idle-by c t h = (by-tag c t h).0

pub passes-by : (c : Saved) (t : ℕ) → t ≡ c.tag → may_pass (decode c) ≡ cond (eqb t 0) true (ltb ADVANCE t)
passes-by c t h = (by-tag c t h).1
