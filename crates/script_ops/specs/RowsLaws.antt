-- Laws on the definitions of Rows.antt
use Rattle.std.specs.Prelude.{Bool, true, false, cond, ◌&&◌, ◌≡◌, refl, ℕ, ◌<◌, eqb, ltb}
use Rattle.std.proofs.Common.{true≢false, sym, arith, eqb-true, ltb-true}
use Rattle.bits.specs.Bit.{bit_is_set}
use Rattle.regs.specs.declared.Dir.{Dir}
use Rattle.regs.specs.declared.Dir.TheVariants.{Out, In}
use Rattle.state.specs.declared.Allocator.{Allocator}
use Rattle.state.specs.Driver.{Driver}
use Rattle.script.specs.Answers.{is_number, is_allocated}
use Rattle.script_ops.specs.Rows.{refusal_of, stallable}

both : (x y : Bool) → (x && y) ≡ true → (x ≡ true) × (y ≡ true)
both true y h = (refl, h)
both false y h = absurd (true≢false (sym h))

pub number_lt : (e : ℕ) → is_number e ≡ true → e < 16
unfolding is_number
number_lt e h = ltb-true e 16 (both (ltb 0 e) (ltb e 16) h).1

pub no_number : (a : Allocator) (d : Dir) (e : ℕ) → is_number e ≡ false → is_allocated a d e ≡ false
unfolding is_allocated
no_number a Out e h = simp h
no_number a In e h = simp h

pub allocated-number : (a : Allocator) (d : Dir) (e : ℕ) → is_allocated a d e ≡ true → is_number e ≡ true
unfolding is_allocated
allocated-number a Out e h = (both (is_number e) (bit_is_set a.allocated_out e) h).0
allocated-number a In e h = (both (is_number e) (bit_is_set a.allocated_in e) h).0

either : (x y : Bool) (e : ℕ) → (x ≡ true → e < 16) → (y ≡ true → e < 16) → cond x true y ≡ true → e < 16
either true y e f g h = f refl
either false y e f g h = g h

zero-lt : (e : ℕ) → e ≡ 0 → e < 16
zero-lt e h = omega arith

pub stallable-lt : (a : Allocator) (d : Dir) (e : ℕ) → stallable a d e ≡ true → e < 16
unfolding stallable
stallable-lt a d e h = either (eqb e 0) (is_allocated a d e) e (λ z. zero-lt e (eqb-true e 0 z))
    (λ z. number_lt e (allocated-number a d e z)) h

-- ---- the two rows before a call

both-rows : (x y : Bool) → eqb (cond x (cond y 0 5) 4) 0 ≡ true → (x ≡ true) × (y ≡ true)
both-rows true true h = (refl, refl)
both-rows true false h = absurd (true≢false (sym h))
both-rows false y h = absurd (true≢false (sym h))

module _ (d : Driver) (dir : Dir) (e : ℕ) (h : eqb (refusal_of d dir e) 0 ≡ true) where
  pub started : eqb d.globals.stage 2 ≡ true
  unfolding refusal_of
  started = (both-rows (eqb d.globals.stage 2) (is_allocated d.allocator dir e) h).0

  pub allocated : is_allocated d.allocator dir e ≡ true
  unfolding refusal_of
  allocated = (both-rows (eqb d.globals.stage 2) (is_allocated d.allocator dir e) h).1

  pub numbered : is_number e ≡ true
  numbered = allocated-number d.allocator dir e allocated

by_tests : {A : Type 0} (f : ℕ → A) (z : A) (x y : Bool) → cond x (cond y z (f 5)) (f 4)
    ≡ cond (eqb (cond x (cond y 0 5) 4) 0) z (f (cond x (cond y 0 5) 4))
by_tests f z true true = refl
by_tests f z true false = refl
by_tests f z false y = refl

-- what a call comes to behind them: f at the row that refuses it, else z
pub by_row : {A : Type 0} (f : ℕ → A) (z : A) (d : Driver) (dir : Dir) (e : ℕ)
    → cond (eqb d.globals.stage 2) (cond (is_allocated d.allocator dir e) z (f 5)) (f 4)
    ≡ cond (eqb (refusal_of d dir e) 0) z (f (refusal_of d dir e))
unfolding refusal_of
by_row f z d dir e = by_tests f z (eqb d.globals.stage 2) (is_allocated d.allocator dir e)
