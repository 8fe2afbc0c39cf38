use mathlib.Core.Path.{◌≡◌}
use mathlib.Core.Bool.{true, false}
use mathlib.Core.Logic.{◌⊎◌, inl, inr}
use Prim.Native.Nat.{ℕ}
use borrow.Author.Tests.{ne_eqb}
use Rattle.alloc.specs.Buffer.{good_size}
use Rattle.alloc.proofs.buffer.validate_buffer_size.Goals as goal

abbrev OneOf : ℕ → Type 0
OneOf n = (n ≡ 8) ⊎ ((n ≡ 16) ⊎ ((n ≡ 32) ⊎ ((n ≡ 64) ⊎ ((n ≡ 512) ⊎ (n ≡ 1024)))))

good : (n : ℕ) → OneOf n → true ≡ good_size n
unfolding good_size
good n (inl e) = rw e
good n (inr (inl e)) = rw e
good n (inr (inr (inl e))) = rw e
good n (inr (inr (inr (inl e)))) = rw e
good n (inr (inr (inr (inr (inl e))))) = rw e
good n (inr (inr (inr (inr (inr e))))) = rw e

bad : (n : ℕ) → (OneOf n → ⊥) → false ≡ good_size n
unfolding good_size
bad n h =
    simp (
      ne_eqb n 8 (λ e. h (inl e)),
      ne_eqb n 16 (λ e. h (inr (inl e))),
      ne_eqb n 32 (λ e. h (inr (inr (inl e)))),
      ne_eqb n 64 (λ e. h (inr (inr (inr (inl e))))),
      ne_eqb n 512 (λ e. h (inr (inr (inr (inr (inl e)))))),
      ne_eqb n 1024 (λ e. h (inr (inr (inr (inr (inr e)))))),
    )

pub returns-in-8 : goal.returns-in-8
returns-in-8 c = good c.args.size c.in-8.is

pub returns-in_default : goal.returns-in_default
returns-in_default c = bad c.args.size c.in_default.in_default-own.rest.1
