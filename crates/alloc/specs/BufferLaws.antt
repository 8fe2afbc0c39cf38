-- Laws on the definitions of Buffer.antt
use Rattle.std.specs.Prelude.{Bool, true, false, ◌≡◌, refl, ℕ, eqb}
use Rattle.std.proofs.Common.{sym, subst, eqb-true}
use Rattle.alloc.specs.Alloc.{if}
use Rattle.alloc.specs.Buffer.{good_size}

-- ---- what holds of each of the sizes holds of every good one

one_of : (P : ℕ → Type 0) (size n : ℕ) (t rest : Bool) → P n → eqb size n ≡ t → (rest ≡ true → P size) → if t true rest
    ≡ true → P size
one_of P size n true rest p e k h = subst P (sym (eqb-true size n e)) p
one_of P size n false rest p e k h = k h

pub each-size : (P : ℕ → Type 0) → P 8 → P 16 → P 32 → P 64 → P 512 → P 1024 → (size : ℕ) → good_size size ≡ true
    → P size
unfolding good_size
each-size P a b c d e f size h =
    one_of P size 8 _ _ a refl
    (one_of P size 16 _ _ b refl
    (one_of P size 32 _ _ c refl
    (one_of P size 64 _ _ d refl
    (one_of P size 512 _ _ e refl (λ q. subst P (sym (eqb-true size 1024 q)) f)))))
    h
