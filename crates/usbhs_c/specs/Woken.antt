-- A list written over the caller's room, one place after the other. Assumes nothing.
use Rattle.std.specs.Prelude.{List, [], ◌∷◌, ◌++◌, ◌≡◌, refl, ℕ, zero, suc, ◌≤◌, ◌<◌, length, get_or, set, take, drop}
use Rattle.std.proofs.Common.{ap, ◌∙◌, arith}
use Rattle.ring.specs.Copies.{over}

-- the first k of cs over the room's first k
abbrev pub written : ℕ → List ℕ → List ℕ → List ℕ
written k cs room = take k cs ++ drop k room

pub written_next : (k : ℕ) (cs room : List ℕ) → k < length cs → k < length room
    → set (written k cs room) k (get_or cs k 0) ≡ written (suc k) cs room
written_next zero [] room h l = absurd (omega arith)
written_next zero (c ∷ cs) [] h l = absurd (omega arith)
written_next zero (c ∷ cs) (r ∷ room) h l = refl
written_next (suc k) [] room h l = absurd (omega arith)
written_next (suc k) (c ∷ cs) [] h l = absurd (omega arith)
written_next (suc k) (c ∷ cs) (r ∷ room) h l = ap (λ (x : List ℕ). c ∷ x)
    (written_next k cs room (omega (arith, h)) (omega (arith, l)))

pub length-written : (k : ℕ) (cs room : List ℕ) → k ≤ length cs → k ≤ length room → length (written k cs room)
    ≡ length room
length-written zero cs room h l = refl
length-written (suc k) [] room h l = absurd (omega arith)
length-written (suc k) (c ∷ cs) [] h l = absurd (omega arith)
length-written (suc k) (c ∷ cs) (r ∷ room) h l = ap suc (length-written k cs room (omega (arith, h)) (omega (arith, l)))

-- all that were asked for
again : (n : ℕ) (cs : List ℕ) → take (length (take n cs)) cs ≡ take n cs
again zero cs = refl
again (suc n) [] = refl
again (suc n) (c ∷ cs) = ap (λ (x : List ℕ). c ∷ x) (again n cs)

pub written_all : (k n : ℕ) (cs room : List ℕ) → k ≡ length (take n cs) → written k cs room ≡ over (take n cs) room
written_all k n cs room e = ap (λ (j : ℕ). written j cs room) e
    ∙ ap (λ (x : List ℕ). x ++ drop (length (take n cs)) room) (again n cs)
