-- What is written is short. Assumes nothing.
use Rattle.std.specs.Prelude.{Bool, true, false, cond, List, ◌≡◌, ℕ, ◌≤◌}
use Rattle.std.proofs.Common.{arith}
use Rattle.descriptor.specs.declared.Written.TheVariants as written
use Rattle.descriptor.specs.Reading.{in_order, two_types}
use Rattle.descriptor.specs.Writing.{is_short, total_for, count_of, written_of}
use Rattle.descriptor.specs.Rewriting.{list_in, seventeen, rewritten_of}

-- 32 endpoints are 242 bytes
pub bytes-few : (s room : List ℕ) (n : ℕ) → rewritten_of s room ≡ written.Bytes n → n ≤ 242
unfolding rewritten_of written_of
bytes-few s room n h = go (seventeen s room) (two_types (in_order s)) (is_short (list_in s) room) h
  where
    go : (t u v : Bool) → cond t (written.Refused 17)
        (cond u (written.Refused 18) (cond v (written.Refused 17) (written.Bytes (total_for (count_of (list_in s))))))
        ≡ written.Bytes n → n ≤ 242
    go true u v h = let z : ◌≡◌ {A = ℕ} 0 1 = cc in absurd (omega arith)
    go false true v h = let z : ◌≡◌ {A = ℕ} 0 1 = cc in absurd (omega arith)
    go false false true h = let z : ◌≡◌ {A = ℕ} 0 1 = cc in absurd (omega arith)
    go false false false h = let e : total_for (count_of (list_in s)) ≡ n = cc in omega arith
