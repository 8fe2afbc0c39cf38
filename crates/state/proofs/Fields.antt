-- A record's fields, put together: facts on five of them in front of those on the rest, and the stores that are left
-- from a field on.
-- Assumes nothing.
use Rattle.std.proofs.Common.{ℕ, List, drop}
use Rattle.bits.specs.Bytes.{puts}

pub five : {A B C D E R : Type 0} → A × (B × (C × (D × (E × Unit {0})))) → R → A × (B × (C × (D × (E × R))))
five p r = (p.0, (p.1.0, (p.1.1.0, (p.1.1.1.0, (p.1.1.1.1.0, r)))))

-- of the bytes bs stored from o, those from the k-th on
abbrev pub rest : ℕ → List ℕ → ℕ → List ℕ → List ℕ
rest o bs k xs = puts xs o k (drop k bs)
