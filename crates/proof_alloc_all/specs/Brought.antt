-- What an operation hands out, whatever each continue brings: a number, and the slot buffer as the chip's stores and
-- others have left it
use Rattle.std.specs.Prelude.{List, [], ◌∷◌, ◌++◌, ℕ, suc}
use Rattle.regs.specs.declared.Access.{Access}
use Rattle.state.specs.Driver.{Driver}
use Rattle.descriptor.specs.declared.Endpoint.{Endpoint}
use Rattle.script.specs.Tree as tree
use Rattle.script.specs.Tree.{ends, asks}
use Rattle.script.specs.Script.{run}
use Rattle.script_ops.specs.Rings.{St}
use Rattle.script_ops.specs.Concrete.{concrete}
use Rattle.proof_alloc_all.specs.Hands.{allocation}

-- what continue number i brings
abbrev pub Brings : Type 0
Brings = ℕ → ℕ × List ℕ

-- the accesses, from continue number i on
abbrev pub hands_as : {A : Type 0} → Brings → ℕ → tree.Out St A → List Access
hands_as f i (ends a s) = []
hands_as f i (asks q s k) = q ∷ hands_as f (suc i) (k (f i).0 (s.0, (f i).1))

-- the answer, and the driver then
abbrev pub ends_as : {A : Type 0} → Brings → ℕ → tree.Out St A → A × Driver
ends_as f i (ends a s) = (a, s.0)
ends_as f i (asks q s k) = ends_as f (suc i) (k (f i).0 (s.0, (f i).1))

-- endpoints allocated one after the other, the j-th with the slots bs j and with what g j brings: all that they hand
-- out, and the driver at the end
unfoldable pub one_by_one_as : (ℕ → Brings) → (ℕ → List ℕ) → ℕ → List Endpoint → Driver → List Access × Driver
one_by_one_as g bs j [] d = ([], d)
one_by_one_as g bs j (e ∷ es) d =
    let o = run concrete (allocation e) (d, bs j) in
    let r = one_by_one_as g bs (suc j) es (ends_as (g j) 0 o).1 in
    (hands_as (g j) 0 o ++ r.0, r.1)
