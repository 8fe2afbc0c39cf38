-- What an operation hands out where nothing falls between its accesses; a list's endpoints allocated one by one
use Rattle.std.specs.Prelude.{false, cond, not, List, [], ◌∷◌, ◌++◌, ℕ, ◌%◌, eqb}
use Rattle.regs.specs.declared.Access.{Access}
use Rattle.regs.specs.declared.Access.TheVariants.{Write}
use Rattle.regs.specs.declared.Reg.TheVariants.{EpMaxLen}
use Rattle.regs.specs.declared.Dir.{Dir}
use Rattle.descriptor.specs.declared.Endpoint.{Endpoint}
use Rattle.descriptor.specs.Trial.{direction_of}
use Rattle.script.specs.Tree as tree
use Rattle.script.specs.Tree.{ends, asks}
use Rattle.script.specs.Script.{Script, run, dma}
use Rattle.script.specs.Answers.{Answer}
use Rattle.script.specs.Calls.{Allocate, other_code}
use Rattle.script_ops.specs.Rings.{St}
use Rattle.script_ops.specs.Concrete.{concrete}

-- its accesses; it reads nothing, so any number is brought
abbrev pub hands_out : {A : Type 0} → tree.Out St A → List Access
hands_out (ends a s) = []
hands_out (asks q s k) = q ∷ hands_out (k 0 s)

-- its answer, and the state then
abbrev pub ends_with : {A : Type 0} → tree.Out St A → A × St
ends_with (ends a s) = (a, s)
ends_with (asks q s k) = ends_with (k 0 s)

-- an endpoint of a list, allocated by the call of its own
abbrev pub allocation : Endpoint → Script false Answer
allocation e = other_code (Allocate (direction_of e.address) e.kind e.address e.maximum e.interval)

-- one after the other: all that they hand out, and the state at the end
unfoldable pub one_by_one : List Endpoint → St → List Access × St
one_by_one [] s = ([], s)
one_by_one (e ∷ es) s =
    let o = run concrete (allocation e) s in
    let r = one_by_one es (ends_with o).1 in
    (hands_out o ++ r.0, r.1)

-- what an accepted allocation hands out: the maximum, and unless it is a control endpoint the address of its buffers
abbrev pub accesses : Dir → ℕ → ℕ → ℕ → ℕ → List Access
accesses dir n kind maximum x = Write EpMaxLen n maximum ∷ cond (not (eqb (kind % 4) 0)) (dma dir n x ∷ []) []
