-- NoEpConfigWrite scripts: they write no ep_config, enable or disable nothing and, unless they may give, allocate
-- nothing
use Rattle.std.specs.Prelude.{Bool, not}
use Rattle.regs.specs.declared.Access.{Access}
use Rattle.script.specs.Script.{Script}
pub use Rattle.script.specs.Steps.{When}
use Rattle.script.specs.EveryLaws.{OnlyBy}
use Rattle.proof_bus_time.specs.Enabled.{writes_config}
use Rattle.proof_bus_time.specs.StaysLaws.{allowed}

abbrev pub NotEpConfigWrite : Access → Type 0
NotEpConfigWrite q = When (not (writes_config q)) (Unit {0})

abbrev pub NoEpConfigWrite : {i : Bool} {A : Type 0} → Bool → Script i A → Type 0
NoEpConfigWrite giving p = OnlyBy NotEpConfigWrite (allowed giving) (λ g. ⊥) p
