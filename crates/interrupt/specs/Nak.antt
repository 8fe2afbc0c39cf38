-- What is left to run at each point of `nak_non_iso` (mod.rs 416-431); the status is the environment
use Rattle.std.specs.Prelude.{◌≡◌, Bool, true, List, ℕ}
use Rattle.regs.specs.declared.Reg.TheVariants.{EpRxCtrl}
use Rattle.regs.specs.Registers.{ctrl_of, width_of}
use Rattle.regs.specs.ControlWord.{nak}
use Rattle.regs.specs.Status.{endpoint}
use Rattle.state.specs.Driver.{Driver}
use Rattle.script.specs.Tree as tree
use Rattle.script.specs.Tree.{asks, ends}
use Rattle.script.specs.Script.{run, write}
use Rattle.script.specs.Machine.{Awaits, nothing, reading, awaited}
use Rattle.script_ops.specs.Rings.{St}
use Rattle.script_ops.specs.Concrete.{concrete}
use Rattle.script_ops.specs.Numbers.{fits}
use Rattle.interrupt.specs.declared.nak.Nak.{Nak}
use Rattle.interrupt.specs.declared.nak.Nak.TheVariants as nak-point
use Rattle.interrupt.specs.declared.nak.NakNext.{NakNext}
use Rattle.interrupt.specs.declared.nak.NakNext.TheVariants as nak-next

abbrev pub denote : ℕ → Nak → ℕ → tree.Prog St Unit
denote st (nak-point.Word d) v t = run concrete (write {i = true} (ctrl_of d) (endpoint st) (nak v)) t
denote st nak-point.Wrote v t = ends tt t

abbrev pub meaning : ℕ → NakNext → Driver → List ℕ → tree.Out St Unit
meaning st (nak-next.Asks q p) d b = asks q (d, b) (λ v t. denote st p v t)
meaning st nak-next.Ends d b = ends tt (d, b)

abbrev pub awaits_at : Nak → Awaits
awaits_at (nak-point.Word d) = reading (width_of EpRxCtrl)
awaits_at nak-point.Wrote = nothing

abbrev pub Linked : NakNext → Type 0
Linked (nak-next.Asks q p) = awaited q ≡ awaits_at p
Linked nak-next.Ends = Unit {0}

-- row 16 turned round
unfoldable pub fits_at : Nak → ℕ → Bool
fits_at p v = fits (awaits_at p) v
