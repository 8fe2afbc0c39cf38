-- What is left to run at the point of a late entry's completions
use Rattle.std.specs.Prelude.{◌≡◌, true, List, ℕ}
use Rattle.bits.specs.Walk.{set_bits}
use Rattle.state.specs.Driver.{Driver}
use Rattle.script.specs.Tree as tree
use Rattle.script.specs.Tree.{asks, ends, bind_out}
use Rattle.script.specs.Cells.{globals-cell}
use Rattle.script.specs.Script.{Script, run, ◌>>=◌, get}
use Rattle.script.specs.Statics.{every_iso_in}
use Rattle.script.specs.Machine.{Awaits, nothing, awaited}
use Rattle.script.specs.IsoIn.{iso_in_complete, late_walk}
use Rattle.script_ops.specs.Rings.{St}
use Rattle.script_ops.specs.Concrete.{concrete}
use Rattle.isochronous.specs.Complete as complete
use Rattle.isochronous.specs.declared.late.Late.{Late}
use Rattle.isochronous.specs.declared.late.LateNext.{LateNext}
use Rattle.isochronous.specs.declared.late.LateNext.TheVariants as next
use Rattle.isochronous.specs.declared.iso_in.Found.{Found}
use Rattle.isochronous.specs.declared.iso_in.Found.TheVariants as found

-- what a late entry runs (`served`)
abbrev pub late_all : ℕ → Script true Unit
late_all frame = do
  g ← get globals-cell
  late_walk frame (set_bits (every_iso_in g))

-- the endpoints of a mask are left
unfoldable pub walking : ℕ → ℕ → tree.Prog St Unit
walking frame m t = run concrete (late_walk {i = true} frame (set_bits m)) t

-- one endpoint's outcome, then those of a mask
abbrev pub then_walk : ℕ → ℕ → tree.Out St Unit → tree.Out St Unit
then_walk frame m o = bind_out o (λ _ u. walking frame m u)

-- the first endpoint that has not completed in the microframe
abbrev pub looked : ℕ → Found → tree.Prog St Unit
looked frame (found.At e m) t = then_walk frame m (run concrete (iso_in_complete {i = true} e) t)
looked frame found.Nothing t = ends tt t

abbrev pub denote : ℕ → Late → tree.Prog St Unit
denote frame p t = then_walk frame p.rest (complete.denote p.completing t)

abbrev pub meaning : ℕ → LateNext → Driver → List ℕ → tree.Out St Unit
meaning frame (next.Asks q p) d b = asks q (d, b) (λ _ t. denote frame p t)
meaning frame next.Ends d b = ends tt (d, b)

-- nothing is awaited
abbrev pub awaits_at : Late → Awaits
awaits_at p = nothing

abbrev pub Linked : LateNext → Type 0
Linked (next.Asks q p) = awaited q ≡ awaits_at p
Linked next.Ends = Unit {0}
