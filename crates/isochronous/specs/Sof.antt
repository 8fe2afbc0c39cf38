-- What is left to run at each point of a microframe's SOF
use Rattle.std.specs.Prelude.{◌≡◌, Bool, true, List, ℕ}
use Rattle.bits.specs.Walk.{set_bits}
use Rattle.regs.specs.declared.Access.TheVariants.{Read}
use Rattle.regs.specs.declared.Reg.TheVariants.{MisSt, IntSt}
use Rattle.regs.specs.MisStatus.{sie_free}
use Rattle.regs.specs.Registers.{width_of, fits_in}
use Rattle.state.specs.Driver.{Driver}
use Rattle.script.specs.Tree as tree
use Rattle.script.specs.Tree.{asks, ends, bind_out}
use Rattle.script.specs.Cells.{globals-cell}
use Rattle.script.specs.Script.{Script, run, done, test, ◌>>=◌, ◌>>◌, read, get, when, callback}
use Rattle.script.specs.Statics.{is_on}
use Rattle.script.specs.Machine.{Awaits, nothing, reading, awaited}
use Rattle.script.specs.IsoIn.{leaving, unseen, sof_walk}
use Rattle.script_ops.specs.Rings.{St}
use Rattle.script_ops.specs.Concrete.{concrete}
use Rattle.isochronous.specs.Complete as complete
use Rattle.isochronous.specs.declared.sof.Sof.{Sof}
use Rattle.isochronous.specs.declared.sof.Sof.TheVariants as point
use Rattle.isochronous.specs.declared.sof.SofNext.{SofNext}
use Rattle.isochronous.specs.declared.sof.SofNext.TheVariants as next
use Rattle.isochronous.specs.declared.iso_in.Found.{Found}
use Rattle.isochronous.specs.declared.iso_in.Found.TheVariants as found

-- after the walk
abbrev pub called : tree.Prog St Unit
called t = run concrete (get {i = true} globals-cell >>= (λ g. when (is_on g.callback) callback)) t

-- the endpoints of a mask are left
unfoldable pub walking : ℕ → ℕ → tree.Prog St Unit
walking frame m t = bind_out (run concrete (sof_walk {i = true} frame (set_bits m)) t) (λ _ u. called u)

-- one endpoint's outcome, then those of a mask
abbrev pub then_walk : ℕ → ℕ → tree.Out St Unit → tree.Out St Unit
then_walk frame m o = bind_out (bind_out o (λ _ u. run concrete (sof_walk {i = true} frame (set_bits m)) u))
    (λ _ u. called u)

abbrev pub after_st : ℕ → ℕ → ℕ → Script true Unit
after_st frame e st = test (leaving st e) done (unseen frame e)

abbrev pub after_mis : ℕ → ℕ → ℕ → Script true Unit
after_mis frame e m = test (sie_free m) (unseen frame e) (do
  st ← read IntSt 0
  after_st frame e st)

-- the first endpoint that is not passed over
abbrev pub looked : ℕ → Found → tree.Prog St Unit
looked frame (found.At e m) t = then_walk frame m (asks (Read MisSt 0) t (λ v u. run concrete (after_mis frame e v) u))
looked frame found.Nothing t = called t

abbrev pub denote : ℕ → Sof → ℕ → tree.Prog St Unit
denote frame (point.Mis e m) v t = then_walk frame m (run concrete (after_mis frame e v) t)
denote frame (point.St e m) v t = then_walk frame m (run concrete (after_st frame e v) t)
denote frame (point.Completing m p) v t = then_walk frame m (complete.denote p t)
denote frame point.Callback v t = ends tt t

abbrev pub meaning : ℕ → SofNext → Driver → List ℕ → tree.Out St Unit
meaning frame (next.Asks q p) d b = asks q (d, b) (λ v t. denote frame p v t)
meaning frame next.Ends d b = ends tt (d, b)

abbrev pub awaits_at : Sof → Awaits
awaits_at (point.Mis e m) = reading (width_of MisSt)
awaits_at (point.St e m) = reading (width_of IntSt)
awaits_at (point.Completing m p) = nothing
awaits_at point.Callback = nothing

abbrev pub Linked : SofNext → Type 0
Linked (next.Asks q p) = awaited q ≡ awaits_at p
Linked next.Ends = Unit {0}

-- row 16 turned round: a reading has no bit above its register's width
unfoldable pub fits_at : Sof → ℕ → Bool
fits_at (point.Mis e m) v = fits_in v (width_of MisSt)
fits_at (point.St e m) v = fits_in v (width_of IntSt)
fits_at (point.Completing m p) v = true
fits_at point.Callback v = true
