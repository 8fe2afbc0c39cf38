-- What is left to run at each point of the arrivals' check
use Rattle.std.specs.Prelude.{◌≡◌, Bool, true, List, ℕ}
use Rattle.bits.specs.Walk.{set_bits}
use Rattle.regs.specs.declared.Reg.TheVariants.{IntSt}
use Rattle.regs.specs.declared.Dir.TheVariants.{Out}
use Rattle.regs.specs.Registers.{width_of, fits_in}
use Rattle.state.specs.Driver.{Driver}
use Rattle.script.specs.declared.Transfer.{Transfer}
use Rattle.script.specs.Tree as tree
use Rattle.script.specs.Tree.{asks, ends}
use Rattle.script.specs.Script.{Script, run, done, test, ◌>>=◌, ◌>>◌, read, look, marked}
use Rattle.script.specs.Statics.{wake}
use Rattle.script.specs.IsoOut.{arriving, entry, arrives, check_walk}
use Rattle.script.specs.Machine.{Awaits, nothing, reading, awaited}
use Rattle.script_ops.specs.Rings.{St}
use Rattle.script_ops.specs.Concrete.{concrete}
use Rattle.isochronous.specs.declared.out.Check.{Check}
use Rattle.isochronous.specs.declared.out.Check.TheVariants as check
use Rattle.isochronous.specs.declared.out.CheckNext.{CheckNext}
use Rattle.isochronous.specs.declared.out.CheckNext.TheVariants as next
use Rattle.isochronous.specs.declared.out.Found.{Found}
use Rattle.isochronous.specs.declared.out.Found.TheVariants as found

-- the walk over the endpoints of a mask; the check is an interrupt's
abbrev pub walk : Transfer → Bool → ℕ → Script true Unit
walk x iso m = check_walk x iso (set_bits m)

-- the status is read
unfoldable pub after_st : ℕ → ℕ → Script true Unit
after_st ep st = test (arriving st ep) done (do
  len ← look (marked ep)
  arrives ep len)

-- the slot has changed
abbrev pub showing : Transfer → Bool → ℕ → Script true Unit
showing x iso ep = test (entry x iso ep) (arrives ep x.len) (do
  st ← read IntSt 0
  after_st ep st)

-- an arrival, then the walk
abbrev pub arrival : Transfer → Bool → ℕ → ℕ → ℕ → Script true Unit
arrival x iso e len m = do
  arrives e len
  walk x iso m

-- the run from a point with the number brought
abbrev pub denote : Transfer → Bool → Check → ℕ → tree.Prog St Unit
denote x iso (check.St e m) v t = run concrete (do
  after_st e v
  walk x iso m) t
denote x iso (check.Armed e m) v t = run concrete (do
  wake Out e
  walk x iso m) t

abbrev pub meaning : Transfer → Bool → CheckNext → Driver → List ℕ → tree.Out St Unit
meaning x iso (next.Asks q p) d b = asks q (d, b) (λ v t. denote x iso p v t)
meaning x iso next.Ends d b = ends tt (d, b)

-- the run from the endpoint at which the walk without an access stops
abbrev pub found_as : Transfer → Bool → Found → tree.Prog St Unit
found_as x iso (found.At e m) t = run concrete (do
  showing x iso e
  walk x iso m) t
found_as x iso found.Nothing t = ends tt t

-- what a point awaits, and that it is the access handed out with it
abbrev pub awaits_at : Check → Awaits
awaits_at (check.St e m) = reading (width_of IntSt)
awaits_at (check.Armed e m) = nothing

abbrev pub Linked : CheckNext → Type 0
Linked (next.Asks q p) = awaited q ≡ awaits_at p
Linked next.Ends = Unit {0}

-- row 16 turned round: a reading has no bit above its register's width
unfoldable pub fits_at : Check → ℕ → Bool
fits_at (check.St e m) v = fits_in v (width_of IntSt)
fits_at (check.Armed e m) v = true
